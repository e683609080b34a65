-- An address and a bond are read as what was written. Assumes nothing.
use mathlib.Core.Path.{◌≡◌, refl, ap, ◌∙◌}
use mathlib.Core.Bool.{Bool, true, false}
use Rattle.std.specs.Prelude.{Option, Some, None}
use Prim.Native.Nat.{ℕ, ◌^◌, ◌<◌}
use Rattle.octets.specs.Octets.{octets_of}
use Rattle.octets.proofs.Octets.{from_to, word_back}
use Rattle.bond.specs.Bond.{bd_addr_octets, bd_addr_of, address_octets, address_of, flag_code, flag_of, bond_octets, bond_with, on_flag, bond_of}
use Rattle.bond.specs.declared.Address.{Address}
use Rattle.bond.specs.declared.BondInformation.{BondInformation}

-- ---- what every value of these types has in code: a number fits its type

pub record AddressValued (a : Address) : Type 0 where
  pub low : a.addr.low < 2 ^ 32
  pub high : a.addr.high < 2 ^ 16

pub record BondValued (b : BondInformation) : Type 0 where
  pub ltk : b.ltk.0 < 2 ^ 128
  pub ediv : b.ediv < 2 ^ 16
  pub rand : b.rand < 2 ^ 64
  pub irk : b.identity.irk.0 < 2 ^ 128
  pub addr : AddressValued b.identity.addr

abbrev pub OptionBondValued : Option BondInformation → Type 0
OptionBondValued (Some b) = BondValued b
OptionBondValued None = Unit {0}

-- ---- piece by piece

pub address_back : (a : Address) → AddressValued a → address_of (address_octets a) ≡ a
unfolding bd_addr_octets bd_addr_of address_octets address_of
address_back a v = rw (from_to 4 a.addr.low v.low, from_to 2 a.addr.high v.high)

flag_back : (b : Bool) → flag_of (flag_code b) ≡ Some b
flag_back true = refl
flag_back false = refl

same_bond : (b : BondInformation) (ltk ediv rand irk : ℕ) (addr : Address)
    → ltk ≡ b.ltk.0 → ediv ≡ b.ediv → rand ≡ b.rand → irk ≡ b.identity.irk.0 → addr ≡ b.identity.addr
    → ◌≡◌ {A = BondInformation}
    (record {
      ltk = record { 0 = ltk };
      ediv = ediv;
      rand = rand;
      is_bonded = b.is_bonded;
      security_level = b.security_level;
      identity = record { irk = record { 0 = irk }; addr = addr };
    })
    b
same_bond b ltk ediv rand irk addr e1 e2 e3 e4 e5 = rw (e1, e2, e3, e4, e5)

bond_with_lem : (b : BondInformation) → BondValued b → bond_with (bond_octets b) b.is_bonded ≡ b
unfolding octets_of bd_addr_octets address_octets bond_octets bond_with
bond_with_lem b v =
    same_bond b _ _ _ _ _
    (word_back b.ltk.0 v.ltk)
    (from_to 2 b.ediv v.ediv)
    (from_to 8 b.rand v.rand)
    (word_back b.identity.irk.0 v.irk)
    (address_back b.identity.addr v.addr)

pub bond_back : (b : BondInformation) → BondValued b → bond_of (bond_octets b) ≡ Some b
unfolding octets_of bd_addr_octets address_octets bond_octets bond_of
bond_back b v = ap (λ (o : Option Bool). on_flag o (bond_with (bond_octets b))) (flag_back b.is_bonded) ∙ ap Some (bond_with_lem b v)
