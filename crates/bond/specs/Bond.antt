-- Believed: the archive's contracts and demand 3 rest on it.
-- Addresses, errors and bonds, and the octets that document 01 gives them ("Paired or failed"). Assumes nothing.
use Rattle.std.specs.Prelude.{ℕ, Bool, true, false, cond, List, [], ◌∷◌, ◌++◌, eqb, get_or, take, drop, replicate, Option, Some, None, is_some, Result, Ok, Err}
use Rattle.octets.specs.Octets.{from_octets, to_octets, octets_of, word_of}
use Rattle.smp_types.specs.Types.{reason_code}
use Rattle.bond.specs.declared.BdAddr.{BdAddr}
use Rattle.bond.specs.declared.Address.{Address}
use Rattle.bond.specs.declared.Error.{Error}
use Rattle.bond.specs.declared.Error.TheVariants.{Security, InvalidState, InvalidValue, OutOfMemory, Host}
use Rattle.bond.specs.declared.BondInformation.{BondInformation}

-- ---- addresses

unfoldable pub bd_addr_octets : BdAddr → List ℕ
bd_addr_octets a = to_octets 4 a.low ++ to_octets 2 a.high

unfoldable pub bd_addr_of : List ℕ → BdAddr
bd_addr_of l = record { low = from_octets (take 4 l); high = from_octets (take 2 (drop 4 l)) }

-- kind, then the six octets
unfoldable pub address_octets : Address → List ℕ
address_octets a = a.kind ∷ bd_addr_octets a.addr

unfoldable pub address_of : List ℕ → Address
address_of l = record { kind = get_or l 0 0; addr = bd_addr_of (take 6 (drop 1 l)) }

-- kind 0 is public; any other counts as 1 in c1 and packet 0x09
unfoldable pub address_type : Address → ℕ
address_type a = cond (eqb a.kind 0) 0 1

-- ---- errors

-- 1 out of memory, others a host error with that octet
abbrev pub verdict_error : ℕ → Error
verdict_error v = cond (eqb v 1) OutOfMemory (Host v)

-- 0 done
abbrev pub verdict_result : ℕ → Result (Unit {0}) Error
verdict_result v = cond (eqb v 0) (Ok tt) (Err (verdict_error v))

-- 1 security and reason code, 2 InvalidState, 3 InvalidValue, 4 out of memory (detail 0), 5 host and verdict
abbrev pub failed_body : Error → List ℕ
failed_body (Security r) = 1 ∷ reason_code r ∷ []
failed_body InvalidState = 2 ∷ 0 ∷ []
failed_body InvalidValue = 3 ∷ 0 ∷ []
failed_body OutOfMemory = 4 ∷ 0 ∷ []
failed_body (Host v) = 5 ∷ v ∷ []

-- ---- yes/no octets are 0 or 1

abbrev pub flag_code : Bool → ℕ
flag_code false = 0
flag_code true = 1

abbrev pub flag_of : ℕ → Option Bool
flag_of x = get_or (Some false ∷ Some true ∷ []) x None

-- ---- the bond, 51 octets: LTK 16, EDIV 2, Rand 8, is_bonded 0/1, level 1, IRK 16 (all zero: none), address kind and 6

unfoldable pub bond_octets : BondInformation → List ℕ
bond_octets b =
    octets_of b.ltk.0
    ++ (to_octets 2 b.ediv
    ++ (to_octets 8 b.rand
    ++ (flag_code b.is_bonded
    ∷ b.security_level
    ∷ (octets_of b.identity.irk.0
    ++ address_octets b.identity.addr))))

-- the bond of 51 octets whose is_bonded was read
unfoldable pub bond_with : List ℕ → Bool → BondInformation
bond_with l bonded =
    record {
      ltk = record { 0 = word_of (take 16 l) };
      ediv = from_octets (take 2 (drop 16 l));
      rand = from_octets (take 8 (drop 18 l));
      is_bonded = bonded;
      security_level = get_or l 27 0;
      identity = record { irk = record { 0 = word_of (take 16 (drop 28 l)) }; addr = address_of (take 7 (drop 44 l)) };
    }

-- none where is_bonded is neither 0 nor 1
abbrev pub on_flag : {A : Type 0} → Option Bool → (Bool → A) → Option A
on_flag None f = None
on_flag (Some b) f = Some (f b)

unfoldable pub bond_of : List ℕ → Option BondInformation
bond_of l = on_flag (flag_of (get_or l 26 0)) (bond_with l)

-- ---- a bond or none: present 0/1, then the bond or zeros

abbrev pub bond_or_zeros : Option BondInformation → List ℕ
bond_or_zeros (Some b) = bond_octets b
bond_or_zeros None = replicate 51 0

abbrev pub option_bond_octets : Option BondInformation → List ℕ
option_bond_octets o = flag_code (is_some o) ∷ bond_or_zeros o
