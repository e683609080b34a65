-- What one end sends, the other reads back: payloads of packets as the handlers read them, and the key flags of the
-- answer. Assumes nothing.
use Rattle.std.specs.Prelude.{Some}
use Prim.Native.Nat.{ℕ, ◌≤◌, ◌<◌}
use mathlib.Core.Path.{◌≡◌, refl, sym, ap, ◌∙◌}
use mathlib.Core.Bool.{Bool, true, false, cond, ◌||◌, or-true, or-false}
use mathlib.Core.List.{◌∷◌, ◌++◌}
use native.Mathlib.Decide.{dec_lt}
use native.Mathlib.Omega.{arith}
use lib.Dec.{eqb}
use borrow.Author.Tests.{lt-ltb, le-ltb}
use Rattle.octets.specs.Octets.{from_octets, to_octets, octets_of, word_of}
use Rattle.smp_types.specs.Types.{flag, encryption_key_flag, identity_key_flag}
use Rattle.smp_types.specs.Types.{feature_octets, least_key_size, largest_key_size}
use Rattle.smp_types.specs.declared.types.KeyDistributionFlags.{KeyDistributionFlags}
use Rattle.smp_types.specs.declared.types.PairingFeatures.{PairingFeatures}
use Rattle.smp_types.proofs.Features.{read_back}
use Rattle.smp_types.proofs.Flags.{flag_set, flag_kept}
use Rattle.bond.specs.Bond.{bd_addr_octets, address_of, address_type}
use Rattle.bond.specs.declared.Address.{Address}
use Rattle.protocol.specs.Handlers.{answered, word_in, features_in, identification_in, address_in}
use Rattle.protocol.specs.Handlers.{names_encryption_key, names_identity_key, smaller}
use Rattle.protocol.specs.LegacyPeripheral.{add_key, initiator_keys}

-- ---- payloads

pub some_word : (w : ℕ) → word_in (octets_of w) ≡ Some (word_of (octets_of w))
unfolding word_in octets_of
some_word w = refl

pub word_in_lem : (w : ℕ) → word_of (octets_of w) ≡ w → word_in (octets_of w) ≡ Some w
word_in_lem w e = some_word w ∙ ap Some e

pub features_in_lem : (f : PairingFeatures) → least_key_size ≤ f.maximum_encryption_key_size
    → f.maximum_encryption_key_size ≤ largest_key_size → features_in (feature_octets f) ≡ Some f
unfolding features_in
features_in_lem f l h = ap answered (read_back f l h)

pub identification_in_lem : (ediv rand : ℕ) → from_octets (to_octets 2 ediv) ≡ ediv → from_octets (to_octets 8 rand) ≡ rand
    → identification_in (to_octets 2 ediv ++ to_octets 8 rand) ≡ Some (ediv, rand)
unfolding identification_in
identification_in_lem ediv rand e r = rw (e, r)

pub address_in_lem : (a : Address)
    → address_in (address_type a ∷ bd_addr_octets a.addr) ≡ Some (address_of (address_type a ∷ bd_addr_octets a.addr))
unfolding address_in address_type bd_addr_octets
address_in_lem a = go (eqb a.kind 0)
  where
    go : (b : Bool)
        → address_in (cond b 0 1 ∷ bd_addr_octets a.addr) ≡ Some (address_of (cond b 0 1 ∷ bd_addr_octets a.addr))
    go true = refl
    go false = refl

-- ---- the key flags of the answer

-- a key that is added where b, and was not named unless b, is named where b
key_named : (i : ℕ) (f : KeyDistributionFlags) (b : Bool) → (flag i f.0 ≡ true → b ≡ true)
    → flag i (add_key i f b).0 ≡ b
key_named i f true h = flag_set i f.0
key_named i f false h = go (flag i f.0) h
  where
    go : (b : Bool) → (b ≡ true → false ≡ true) → b ≡ false
    go true h = sym (h refl)
    go false h = refl

-- a key that is added where b is named then too
pub key_added : (i : ℕ) (f : KeyDistributionFlags) (b : Bool) → flag i (add_key i f b).0 ≡ (flag i f.0 || b)
key_added i f true = flag_set i f.0 ∙ sym (or-true (flag i f.0))
key_added i f false = sym (or-false (flag i f.0))

-- another key is named as before
pub key_kept : (i j : ℕ) (f : KeyDistributionFlags) (b : Bool) → (j ≡ i → ⊥)
    → flag j (add_key i f b).0 ≡ flag j f.0
key_kept i j f true h = flag_kept i j f.0 h
key_kept i j f false h = refl

module _ (local peer : KeyDistributionFlags) where
  pub encryption_named_lem : (names_encryption_key local ≡ true → names_encryption_key peer ≡ true)
      → names_encryption_key (initiator_keys local peer) ≡ names_encryption_key peer
  unfolding initiator_keys
  encryption_named_lem h =
      let kept = key_kept identity_key_flag encryption_key_flag local (names_identity_key peer) (λ e. omega arith) in
      key_named encryption_key_flag _ (names_encryption_key peer) (λ e. h (sym kept ∙ e))

  pub identity_named_lem : (names_identity_key local ≡ true → names_identity_key peer ≡ true)
      → names_identity_key (initiator_keys local peer) ≡ names_identity_key peer
  unfolding initiator_keys
  identity_named_lem h =
      key_kept encryption_key_flag identity_key_flag _ (names_encryption_key peer) (λ e. omega arith)
      ∙ key_named identity_key_flag local (names_identity_key peer) h

-- ---- what both ends compute alike

pub smaller_swapped : (a b : ℕ) → smaller a b ≡ smaller b a
smaller_swapped a b = go (dec_lt a b) (dec_lt b a)
  where
    go : Dec (a < b) → Dec (b < a) → smaller a b ≡ smaller b a
    go (yes p) q = rw (lt-ltb a b p, le-ltb b a (omega arith))
    go (no n) (yes q) = rw (le-ltb a b (omega arith), lt-ltb b a q)
    go (no n) (no m) = rw (le-ltb a b (omega arith), le-ltb b a (omega arith)) (omega arith)
