-- What reading pairing features gives of what was written, and what is written of what was read. Assumes nothing.
use borrow.Author.Rules.{rules}
use mathlib.Core.Path.{◌≡◌}
use mathlib.Core.List.{List, [], ◌∷◌}
use Prim.Native.Nat.{ℕ, ◌≤◌}
use lib.ListN.{take}
use Rattle.octets.specs.Answer.{refused, accepted}
use Rattle.smp_types.specs.declared.types.PairingFeatures.{PairingFeatures}
use Rattle.smp_types.specs.Types.{features_of, feature_octets, feature_size, least_key_size, largest_key_size}

-- ---- what was written is read back

module _ (f : PairingFeatures) where
  pub read_back : least_key_size ≤ f.maximum_encryption_key_size → f.maximum_encryption_key_size ≤ largest_key_size
      → features_of (feature_octets f) ≡ accepted f
  unfolding features_of
  read_back a b = search rules

  pub not_read_back : (least_key_size ≤ f.maximum_encryption_key_size → f.maximum_encryption_key_size ≤ largest_key_size → ⊥)
      → features_of (feature_octets f) ≡ refused 5
  unfolding features_of
  not_read_back h = search rules

-- ---- what was read is written as the same octets, and only the first six matter

pub written_same : (s : List ℕ) (f : PairingFeatures) → features_of s ≡ accepted f → feature_octets f ≡ take feature_size s
unfolding features_of
written_same [] f h = search rules
written_same (a ∷ []) f h = search rules
written_same (a ∷ b ∷ []) f h = search rules
written_same (a ∷ b ∷ c ∷ []) f h = search rules
written_same (a ∷ b ∷ c ∷ d ∷ []) f h = search rules
written_same (a ∷ b ∷ c ∷ d ∷ e ∷ []) f h = search rules
written_same (a ∷ b ∷ c ∷ d ∷ e ∷ g ∷ s) f h = search rules

pub only_first : (s : List ℕ) → features_of s ≡ features_of (take feature_size s)
unfolding features_of
only_first s = search rules
