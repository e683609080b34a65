-- Flags, over the index of the bit. Assumes nothing.
use mathlib.Core.Path.{◌≡◌}
use mathlib.Core.Bool.{true}
use Prim.Native.Nat.{ℕ}
use native.Mathlib.Omega.{arith}
use Rattle.std.proofs.lemmas.Grind.{common_steps}
use Rattle.std.proofs.lemmas.Nat.Bits.{and_pow, bit_at_or, bit_at-pow_same, bit_at-pow_other, bit_at-lt}
use Rattle.smp_types.specs.Types.{flag, with_flag}

-- after it was set, a flag is set
pub flag_set : (i x : ℕ) → flag i (with_flag i x) ≡ true
flag_set i x = grind (arith, common_steps, and_pow, bit_at_or, bit_at-pow_same, bit_at-lt)

-- and every other flag is as before
pub flag_kept : (i j x : ℕ) → (j ≡ i → ⊥) → flag j (with_flag i x) ≡ flag j x
flag_kept i j x h = grind (arith, common_steps, and_pow, bit_at_or, bit_at-pow_other, bit_at-lt)
