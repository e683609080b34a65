-- `aes::cipher` meets its contract. Assumes nothing.
use mathlib.Core.Path.{◌≡◌}
use mathlib.Core.List.{List}
use Prim.Native.Nat.{ℕ}
use Rattle.aes.specs.Aes.{key_expansion, round_key, rounds}
use Rattle.aes.specs.Columns.{octets}
use Rattle.aes.proofs.cipher.Given as goal

-- after i full rounds; s₀ is the state before the first
pub record Ran (key s₀ k s : List ℕ) (i : ℕ) : Type 0 where
  pub round_key_lem : octets k ≡ round_key i (key_expansion (octets key))
  pub state : octets s ≡ rounds i (key_expansion (octets key)) (octets s₀)

abbrev pub invariant-loop-r : goal.invariant-loop-r
invariant-loop-r l = Ran l.fn.key l.initial.s l.k l.s l.r-index
