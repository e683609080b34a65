-- `aes::key_expansion` meets its contract. Assumes nothing.
use mathlib.Core.Path.{◌≡◌}
use mathlib.Core.List.{List, ◌++◌}
use Prim.Native.Nat.{ℕ, ◌-◌, ◌*◌}
use lib.ListN.{replicate}
use Rattle.aes.specs.Aes.{expand, key_expansion, round_key}
use Rattle.aes.specs.Columns.{octets}
use Rattle.aes.proofs.key_expansion.Given as goal

-- the key of round n is made, and the schedule is written up to it
pub record Expanded (key w k : List ℕ) (n : ℕ) : Type 0 where
  pub words : w ≡ expand (4 * n) key ++ replicate (160 - 16 * n) 0
  pub round_key_lem : octets k ≡ round_key n (key_expansion key)

abbrev pub invariant-loop-i : goal.invariant-loop-i
invariant-loop-i l = Expanded l.fn.key l.w l.k l.i
