-- `line_writing::put_digits` meets its contract. Assumes nothing.
use Prim.Native.Nat.{◌-◌}
use Rattle.line_writing.proofs.Digits.{DigitsPut}
use Rattle.line_writing.proofs.put_digits.Given as goal

abbrev pub invariant-loop-i : goal.invariant-loop-i
invariant-loop-i l = DigitsPut l.octets l.initial.part l.i l.part

abbrev pub decreases-loop-i : goal.decreases-loop-i
decreases-loop-i l = l.n - l.i
