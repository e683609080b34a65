-- `line_writing::put_digits` meets its contract. Assumes nothing.
use native.Mathlib.Omega.{arith}
use lib.ListN.{length-set}
use Rattle.line_writing.proofs.Digits.{no_digits, more_digits_put, all_digits_put, digits_put_length}
use Rattle.line_writing.proofs.put_digits.Goals as goal

pub loop-i-init : goal.loop-i-init
loop-i-init c = no_digits _ _ c.requires

pub digit_text-requires : goal.digit_text-requires
digit_text-requires c = omega (arith, c.shared_slice_known-in-loop-i-1.given c.loop-i.i)

pub bounds-part-i : goal.bounds-part-i
bounds-part-i c = let n = digits_put_length _ _ c.requires c.loop-i.invariant in omega arith

pub bounds-part-i-in-loop-i : goal.bounds-part-i-in-loop-i
bounds-part-i-in-loop-i c = let n = digits_put_length _ _ c.requires c.loop-i.invariant in rw length-set (omega arith)

pub loop-i-preserved : goal.loop-i-preserved
loop-i-preserved c = more_digits_put _ _ c.requires c.loop-i.invariant (omega arith) c.digit_text.ensures c.digit_text-in-loop-i.ensures

pub shape_of-part : goal.shape_of-part
shape_of-part c = digits_put_length _ _ c.requires c.loop-i.invariant

pub returns : goal.returns
returns c = all_digits_put _ _ c.requires c.loop-i.invariant (omega arith)
