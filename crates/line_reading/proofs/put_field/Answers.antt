-- `line_reading::put_field` meets its contract. Assumes nothing.
use Rattle.std.proofs.lemmas.Grind.{common_steps}
use mathlib.Core.Path.{sym}
use Prim.Native.Nat.{◌/◌}
use native.Mathlib.Omega.{arith}
use lib.ListN.{length}
use lib.Seq.{length-take-le}
use Rattle.line_reading.proofs.Digits.{field_read, laid_front}
use Rattle.line_reading.proofs.put_field.Goals as goal

pub returns-then-text-lt2 : goal.returns-then-text-lt2
returns-then-text-lt2 c =
    let w = field_read c.args.text.now c.requires.0 in
    rw (w.field, laid_front c.args.out.now w.octets (omega arith)) (grind (arith, common_steps))

pub slice_bounds-decode_to_slice-end : goal.slice_bounds-decode_to_slice-end
slice_bounds-decode_to_slice-end c = let w = field_read c.args.text.now c.requires.0 in omega arith

pub slice_bounds-decode_to_slice-end-2 : goal.slice_bounds-decode_to_slice-end-2
slice_bounds-decode_to_slice-end-2 c = let w = field_read c.args.text.now c.requires.0 in sym (length-take-le (length c.args.text.now / 2) c.args.out.now (omega arith))

pub returns : goal.returns
returns c =
    let w = field_read c.args.text.now c.requires.0 in
    let n = length-take-le (length c.args.text.now / 2) c.args.out.now (omega arith) in
    let v = rw (n, w.decodes c.if-text-lt2.false) at c.decode_to_slice.ensures.value in
    rw (v.1, w.field, laid_front c.args.out.now w.octets (omega arith), w.number)
