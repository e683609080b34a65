-- `line_writing::put_answer` meets its contract. Assumes nothing.
use mathlib.Core.Path.{◌≡◌}
use mathlib.Core.List.{[], ◌∷◌}
use Prim.Native.Nat.{ℕ, ◌+◌, ◌-◌}
use native.Mathlib.Omega.{arith}
use borrow.Author.Rules.{rules}
use lib.ListN.{length}
use Rattle.line_writing.specs.AnswerLines.{octets_text}
use Rattle.line_writing.proofs.Texts.{octets_length, part_written, five}
use Rattle.line_writing.proofs.put_answer.Goals as goal

pub returns : goal.returns
returns c =
    let a = c.args in
    let m = a.machine.now in
    let size : length {A = ℕ} m ≡ 161 = search rules in
    let n = octets_length m (λ e. omega arith) in
    let list_at = length a.head.now + 323 in
    five a.out.now
    0 a.head.now c.write.ensures.slice
    (length a.head.now) (omega arith) (octets_text m) (part_written _ _ _ c.put_field.ensures (omega arith) (omega arith))
    (list_at - 1) (omega arith) (32 ∷ []) c.write-2.ensures.slice
    list_at (omega arith) (octets_text a.list.now) (part_written _ _ _ c.put_field-2.ensures (omega arith) (omega arith))
    (list_at + c.field_length.result) (omega arith) (10 ∷ []) c.write-3.ensures.slice
    (omega arith)
