-- `line_reading::read_line` meets its contract. Assumes nothing.
use Rattle.std.specs.Prelude.{Ok}
use mathlib.Core.Path.{subst, sym, ap, ◌∙◌}
use Rattle.line_reading.specs.Lines.{line_answer, line_in, laid, SplitAs}
use Rattle.line_reading.proofs.Buffers.{roomy, fields_laid, read_as, was_some}
use Rattle.line_reading.proofs.read_line.Goals as goal

pub returns : goal.returns
unfolding line_in line_answer
returns c =
    let a = c.args in
    let f = c.in_ok-fields.fields in
    let room = roomy a.payload.now a.answers.now c.if-payload-lt-MOST.false c.if-answers-lt-MOST.false in
    let good = subst (SplitAs a.line.now) c.in_ok-fields.ensures.ok_part c.split_line.ensures in
    let l = was_some (line_in f) (sym c.in_ok-read.ensures.ok_part ∙ c.read.ensures ∙ read_as f) in
    let o = fields_laid _ _ _ _ _ _ l.1 in
    record {
      result = rw (room, good, l.1) (ap Ok (sym l.2));
      payload_left = rw (room, good, l.1) (c.put_field.ensures ∙ ap (laid a.payload.now) o.0);
      answers_left = rw (room, good, l.1) (c.put_field-2.ensures ∙ ap (laid a.answers.now) o.1);
    }
