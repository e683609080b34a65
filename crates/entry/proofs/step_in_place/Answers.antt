-- `entry::step_in_place` meets its contract: the definition gives the step, and a step that wants or is refused keeps the machine. Assumes nothing.
use Rattle.entry.proofs.Keeps.{kept_unless_ended}
use Rattle.entry.proofs.step_in_place.Goals as goal

pub returns : goal.returns
returns c =
    let a = c.args in
    let step = c.step-stepped in (
      step.ensures,
      kept_unless_ended a.role a.machine.now a.input a.payload.now a.answers.now a.list.now
          (record { outcome = step.result.outcome; read = step.result.read; written = step.result.written })
          step.result.machine step.new.list step.ensures,
    )
