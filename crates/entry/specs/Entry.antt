-- Inner: the archive's contracts, demand 3 and the worked cases do not rest on it; who calls the entry by reference reads it.
-- What the entry by reference leaves, in the terms of the definition of a step. Assumes nothing.
use Rattle.std.specs.Prelude.{ℕ, ◌≡◌, List}
use Rattle.machine.specs.declared.Machine.{Machine}
use Rattle.protocol.specs.Outcome.{StepOutcome, step_outcome}
use Rattle.protocol.specs.Outcome as outcome
use Rattle.protocol.specs.Step.{Step}
use Rattle.entry.specs.declared.StepResult.{StepResult}

-- the result, the machine behind the reference and the list, after the step
abbrev pub stepped : StepResult → Machine → List ℕ → Step
stepped r m list =
    record { outcome = step_outcome r.outcome; machine = m; read = r.read; written = r.written; list = list }

-- a step that wants or is refused leaves the machine as it was; of one that ends this says nothing
abbrev pub Keeps : StepOutcome → Machine → Machine → Type 0
Keeps outcome.ended before after = Unit {0}
Keeps outcome.wants before after = after ≡ before
Keeps (outcome.refused n) before after = after ≡ before
