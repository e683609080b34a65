-- Believed: the archive's contracts and demand 3 rest on it.
-- How a step comes out, by document 01's numbers of refusals ("What is turned back"). Assumes nothing.
use Rattle.std.specs.Prelude.{ℕ}
use Rattle.protocol.specs.declared.Refusal.{Refusal}
use Rattle.protocol.specs.declared.Refusal.TheVariants.{ShortList, UnknownCommand, ForbiddenAnswer}
use Rattle.protocol.specs.declared.Outcome.{Outcome}
use Rattle.protocol.specs.declared.Outcome.TheVariants.{Ended, Wants, Refused}

-- a step ends, it wants an answer, or it is refused by a number
pub data StepOutcome : Type 0 where
  ended wants : StepOutcome
  refused : ℕ → StepOutcome

-- ---- what the code gives

-- the number of each refusal
abbrev pub refusal_number : Refusal → ℕ
refusal_number ShortList = 1
refusal_number UnknownCommand = 2
refusal_number ForbiddenAnswer = 3

-- an outcome in these words
abbrev pub step_outcome : Outcome → StepOutcome
step_outcome Ended = ended
step_outcome Wants = wants
step_outcome (Refused r) = refused (refusal_number r)
