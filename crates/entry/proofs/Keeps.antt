-- A step of the definition that wants or is refused gives the machine that it was given. Assumes nothing.
use Prim.Native.Nat.{ℕ}
use mathlib.Core.Path.{◌≡◌, sym, ap, ◌∙◌}
use mathlib.Core.List.{List}
use Rattle.machine.specs.declared.Input.{Input}
use Rattle.machine.specs.declared.Machine.{Machine}
use Rattle.machine.specs.declared.Role.{Role}
use Rattle.protocol.specs.Outcome.{StepOutcome, step_outcome}
use Rattle.protocol.specs.Outcome as outcome
use Rattle.protocol.specs.Step.{Step, step}
use Rattle.protocol.proofs.StepLaws.{step_wants, step_refused}
use Rattle.entry.specs.declared.StepResult.{StepResult}
use Rattle.entry.specs.Entry.{stepped, Keeps}

module _ (r : Role) (m : Machine) (i : Input) (payload answers list : List ℕ) where
  -- by cases of the outcome
  outcome_keeps : (o : StepOutcome) (after : Machine)
      → (step r m i payload answers list).outcome ≡ o → (step r m i payload answers list).machine ≡ after
      → Keeps o m after
  outcome_keeps outcome.ended after e f = tt
  outcome_keeps outcome.wants after e f = sym f ∙ (step_wants r m i payload answers list e).machine
  outcome_keeps (outcome.refused n) after e f =
      sym f ∙ ap (λ (x : Step). x.machine) (step_refused r m i payload answers list n e)

  -- where a result, a machine and a list are those of the definition, the machine is kept unless the step ended
  pub kept_unless_ended : (n : StepResult) (after : Machine) (last : List ℕ)
      → stepped n after last ≡ step r m i payload answers list → Keeps (step_outcome n.outcome) m after
  kept_unless_ended n after last e =
      outcome_keeps (step_outcome n.outcome) after (sym (ap (λ (x : Step). x.outcome) e))
      (sym (ap (λ (x : Step). x.machine) e))
