-- A KeypressNotification, and a passkey event that the state does not await: the step gives back the machine as it was
-- given, in every part. It enters that state again, so in Success or Error the calls are made again. Assumes nothing.
use Prim.Native.Nat.{ℕ}
use mathlib.Core.Path.{ap, ◌≡◌, refl, sym, subst}
use mathlib.Core.Bool.{false}
use mathlib.Core.List.{List}
use Rattle.machine.specs.declared.Event.{Event}
use Rattle.machine.specs.declared.Input.{Input}
use Rattle.machine.specs.declared.Input.TheVariants as input
use Rattle.machine.specs.declared.Machine.{Machine}
use Rattle.machine.specs.declared.Role.{Role}
use Rattle.machine.specs.declared.Role.TheVariants.{Central, Peripheral}
use Rattle.protocol.specs.Program.{play, bind, ret}
use Rattle.protocol.specs.Handlers.{Handler, ok, entered, enter}
use Rattle.protocol.specs.LegacyCentral as central
use Rattle.protocol.specs.LegacyPeripheral as peripheral
use Rattle.protocol.specs.Step.{handle_input_by_role, play_of, step}
use Rattle.protocol.proofs.Programs.{OfEnding}
use Rattle.protocol.proofs.Bounds.{Broken, plays_within}
use Rattle.protocol.specs.Ops.{reply_at, Program}
use Rattle.protocol.proofs.HandlerBounds.{enter_within}
use Rattle.protocol.proofs.StepLaws.{step_gives}
use Rattle.protocol.proofs.Awaited.{transition_of, awaits, keypress, keypress_leaves, IsPassKey, passkey_leaves}

-- entering a state gives its machine
entering : (m : Machine) (answers : List ℕ) → OfEnding (λ x. x ≡ m) (play reply_at answers (enter m) 0).ending
entering m answers =
    (plays_within Broken (λ x. x ≡ m) answers (enter m) 2 106 0 (enter_within (λ x. x ≡ m) m refl)).gives

-- a transition that leaves the state: all that follows is that the state is entered
enters_again :
    (r : Role) (m : Machine) (i : Input) (payload : List ℕ) → transition_of r m i payload ≡ ret (ok m) →
    handle_input_by_role r m i payload ≡ enter m
unfolding central.handle_input peripheral.handle_input
enters_again Central m i payload h = ap (λ (p : Handler Machine). bind p entered) h
enters_again Peripheral m i payload h = ap (λ (p : Handler Machine). bind p entered) h

pub keypress_enters : (r : Role) (m : Machine) (payload : List ℕ) → handle_input_by_role r m keypress payload ≡ enter m
keypress_enters r m payload = enters_again r m keypress payload (keypress_leaves r m payload)

pub passkey_enters :
    (r : Role) (m : Machine) (e : Event) (payload : List ℕ) → IsPassKey e → awaits r m.phase (input.Event e) ≡ false →
    handle_input_by_role r m (input.Event e) payload ≡ enter m
passkey_enters r m e payload k h = enters_again r m (input.Event e) payload (passkey_leaves r m e payload k h)

-- a transition that leaves the state: the step gives back the machine that it was given
leaves :
    (r : Role) (m : Machine) (i : Input) (payload answers list : List ℕ) → transition_of r m i payload ≡ ret (ok m) →
    (step r m i payload answers list).machine ≡ m
unfolding play_of
leaves r m i payload answers list h =
    step_gives r m i payload answers list (λ x. x ≡ m) refl
    (subst (λ (p : Program Machine). OfEnding (λ x. x ≡ m) (play reply_at answers p 0).ending)
    (sym (enters_again r m i payload h)) (entering m answers))

pub keypress_step :
    (r : Role) (m : Machine) (payload answers list : List ℕ) →
    (step r m keypress payload answers list).machine ≡ m
keypress_step r m payload answers list =
    leaves r m keypress payload answers list (keypress_leaves r m payload)

pub passkey_step :
    (r : Role) (m : Machine) (e : Event) (payload answers list : List ℕ) → IsPassKey e → awaits r m.phase (input.Event e) ≡ false →
    (step r m (input.Event e) payload answers list).machine ≡ m
passkey_step r m e payload answers list k h =
    leaves r m (input.Event e) payload answers list (passkey_leaves r m e payload k h)
