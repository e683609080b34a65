-- Document 01's whole example, from the definition of a step: the passkey is awaited, and the passkey event is cancel.
-- With no answers the step wants the answer to 0x20; with answer 20 00 it ends. In either role, on any list that is long
-- enough. Assumes nothing.
use Rattle.std.specs.Prelude.{Option}
use Prim.Native.Nat.{ℕ, ◌≤◌}
use mathlib.Core.Path.{◌≡◌, ap}
use mathlib.Core.List.{List, [], ◌∷◌}
use lib.ListN.{length, drop}
use native.Mathlib.Omega.{arith}
use borrow.Author.Tests.{le-ltb}
use Rattle.octets.specs.Octets.{write_at}
use Rattle.octets.proofs.Parts.{written}
use Rattle.smp_types.specs.declared.types.Reason.TheVariants as reason
use Rattle.bond.specs.declared.Error.TheVariants.{Security}
use Rattle.host_calls.specs.Calls.{call_octets, calls_octets, longest}
use Rattle.host_answers.specs.Answers.{body_at, verdict_at}
use Rattle.machine.specs.Machine.{no_confirm_data}
use Rattle.crypto.specs.declared.crypto.Confirm.{Confirm}
use Rattle.machine.specs.declared.ConfirmPhaseData.{ConfirmPhaseData}
use Rattle.machine.specs.declared.Event.TheVariants as event
use Rattle.machine.specs.declared.Input.{Input}
use Rattle.machine.specs.declared.Input.TheVariants as input
use Rattle.machine.specs.declared.Machine.{Machine}
use Rattle.machine.specs.declared.PairingData.{PairingData}
use Rattle.machine.specs.declared.Phase.TheVariants as phase
use Rattle.machine.specs.declared.Role.{Role}
use Rattle.machine.specs.declared.Role.TheVariants.{Central, Peripheral}
use Rattle.protocol.specs.Outcome.{StepOutcome}
use Rattle.protocol.specs.Outcome as outcome
use Rattle.protocol.specs.Handlers.{enter, enters}
use Rattle.protocol.specs.LegacyCentral as central
use Rattle.protocol.specs.LegacyPeripheral as peripheral
use Rattle.protocol.specs.Step.{play_of, Step, step}

abbrev typing : Option Confirm → ConfirmPhaseData → PairingData → Machine
typing b c d = record { phase = phase.WaitingPassKeyInput b; confirm_data = c; pairing_data = d }

abbrev entry_failed : PairingData → Machine
entry_failed d = enters (phase.Error (Security reason.PasskeyEntryFailed)) no_confirm_data d

abbrev cancel : Input
cancel = input.Event event.PassKeyCancel

-- three octets at the front of a list
front :
    (list : List ℕ) → longest ≤ length list → (a b c : ℕ) →
    write_at list 0 (a ∷ b ∷ c ∷ []) ≡ a ∷ b ∷ c ∷ drop 3 list
front list h a b c = written list 0 (a ∷ b ∷ c ∷ []) (omega arith)

-- list 20 01 01 at the front, written 3
abbrev listed : StepOutcome → Machine → ℕ → List ℕ → Step
listed o m read list = record { outcome = o; machine = m; read = read; written = 3; list = list }

-- wants 0x20: list 20 01 01, written 3, read 0, the machine as it was
pub example_wants :
    (r : Role) (b : Option Confirm) (c : ConfirmPhaseData) (d : PairingData) (list : List ℕ) → longest ≤ length list →
    step r (typing b c d) cancel [] [] list
    ≡ listed outcome.wants (typing b c d) 0 (0x20 ∷ 0x01 ∷ 0x01 ∷ drop 3 list)
unfolding step play_of central.handle_input peripheral.handle_input central.transition peripheral.transition enter
    calls_octets call_octets verdict_at body_at
example_wants Central b c d list h =
    rw (le-ltb (length list) longest h) (ap (listed outcome.wants (typing b c d) 0) (front list h 0x20 0x01 0x01))
example_wants Peripheral b c d list h =
    rw (le-ltb (length list) longest h) (ap (listed outcome.wants (typing b c d) 0) (front list h 0x20 0x01 0x01))

-- with answer 20 00 it ends in Error(PasskeyEntryFailed), read 2
pub example_ends :
    (r : Role) (b : Option Confirm) (c : ConfirmPhaseData) (d : PairingData) (list : List ℕ) → longest ≤ length list →
    step r (typing b c d) cancel [] (0x20 ∷ 0x00 ∷ []) list
    ≡ listed outcome.ended (entry_failed d) 2 (0x20 ∷ 0x01 ∷ 0x01 ∷ drop 3 list)
unfolding step play_of central.handle_input peripheral.handle_input central.transition peripheral.transition enter
    calls_octets call_octets verdict_at body_at
example_ends Central b c d list h =
    rw (le-ltb (length list) longest h) (ap (listed outcome.ended (entry_failed d) 2) (front list h 0x20 0x01 0x01))
example_ends Peripheral b c d list h =
    rw (le-ltb (length list) longest h) (ap (listed outcome.ended (entry_failed d) 2) (front list h 0x20 0x01 0x01))
