-- Which inputs a state awaits, in both roles, and what comes of any other: it is `other_input`. A KeypressNotification, and
-- the passkey events that a state does not await, leave the machine as it was given. Assumes nothing.
use Prim.Native.Nat.{ℕ}
use mathlib.Core.Bool.{Bool, true, false, cond}
use mathlib.Core.Path.{◌≡◌, refl}
use mathlib.Core.List.{List}
use lib.Dec.{eqb}
use Rattle.smp_types.specs.Types.{command_code}
use Rattle.smp_types.specs.declared.types.Command.{Command}
use Rattle.smp_types.specs.declared.types.Command.TheVariants as command
use Rattle.machine.specs.declared.Event.{Event}
use Rattle.machine.specs.declared.Event.TheVariants as event
use Rattle.machine.specs.declared.Input.{Input}
use Rattle.machine.specs.declared.Input.TheVariants as input
use Rattle.machine.specs.declared.Machine.{Machine}
use Rattle.machine.specs.declared.Phase.{Phase}
use Rattle.machine.specs.declared.Phase.TheVariants as phase
use Rattle.machine.specs.declared.Role.{Role}
use Rattle.machine.specs.declared.Role.TheVariants.{Central, Peripheral}
use Rattle.protocol.specs.Program.{ret}
use Rattle.protocol.specs.Handlers.{Handler, ok, on_command, on_link_encrypted, on_pass_key_input, on_pass_key_cancel, on_oob_data, on_receiving_keys, other_input}
use Rattle.protocol.specs.LegacyCentral as central
use Rattle.protocol.specs.LegacyPeripheral as peripheral

abbrev pub transition_of : Role → Machine → Input → List ℕ → Handler Machine
transition_of Central m i payload = central.transition m i payload
transition_of Peripheral m i payload = peripheral.transition m i payload

-- ---- whether a state awaits an input

abbrev is_packet : Command → Input → Bool
is_packet c i = on_command c i true false

abbrev is_report : Input → Bool
is_report i = on_link_encrypted i (λ b. true) false

abbrev pub awaits : Role → Phase → Input → Bool
awaits Peripheral phase.WaitingPairingRequest i = on_command command.PairingRequest i true (is_report i)
awaits Central phase.WaitingPairingRequest i = false
awaits Peripheral phase.WaitingPairingResponse i = false
awaits Central phase.WaitingPairingResponse i = is_packet command.PairingResponse i
awaits r (phase.WaitingPassKeyInput b) i =
    on_command command.PairingConfirm i true (on_pass_key_input i (λ n. true) (on_pass_key_cancel i true false))
awaits r phase.WaitingOobData i = on_oob_data i (λ w. true) false
awaits r phase.WaitingPairingConfirm i = is_packet command.PairingConfirm i
awaits r (phase.WaitingPairingRandom c) i = is_packet command.PairingRandom i
awaits r phase.WaitingLinkEncrypted i = is_report i
awaits r phase.WaitingIdentitityInformation i = is_packet command.IdentityInformation i
awaits r phase.WaitingIdentitityAddressInformation i = is_packet command.IdentityAddressInformation i
awaits r (phase.ReceivingKeys n k) i = on_receiving_keys n i true true false
awaits r phase.Success i = false
awaits r (phase.Error e) i = false

-- ---- one test after another that an input does not pass

module _ {y : Handler Machine} where
  not_packet :
      (c : Command) (i : Input) (p x : Handler Machine) (q : Bool) → on_command c i true q ≡ false →
      (q ≡ false → x ≡ y) → on_command c i p x ≡ y
  not_packet c (input.Command code) p x q h k = go (eqb code (command_code c)) h
    where
      go : (b : Bool) → cond b true q ≡ false → cond b p x ≡ y
      go true h = cc
      go false h = k h
  not_packet c (input.Event e) p x q h k = k h

  not_report :
      (i : Input) (p : Bool → Handler Machine) (x : Handler Machine) → is_report i ≡ false → x ≡ y →
      on_link_encrypted i p x ≡ y
  not_report (input.Command code) p x h k = k
  not_report (input.Event (event.LinkEncryptedResult b)) p x h k = cc
  not_report (input.Event event.PassKeyConfirm) p x h k = k
  not_report (input.Event event.PassKeyCancel) p x h k = k
  not_report (input.Event (event.PassKeyInput n)) p x h k = k
  not_report (input.Event (event.OobDataReceived w)) p x h k = k

  not_pass_key :
      (i : Input) (p : ℕ → Handler Machine) (q x : Handler Machine) →
      on_pass_key_input i (λ n. true) (on_pass_key_cancel i true false) ≡ false → x ≡ y →
      on_pass_key_input i p (on_pass_key_cancel i q x) ≡ y
  not_pass_key (input.Command code) p q x h k = k
  not_pass_key (input.Event (event.LinkEncryptedResult b)) p q x h k = k
  not_pass_key (input.Event event.PassKeyConfirm) p q x h k = k
  not_pass_key (input.Event event.PassKeyCancel) p q x h k = cc
  not_pass_key (input.Event (event.PassKeyInput n)) p q x h k = cc
  not_pass_key (input.Event (event.OobDataReceived w)) p q x h k = k

  not_oob_data :
      (i : Input) (p : ℕ → Handler Machine) (x : Handler Machine) → on_oob_data i (λ w. true) false ≡ false → x ≡ y →
      on_oob_data i p x ≡ y
  not_oob_data (input.Command code) p x h k = k
  not_oob_data (input.Event (event.LinkEncryptedResult b)) p x h k = k
  not_oob_data (input.Event event.PassKeyConfirm) p x h k = k
  not_oob_data (input.Event event.PassKeyCancel) p x h k = k
  not_oob_data (input.Event (event.PassKeyInput n)) p x h k = k
  not_oob_data (input.Event (event.OobDataReceived w)) p x h k = cc

  not_keys :
      (n : ℕ) (i : Input) (p q x : Handler Machine) → on_receiving_keys n i true true false ≡ false → x ≡ y →
      on_receiving_keys n i p q x ≡ y
  not_keys n i p q x h k = go (eqb n 0) (eqb n 1) h
    where
      go :
          (first second : Bool) →
          cond first (is_packet command.EncryptionInformation i)
          (cond second (is_packet command.CentralIdentification i) false)
          ≡ false →
          cond first (on_command command.EncryptionInformation i p x)
          (cond second (on_command command.CentralIdentification i q x) x)
          ≡ y
      go true second h = not_packet command.EncryptionInformation i p x false h (λ e. k)
      go false true h = not_packet command.CentralIdentification i q x false h (λ e. k)
      go false false h = k

-- ---- an input that the state does not await

pub other_inputs :
    (r : Role) (m : Machine) (i : Input) (payload : List ℕ) → awaits r m.phase i ≡ false →
    transition_of r m i payload ≡ other_input m payload i
unfolding central.transition peripheral.transition
other_inputs Central m i payload h = at m.phase h
  where
    at : (p : Phase) → awaits Central p i ≡ false → central.transition_from m payload i p ≡ other_input m payload i
    at phase.WaitingPairingRequest h = refl
    at phase.WaitingPairingResponse h = not_packet command.PairingResponse i _ _ false h (λ e. refl)
    at (phase.WaitingPassKeyInput b) h =
        not_packet command.PairingConfirm i _ _ _ h (λ e. not_pass_key i _ _ _ e refl)
    at phase.WaitingOobData h = not_oob_data i _ _ h refl
    at phase.WaitingPairingConfirm h = not_packet command.PairingConfirm i _ _ false h (λ e. refl)
    at (phase.WaitingPairingRandom c) h = not_packet command.PairingRandom i _ _ false h (λ e. refl)
    at phase.WaitingLinkEncrypted h = not_report i _ _ h refl
    at phase.WaitingIdentitityInformation h = not_packet command.IdentityInformation i _ _ false h (λ e. refl)
    at phase.WaitingIdentitityAddressInformation h =
        not_packet command.IdentityAddressInformation i _ _ false h (λ e. refl)
    at (phase.ReceivingKeys n k) h = not_keys n i _ _ _ h refl
    at phase.Success h = refl
    at (phase.Error e) h = refl
other_inputs Peripheral m i payload h = at m.phase h
  where
    at : (p : Phase) → awaits Peripheral p i ≡ false → peripheral.transition_from m payload i p ≡ other_input m payload i
    at phase.WaitingPairingRequest h =
        not_packet command.PairingRequest i _ _ (is_report i) h (λ e. not_report i _ _ e refl)
    at phase.WaitingPairingResponse h = refl
    at (phase.WaitingPassKeyInput b) h =
        not_packet command.PairingConfirm i _ _ _ h (λ e. not_pass_key i _ _ _ e refl)
    at phase.WaitingOobData h = not_oob_data i _ _ h refl
    at phase.WaitingPairingConfirm h = not_packet command.PairingConfirm i _ _ false h (λ e. refl)
    at (phase.WaitingPairingRandom c) h = not_packet command.PairingRandom i _ _ false h (λ e. refl)
    at phase.WaitingLinkEncrypted h = not_report i _ _ h refl
    at phase.WaitingIdentitityInformation h = not_packet command.IdentityInformation i _ _ false h (λ e. refl)
    at phase.WaitingIdentitityAddressInformation h =
        not_packet command.IdentityAddressInformation i _ _ false h (λ e. refl)
    at (phase.ReceivingKeys n k) h = not_keys n i _ _ _ h refl
    at phase.Success h = refl
    at (phase.Error e) h = refl

-- ---- a KeypressNotification, a PairingFailed and a PassKeyConfirm: no state awaits them

abbrev pub keypress : Input
keypress = input.Command (command_code command.KeypressNotification)

abbrev pub failure : Input
failure = input.Command (command_code command.PairingFailed)

pub record AwaitsNone (r : Role) (p : Phase) : Type 0 where
  pub no_keypress : awaits r p keypress ≡ false
  pub no_failure : awaits r p failure ≡ false
  pub no_confirm : awaits r p (input.Event event.PassKeyConfirm) ≡ false

-- both ways are the same
same_ways : {A : Type 0} (b c : Bool) (x : A) → cond b x (cond c x x) ≡ x
same_ways true c x = refl
same_ways false true x = refl
same_ways false false x = refl

pub awaits_none : (r : Role) (p : Phase) → AwaitsNone r p
awaits_none Central phase.WaitingPairingRequest = record { no_keypress = refl; no_failure = refl; no_confirm = refl }
awaits_none Peripheral phase.WaitingPairingRequest = record { no_keypress = refl; no_failure = refl; no_confirm = refl }
awaits_none Central phase.WaitingPairingResponse = record { no_keypress = refl; no_failure = refl; no_confirm = refl }
awaits_none Peripheral phase.WaitingPairingResponse = record { no_keypress = refl; no_failure = refl; no_confirm = refl }
awaits_none r (phase.WaitingPassKeyInput b) = record { no_keypress = refl; no_failure = refl; no_confirm = refl }
awaits_none r phase.WaitingOobData = record { no_keypress = refl; no_failure = refl; no_confirm = refl }
awaits_none r phase.WaitingPairingConfirm = record { no_keypress = refl; no_failure = refl; no_confirm = refl }
awaits_none r (phase.WaitingPairingRandom c) = record { no_keypress = refl; no_failure = refl; no_confirm = refl }
awaits_none r phase.WaitingLinkEncrypted = record { no_keypress = refl; no_failure = refl; no_confirm = refl }
awaits_none r phase.WaitingIdentitityInformation = record { no_keypress = refl; no_failure = refl; no_confirm = refl }
awaits_none r phase.WaitingIdentitityAddressInformation = record { no_keypress = refl; no_failure = refl; no_confirm = refl }
awaits_none r (phase.ReceivingKeys n k) =
    let none = same_ways (eqb n 0) (eqb n 1) false in record { no_keypress = none; no_failure = none; no_confirm = none }
awaits_none r phase.Success = record { no_keypress = refl; no_failure = refl; no_confirm = refl }
awaits_none r (phase.Error e) = record { no_keypress = refl; no_failure = refl; no_confirm = refl }

-- ---- a KeypressNotification leaves the state, and so does a passkey event that it does not await

pub keypress_leaves : (r : Role) (m : Machine) (payload : List ℕ) → transition_of r m keypress payload ≡ ret (ok m)
unfolding other_input
keypress_leaves r m payload = other_inputs r m keypress payload (awaits_none r m.phase).no_keypress

abbrev pub IsPassKey : Event → Type 0
IsPassKey event.PassKeyConfirm = Unit {0}
IsPassKey event.PassKeyCancel = Unit {0}
IsPassKey (event.PassKeyInput n) = Unit {0}
IsPassKey (event.LinkEncryptedResult b) = ⊥
IsPassKey (event.OobDataReceived w) = ⊥

pub passkey_leaves :
    (r : Role) (m : Machine) (e : Event) (payload : List ℕ) → IsPassKey e → awaits r m.phase (input.Event e) ≡ false →
    transition_of r m (input.Event e) payload ≡ ret (ok m)
unfolding other_input
passkey_leaves r m event.PassKeyConfirm payload k h = other_inputs r m (input.Event event.PassKeyConfirm) payload h
passkey_leaves r m event.PassKeyCancel payload k h = other_inputs r m (input.Event event.PassKeyCancel) payload h
passkey_leaves r m (event.PassKeyInput n) payload k h = other_inputs r m (input.Event (event.PassKeyInput n)) payload h
passkey_leaves r m (event.LinkEncryptedResult b) payload k h = absurd k
passkey_leaves r m (event.OobDataReceived w) payload k h = absurd k
