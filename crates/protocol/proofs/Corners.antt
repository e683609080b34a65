-- Document 01's "Corners of the machines", its answers where the Rust indexes beyond the payload, and that a Random is
-- checked first, from the definitions of both roles. (Inputs that leave the state: Awaited and Leaving. Failures that do
-- not matter: Limits.) Assumes nothing.
use Rattle.std.specs.Prelude.{Option, Some}
use Prim.Native.Nat.{ℕ, ◌<◌, ◌≤◌}
use mathlib.Core.Path.{◌≡◌, refl, ◌∙◌}
use mathlib.Core.Bool.{Bool, false}
use mathlib.Core.List.{List, [], ◌∷◌}
use lib.Dec.{eqb}
use lib.ListN.{length, get_or, take, drop}
use borrow.Author.Tests.{eq-eqb, ne_eqb, lt-ltb, le-ltb}
use Rattle.octets.specs.Octets.{from_octets, word_of}
use Rattle.crypto.specs.declared.crypto.Confirm.{Confirm}
use Rattle.crypto.specs.declared.crypto.LongTermKey.{LongTermKey}
use Rattle.crypto.specs.declared.crypto.Nonce.{Nonce}
use Rattle.smp_types.specs.Types.{command_code, reason_of}
use Rattle.smp_types.specs.declared.types.Command.{Command}
use Rattle.smp_types.specs.declared.types.Command.TheVariants as command
use Rattle.smp_types.specs.declared.types.Reason.TheVariants as reason
use Rattle.bond.specs.declared.Address.{Address}
use Rattle.bond.specs.declared.Error.TheVariants.{Security, InvalidState, InvalidValue}
use Rattle.host_calls.specs.declared.call.Question.TheVariants as question
use Rattle.machine.specs.Machine.{no_confirm_data, want_bonding}
use Rattle.machine.specs.declared.ConfirmPhaseData.{ConfirmPhaseData}
use Rattle.machine.specs.declared.Event.TheVariants as event
use Rattle.machine.specs.declared.Input.{Input}
use Rattle.machine.specs.declared.Input.TheVariants as input
use Rattle.machine.specs.declared.Machine.{Machine}
use Rattle.machine.specs.declared.PairingData.{PairingData}
use Rattle.machine.specs.declared.Phase.{Phase}
use Rattle.machine.specs.declared.Phase.TheVariants as phase
use Rattle.machine.specs.declared.Role.{Role}
use Rattle.machine.specs.declared.Role.TheVariants.{Central, Peripheral}
use Rattle.protocol.specs.Handlers.{◌>>=◌, ◌>>◌, give, fail, asked, word_in, features_in, identification_in, address_in, reason_in}
use Rattle.protocol.specs.Handlers.{enters, with_identity_address, other_input, store_confirm_bytes}
use Rattle.protocol.specs.LegacyCentral as central
use Rattle.protocol.specs.LegacyPeripheral as peripheral
use Rattle.protocol.proofs.Awaited.{transition_of, awaits, other_inputs, failure, awaits_none}

abbrev pub standing : Phase → ConfirmPhaseData → PairingData → Machine
standing p c d = record { phase = p; confirm_data = c; pairing_data = d }

abbrev pub received : Command → Input
received c = input.Command (command_code c)

module _ (c : ConfirmPhaseData) (d : PairingData) (payload : List ℕ) where
  -- ---- a Confirm of wrong length: InvalidValue in WaitingPassKeyInput, InvalidParameters in WaitingPairingConfirm

  pub confirm_while_typing :
      (r : Role) (b : Option Confirm) → (length payload ≡ 16 → ⊥) →
      transition_of r (standing (phase.WaitingPassKeyInput b) c d) (received command.PairingConfirm) payload
      ≡ fail d InvalidValue
  unfolding central.transition peripheral.transition store_confirm_bytes word_in
  confirm_while_typing Central b h = rw (ne_eqb (length payload) 16 h)
  confirm_while_typing Peripheral b h = rw (ne_eqb (length payload) 16 h)

  pub confirm_awaited :
      (r : Role) → (length payload ≡ 16 → ⊥) →
      transition_of r (standing phase.WaitingPairingConfirm c d) (received command.PairingConfirm) payload
      ≡ fail d (Security reason.InvalidParameters)
  unfolding central.transition peripheral.transition central.handle_peer_confirm peripheral.handle_peer_confirm word_in
  confirm_awaited Central h = rw (ne_eqb (length payload) 16 h)
  confirm_awaited Peripheral h = rw (ne_eqb (length payload) 16 h)

  -- ---- a Random is checked before anything else: where its c1 is not the Confirm that came, nothing is sent

  abbrev confirm_value_of : Role → Nonce → Confirm
  confirm_value_of Central r = central.confirm_value c d r
  confirm_value_of Peripheral r = peripheral.confirm_value c d r

  pub random_not_agreeing :
      (r : Role) (confirm : Confirm) → length payload ≡ 16 →
      eqb (confirm_value_of r (record { 0 = word_of payload })).0 confirm.0 ≡ false →
      transition_of r (standing (phase.WaitingPairingRandom confirm) c d) (received command.PairingRandom) payload
      ≡ fail d (Security reason.ConfirmValueFailed)
  unfolding central.transition peripheral.transition central.handle_pairing_random
      peripheral.handle_pairing_random word_in
  random_not_agreeing Central confirm h e = rw (eq-eqb (length payload) 16 h, e) refl
  random_not_agreeing Peripheral confirm h e = rw (eq-eqb (length payload) 16 h, e) refl

  -- ---- CentralIdentification under 10 octets is InvalidParameters

  pub identification_short :
      (r : Role) (ltk : LongTermKey) → length payload < 10 →
      transition_of r (standing (phase.ReceivingKeys 1 ltk) c d) (received command.CentralIdentification) payload
      ≡ fail d (Security reason.InvalidParameters)
  unfolding central.transition peripheral.transition central.handle_central_identification
      peripheral.handle_central_identification identification_in
  identification_short Central ltk h = rw (lt-ltb (length payload) 10 h)
  identification_short Peripheral ltk h = rw (lt-ltb (length payload) 10 h)

  -- .. longer is read by its first 10
  pub identification_long :
      10 ≤ length payload →
      identification_in payload ≡ Some (from_octets (take 2 payload), from_octets (take 8 (drop 2 payload)))
  unfolding identification_in
  identification_long h = rw (le-ltb (length payload) 10 h)

  -- ---- an identity address under 7 octets, or of a kind above 1, is InvalidValue

  pub address_short :
      (r : Role) → length payload < 7 →
      transition_of r (standing phase.WaitingIdentitityAddressInformation c d)
      (received command.IdentityAddressInformation) payload
      ≡ fail d InvalidValue
  unfolding central.transition peripheral.transition central.handle_identity_address_information
      peripheral.handle_identity_address_information address_in
  address_short Central h = rw (lt-ltb (length payload) 7 h)
  address_short Peripheral h = rw (lt-ltb (length payload) 7 h)

  pub address_of_no_kind :
      (r : Role) → 7 ≤ length payload → 1 < get_or payload 0 0 →
      transition_of r (standing phase.WaitingIdentitityAddressInformation c d)
      (received command.IdentityAddressInformation) payload
      ≡ fail d InvalidValue
  unfolding central.transition peripheral.transition central.handle_identity_address_information
      peripheral.handle_identity_address_information address_in
  address_of_no_kind Central h k = rw (le-ltb (length payload) 7 h, lt-ltb 1 (get_or payload 0 0) k)
  address_of_no_kind Peripheral h k = rw (le-ltb (length payload) 7 h, lt-ltb 1 (get_or payload 0 0) k)

  -- ---- behind the head's identity the terminal sends no keys without a common wish to bond: it is in Success

  pub no_keys_without_bonding :
      (a : Address) → address_in payload ≡ Some a → want_bonding d ≡ false →
      central.transition (standing phase.WaitingIdentitityAddressInformation c d)
      (received command.IdentityAddressInformation) payload
      ≡ give (enters phase.Success no_confirm_data (with_identity_address a d))
  unfolding central.transition central.handle_identity_address_information
  no_keys_without_bonding a h w = rw (h, w) refl

  -- ---- a request or response of other than 6 octets is InvalidParameters, the pairing data unchanged

  pub request_of_wrong_length :
      (length payload ≡ 6 → ⊥) →
      peripheral.handle_pairing_request d payload
      ≡ ◌>>=◌ (asked question.FindBond)
      (λ found. ◌>>◌ (peripheral.bond_lost found) (fail d (Security reason.InvalidParameters)))
  unfolding peripheral.handle_pairing_request features_in
  request_of_wrong_length h = rw (ne_eqb (length payload) 6 h)

  pub response_of_wrong_length :
      (length payload ≡ 6 → ⊥) →
      central.handle_pairing_response c d payload ≡ fail d (Security reason.InvalidParameters)
  unfolding central.handle_pairing_response features_in
  response_of_wrong_length h = rw (ne_eqb (length payload) 6 h)

-- ---- LinkEncryptedResult(false): KeyRejected at the head in WaitingLinkEncrypted and WaitingPairingRequest,
-- ConfirmValueFailed at the terminal in WaitingLinkEncrypted, InvalidState elsewhere

abbrev no_link : Input
no_link = input.Event (event.LinkEncryptedResult false)

module _ (c : ConfirmPhaseData) (d : PairingData) (payload : List ℕ) where
  pub no_link_before_the_request :
      peripheral.transition (standing phase.WaitingPairingRequest c d) no_link payload
      ≡ fail d (Security reason.KeyRejected)
  unfolding peripheral.transition
  no_link_before_the_request = refl

  pub no_link_at_the_head :
      peripheral.transition (standing phase.WaitingLinkEncrypted c d) no_link payload
      ≡ fail d (Security reason.KeyRejected)
  unfolding peripheral.transition
  no_link_at_the_head = refl

  pub no_link_at_the_terminal :
      central.transition (standing phase.WaitingLinkEncrypted c d) no_link payload
      ≡ fail d (Security reason.ConfirmValueFailed)
  unfolding central.transition
  no_link_at_the_terminal = refl

-- ---- an input that the state does not await is InvalidState: a report on encryption, OOB data, and a packet, but for
-- PairingFailed and a KeypressNotification

module _ (r : Role) (m : Machine) (payload : List ℕ) where
  pub unawaited_report :
      (b : Bool) → let i = input.Event (event.LinkEncryptedResult b) in
      awaits r m.phase i ≡ false → transition_of r m i payload ≡ fail m.pairing_data InvalidState
  unfolding other_input
  unawaited_report b h = other_inputs r m (input.Event (event.LinkEncryptedResult b)) payload h

  pub unawaited_oob_data :
      (w : ℕ) → let i = input.Event (event.OobDataReceived w) in
      awaits r m.phase i ≡ false → transition_of r m i payload ≡ fail m.pairing_data InvalidState
  unfolding other_input
  unawaited_oob_data w h = other_inputs r m (input.Event (event.OobDataReceived w)) payload h

  pub unawaited_packet :
      (code : ℕ) → let i = input.Command code in
      awaits r m.phase i ≡ false → eqb code (command_code command.KeypressNotification) ≡ false →
      eqb code (command_code command.PairingFailed) ≡ false →
      transition_of r m i payload ≡ fail m.pairing_data InvalidState
  unfolding other_input
  unawaited_packet code h k l = other_inputs r m (input.Command code) payload h ∙ rw (k, l) refl

-- ---- PairingFailed from the peer, in any state: an empty one gives UnspecifiedReason, another the reason of its first octet

pub failed_empty :
    (r : Role) (m : Machine) →
    transition_of r m (received command.PairingFailed) []
    ≡ fail m.pairing_data (Security reason.UnspecifiedReason)
unfolding other_input reason_in
failed_empty r m =
    other_inputs r m failure [] (awaits_none r m.phase).no_failure

pub failed_with_reason :
    (r : Role) (m : Machine) (x : ℕ) (payload : List ℕ) →
    transition_of r m (received command.PairingFailed) (x ∷ payload) ≡ fail m.pairing_data (Security (reason_of x))
unfolding other_input reason_in
failed_with_reason r m x payload =
    other_inputs r m failure (x ∷ payload) (awaits_none r m.phase).no_failure
