-- Believed: the archive's contracts and demand 3 rest on it.
-- legacy_central.rs, the initiator: each of its functions as a program of host calls, under its name. What a function calls
-- stands before it, so the FSM core comes last; else the order is the file's. In the same words in both files, and so in
-- Handlers: `addr_type_flag`, `enter`, `store_confirm_bytes`, `handle_encryption_information`,
-- `handle_identity_information`. With the machine stand `result_of`, `is_encrypted` and `lesc_switch` (`from_lesc_switch`);
-- `mark_timeout` is left out with the timer. Assumes nothing.
use Rattle.std.specs.Prelude.{ℕ, Bool, true, false, List, Option, Some, None, eqb}
use Rattle.crypto.specs.Crypto.{c1_of, s1_of}
use Rattle.crypto.specs.declared.crypto.Confirm.{Confirm}
use Rattle.crypto.specs.declared.crypto.LongTermKey.{LongTermKey}
use Rattle.crypto.specs.declared.crypto.Nonce.{Nonce}
use Rattle.smp_types.specs.declared.types.Command.TheVariants as command
use Rattle.smp_types.specs.declared.types.Reason.TheVariants as reason
use Rattle.util.specs.Method.{legacy_method}
use Rattle.util.specs.declared.util.PairingMethod.{PairingMethod}
use Rattle.util.specs.declared.util.PairingMethod.TheVariants as method
use Rattle.util.specs.declared.util.PassKeyEntryAction.TheVariants as action
use Rattle.bond.specs.Bond.{bd_addr_octets}
use Rattle.bond.specs.declared.Error.TheVariants.{Security, InvalidValue}
use Rattle.host_calls.specs.declared.call.ConnectionEvent.TheVariants as notice
use Rattle.host_calls.specs.declared.call.Draw.TheVariants as draw
use Rattle.host_calls.specs.declared.call.Packet.TheVariants as packet
use Rattle.machine.specs.Machine.{no_confirm_data, want_bonding}
use Rattle.machine.specs.declared.ConfirmPhaseData.{ConfirmPhaseData}
use Rattle.machine.specs.declared.Input.{Input}
use Rattle.machine.specs.declared.Machine.{Machine}
use Rattle.machine.specs.declared.PairingData.{PairingData}
use Rattle.machine.specs.declared.Phase.{Phase}
use Rattle.machine.specs.declared.Phase.TheVariants as phase
use Rattle.protocol.specs.Program.{bind}
use Rattle.protocol.specs.Ops.{Program}
use Rattle.protocol.specs.Handlers.{addr_type_flag, Handler, ◌>>=◌, ◌>>◌, give, fail, or_fail, send_packet, send_event, drawn, word_in, features_in, identification_in, address_in, command_octets, names_encryption_key, names_identity_key, enters, confirm_data, with_tk, with_nonce, pass_key_tk, with_features, with_keys, with_identity_address, on_command, on_link_encrypted, on_pass_key_input, on_pass_key_cancel, on_oob_data, on_receiving_keys, other_input, entered, store_confirm_bytes, send_encryption_key, send_identity_key, enable_encryption, handle_encryption_information, handle_identity_information}

-- c1 of a nonce; ia is the initiator's address, here the local one
unfoldable pub confirm_value : ConfirmPhaseData → PairingData → Nonce → Confirm
confirm_value c d r =
    c1_of c.tk r c.preq c.pres
    (addr_type_flag d.local_address) (bd_addr_octets d.local_address.addr)
    (addr_type_flag d.peer_address) (bd_addr_octets d.peer_address.addr)

-- ---- Transition helpers

-- what the response names for the initiator is sent, and not kept
unfoldable pub send_all_keys : PairingData → Handler Machine
send_all_keys d = do
  let named = d.peer_features.initiator_key_distribution
  d₁ ← send_encryption_key d (λ ltk ediv rand. d) (names_encryption_key named)
  send_identity_key d₁ (names_identity_key named)
  give (enters phase.Success no_confirm_data d₁)

-- the peripheral's identity key is awaited where the response names it, else the central sends its keys
unfoldable pub await_identity_or_send : PairingData → Bool → Handler Machine
await_identity_or_send d true = give (enters phase.WaitingIdentitityInformation no_confirm_data d)
await_identity_or_send d false = send_all_keys d

-- .. and before it the encryption key
unfoldable pub await_keys : PairingData → Bool → Handler Machine
await_keys d true = give (enters (phase.ReceivingKeys 0 (record { 0 = 0 })) no_confirm_data d)
await_keys d false = await_identity_or_send d (names_identity_key d.peer_features.responder_key_distribution)

abbrev pub await_keys_or_succeed : PairingData → Bool → Handler Machine
await_keys_or_succeed d true = await_keys d (names_encryption_key d.peer_features.responder_key_distribution)
await_keys_or_succeed d false = give (enters phase.Success no_confirm_data d)

unfoldable pub handle_link_encrypted_success : PairingData → Handler Machine
handle_link_encrypted_success d = await_keys_or_succeed d (want_bonding d)

-- Mconfirm = c1 of a fresh Mrand goes out
unfoldable pub send_mconfirm : ConfirmPhaseData → PairingData → Handler ConfirmPhaseData
send_mconfirm c d = do
  mrand ← drawn draw.Nonce
  send_packet d (packet.PairingConfirm (confirm_value c d mrand))
  give (with_nonce c mrand)

unfoldable pub send_mrand : ConfirmPhaseData → PairingData → Handler (Unit {0})
send_mrand c d = send_packet d (packet.PairingRandom c.local_nonce)

abbrev pub answer_confirm : ConfirmPhaseData → PairingData → Confirm → Handler Machine
answer_confirm c d confirm = do
  send_mrand c d
  give (enters (phase.WaitingPairingRandom confirm) c d)

unfoldable pub handle_peer_confirm : ConfirmPhaseData → PairingData → List ℕ → Handler Machine
handle_peer_confirm c d payload = do
  confirm ← or_fail d (Security reason.InvalidParameters) (word_in payload)
  answer_confirm c d (record { 0 = confirm })

-- an early confirm value is answered as soon as the passkey is typed and Mconfirm is sent
abbrev pub after_mconfirm : ConfirmPhaseData → PairingData → Option Confirm → Handler Machine
after_mconfirm c d (Some confirm) = answer_confirm c d confirm
after_mconfirm c d None = give (enters phase.WaitingPairingConfirm c d)

unfoldable pub handle_pass_key_input : ConfirmPhaseData → PairingData → ℕ → Option Confirm → Handler Machine
handle_pass_key_input c d input confirm_bytes = do
  c₁ ← send_mconfirm (with_tk c (pass_key_tk input)) d
  after_mconfirm c₁ d confirm_bytes

-- ---- Protocol helpers

-- with the temporary key known, the confirm value is sent and the peer's is awaited
unfoldable pub begin_confirm : List ℕ → List ℕ → PairingData → ℕ → Handler Machine
begin_confirm preq pres d tk = do
  c ← send_mconfirm (confirm_data tk preq pres) d
  give (enters phase.WaitingPairingConfirm c d)

-- the method that was chosen begins
unfoldable pub begin_method : List ℕ → List ℕ → PairingData → PairingMethod → Handler Machine
begin_method preq pres d method.OutOfBand = do
  send_event d notice.OobRequest
  give (enters phase.WaitingOobData (confirm_data 0 preq pres) d)
begin_method preq pres d (method.PassKeyEntry action.Display peripheral) = do
  tk ← drawn draw.PassKey
  send_event d (notice.PassKeyDisplay tk)
  begin_confirm preq pres d (pass_key_tk tk.0)
begin_method preq pres d (method.PassKeyEntry action.Input peripheral) = do
  send_event d notice.PassKeyInput
  give (enters (phase.WaitingPassKeyInput None) (confirm_data 0 preq pres) d)
begin_method preq pres d method.JustWorks = begin_confirm preq pres d 0
begin_method preq pres d method.NumericComparison = fail d (Security reason.AuthenticationRequirements)

unfoldable pub handle_pairing_response : ConfirmPhaseData → PairingData → List ℕ → Handler Machine
handle_pairing_response c d payload = do
  peer ← or_fail d (Security reason.InvalidParameters) (features_in payload)
  let local = d.local_features
  let d₁ = with_features local peer (legacy_method local peer) d
  begin_method c.preq (command_octets command.PairingResponse payload) d₁ d₁.pairing_method

-- Srand has to agree with Sconfirm
abbrev pub on_srand : ConfirmPhaseData → PairingData → Nonce → (agrees : Bool) → Handler Machine
on_srand c d srand true = enable_encryption d (s1_of c.tk srand c.local_nonce)
on_srand c d srand false = fail d (Security reason.ConfirmValueFailed)

unfoldable pub handle_pairing_random : ConfirmPhaseData → PairingData → Confirm → List ℕ → Handler Machine
handle_pairing_random c d confirm payload = do
  word ← or_fail d (Security reason.InvalidParameters) (word_in payload)
  let srand : Nonce = record { 0 = word }
  on_srand c d srand (eqb (confirm_value c d srand).0 confirm.0)

-- the peripheral's keys are kept in the bond
unfoldable pub handle_central_identification : PairingData → LongTermKey → List ℕ → Handler Machine
handle_central_identification d ltk payload = do
  identification ← or_fail d (Security reason.InvalidParameters) (identification_in payload)
  await_identity_or_send (with_keys ltk identification.0 identification.1 d)
      (names_identity_key d.peer_features.responder_key_distribution)

abbrev pub send_keys_or_succeed : PairingData → Bool → Handler Machine
send_keys_or_succeed d true = send_all_keys d
send_keys_or_succeed d false = give (enters phase.Success no_confirm_data d)

unfoldable pub handle_identity_address_information : PairingData → List ℕ → Handler Machine
handle_identity_address_information d payload = do
  address ← or_fail d InvalidValue (address_in payload)
  send_keys_or_succeed (with_identity_address address d) (want_bonding d)

-- ---- FSM core

abbrev pub link_encrypted : PairingData → Bool → Handler Machine
link_encrypted d true = handle_link_encrypted_success d
link_encrypted d false = fail d (Security reason.ConfirmValueFailed)

-- a row for each state, in the order of the enum: what it awaits, then any other input
abbrev pub transition_from : Machine → List ℕ → Input → Phase → Handler Machine
transition_from m payload i phase.WaitingPairingResponse =
    on_command command.PairingResponse i (handle_pairing_response m.confirm_data m.pairing_data payload)
    (other_input m payload i)
transition_from m payload i (phase.WaitingPassKeyInput confirm_bytes) =
    on_command command.PairingConfirm i (store_confirm_bytes m.confirm_data m.pairing_data payload)
    (on_pass_key_input i (λ n. handle_pass_key_input m.confirm_data m.pairing_data n confirm_bytes)
    (on_pass_key_cancel i (fail m.pairing_data (Security reason.PasskeyEntryFailed))
    (other_input m payload i)))
transition_from m payload i phase.WaitingOobData =
    on_oob_data i (λ random. begin_confirm m.confirm_data.preq m.confirm_data.pres m.pairing_data random)
    (other_input m payload i)
transition_from m payload i phase.WaitingPairingConfirm =
    on_command command.PairingConfirm i (handle_peer_confirm m.confirm_data m.pairing_data payload)
    (other_input m payload i)
transition_from m payload i (phase.WaitingPairingRandom confirm) =
    on_command command.PairingRandom i (handle_pairing_random m.confirm_data m.pairing_data confirm payload)
    (other_input m payload i)
transition_from m payload i phase.WaitingLinkEncrypted =
    on_link_encrypted i (link_encrypted m.pairing_data)
    (other_input m payload i)
transition_from m payload i phase.WaitingIdentitityInformation =
    on_command command.IdentityInformation i (handle_identity_information m.pairing_data payload)
    (other_input m payload i)
transition_from m payload i phase.WaitingIdentitityAddressInformation =
    on_command command.IdentityAddressInformation i (handle_identity_address_information m.pairing_data payload)
    (other_input m payload i)
transition_from m payload i (phase.ReceivingKeys n ltk) =
    on_receiving_keys n i
    (handle_encryption_information m.pairing_data payload)
    (handle_central_identification m.pairing_data ltk payload)
    (other_input m payload i)
transition_from m payload i phase.Success = other_input m payload i
transition_from m payload i (phase.Error e) = other_input m payload i
transition_from m payload i phase.WaitingPairingRequest = other_input m payload i

unfoldable pub transition : Machine → Input → List ℕ → Handler Machine
transition m i payload = transition_from m payload i m.phase

unfoldable pub handle_input : Machine → Input → List ℕ → Program Machine
handle_input m i payload = bind (transition m i payload) entered
