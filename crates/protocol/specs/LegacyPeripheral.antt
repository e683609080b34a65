-- Believed: the archive's contracts and demand 3 rest on it.
-- legacy_peripheral.rs, the responder: each of its functions as a program of host calls, under its name. What a function calls
-- stands before it, so the FSM core comes last; else the order is the file's. In the same words in both files, and so in
-- Handlers: `addr_type_flag`, `enter`, `store_confirm_bytes`, `handle_encryption_information`,
-- `handle_identity_information`. With the machine stand `result_of`, `is_encrypted` and `new_machine` (`new`);
-- `mark_timeout` is left out with the timer. Assumes nothing.
use Rattle.std.specs.Prelude.{ℕ, Bool, true, false, not, List, Option, Some, None, eqb}
use Rattle.crypto.specs.Crypto.{c1_of, s1_of}
use Rattle.crypto.specs.declared.crypto.Confirm.{Confirm}
use Rattle.crypto.specs.declared.crypto.Nonce.{Nonce}
use Rattle.smp_types.specs.Types.{bonding_code, feature_octets, with_flag, mitm_flag, encryption_key_flag, identity_key_flag}
use Rattle.smp_types.specs.declared.capabilities.IoCapabilities.{IoCapabilities}
use Rattle.smp_types.specs.declared.capabilities.IoCapabilities.TheVariants as io
use Rattle.smp_types.specs.declared.types.AuthReq.{AuthReq}
use Rattle.smp_types.specs.declared.types.BondingFlag.TheVariants.{NoBonding, Bonding}
use Rattle.smp_types.specs.declared.types.Command.TheVariants as command
use Rattle.smp_types.specs.declared.types.KeyDistributionFlags.{KeyDistributionFlags}
use Rattle.smp_types.specs.declared.types.PairingFeatures.{PairingFeatures}
use Rattle.smp_types.specs.declared.types.Reason.TheVariants as reason
use Rattle.smp_types.specs.declared.types.UseOutOfBand.{UseOutOfBand}
use Rattle.smp_types.specs.declared.types.UseOutOfBand.TheVariants.{Present}
use Rattle.util.specs.Method.{legacy_method}
use Rattle.util.specs.declared.util.PairingMethod.{PairingMethod}
use Rattle.util.specs.declared.util.PairingMethod.TheVariants as method
use Rattle.util.specs.declared.util.PassKeyEntryAction.TheVariants as action
use Rattle.bond.specs.Bond.{bd_addr_octets}
use Rattle.bond.specs.declared.Error.TheVariants.{Security, InvalidValue}
use Rattle.host_calls.specs.declared.call.ConnectionEvent.TheVariants as notice
use Rattle.host_calls.specs.declared.call.Draw.TheVariants as draw
use Rattle.host_calls.specs.declared.call.Packet.TheVariants as packet
use Rattle.host_calls.specs.declared.call.Question.TheVariants as question
use Rattle.machine.specs.Machine.{no_confirm_data, want_bonding}
use Rattle.machine.specs.declared.ConfirmPhaseData.{ConfirmPhaseData}
use Rattle.machine.specs.declared.Input.{Input}
use Rattle.machine.specs.declared.Machine.{Machine}
use Rattle.machine.specs.declared.PairingData.{PairingData}
use Rattle.machine.specs.declared.Phase.{Phase}
use Rattle.machine.specs.declared.Phase.TheVariants as phase
use Rattle.protocol.specs.Program.{bind}
use Rattle.protocol.specs.Ops.{Program}
use Rattle.protocol.specs.Handlers.{addr_type_flag, Handler, ◌>>=◌, ◌>>◌, give, fail, or_fail, send_packet, send_event, attempt_event, asked, drawn, bonded_encryption, word_in, features_in, identification_in, address_in, command_octets, names_encryption_key, names_identity_key, enters, confirm_data, with_tk, with_nonce, pass_key_tk, with_features, with_bond, with_keys, with_identity_address, on_command, on_link_encrypted, on_pass_key_input, on_pass_key_cancel, on_oob_data, on_receiving_keys, other_input, entered, store_confirm_bytes, send_encryption_key, send_identity_key, enable_encryption, handle_encryption_information, handle_identity_information}

-- c1 of a nonce; ia is the initiator's address, here the peer's
unfoldable pub confirm_value : ConfirmPhaseData → PairingData → Nonce → Confirm
confirm_value c d r =
    c1_of c.tk r c.preq c.pres
    (addr_type_flag d.peer_address) (bd_addr_octets d.peer_address.addr)
    (addr_type_flag d.local_address) (bd_addr_octets d.local_address.addr)

-- ---- Transition helpers

-- whether the request names the central's identity key
abbrev pub identity_named : PairingData → Bool
identity_named d = names_identity_key d.peer_features.initiator_key_distribution

-- it is awaited where it is named
unfoldable pub await_identity_or_succeed : PairingData → Bool → Handler Machine
await_identity_or_succeed d true = give (enters phase.WaitingIdentitityInformation no_confirm_data d)
await_identity_or_succeed d false = give (enters phase.Success no_confirm_data d)

-- .. and before it the encryption key
unfoldable pub await_keys : PairingData → Bool → Handler Machine
await_keys d true = give (enters (phase.ReceivingKeys 0 (record { 0 = 0 })) no_confirm_data d)
await_keys d false = await_identity_or_succeed d (identity_named d)

-- its own keys are sent first, and whole; the bond keeps the LTK cut, EDIV and Rand
unfoldable pub send_all_keys : PairingData → Handler Machine
send_all_keys d = do
  let named = d.local_features.responder_key_distribution
  d₁ ← send_encryption_key d (λ ltk ediv rand. with_keys ltk ediv rand d) (names_encryption_key named)
  send_identity_key d₁ (names_identity_key named)
  await_keys d₁ (names_encryption_key d.peer_features.initiator_key_distribution)

unfoldable pub send_keys_or_await_identity : PairingData → Bool → Handler Machine
send_keys_or_await_identity d true = send_all_keys d
send_keys_or_await_identity d false = await_identity_or_succeed d (identity_named d)

-- `before_request` where the previous state is WaitingPairingRequest: there an earlier bond encrypts the link
unfoldable pub handle_link_encrypted_success : PairingData → (before_request : Bool) → Handler Machine
handle_link_encrypted_success d true = do
  bond ← bonded_encryption d
  send_keys_or_await_identity (with_bond bond d) false
handle_link_encrypted_success d false = send_keys_or_await_identity d (want_bonding d)

-- Sconfirm = c1 of a fresh Srand goes out
unfoldable pub send_sconfirm : ConfirmPhaseData → PairingData → Handler ConfirmPhaseData
send_sconfirm c d = do
  srand ← drawn draw.Nonce
  send_packet d (packet.PairingConfirm (confirm_value c d srand))
  give (with_nonce c srand)

abbrev pub answer_confirm : ConfirmPhaseData → PairingData → Confirm → Handler Machine
answer_confirm c d confirm = do
  c₁ ← send_sconfirm c d
  give (enters (phase.WaitingPairingRandom confirm) c₁ d)

unfoldable pub handle_peer_confirm : ConfirmPhaseData → PairingData → List ℕ → Handler Machine
handle_peer_confirm c d payload = do
  confirm ← or_fail d (Security reason.InvalidParameters) (word_in payload)
  answer_confirm c d (record { 0 = confirm })

-- an early confirm value is answered as soon as the passkey is typed
unfoldable pub handle_pass_key_input : ConfirmPhaseData → PairingData → ℕ → Option Confirm → Handler Machine
handle_pass_key_input c d input (Some confirm) = answer_confirm (with_tk c (pass_key_tk input)) d confirm
handle_pass_key_input c d input None = give (enters phase.WaitingPairingConfirm (with_tk c (pass_key_tk input)) d)

-- ---- Protocol helpers

-- a request while there is a bond: the host is told BondLost
abbrev pub bond_lost : Bool → Handler (Unit {0})
bond_lost true = attempt_event notice.BondLost
bond_lost false = give tt

abbrev pub add_key : ℕ → KeyDistributionFlags → Bool → KeyDistributionFlags
add_key i f true = record { 0 = with_flag i f.0 }
add_key i f false = f

-- what the request names is added to what the local features name
unfoldable pub initiator_keys : KeyDistributionFlags → KeyDistributionFlags → KeyDistributionFlags
initiator_keys local peer =
    add_key encryption_key_flag (add_key identity_key_flag local (names_identity_key peer)) (names_encryption_key peer)

-- .. of the identity key only where `offered`
unfoldable pub responder_keys : KeyDistributionFlags → KeyDistributionFlags → (offered : Bool) → KeyDistributionFlags
responder_keys local peer offered =
    add_key encryption_key_flag (add_key identity_key_flag local offered) (names_encryption_key peer)

-- without a local IRK, identity key distribution is declined
abbrev pub identity_offered : (named : Bool) → Handler Bool
identity_offered true = do
  irk ← asked question.LocalIrk
  give (not (eqb irk.0 0))
identity_offered false = give false

-- protection against a man in the middle, where there is any input or output
abbrev pub with_mitm : AuthReq → IoCapabilities → AuthReq
with_mitm a io.NoInputNoOutput = a
with_mitm a io.DisplayOnly = record { 0 = with_flag mitm_flag a.0 }
with_mitm a io.DisplayYesNo = record { 0 = with_flag mitm_flag a.0 }
with_mitm a io.KeyboardOnly = record { 0 = with_flag mitm_flag a.0 }
with_mitm a io.KeyboardDisplay = record { 0 = with_flag mitm_flag a.0 }

abbrev pub new_legacy : (bonding : Bool) → AuthReq
new_legacy true = record { 0 = bonding_code Bonding }
new_legacy false = record { 0 = bonding_code NoBonding }

abbrev pub with_oob : UseOutOfBand → (available : Bool) → UseOutOfBand
with_oob o true = Present
with_oob o false = o

-- the local features as the response has them
unfoldable pub response_features : PairingFeatures → PairingFeatures → (offered bonding available : Bool) → PairingFeatures
response_features local peer offered bonding available =
    record {
      io_capabilities = local.io_capabilities;
      use_oob = with_oob local.use_oob available;
      security_properties = with_mitm (new_legacy bonding) local.io_capabilities;
      maximum_encryption_key_size = local.maximum_encryption_key_size;
      initiator_key_distribution =
          initiator_keys local.initiator_key_distribution peer.initiator_key_distribution;
      responder_key_distribution =
          responder_keys local.responder_key_distribution peer.responder_key_distribution offered;
    }

-- the method that was chosen begins
unfoldable pub begin_method : List ℕ → List ℕ → PairingData → PairingMethod → Handler Machine
begin_method preq pres d method.OutOfBand = do
  send_event d notice.OobRequest
  give (enters phase.WaitingOobData (confirm_data 0 preq pres) d)
begin_method preq pres d (method.PassKeyEntry central action.Display) = do
  tk ← drawn draw.PassKey
  send_event d (notice.PassKeyDisplay tk)
  give (enters phase.WaitingPairingConfirm (confirm_data (pass_key_tk tk.0) preq pres) d)
begin_method preq pres d (method.PassKeyEntry central action.Input) = do
  send_event d notice.PassKeyInput
  give (enters (phase.WaitingPassKeyInput None) (confirm_data 0 preq pres) d)
begin_method preq pres d method.JustWorks = give (enters phase.WaitingPairingConfirm (confirm_data 0 preq pres) d)
begin_method preq pres d method.NumericComparison = fail d (Security reason.AuthenticationRequirements)

unfoldable pub handle_pairing_request : PairingData → List ℕ → Handler Machine
handle_pairing_request d payload = do
  bond_found ← asked question.FindBond
  bond_lost bond_found
  peer ← or_fail d (Security reason.InvalidParameters) (features_in payload)
  offered ← identity_offered (names_identity_key peer.responder_key_distribution)
  bonding ← asked question.BondingFlag
  available ← asked question.OobAvailable
  let local = response_features d.local_features peer offered bonding available
  let d₁ = with_features local peer (legacy_method peer local) d
  send_packet d₁ (packet.PairingResponse local)
  let preq = command_octets command.PairingRequest payload
  let pres = command_octets command.PairingResponse (feature_octets local)
  begin_method preq pres d₁ d₁.pairing_method

-- Srand goes out only where Mrand agrees with Mconfirm
abbrev pub on_mrand : ConfirmPhaseData → PairingData → Nonce → (agrees : Bool) → Handler Machine
on_mrand c d mrand true = do
  send_packet d (packet.PairingRandom c.local_nonce)
  enable_encryption d (s1_of c.tk c.local_nonce mrand)
on_mrand c d mrand false = fail d (Security reason.ConfirmValueFailed)

unfoldable pub handle_pairing_random : ConfirmPhaseData → PairingData → Confirm → List ℕ → Handler Machine
handle_pairing_random c d confirm payload = do
  word ← or_fail d (Security reason.InvalidParameters) (word_in payload)
  let mrand : Nonce = record { 0 = word }
  on_mrand c d mrand (eqb (confirm_value c d mrand).0 confirm.0)

-- the central's EDIV and Rand are not kept: the bond has the peripheral's own
unfoldable pub handle_central_identification : PairingData → List ℕ → Handler Machine
handle_central_identification d payload = do
  identification ← or_fail d (Security reason.InvalidParameters) (identification_in payload)
  await_identity_or_succeed d (identity_named d)

unfoldable pub handle_identity_address_information : PairingData → List ℕ → Handler Machine
handle_identity_address_information d payload = do
  address ← or_fail d InvalidValue (address_in payload)
  give (enters phase.Success no_confirm_data (with_identity_address address d))

-- ---- FSM core

abbrev pub link_encrypted : PairingData → (before_request : Bool) → Bool → Handler Machine
link_encrypted d before_request true = handle_link_encrypted_success d before_request
link_encrypted d before_request false = fail d (Security reason.KeyRejected)

-- a row for each state, in the order of the enum: what it awaits, then any other input
abbrev pub transition_from : Machine → List ℕ → Input → Phase → Handler Machine
transition_from m payload i phase.WaitingPairingRequest =
    on_command command.PairingRequest i (handle_pairing_request m.pairing_data payload)
    (on_link_encrypted i (link_encrypted m.pairing_data true)
    (other_input m payload i))
transition_from m payload i (phase.WaitingPassKeyInput confirm_bytes) =
    on_command command.PairingConfirm i (store_confirm_bytes m.confirm_data m.pairing_data payload)
    (on_pass_key_input i (λ n. handle_pass_key_input m.confirm_data m.pairing_data n confirm_bytes)
    (on_pass_key_cancel i (fail m.pairing_data (Security reason.PasskeyEntryFailed))
    (other_input m payload i)))
transition_from m payload i phase.WaitingOobData =
    on_oob_data i (λ random. give (enters phase.WaitingPairingConfirm (with_tk m.confirm_data random) m.pairing_data))
    (other_input m payload i)
transition_from m payload i phase.WaitingPairingConfirm =
    on_command command.PairingConfirm i (handle_peer_confirm m.confirm_data m.pairing_data payload)
    (other_input m payload i)
transition_from m payload i (phase.WaitingPairingRandom confirm) =
    on_command command.PairingRandom i (handle_pairing_random m.confirm_data m.pairing_data confirm payload)
    (other_input m payload i)
transition_from m payload i phase.WaitingLinkEncrypted =
    on_link_encrypted i (link_encrypted m.pairing_data false)
    (other_input m payload i)
transition_from m payload i phase.WaitingIdentitityInformation =
    on_command command.IdentityInformation i (handle_identity_information m.pairing_data payload)
    (other_input m payload i)
transition_from m payload i phase.WaitingIdentitityAddressInformation =
    on_command command.IdentityAddressInformation i (handle_identity_address_information m.pairing_data payload)
    (other_input m payload i)
transition_from m payload i (phase.ReceivingKeys n ltk) =
    on_receiving_keys n i
    (handle_encryption_information m.pairing_data payload)
    (handle_central_identification m.pairing_data payload)
    (other_input m payload i)
transition_from m payload i phase.Success = other_input m payload i
transition_from m payload i (phase.Error e) = other_input m payload i
transition_from m payload i phase.WaitingPairingResponse = other_input m payload i

unfoldable pub transition : Machine → Input → List ℕ → Handler Machine
transition m i payload = transition_from m payload i m.phase

unfoldable pub handle_input : Machine → Input → List ℕ → Program Machine
handle_input m i payload = bind (transition m i payload) entered
