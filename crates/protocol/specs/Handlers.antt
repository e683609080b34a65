-- Believed: the archive's contracts and demand 3 rest on it.
-- What the handlers of both roles are made of: the Rust's `?`, payloads, the data that a handler changes, and the parts
-- that legacy_peripheral.rs and legacy_central.rs have in the same words. Assumes nothing.
use Rattle.std.specs.Prelude.{ℕ, Bool, true, false, cond, List, [], ◌∷◌, eqb, ltb, length, get_or, take, drop, Option, Some, None, Result, Ok, Err}
use Rattle.octets.specs.Answer.{Answer, refused, accepted}
use Rattle.octets.specs.Octets.{from_octets, word_of}
use Rattle.crypto.specs.Crypto.{masked_of}
use Rattle.crypto.specs.declared.crypto.IdentityResolvingKey.{IdentityResolvingKey}
use Rattle.crypto.specs.declared.crypto.LongTermKey.{LongTermKey}
use Rattle.crypto.specs.declared.crypto.Nonce.{Nonce}
use Rattle.smp_types.specs.Types.{command_code, feature_size, features_of, flag, encryption_key_flag, identity_key_flag, reason_of}
use Rattle.smp_types.specs.declared.types.Command.{Command}
use Rattle.smp_types.specs.declared.types.Command.TheVariants as command
use Rattle.smp_types.specs.declared.types.KeyDistributionFlags.{KeyDistributionFlags}
use Rattle.smp_types.specs.declared.types.PairingFeatures.{PairingFeatures}
use Rattle.smp_types.specs.declared.types.Reason.{Reason}
use Rattle.smp_types.specs.declared.types.Reason.TheVariants as reason
use Rattle.util.specs.Method.{security_level}
use Rattle.util.specs.declared.util.PairingMethod.{PairingMethod}
use Rattle.bond.specs.Bond.{address_of, address_type}
use Rattle.bond.specs.declared.Address.{Address}
use Rattle.bond.specs.declared.BondInformation.{BondInformation}
use Rattle.bond.specs.declared.Error.{Error}
use Rattle.bond.specs.declared.Error.TheVariants.{Security, InvalidState, InvalidValue}
use Rattle.bond.specs.declared.Identity.{Identity}
use Rattle.host_calls.specs.declared.call.Packet.{Packet}
use Rattle.host_calls.specs.declared.call.Packet.TheVariants as packet
use Rattle.host_calls.specs.declared.call.ConnectionEvent.{ConnectionEvent}
use Rattle.host_calls.specs.declared.call.ConnectionEvent.TheVariants as notice
use Rattle.host_calls.specs.declared.call.Question.{Question}
use Rattle.host_calls.specs.declared.call.Question.TheVariants as question
use Rattle.host_calls.specs.declared.call.Draw.{Draw}
use Rattle.host_calls.specs.declared.call.Draw.TheVariants as draw
use Rattle.host_calls.specs.declared.call.Call.TheVariants as call
use Rattle.machine.specs.Machine.{kept_by, no_confirm_data, want_bonding}
use Rattle.machine.specs.declared.ConfirmPhaseData.{ConfirmPhaseData}
use Rattle.machine.specs.declared.Event.TheVariants as event
use Rattle.machine.specs.declared.Input.{Input}
use Rattle.machine.specs.declared.Input.TheVariants as input
use Rattle.machine.specs.declared.Machine.{Machine}
use Rattle.machine.specs.declared.PairingData.{PairingData}
use Rattle.machine.specs.declared.Phase.{Phase}
use Rattle.machine.specs.declared.Phase.TheVariants as phase
use Rattle.protocol.specs.Program.{ret, ask, bind}
use Rattle.protocol.specs.Ops.{Delivery, delivered, undelivered, question_reply, draw_reply, Holds, Program}

-- ---- a handler: it gives a result, or the Rust's Err, beside the pairing data as they are by then

pub data Try (A : Type 0) : Type 0 where
  ok : A → Try A
  err : PairingData → Error → Try A

abbrev pub Handler : Type 0 → Type 0
Handler A = Program (Try A)

abbrev pub give : {A : Type 0} → A → Handler A
give a = ret (ok a)

abbrev pub fail : {A : Type 0} → PairingData → Error → Handler A
fail d e = ret (err d e)

-- the Rust's `?`
abbrev pub on_try : {A B : Type 0} → (A → Handler B) → Try A → Handler B
on_try f (ok a) = f a
on_try f (err d e) = fail d e

abbrev pub ◌>>=◌ : {A B : Type 0} → Handler A → (A → Handler B) → Handler B
◌>>=◌ p f = bind p (on_try f)

abbrev pub ◌>>◌ : {A B : Type 0} → Handler A → Handler B → Handler B
◌>>◌ p q = bind p (on_try (λ a. q))

-- `.map_err(..)?` of what may not be there
abbrev pub or_fail : {A : Type 0} → PairingData → Error → Option A → Handler A
or_fail d e None = fail d e
or_fail d e (Some a) = give a

-- ---- host calls in a handler

abbrev pub on_delivery : PairingData → Delivery → Handler (Unit {0})
on_delivery d delivered = give tt
on_delivery d (undelivered e) = fail d e

-- `ops.try_send_packet(packet)?`
abbrev pub send_packet : PairingData → Packet → Handler (Unit {0})
send_packet d p = ask (call.SendPacket p) (on_delivery d)

-- `ops.try_send_connection_event(event)?`
abbrev pub send_event : PairingData → ConnectionEvent → Handler (Unit {0})
send_event d e = ask (call.SendConnectionEvent e) (on_delivery d)

-- an event whose failure does not matter
abbrev pub attempt_event : ConnectionEvent → Handler (Unit {0})
attempt_event e = ask (call.SendConnectionEvent e) (λ r. give tt)

abbrev pub asked : (q : Question) → Handler (Holds (question_reply q))
asked q = ask (call.Ask q) (λ r. give r)

abbrev pub drawn : (n : Draw) → Handler (Holds (draw_reply n))
drawn n = ask (call.Draw n) (λ r. give r)

abbrev pub on_address : PairingData → Result Address Error → Handler Address
on_address d (Ok a) = give a
on_address d (Err e) = fail d e

-- `ops.local_identity_address()?`
abbrev pub identity_address : PairingData → Handler Address
identity_address d = ask (call.Ask question.LocalIdentityAddress) (on_address d)

abbrev pub on_bond : PairingData → Result BondInformation Error → Handler BondInformation
on_bond d (Ok b) = give b
on_bond d (Err e) = fail d e

abbrev pub on_option_bond : PairingData → Result (Option BondInformation) Error → Handler (Option BondInformation)
on_option_bond d (Ok b) = give b
on_option_bond d (Err e) = fail d e

-- `ops.try_enable_bonded_encryption()?`
abbrev pub bonded_encryption : PairingData → Handler (Option BondInformation)
bonded_encryption d = ask call.EnableBondedEncryption (on_option_bond d)

-- ---- payloads

-- exactly 16 octets
unfoldable pub word_in : List ℕ → Option ℕ
word_in payload = cond (eqb (length payload) 16) (Some (word_of payload)) None

abbrev pub answered : {A : Type 0} → Answer A → Option A
answered (refused n) = None
answered (accepted a) = Some a

-- a request or a response: six octets that are a record. The Rust panics on more; document 01 has InvalidParameters
unfoldable pub features_in : List ℕ → Option PairingFeatures
features_in payload = cond (eqb (length payload) feature_size) (answered (features_of payload)) None

-- EDIV and Rand, the first 10 octets; none under 10
unfoldable pub identification_in : List ℕ → Option (ℕ × ℕ)
identification_in payload =
    cond (ltb (length payload) 10) None
    (Some (from_octets (take 2 payload), from_octets (take 8 (drop 2 payload))))

-- address kind 0 or 1, then six octets. The Rust panics under 7; document 01 has InvalidValue
unfoldable pub address_in : List ℕ → Option Address
address_in payload =
    cond (ltb (length payload) 7) None
    (cond (ltb 1 (get_or payload 0 0)) None
    (Some (address_of (take 7 payload))))

-- the reason in PairingFailed. The Rust panics on none; document 01 has UnspecifiedReason
unfoldable pub reason_in : List ℕ → Reason
reason_in [] = reason.UnspecifiedReason
reason_in (x ∷ payload) = reason_of x

-- a command with its code, for c1
abbrev pub command_octets : Command → List ℕ → List ℕ
command_octets c payload = command_code c ∷ payload

-- ---- key distribution flags

abbrev pub names_encryption_key : KeyDistributionFlags → Bool
names_encryption_key f = flag encryption_key_flag f.0

abbrev pub names_identity_key : KeyDistributionFlags → Bool
names_identity_key f = flag identity_key_flag f.0

-- ---- the machine that a handler gives

-- a state is entered with what it holds of the confirm data; the rest is zero
abbrev pub enters : Phase → ConfirmPhaseData → PairingData → Machine
enters p c d = record { phase = p; confirm_data = kept_by p c; pairing_data = d }

abbrev pub confirm_data : ℕ → List ℕ → List ℕ → ConfirmPhaseData
confirm_data tk preq pres = record { tk = tk; preq = preq; pres = pres; local_nonce = record { 0 = 0 } }

-- with a temporary key, and no nonce yet
abbrev pub with_tk : ConfirmPhaseData → ℕ → ConfirmPhaseData
with_tk c tk = confirm_data tk c.preq c.pres

abbrev pub with_nonce : ConfirmPhaseData → Nonce → ConfirmPhaseData
with_nonce c n = record { tk = c.tk; preq = c.preq; pres = c.pres; local_nonce = n }

-- a passkey as a temporary key
abbrev pub pass_key_tk : ℕ → ℕ
pass_key_tk n = n

-- ---- pairing data with other parts

abbrev pub with_features : PairingFeatures → PairingFeatures → PairingMethod → PairingData → PairingData
with_features local peer method d =
    record {
      local_address = d.local_address;
      peer_address = d.peer_address;
      local_features = local;
      peer_features = peer;
      pairing_method = method;
      bond_information = d.bond_information;
    }

abbrev pub with_bond : Option BondInformation → PairingData → PairingData
with_bond b d =
    record {
      local_address = d.local_address;
      peer_address = d.peer_address;
      local_features = d.local_features;
      peer_features = d.peer_features;
      pairing_method = d.pairing_method;
      bond_information = b;
    }

abbrev pub with_peer_address : Address → PairingData → PairingData
with_peer_address a d =
    record {
      local_address = d.local_address;
      peer_address = a;
      local_features = d.local_features;
      peer_features = d.peer_features;
      pairing_method = d.pairing_method;
      bond_information = d.bond_information;
    }

-- `if let Some(ref mut bond)`
abbrev pub change_bond : (BondInformation → BondInformation) → Option BondInformation → Option BondInformation
change_bond f (Some b) = Some (f b)
change_bond f None = None

abbrev pub on_bond_of : (BondInformation → BondInformation) → PairingData → PairingData
on_bond_of f d = with_bond (change_bond f d.bond_information) d

-- the smaller maximum
abbrev pub smaller : ℕ → ℕ → ℕ
smaller a b = cond (ltb a b) a b

unfoldable pub negotiated_key_size : PairingData → ℕ
negotiated_key_size d =
    smaller d.peer_features.maximum_encryption_key_size d.local_features.maximum_encryption_key_size

-- the responder's keys in the bond, the LTK cut to the negotiated size
unfoldable pub with_keys : LongTermKey → ℕ → ℕ → PairingData → PairingData
with_keys ltk ediv rand d =
    on_bond_of (λ b. record {
      ltk = masked_of (negotiated_key_size d) ltk;
      ediv = ediv;
      rand = rand;
      is_bonded = want_bonding d;
      security_level = b.security_level;
      identity = b.identity;
    }) d

-- the peer's identity in the bond, where there is one
abbrev pub on_identity_of : (Identity → Identity) → PairingData → PairingData
on_identity_of f d =
    on_bond_of (λ b. record {
      ltk = b.ltk;
      ediv = b.ediv;
      rand = b.rand;
      is_bonded = b.is_bonded;
      security_level = b.security_level;
      identity = f b.identity;
    }) d

unfoldable pub with_irk : IdentityResolvingKey → PairingData → PairingData
with_irk k d = on_identity_of (λ i. record { irk = k; addr = i.addr }) d

-- in the pairing data too
unfoldable pub with_identity_address : Address → PairingData → PairingData
with_identity_address a d = on_identity_of (λ i. record { irk = i.irk; addr = a }) (with_peer_address a d)

-- ---- inputs: what a state does with the one that it awaits, and with any other

abbrev pub on_command : {A : Type 0} → Command → Input → A → A → A
on_command c (input.Command code) p q = cond (eqb code (command_code c)) p q
on_command c (input.Event e) p q = q

abbrev pub on_link_encrypted : {A : Type 0} → Input → (Bool → A) → A → A
on_link_encrypted (input.Command code) p q = q
on_link_encrypted (input.Event (event.LinkEncryptedResult b)) p q = p b
on_link_encrypted (input.Event event.PassKeyConfirm) p q = q
on_link_encrypted (input.Event event.PassKeyCancel) p q = q
on_link_encrypted (input.Event (event.PassKeyInput n)) p q = q
on_link_encrypted (input.Event (event.OobDataReceived w)) p q = q

abbrev pub on_pass_key_input : {A : Type 0} → Input → (ℕ → A) → A → A
on_pass_key_input (input.Command code) p q = q
on_pass_key_input (input.Event (event.LinkEncryptedResult b)) p q = q
on_pass_key_input (input.Event event.PassKeyConfirm) p q = q
on_pass_key_input (input.Event event.PassKeyCancel) p q = q
on_pass_key_input (input.Event (event.PassKeyInput n)) p q = p n
on_pass_key_input (input.Event (event.OobDataReceived w)) p q = q

abbrev pub on_pass_key_cancel : {A : Type 0} → Input → A → A → A
on_pass_key_cancel (input.Command code) p q = q
on_pass_key_cancel (input.Event (event.LinkEncryptedResult b)) p q = q
on_pass_key_cancel (input.Event event.PassKeyConfirm) p q = q
on_pass_key_cancel (input.Event event.PassKeyCancel) p q = p
on_pass_key_cancel (input.Event (event.PassKeyInput n)) p q = q
on_pass_key_cancel (input.Event (event.OobDataReceived w)) p q = q

abbrev pub on_oob_data : {A : Type 0} → Input → (ℕ → A) → A → A
on_oob_data (input.Command code) p q = q
on_oob_data (input.Event (event.LinkEncryptedResult b)) p q = q
on_oob_data (input.Event event.PassKeyConfirm) p q = q
on_oob_data (input.Event event.PassKeyCancel) p q = q
on_oob_data (input.Event (event.PassKeyInput n)) p q = q
on_oob_data (input.Event (event.OobDataReceived w)) p q = p w

-- ReceivingKeys awaits EncryptionInformation in its phase 0, CentralIdentification in its phase 1
abbrev pub on_receiving_keys : {A : Type 0} → ℕ → Input → A → A → A → A
on_receiving_keys n i p q r =
    cond (eqb n 0) (on_command command.EncryptionInformation i p r)
    (cond (eqb n 1) (on_command command.CentralIdentification i q r) r)

-- an input that the state does not await: KeypressNotification and passkey events leave the state, PairingFailed is the
-- peer's error in any state, all others are InvalidState. (A code that is no command does not come here: the step
-- refuses it.)
unfoldable pub other_input : Machine → List ℕ → Input → Handler Machine
other_input m payload (input.Command code) =
    cond (eqb code (command_code command.KeypressNotification)) (give m)
    (cond (eqb code (command_code command.PairingFailed)) (fail m.pairing_data (Security (reason_in payload)))
    (fail m.pairing_data InvalidState))
other_input m payload (input.Event (event.LinkEncryptedResult b)) = fail m.pairing_data InvalidState
other_input m payload (input.Event event.PassKeyConfirm) = give m
other_input m payload (input.Event event.PassKeyCancel) = give m
other_input m payload (input.Event (event.PassKeyInput n)) = give m
other_input m payload (input.Event (event.OobDataReceived w)) = fail m.pairing_data InvalidState

-- ---- parts that both files have in the same words

-- the octets of an address are as on the air, so `addr_bytes_mso` is not needed
abbrev pub addr_type_flag : Address → ℕ
addr_type_flag a = address_type a

-- entering a state: PairingFailed in Error; in Success, where there is a bond, its update where both want to bond, then
-- PairingComplete. Failures do not matter
abbrev pub complete : Machine → ℕ → Option BondInformation → Program Machine
complete m level b = ask (call.SendConnectionEvent (notice.PairingComplete level b)) (λ r. ret m)

abbrev pub enter_bonded : Machine → BondInformation → Bool → Program Machine
enter_bonded m b true = ask (call.UpdateBondInformation b) (λ r. complete m b.security_level (Some b))
enter_bonded m b false = complete m b.security_level None

abbrev pub enter_success : Machine → Option BondInformation → Program Machine
enter_success m (Some b) = enter_bonded m b (want_bonding m.pairing_data)
enter_success m None = ret m

abbrev pub enter_phase : Machine → Phase → Program Machine
enter_phase m (phase.Error e) = ask (call.SendConnectionEvent (notice.PairingFailed e)) (λ r. ret m)
enter_phase m phase.Success = enter_success m m.pairing_data.bond_information
enter_phase m phase.WaitingPairingRequest = ret m
enter_phase m phase.WaitingPairingResponse = ret m
enter_phase m (phase.WaitingPassKeyInput b) = ret m
enter_phase m phase.WaitingOobData = ret m
enter_phase m phase.WaitingPairingConfirm = ret m
enter_phase m (phase.WaitingPairingRandom c) = ret m
enter_phase m phase.WaitingLinkEncrypted = ret m
enter_phase m phase.WaitingIdentitityInformation = ret m
enter_phase m phase.WaitingIdentitityAddressInformation = ret m
enter_phase m (phase.ReceivingKeys n k) = ret m

unfoldable pub enter : Machine → Program Machine
enter m = enter_phase m m.phase

-- `unwrap_or_else(Self::Error)`, then `enter`
abbrev pub entered : Try Machine → Program Machine
entered (ok m) = enter m
entered (err d e) = enter (enters (phase.Error e) no_confirm_data d)

-- a confirm value that comes while the passkey is typed
unfoldable pub store_confirm_bytes : ConfirmPhaseData → PairingData → List ℕ → Handler Machine
store_confirm_bytes c d payload = do
  confirm ← or_fail d InvalidValue (word_in payload)
  give (enters (phase.WaitingPassKeyInput (Some (record { 0 = confirm }))) c d)

-- the LTK that one end distributes, EDIV and Rand, where they were agreed; `kept` is what this end keeps of them
unfoldable pub send_encryption_key : PairingData → (LongTermKey → ℕ → ℕ → PairingData) → Bool → Handler PairingData
send_encryption_key d kept true = do
  ltk ← drawn draw.LongTermKey
  ediv ← drawn draw.Ediv
  rand ← drawn draw.Rand
  send_packet d (packet.EncryptionInformation ltk)
  send_packet d (packet.CentralIdentification ediv rand)
  give (kept ltk ediv rand)
send_encryption_key d kept false = give d

-- the IRK, then the identity address and not the one used in pairing, where they were agreed
unfoldable pub send_identity_key : PairingData → Bool → Handler (Unit {0})
send_identity_key d true = do
  irk ← asked question.LocalIrk
  send_packet d (packet.IdentityInformation irk)
  address ← identity_address d
  send_packet d (packet.IdentityAddressInformation address)
send_identity_key d false = give tt

-- encryption with the short-term key, cut to the negotiated size
unfoldable pub enable_encryption : PairingData → LongTermKey → Handler Machine
enable_encryption d stk = do
  let size = negotiated_key_size d
  bond ← ask (call.EnableEncryption (masked_of size stk) (security_level d.pairing_method) size) (on_bond d)
  give (enters phase.WaitingLinkEncrypted no_confirm_data (with_bond (Some bond) d))

unfoldable pub handle_encryption_information : PairingData → List ℕ → Handler Machine
handle_encryption_information d payload = do
  ltk ← or_fail d InvalidValue (word_in payload)
  give (enters (phase.ReceivingKeys 1 (record { 0 = ltk })) no_confirm_data d)

unfoldable pub handle_identity_information : PairingData → List ℕ → Handler Machine
handle_identity_information d payload = do
  irk ← or_fail d InvalidValue (word_in payload)
  give (enters phase.WaitingIdentitityAddressInformation no_confirm_data (with_irk (record { 0 = irk }) d))
