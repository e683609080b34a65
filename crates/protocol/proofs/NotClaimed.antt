-- What demand 3 does not speak of, or speaks of in words that both ends share: laws of the definitions, each part with an
-- edit that it refuses. (The answer's flags: Response. Where both type: Allowed. A refused step's counts, any list:
-- StepLaws. Inputs that a state does not await: Awaited, Corners.)
-- Assumes nothing.
use Rattle.std.specs.Prelude.{Option, Some, None, Result, Err}
use Prim.Native.Nat.{ℕ, ◌≤◌, ◌<◌}
use mathlib.Core.Path.{◌≡◌, refl, ap, ◌∙◌}
use mathlib.Core.Bool.{Bool, true, false, cond}
use mathlib.Core.List.{List, ◌∷◌}
use mathlib.Core.Logic.{◌⊎◌, inl, inr}
use lib.ListN.{length, get_or}
use native.Mathlib.Decide.{dec_lt}
use native.Mathlib.Omega.{arith}
use borrow.Author.Tests.{eq-eqb, ne_eqb, lt-ltb, le-ltb}
use Rattle.octets.specs.Octets.{word_of}
use Rattle.crypto.specs.Crypto.{c1_of, masked_of}
use Rattle.crypto.specs.declared.crypto.Confirm.{Confirm}
use Rattle.crypto.specs.declared.crypto.LongTermKey.{LongTermKey}
use Rattle.crypto.specs.declared.crypto.Nonce.{Nonce}
use Rattle.smp_types.specs.declared.types.Command.TheVariants as command
use Rattle.util.specs.Method.{security_level}
use Rattle.bond.specs.Bond.{address_type, bd_addr_octets, verdict_error}
use Rattle.bond.specs.declared.Address.{Address}
use Rattle.bond.specs.declared.BondInformation.{BondInformation}
use Rattle.bond.specs.declared.Error.{Error}
use Rattle.bond.specs.declared.Error.TheVariants.{OutOfMemory, Host}
use Rattle.host_calls.specs.declared.call.Call.TheVariants as call
use Rattle.host_calls.specs.declared.call.ConnectionEvent.TheVariants as notice
use Rattle.host_calls.specs.declared.call.Question.TheVariants as question
use Rattle.host_answers.specs.Answers.{found, address_body, encryption_body, bonded_body}
use Rattle.machine.specs.Machine.{no_confirm_data, want_bonding, result_of}
use Rattle.machine.specs.declared.ConfirmPhaseData.{ConfirmPhaseData}
use Rattle.machine.specs.declared.Event.TheVariants as event
use Rattle.machine.specs.declared.Input.TheVariants as input
use Rattle.machine.specs.declared.Machine.{Machine}
use Rattle.machine.specs.declared.PairingData.{PairingData}
use Rattle.machine.specs.declared.Phase.{Phase}
use Rattle.machine.specs.declared.Phase.TheVariants as phase
use Rattle.machine.specs.declared.Role.{Role}
use Rattle.machine.specs.declared.Role.TheVariants.{Central, Peripheral}
use Rattle.protocol.specs.Program.{ret, ask}
use Rattle.protocol.specs.Ops.{delivered, undelivered, delivery_of}
use Rattle.protocol.specs.Handlers.{Handler, ◌>>=◌, ◌>>◌, give, fail, on_option_bond, identity_address, bonded_encryption, word_in, command_octets}
use Rattle.protocol.specs.Handlers.{names_identity_key, enters, with_tk, with_bond, smaller, negotiated_key_size, pass_key_tk, addr_type_flag}
use Rattle.protocol.specs.Handlers.{enter_bonded, enter_success, enter_phase, enter, store_confirm_bytes, enable_encryption}
use Rattle.protocol.specs.LegacyCentral as central
use Rattle.protocol.specs.LegacyPeripheral as peripheral
use Rattle.protocol.proofs.Awaited.{transition_of}
use Rattle.protocol.proofs.Corners.{standing, received}

-- ---- values that both ends compute alike

-- the size is the smaller maximum: one of the two, and above neither
pub smaller_least : (a b : ℕ) → ((smaller a b ≡ a) ⊎ (smaller a b ≡ b)) × (smaller a b ≤ a) × (smaller a b ≤ b)
smaller_least a b = go (dec_lt a b)
  where
    go : Dec (a < b) → ((smaller a b ≡ a) ⊎ (smaller a b ≡ b)) × (smaller a b ≤ a) × (smaller a b ≤ b)
    go (yes p) = rw (lt-ltb a b p) (inl refl, omega arith, omega arith)
    go (no n) = rw (le-ltb a b (omega arith)) (inr refl, omega arith, omega arith)

-- Part H 2.3.5.3: a passkey is the temporary key's low part, the rest zero
pub passkey_is_tk : (n : ℕ) → pass_key_tk n ≡ n
passkey_is_tk n = refl

-- in c1, address kind 0 is 0, and any other counts as 1
pub kind_public : (a : Address) → a.kind ≡ 0 → addr_type_flag a ≡ 0
unfolding address_type
kind_public a h = ap (λ b. cond b 0 1) (eq-eqb a.kind 0 h)

pub kind_other : (a : Address) → (a.kind ≡ 0 → ⊥) → addr_type_flag a ≡ 1
unfolding address_type
kind_other a h = ap (λ b. cond b 0 1) (ne_eqb a.kind 0 h)

-- command_octets, of which preq and pres are made, puts the code in front: 0x01 of a request, 0x02 of a response
pub request_with_code : (payload : List ℕ) → command_octets command.PairingRequest payload ≡ 0x01 ∷ payload
request_with_code payload = refl

pub response_with_code : (payload : List ℕ) → command_octets command.PairingResponse payload ≡ 0x02 ∷ payload
response_with_code payload = refl

-- 0x3A has the key cut to the smaller maximum of both records, the method's level, and that size; where the host has an
-- error for it, the pairing fails with that error
pub encryption_called :
    (d : PairingData) (stk : LongTermKey) →
    let size = smaller d.peer_features.maximum_encryption_key_size d.local_features.maximum_encryption_key_size in
    (then : Result BondInformation Error → Handler Machine)
    × (enable_encryption d stk
    ≡ ask (call.EnableEncryption (masked_of size stk) (security_level d.pairing_method) size) then)
    × ((e : Error) → then (Err e) ≡ fail d e)
unfolding enable_encryption negotiated_key_size
encryption_called d stk = (_, refl, λ e. refl)

-- c1 of a nonce, as an end computes it
abbrev pub confirm_value_of : Role → ConfirmPhaseData → PairingData → Nonce → Confirm
confirm_value_of Central c d n = central.confirm_value c d n
confirm_value_of Peripheral c d n = peripheral.confirm_value c d n

-- .. and there ia with its kind is the initiator's, ra with its kind the responder's, in both roles
abbrev pub initiator_address : Role → PairingData → Address
initiator_address Central d = d.local_address
initiator_address Peripheral d = d.peer_address

abbrev pub responder_address : Role → PairingData → Address
responder_address Central d = d.peer_address
responder_address Peripheral d = d.local_address

pub addresses_in_c1 :
    (r : Role) (c : ConfirmPhaseData) (d : PairingData) (n : Nonce) →
    let i = initiator_address r d in
    let x = responder_address r d in
    confirm_value_of r c d n
    ≡ c1_of c.tk n c.preq c.pres (addr_type_flag i) (bd_addr_octets i.addr) (addr_type_flag x)
    (bd_addr_octets x.addr)
unfolding central.confirm_value peripheral.confirm_value
addresses_in_c1 Central c d n = refl
addresses_in_c1 Peripheral c d n = refl

-- ---- verdicts: 0 done, 1 out of memory, others a host error with that octet

-- of packets, events and updates
pub verdict_done : delivery_of 0 ≡ delivered
verdict_done = refl

pub verdict_out_of_memory : delivery_of 1 ≡ undelivered OutOfMemory
verdict_out_of_memory = refl

pub verdict_of_the_host : (v : ℕ) → (v ≡ 0 → ⊥) → (v ≡ 1 → ⊥) → delivery_of v ≡ undelivered (Host v)
verdict_of_the_host v h k = rw (ne_eqb v 0 h, ne_eqb v 1 k) refl

-- of the answers to 0x32, 0x3A and 0x3B, in the first octet: after another than 0 the rest of the body is ignored
module _ (body : List ℕ) (not_done : get_or body 0 0 ≡ 0 → ⊥) where
  pub address_refused : address_body body ≡ Err (verdict_error (get_or body 0 0))
  address_refused = rw (ne_eqb (get_or body 0 0) 0 not_done) refl

  pub encryption_refused : encryption_body body ≡ found (Err (verdict_error (get_or body 0 0)))
  encryption_refused = rw (ne_eqb (get_or body 0 0) 0 not_done) refl

  pub bonded_encryption_refused : bonded_body body ≡ found (Err (verdict_error (get_or body 0 0)))
  bonded_encryption_refused = rw (ne_eqb (get_or body 0 0) 0 not_done) refl

-- .. and the pairing fails with that error (to 0x3A: encryption_called)
pub address_asked :
    (d : PairingData) →
    (then : Result Address Error → Handler Address)
    × (identity_address d ≡ ask (call.Ask question.LocalIdentityAddress) then)
    × ((e : Error) → then (Err e) ≡ fail d e)
address_asked d = (_, refl, λ e. refl)

pub bonded_encryption_asked :
    (d : PairingData) →
    (then : Result (Option BondInformation) Error → Handler (Option BondInformation))
    × (bonded_encryption d ≡ ask call.EnableBondedEncryption then)
    × ((e : Error) → then (Err e) ≡ fail d e)
bonded_encryption_asked d = (_, refl, λ e. refl)

-- ---- a bonded reconnect: 0x3B is asked, then the identity key is awaited where it is named, else it is Success

abbrev pub reconnected : (named : Bool) → Phase
reconnected true = phase.WaitingIdentitityInformation
reconnected false = phase.Success

pub bonded_reconnect :
    (c : ConfirmPhaseData) (d : PairingData) (payload : List ℕ) →
    peripheral.transition (standing phase.WaitingPairingRequest c d) (input.Event (event.LinkEncryptedResult true)) payload
    ≡ ask call.EnableBondedEncryption (λ reply. ◌>>=◌ (on_option_bond d reply) (λ bond. give (enters
    (reconnected (names_identity_key d.peer_features.initiator_key_distribution)) no_confirm_data (with_bond bond d))))
unfolding peripheral.transition peripheral.handle_link_encrypted_success peripheral.send_keys_or_await_identity
    peripheral.await_identity_or_succeed
bonded_reconnect c d payload = go (names_identity_key d.peer_features.initiator_key_distribution)
  where
    go : (named : Bool) →
        ◌>>=◌ (bonded_encryption d) (λ bond. peripheral.await_identity_or_succeed (with_bond bond d) named)
        ≡ ask call.EnableBondedEncryption (λ reply. ◌>>=◌ (on_option_bond d reply) (λ bond. give (enters
        (reconnected named) no_confirm_data (with_bond bond d))))
    go true = refl
    go false = refl

-- ---- an early Confirm is stored, and answered as soon as the passkey is typed

pub early_confirm_stored :
    (r : Role) (b : Option Confirm) (c : ConfirmPhaseData) (d : PairingData) (payload : List ℕ) → length payload ≡ 16 →
    transition_of r (standing (phase.WaitingPassKeyInput b) c d) (received command.PairingConfirm) payload
    ≡ give (enters (phase.WaitingPassKeyInput (Some (record { 0 = word_of payload }))) c d)
unfolding central.transition peripheral.transition store_confirm_bytes word_in
early_confirm_stored Central b c d payload h = rw (eq-eqb (length payload) 16 h) refl
early_confirm_stored Peripheral b c d payload h = rw (eq-eqb (length payload) 16 h) refl

module _ (c : ConfirmPhaseData) (d : PairingData) (payload : List ℕ) (n : ℕ) (confirm : Confirm) where
  -- by Sconfirm
  pub early_confirm_at_the_head :
      peripheral.transition (standing (phase.WaitingPassKeyInput (Some confirm)) c d)
      (input.Event (event.PassKeyInput n)) payload
      ≡ ◌>>=◌ (peripheral.send_sconfirm (with_tk c (pass_key_tk n)) d)
      (λ c₁. give (enters (phase.WaitingPairingRandom confirm) c₁ d))
  unfolding peripheral.transition peripheral.handle_pass_key_input
  early_confirm_at_the_head = refl

  -- by Mrand, behind Mconfirm
  pub early_confirm_at_the_terminal :
      central.transition (standing (phase.WaitingPassKeyInput (Some confirm)) c d)
      (input.Event (event.PassKeyInput n)) payload
      ≡ ◌>>=◌ (central.send_mconfirm (with_tk c (pass_key_tk n)) d)
      (λ c₁. ◌>>◌ (central.send_mrand c₁ d) (give (enters (phase.WaitingPairingRandom confirm) c₁ d)))
  unfolding central.transition central.handle_pass_key_input
  early_confirm_at_the_terminal = refl

-- ---- a state that is neither Success nor Error is entered without a call

pub no_entry_call : (m : Machine) → result_of m.phase ≡ None → enter m ≡ ret m
unfolding enter
no_entry_call m h = go m.phase h
  where
    go : (p : Phase) → result_of p ≡ None → enter_phase m p ≡ ret m
    go phase.WaitingPairingRequest h = refl
    go phase.WaitingPairingResponse h = refl
    go (phase.WaitingPassKeyInput b) h = refl
    go phase.WaitingOobData h = refl
    go phase.WaitingPairingConfirm h = refl
    go (phase.WaitingPairingRandom c) h = refl
    go phase.WaitingLinkEncrypted h = refl
    go phase.WaitingIdentitityInformation h = refl
    go phase.WaitingIdentitityAddressInformation h = refl
    go (phase.ReceivingKeys n k) h = refl
    go phase.Success h = cc
    go (phase.Error e) h = cc

-- ---- Success is entered with the machine's bond

module _ (c : ConfirmPhaseData) (d : PairingData) (b : BondInformation) (h : d.bond_information ≡ Some b) where
  -- where both wish to bond: 0x3C with the bond, then 0x21 with its level and the bond
  pub bond_handed_on :
      want_bonding d ≡ true →
      enter (standing phase.Success c d)
      ≡ ask (call.UpdateBondInformation b)
      (λ x. ask (call.SendConnectionEvent (notice.PairingComplete b.security_level (Some b)))
      (λ y. ret (standing phase.Success c d)))
  unfolding enter want_bonding
  bond_handed_on w = ap (enter_success (standing phase.Success c d)) h ∙ ap (enter_bonded (standing phase.Success c d) b) w

  -- else 0x21 alone, with its level and no bond
  pub no_bond_handed_on :
      want_bonding d ≡ false →
      enter (standing phase.Success c d)
      ≡ ask (call.SendConnectionEvent (notice.PairingComplete b.security_level None))
      (λ x. ret (standing phase.Success c d))
  unfolding enter want_bonding
  no_bond_handed_on w = ap (enter_success (standing phase.Success c d)) h ∙ ap (enter_bonded (standing phase.Success c d) b) w

-- without a bond the host gets no call
pub no_bond_no_call :
    (c : ConfirmPhaseData) (d : PairingData) → d.bond_information ≡ None →
    enter (standing phase.Success c d) ≡ ret (standing phase.Success c d)
unfolding enter
no_bond_no_call c d h = ap (enter_success (standing phase.Success c d)) h
