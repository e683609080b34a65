-- Bounds of the central: each of its functions, and so a transition, makes at most so many calls of at most so many
-- octets, fails where a packet is not delivered, and gives a canonical machine. Assumes nothing.
use Rattle.std.specs.Prelude.{Option, Some, None, eqb}
use Prim.Native.Nat.{ℕ}
use mathlib.Core.Bool.{Bool, true, false}
use mathlib.Core.Path.{refl}
use mathlib.Core.List.{List}
use lib.Dec.{lit≤}
use Rattle.octets.specs.Octets.{octets_of}
use Rattle.crypto.specs.declared.crypto.Confirm.{Confirm}
use Rattle.crypto.specs.declared.crypto.LongTermKey.{LongTermKey}
use Rattle.crypto.specs.declared.crypto.Nonce.{Nonce}
use Rattle.smp_types.specs.declared.types.Command.TheVariants as command
use Rattle.util.specs.declared.util.PairingMethod.{PairingMethod}
use Rattle.util.specs.declared.util.PairingMethod.TheVariants as method
use Rattle.util.specs.declared.util.PassKeyEntryAction.TheVariants as action
use Rattle.host_calls.specs.Calls.{call_octets}
use Rattle.machine.specs.Machine.{want_bonding}
use Rattle.machine.specs.declared.ConfirmPhaseData.{ConfirmPhaseData}
use Rattle.machine.specs.declared.Input.{Input}
use Rattle.machine.specs.declared.Machine.{Machine}
use Rattle.machine.specs.declared.PairingData.{PairingData}
use Rattle.machine.specs.declared.Phase.{Phase}
use Rattle.machine.specs.declared.Phase.TheVariants as phase
use Rattle.machine.specs.declared.Role.TheVariants.{Central}
use Rattle.machine.proofs.Canonical.{Canonical}
use Rattle.protocol.specs.Handlers.{word_in, features_in, identification_in, address_in, confirm_data, pass_key_tk, store_confirm_bytes, send_encryption_key, send_identity_key, handle_encryption_information, handle_identity_information}
use Rattle.protocol.specs.LegacyCentral.{send_all_keys, await_identity_or_send, await_keys, await_keys_or_succeed, handle_link_encrypted_success, send_mconfirm, send_mrand, answer_confirm, handle_peer_confirm, after_mconfirm, handle_pass_key_input, begin_confirm, begin_method, handle_pairing_response, confirm_value, on_srand, handle_pairing_random, handle_central_identification, send_keys_or_succeed, handle_identity_address_information, link_encrypted, transition_from, transition}
use Rattle.protocol.proofs.Bounds.{Keeps, Anything, keeps_more, keeps_then, or_fail_then, delivered_then, delivered_last}
use Rattle.protocol.proofs.HandlerBounds.{store_confirm_bytes_keeps, send_encryption_key_keeps, send_identity_key_keeps, enable_encryption_keeps, encryption_information_keeps, identity_information_keeps, TransitionKeeps, keeps_by, other_input_keeps, on_command_lem, on_link_encrypted_lem, on_pass_key_input_lem, on_pass_key_cancel_lem, on_oob_data_lem, on_receiving_keys_lem}

-- a state that a handler of this role enters
abbrev Enters : Machine → Type 0
Enters m = Canonical Central m

-- the longest: both keys are sent
send_all_keys_keeps : (d : PairingData) → Keeps Enters 9 58 (send_all_keys d)
unfolding send_all_keys
send_all_keys_keeps d =
    keeps_then (send_encryption_key d _ _) _ Anything _ 9 58 5 31 (lit≤ tt) (lit≤ tt) (send_encryption_key_keeps d _ _)
    (λ d₁ u. keeps_then (send_identity_key d₁ _) _ Anything _ 4 27 4 27 (lit≤ tt) (lit≤ tt) (send_identity_key_keeps d₁ _)
    (λ v w. record { of_role = tt; kept = refl }))

await_identity_or_send_keeps : (d : PairingData) (b : Bool) → Keeps Enters 9 58 (await_identity_or_send d b)
unfolding await_identity_or_send
await_identity_or_send_keeps d true = record { of_role = tt; kept = refl }
await_identity_or_send_keeps d false = send_all_keys_keeps d

await_keys_keeps : (d : PairingData) (b : Bool) → Keeps Enters 9 58 (await_keys d b)
unfolding await_keys
await_keys_keeps d true = record { of_role = tt; kept = refl }
await_keys_keeps d false = await_identity_or_send_keeps d _

await_keys_or_succeed_keeps : (d : PairingData) (b : Bool) → Keeps Enters 9 58 (await_keys_or_succeed d b)
await_keys_or_succeed_keeps d true = await_keys_keeps d _
await_keys_or_succeed_keeps d false = record { of_role = tt; kept = refl }

link_encrypted_success_keeps : (d : PairingData) → Keeps Enters 9 58 (handle_link_encrypted_success d)
unfolding handle_link_encrypted_success
link_encrypted_success_keeps d = await_keys_or_succeed_keeps d (want_bonding d)

send_mconfirm_keeps : (c : ConfirmPhaseData) (d : PairingData) → Keeps Anything 2 18 (send_mconfirm c d)
unfolding send_mconfirm call_octets octets_of
send_mconfirm_keeps c d =
    (lit≤ tt, lit≤ tt, tt, λ mrand. (lit≤ tt, lit≤ tt, λ e. (d, refl), delivered_then _ _ _ _ d tt))

send_mrand_keeps : (c : ConfirmPhaseData) (d : PairingData) → Keeps Anything 1 17 (send_mrand c d)
unfolding send_mrand call_octets octets_of
send_mrand_keeps c d = (lit≤ tt, lit≤ tt, λ e. (d, refl), delivered_last _ _ d)

answer_confirm_keeps :
    (c : ConfirmPhaseData) (d : PairingData) (confirm : Confirm) → Keeps Enters 1 17 (answer_confirm c d confirm)
answer_confirm_keeps c d confirm =
    keeps_then (send_mrand c d) _ Anything _ 1 17 1 17 (lit≤ tt) (lit≤ tt) (send_mrand_keeps c d)
    (λ u v. record { of_role = tt; kept = refl })

peer_confirm_keeps :
    (c : ConfirmPhaseData) (d : PairingData) (payload : List ℕ) → Keeps Enters 1 17 (handle_peer_confirm c d payload)
unfolding handle_peer_confirm
peer_confirm_keeps c d payload =
    or_fail_then _ _ 1 17 d _ (word_in payload) (λ w. answer_confirm_keeps c d (record { 0 = w }))

after_mconfirm_keeps :
    (c : ConfirmPhaseData) (d : PairingData) (early : Option Confirm) → Keeps Enters 1 17 (after_mconfirm c d early)
after_mconfirm_keeps c d (Some confirm) = answer_confirm_keeps c d confirm
after_mconfirm_keeps c d None = record { of_role = tt; kept = refl }

pass_key_input_keeps :
    (c : ConfirmPhaseData) (d : PairingData) (n : ℕ) (early : Option Confirm) →
    Keeps Enters 3 35 (handle_pass_key_input c d n early)
unfolding handle_pass_key_input
pass_key_input_keeps c d n early =
    let c₁ = confirm_data (pass_key_tk n) c.preq c.pres in
    keeps_then (send_mconfirm c₁ d) _ Anything _ 3 35 2 18 (lit≤ tt) (lit≤ tt) (send_mconfirm_keeps c₁ d)
    (λ c₂ u. after_mconfirm_keeps c₂ d early)

begin_confirm_keeps :
    (preq pres : List ℕ) (d : PairingData) (tk : ℕ) → Keeps Enters 2 18 (begin_confirm preq pres d tk)
unfolding begin_confirm
begin_confirm_keeps preq pres d tk =
    let c = confirm_data tk preq pres in
    keeps_then (send_mconfirm c d) _ Anything _ 2 18 2 18 (lit≤ tt) (lit≤ tt) (send_mconfirm_keeps c d)
    (λ c₁ u. record { of_role = tt; kept = refl })

begin_method_keeps :
    (preq pres : List ℕ) (d : PairingData) (chosen : PairingMethod) → Keeps Enters 4 24 (begin_method preq pres d chosen)
unfolding begin_method call_octets
begin_method_keeps preq pres d method.OutOfBand =
    (lit≤ tt, lit≤ tt, λ e. (d, refl), delivered_then _ _ _ _ d (record { of_role = tt; kept = refl }))
begin_method_keeps preq pres d (method.PassKeyEntry action.Display peripheral) = (
  lit≤ tt,
  lit≤ tt,
  tt,
  λ tk.
      (lit≤ tt, lit≤ tt, λ e. (d, refl), delivered_then _ _ _ _ d (begin_confirm_keeps preq pres d (pass_key_tk tk.0))),
)
begin_method_keeps preq pres d (method.PassKeyEntry action.Input peripheral) =
    (lit≤ tt, lit≤ tt, λ e. (d, refl), delivered_then _ _ _ _ d (record { of_role = tt; kept = refl }))
begin_method_keeps preq pres d method.JustWorks =
    keeps_more Enters Enters (begin_confirm preq pres d 0) 2 18 4 24 (λ m h. h) (lit≤ tt) (lit≤ tt)
    (begin_confirm_keeps preq pres d 0)
begin_method_keeps preq pres d method.NumericComparison = tt

pairing_response_keeps :
    (c : ConfirmPhaseData) (d : PairingData) (payload : List ℕ) →
    Keeps Enters 4 24 (handle_pairing_response c d payload)
unfolding handle_pairing_response
pairing_response_keeps c d payload =
    or_fail_then _ _ 4 24 d _ (features_in payload) (λ peer. begin_method_keeps c.preq _ _ _)

-- encryption in 19 octets
on_srand_keeps :
    (c : ConfirmPhaseData) (d : PairingData) (srand : Nonce) (agrees : Bool) →
    Keeps Enters 1 19 (on_srand c d srand agrees)
on_srand_keeps c d srand true = enable_encryption_keeps Central d _
on_srand_keeps c d srand false = tt

pairing_random_keeps :
    (c : ConfirmPhaseData) (d : PairingData) (confirm : Confirm) (payload : List ℕ) →
    Keeps Enters 1 19 (handle_pairing_random c d confirm payload)
unfolding handle_pairing_random
pairing_random_keeps c d confirm payload =
    or_fail_then _ _ 1 19 d _ (word_in payload) (λ w.
    on_srand_keeps c d (record { 0 = w }) (eqb (confirm_value c d (record { 0 = w })).0 confirm.0))

central_identification_keeps :
    (d : PairingData) (ltk : LongTermKey) (payload : List ℕ) →
    Keeps Enters 9 58 (handle_central_identification d ltk payload)
unfolding handle_central_identification
central_identification_keeps d ltk payload =
    or_fail_then _ _ 9 58 d _ (identification_in payload) (λ x. await_identity_or_send_keeps _ _)

send_keys_or_succeed_keeps : (d : PairingData) (b : Bool) → Keeps Enters 9 58 (send_keys_or_succeed d b)
send_keys_or_succeed_keeps d true = send_all_keys_keeps d
send_keys_or_succeed_keeps d false = record { of_role = tt; kept = refl }

identity_address_keeps :
    (d : PairingData) (payload : List ℕ) → Keeps Enters 9 58 (handle_identity_address_information d payload)
unfolding handle_identity_address_information
identity_address_keeps d payload =
    or_fail_then _ _ 9 58 d _ (address_in payload) (λ a. send_keys_or_succeed_keeps _ (want_bonding d))

link_encrypted_keeps : (d : PairingData) (encrypted : Bool) → Keeps Enters 9 58 (link_encrypted d encrypted)
link_encrypted_keeps d true = link_encrypted_success_keeps d
link_encrypted_keeps d false = tt

-- a row for each state, as in `transition_from`
transition_from_keeps :
    (m : Machine) (payload : List ℕ) (i : Input) (p : Phase) → TransitionKeeps Central m (transition_from m payload i p)
transition_from_keeps m payload i phase.WaitingPairingResponse =
    let c = m.confirm_data in
    let d = m.pairing_data in
    on_command_lem (TransitionKeeps Central m) command.PairingResponse i _ _
    (keeps_by Central m (handle_pairing_response c d payload) 4 24 (lit≤ tt) (lit≤ tt)
    (pairing_response_keeps c d payload))
    (other_input_keeps Central m payload i)
transition_from_keeps m payload i (phase.WaitingPassKeyInput early) =
    let c = m.confirm_data in
    let d = m.pairing_data in
    on_command_lem (TransitionKeeps Central m) command.PairingConfirm i _ _
    (keeps_by Central m (store_confirm_bytes c d payload) 0 0 (lit≤ tt) (lit≤ tt)
    (store_confirm_bytes_keeps Central 0 0 c d payload))
    (on_pass_key_input_lem (TransitionKeeps Central m) i _ _
    (λ n. keeps_by Central m (handle_pass_key_input c d n early) 3 35 (lit≤ tt) (lit≤ tt)
    (pass_key_input_keeps c d n early))
    (on_pass_key_cancel_lem (TransitionKeeps Central m) i _ _ tt (other_input_keeps Central m payload i)))
transition_from_keeps m payload i phase.WaitingOobData =
    let c = m.confirm_data in
    let d = m.pairing_data in
    on_oob_data_lem (TransitionKeeps Central m) i _ _
    (λ w. keeps_by Central m (begin_confirm c.preq c.pres d w) 2 18 (lit≤ tt) (lit≤ tt)
    (begin_confirm_keeps c.preq c.pres d w))
    (other_input_keeps Central m payload i)
transition_from_keeps m payload i phase.WaitingPairingConfirm =
    let c = m.confirm_data in
    let d = m.pairing_data in
    on_command_lem (TransitionKeeps Central m) command.PairingConfirm i _ _
    (keeps_by Central m (handle_peer_confirm c d payload) 1 17 (lit≤ tt) (lit≤ tt) (peer_confirm_keeps c d payload))
    (other_input_keeps Central m payload i)
transition_from_keeps m payload i (phase.WaitingPairingRandom confirm) =
    let c = m.confirm_data in
    let d = m.pairing_data in
    on_command_lem (TransitionKeeps Central m) command.PairingRandom i _ _
    (keeps_by Central m (handle_pairing_random c d confirm payload) 1 19 (lit≤ tt) (lit≤ tt)
    (pairing_random_keeps c d confirm payload))
    (other_input_keeps Central m payload i)
transition_from_keeps m payload i phase.WaitingLinkEncrypted =
    let d = m.pairing_data in
    on_link_encrypted_lem (TransitionKeeps Central m) i _ _
    (λ b. keeps_by Central m (link_encrypted d b) 9 58 (lit≤ tt) (lit≤ tt) (link_encrypted_keeps d b))
    (other_input_keeps Central m payload i)
transition_from_keeps m payload i phase.WaitingIdentitityInformation =
    let d = m.pairing_data in
    on_command_lem (TransitionKeeps Central m) command.IdentityInformation i _ _
    (keeps_by Central m (handle_identity_information d payload) 0 0 (lit≤ tt) (lit≤ tt)
    (identity_information_keeps Central 0 0 d payload))
    (other_input_keeps Central m payload i)
transition_from_keeps m payload i phase.WaitingIdentitityAddressInformation =
    let d = m.pairing_data in
    on_command_lem (TransitionKeeps Central m) command.IdentityAddressInformation i _ _
    (keeps_by Central m (handle_identity_address_information d payload) 9 58 (lit≤ tt) (lit≤ tt)
    (identity_address_keeps d payload))
    (other_input_keeps Central m payload i)
transition_from_keeps m payload i (phase.ReceivingKeys n ltk) =
    let d = m.pairing_data in
    on_receiving_keys_lem (TransitionKeeps Central m) n i _ _ _
    (keeps_by Central m (handle_encryption_information d payload) 0 0 (lit≤ tt) (lit≤ tt)
    (encryption_information_keeps Central 0 0 d payload))
    (keeps_by Central m (handle_central_identification d ltk payload) 9 58 (lit≤ tt) (lit≤ tt)
    (central_identification_keeps d ltk payload))
    (other_input_keeps Central m payload i)
transition_from_keeps m payload i phase.Success = other_input_keeps Central m payload i
transition_from_keeps m payload i (phase.Error e) = other_input_keeps Central m payload i
transition_from_keeps m payload i phase.WaitingPairingRequest = other_input_keeps Central m payload i

pub transition_keeps : (m : Machine) (i : Input) (payload : List ℕ) → TransitionKeeps Central m (transition m i payload)
unfolding transition
transition_keeps m i payload = transition_from_keeps m payload i m.phase
