-- Bounds of the peripheral: each of its functions, and so a transition, makes at most so many calls of at most so many
-- octets, fails where a packet is not delivered, and gives a canonical machine. Assumes nothing.
use Rattle.std.specs.Prelude.{Option, Some, None, eqb}
use Prim.Native.Nat.{ℕ}
use mathlib.Core.Bool.{Bool, true, false}
use mathlib.Core.Path.{refl}
use mathlib.Core.List.{List}
use lib.Dec.{lit≤}
use Rattle.octets.specs.Octets.{octets_of}
use Rattle.crypto.specs.Crypto.{s1_of}
use Rattle.crypto.specs.declared.crypto.Confirm.{Confirm}
use Rattle.crypto.specs.declared.crypto.Nonce.{Nonce}
use Rattle.smp_types.specs.declared.types.Command.TheVariants as command
use Rattle.util.specs.declared.util.PairingMethod.{PairingMethod}
use Rattle.util.specs.declared.util.PairingMethod.TheVariants as method
use Rattle.util.specs.declared.util.PassKeyEntryAction.TheVariants as action
use Rattle.host_calls.specs.Calls.{call_octets}
use Rattle.machine.specs.Machine.{want_bonding}
use Rattle.machine.specs.declared.ConfirmPhaseData.{ConfirmPhaseData}
use Rattle.machine.specs.declared.Input.{Input}
use Rattle.machine.specs.declared.Machine.{Machine}
use Rattle.machine.specs.declared.PairingData.{PairingData}
use Rattle.machine.specs.declared.Phase.{Phase}
use Rattle.machine.specs.declared.Phase.TheVariants as phase
use Rattle.machine.specs.declared.Role.TheVariants.{Peripheral}
use Rattle.machine.proofs.Canonical.{Canonical}
use Rattle.protocol.specs.Handlers.{word_in, features_in, identification_in, address_in, names_identity_key, with_bond, store_confirm_bytes, send_encryption_key, send_identity_key, enable_encryption, handle_encryption_information, handle_identity_information}
use Rattle.protocol.specs.LegacyPeripheral.{await_identity_or_succeed, await_keys, send_all_keys, send_keys_or_await_identity, handle_link_encrypted_success, send_sconfirm, answer_confirm, handle_peer_confirm, handle_pass_key_input, bond_lost, identity_offered, begin_method, handle_pairing_request, confirm_value, on_mrand, handle_pairing_random, handle_central_identification, handle_identity_address_information, link_encrypted, transition_from, transition}
use Rattle.protocol.proofs.Bounds.{Keeps, Anything, keeps_then, or_fail_then, delivered_then, option_bond_then}
use Rattle.protocol.proofs.HandlerBounds.{store_confirm_bytes_keeps, send_encryption_key_keeps, send_identity_key_keeps, enable_encryption_keeps, encryption_information_keeps, identity_information_keeps, TransitionKeeps, keeps_by, other_input_keeps, on_command_lem, on_link_encrypted_lem, on_pass_key_input_lem, on_pass_key_cancel_lem, on_oob_data_lem, on_receiving_keys_lem}

-- a state that a handler of this role enters
abbrev Enters : Machine → Type 0
Enters m = Canonical Peripheral m

-- no call, so any bounds
await_identity_or_succeed_keeps : (n o : ℕ) (d : PairingData) (b : Bool) → Keeps Enters n o (await_identity_or_succeed d b)
unfolding await_identity_or_succeed
await_identity_or_succeed_keeps n o d true = record { of_role = tt; kept = refl }
await_identity_or_succeed_keeps n o d false = record { of_role = tt; kept = refl }

await_keys_keeps : (n o : ℕ) (d : PairingData) (b : Bool) → Keeps Enters n o (await_keys d b)
unfolding await_keys
await_keys_keeps n o d true = record { of_role = tt; kept = refl }
await_keys_keeps n o d false = await_identity_or_succeed_keeps n o d _

-- the longest: both keys are sent
send_all_keys_keeps : (d : PairingData) → Keeps Enters 9 58 (send_all_keys d)
unfolding send_all_keys
send_all_keys_keeps d =
    keeps_then (send_encryption_key d _ _) _ Anything _ 9 58 5 31 (lit≤ tt) (lit≤ tt) (send_encryption_key_keeps d _ _)
    (λ d₁ u. keeps_then (send_identity_key d₁ _) _ Anything _ 4 27 4 27 (lit≤ tt) (lit≤ tt) (send_identity_key_keeps d₁ _)
    (λ v w. await_keys_keeps 0 0 d₁ _))

send_keys_or_await_identity_keeps : (d : PairingData) (b : Bool) → Keeps Enters 9 58 (send_keys_or_await_identity d b)
unfolding send_keys_or_await_identity
send_keys_or_await_identity_keeps d true = send_all_keys_keeps d
send_keys_or_await_identity_keeps d false = await_identity_or_succeed_keeps 9 58 d _

link_encrypted_success_keeps :
    (d : PairingData) (before_request : Bool) → Keeps Enters 9 58 (handle_link_encrypted_success d before_request)
unfolding handle_link_encrypted_success send_keys_or_await_identity call_octets
link_encrypted_success_keeps d true =
    (lit≤ tt, lit≤ tt, tt, option_bond_then _ _ _ _ d (λ b. await_identity_or_succeed_keeps 8 57 (with_bond b d) _))
link_encrypted_success_keeps d false = send_keys_or_await_identity_keeps d (want_bonding d)

send_sconfirm_keeps : (c : ConfirmPhaseData) (d : PairingData) → Keeps Anything 2 18 (send_sconfirm c d)
unfolding send_sconfirm call_octets octets_of
send_sconfirm_keeps c d =
    (lit≤ tt, lit≤ tt, tt, λ srand. (lit≤ tt, lit≤ tt, λ e. (d, refl), delivered_then _ _ _ _ d tt))

answer_confirm_keeps :
    (c : ConfirmPhaseData) (d : PairingData) (confirm : Confirm) → Keeps Enters 2 18 (answer_confirm c d confirm)
answer_confirm_keeps c d confirm =
    keeps_then (send_sconfirm c d) _ Anything _ 2 18 2 18 (lit≤ tt) (lit≤ tt) (send_sconfirm_keeps c d)
    (λ c₁ u. record { of_role = tt; kept = refl })

peer_confirm_keeps :
    (c : ConfirmPhaseData) (d : PairingData) (payload : List ℕ) → Keeps Enters 2 18 (handle_peer_confirm c d payload)
unfolding handle_peer_confirm
peer_confirm_keeps c d payload =
    or_fail_then _ _ 2 18 d _ (word_in payload) (λ w. answer_confirm_keeps c d (record { 0 = w }))

pass_key_input_keeps :
    (c : ConfirmPhaseData) (d : PairingData) (n : ℕ) (early : Option Confirm) →
    Keeps Enters 2 18 (handle_pass_key_input c d n early)
unfolding handle_pass_key_input
pass_key_input_keeps c d n (Some confirm) = answer_confirm_keeps _ d confirm
pass_key_input_keeps c d n None = record { of_role = tt; kept = refl }

bond_lost_keeps : (found : Bool) → Keeps Anything 1 1 (bond_lost found)
unfolding call_octets
bond_lost_keeps true = (lit≤ tt, lit≤ tt, λ x y. refl, λ x. tt)
bond_lost_keeps false = tt

identity_offered_keeps : (named : Bool) → Keeps Anything 1 1 (identity_offered named)
unfolding call_octets
identity_offered_keeps true = (lit≤ tt, lit≤ tt, tt, λ irk. tt)
identity_offered_keeps false = tt

begin_method_keeps :
    (preq pres : List ℕ) (d : PairingData) (chosen : PairingMethod) → Keeps Enters 2 6 (begin_method preq pres d chosen)
unfolding begin_method call_octets
begin_method_keeps preq pres d method.OutOfBand =
    (lit≤ tt, lit≤ tt, λ e. (d, refl), delivered_then _ _ _ _ d (record { of_role = tt; kept = refl }))
begin_method_keeps preq pres d (method.PassKeyEntry central action.Display) = (
  lit≤ tt,
  lit≤ tt,
  tt,
  λ tk.
      (lit≤ tt, lit≤ tt, λ e. (d, refl), delivered_then _ _ _ _ d (record { of_role = tt; kept = refl })),
)
begin_method_keeps preq pres d (method.PassKeyEntry central action.Input) =
    (lit≤ tt, lit≤ tt, λ e. (d, refl), delivered_then _ _ _ _ d (record { of_role = tt; kept = refl }))
begin_method_keeps preq pres d method.JustWorks = record { of_role = tt; kept = refl }
begin_method_keeps preq pres d method.NumericComparison = tt

-- the response in 7 octets, five calls of one octet before it, and the method behind it
pairing_request_keeps : (d : PairingData) (payload : List ℕ) → Keeps Enters 8 18 (handle_pairing_request d payload)
unfolding handle_pairing_request call_octets
pairing_request_keeps d payload = (
  lit≤ tt,
  lit≤ tt,
  tt,
  λ found.
      keeps_then (bond_lost found) _ Anything _ 7 17 1 1 (lit≤ tt) (lit≤ tt) (bond_lost_keeps found) (λ u v.
      or_fail_then _ _ 6 16 d _ (features_in payload) (λ peer.
      let named = names_identity_key peer.responder_key_distribution in
      keeps_then (identity_offered named) _ Anything _ 6 16 1 1 (lit≤ tt) (lit≤ tt) (identity_offered_keeps named)
      (λ offered w. (
        lit≤ tt,
        lit≤ tt,
        tt,
        λ bonding. (
          lit≤ tt,
          lit≤ tt,
          tt,
          λ available.
              (lit≤ tt, lit≤ tt, λ e. (_, refl), delivered_then _ _ _ _ _ (begin_method_keeps _ _ _ _)),
        ),
      )))),
)

-- Srand in 17 octets and encryption in 19
on_mrand_keeps :
    (c : ConfirmPhaseData) (d : PairingData) (mrand : Nonce) (agrees : Bool) →
    Keeps Enters 2 36 (on_mrand c d mrand agrees)
unfolding call_octets octets_of enable_encryption
on_mrand_keeps c d mrand true = (
  lit≤ tt,
  lit≤ tt,
  λ e. (d, refl),
  delivered_then _ _ _ _ d (enable_encryption_keeps Peripheral d (s1_of c.tk c.local_nonce mrand)),
)
on_mrand_keeps c d mrand false = tt

pairing_random_keeps :
    (c : ConfirmPhaseData) (d : PairingData) (confirm : Confirm) (payload : List ℕ) →
    Keeps Enters 2 36 (handle_pairing_random c d confirm payload)
unfolding handle_pairing_random
pairing_random_keeps c d confirm payload =
    or_fail_then _ _ 2 36 d _ (word_in payload) (λ w.
    on_mrand_keeps c d (record { 0 = w }) (eqb (confirm_value c d (record { 0 = w })).0 confirm.0))

-- no call
central_identification_keeps :
    (n o : ℕ) (d : PairingData) (payload : List ℕ) → Keeps Enters n o (handle_central_identification d payload)
unfolding handle_central_identification
central_identification_keeps n o d payload =
    or_fail_then _ _ n o d _ (identification_in payload) (λ x. await_identity_or_succeed_keeps n o d _)

identity_address_keeps :
    (n o : ℕ) (d : PairingData) (payload : List ℕ) → Keeps Enters n o (handle_identity_address_information d payload)
unfolding handle_identity_address_information
identity_address_keeps n o d payload =
    or_fail_then _ _ n o d _ (address_in payload) (λ a. record { of_role = tt; kept = refl })

link_encrypted_keeps :
    (d : PairingData) (before_request encrypted : Bool) → Keeps Enters 9 58 (link_encrypted d before_request encrypted)
link_encrypted_keeps d before_request true = link_encrypted_success_keeps d before_request
link_encrypted_keeps d before_request false = tt

-- a row for each state, as in `transition_from`
transition_from_keeps :
    (m : Machine) (payload : List ℕ) (i : Input) (p : Phase) → TransitionKeeps Peripheral m (transition_from m payload i p)
transition_from_keeps m payload i phase.WaitingPairingRequest =
    let d = m.pairing_data in
    on_command_lem (TransitionKeeps Peripheral m) command.PairingRequest i _ _
    (keeps_by Peripheral m (handle_pairing_request d payload) 8 18 (lit≤ tt) (lit≤ tt)
    (pairing_request_keeps d payload))
    (on_link_encrypted_lem (TransitionKeeps Peripheral m) i _ _
    (λ b. keeps_by Peripheral m (link_encrypted d true b) 9 58 (lit≤ tt) (lit≤ tt) (link_encrypted_keeps d true b))
    (other_input_keeps Peripheral m payload i))
transition_from_keeps m payload i (phase.WaitingPassKeyInput early) =
    let c = m.confirm_data in
    let d = m.pairing_data in
    on_command_lem (TransitionKeeps Peripheral m) command.PairingConfirm i _ _
    (keeps_by Peripheral m (store_confirm_bytes c d payload) 0 0 (lit≤ tt) (lit≤ tt)
    (store_confirm_bytes_keeps Peripheral 0 0 c d payload))
    (on_pass_key_input_lem (TransitionKeeps Peripheral m) i _ _
    (λ n. keeps_by Peripheral m (handle_pass_key_input c d n early) 2 18 (lit≤ tt) (lit≤ tt)
    (pass_key_input_keeps c d n early))
    (on_pass_key_cancel_lem (TransitionKeeps Peripheral m) i _ _ tt (other_input_keeps Peripheral m payload i)))
transition_from_keeps m payload i phase.WaitingOobData =
    on_oob_data_lem (TransitionKeeps Peripheral m) i _ _ (λ w h. record { of_role = tt; kept = refl })
    (other_input_keeps Peripheral m payload i)
transition_from_keeps m payload i phase.WaitingPairingConfirm =
    let c = m.confirm_data in
    let d = m.pairing_data in
    on_command_lem (TransitionKeeps Peripheral m) command.PairingConfirm i _ _
    (keeps_by Peripheral m (handle_peer_confirm c d payload) 2 18 (lit≤ tt) (lit≤ tt)
    (peer_confirm_keeps c d payload))
    (other_input_keeps Peripheral m payload i)
transition_from_keeps m payload i (phase.WaitingPairingRandom confirm) =
    let c = m.confirm_data in
    let d = m.pairing_data in
    on_command_lem (TransitionKeeps Peripheral m) command.PairingRandom i _ _
    (keeps_by Peripheral m (handle_pairing_random c d confirm payload) 2 36 (lit≤ tt) (lit≤ tt)
    (pairing_random_keeps c d confirm payload))
    (other_input_keeps Peripheral m payload i)
transition_from_keeps m payload i phase.WaitingLinkEncrypted =
    let d = m.pairing_data in
    on_link_encrypted_lem (TransitionKeeps Peripheral m) i _ _
    (λ b. keeps_by Peripheral m (link_encrypted d false b) 9 58 (lit≤ tt) (lit≤ tt) (link_encrypted_keeps d false b))
    (other_input_keeps Peripheral m payload i)
transition_from_keeps m payload i phase.WaitingIdentitityInformation =
    let d = m.pairing_data in
    on_command_lem (TransitionKeeps Peripheral m) command.IdentityInformation i _ _
    (keeps_by Peripheral m (handle_identity_information d payload) 0 0 (lit≤ tt) (lit≤ tt)
    (identity_information_keeps Peripheral 0 0 d payload))
    (other_input_keeps Peripheral m payload i)
transition_from_keeps m payload i phase.WaitingIdentitityAddressInformation =
    let d = m.pairing_data in
    on_command_lem (TransitionKeeps Peripheral m) command.IdentityAddressInformation i _ _
    (keeps_by Peripheral m (handle_identity_address_information d payload) 0 0 (lit≤ tt) (lit≤ tt)
    (identity_address_keeps 0 0 d payload))
    (other_input_keeps Peripheral m payload i)
transition_from_keeps m payload i (phase.ReceivingKeys n ltk) =
    let d = m.pairing_data in
    on_receiving_keys_lem (TransitionKeeps Peripheral m) n i _ _ _
    (keeps_by Peripheral m (handle_encryption_information d payload) 0 0 (lit≤ tt) (lit≤ tt)
    (encryption_information_keeps Peripheral 0 0 d payload))
    (keeps_by Peripheral m (handle_central_identification d payload) 0 0 (lit≤ tt) (lit≤ tt)
    (central_identification_keeps 0 0 d payload))
    (other_input_keeps Peripheral m payload i)
transition_from_keeps m payload i phase.Success = other_input_keeps Peripheral m payload i
transition_from_keeps m payload i (phase.Error e) = other_input_keeps Peripheral m payload i
transition_from_keeps m payload i phase.WaitingPairingResponse = other_input_keeps Peripheral m payload i

pub transition_keeps : (m : Machine) (i : Input) (payload : List ℕ) → TransitionKeeps Peripheral m (transition m i payload)
unfolding transition
transition_keeps m i payload = transition_from_keeps m payload i m.phase
