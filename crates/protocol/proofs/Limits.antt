-- The limits of a step of either role: at most 11 calls of at most 164 octets, both reached; what a failure to deliver
-- does, after a packet PairingFailed alone; a canonical machine stays canonical. Assumes nothing.
use Rattle.std.specs.Prelude.{Some}
use Prim.Native.Nat.{ℕ, ◌≤◌}
use mathlib.Core.Bool.{true}
use mathlib.Core.Path.{◌≡◌, refl, ap, ◌∙◌}
use mathlib.Core.List.{List, [], ◌∷◌, ◌++◌}
use native.Mathlib.Nat.{zero-add}
use native.Mathlib.Omega.{arith}
use lib.Dec.{lit≤}
use lib.ListN.{length, drop, replicate}
use Rattle.octets.specs.Octets.{octets_of}
use Rattle.octets.proofs.Parts.{written}
use Rattle.smp_types.specs.Types.{bonding_code, features_with}
use Rattle.smp_types.specs.declared.capabilities.IoCapabilities.TheVariants.{NoInputNoOutput}
use Rattle.smp_types.specs.declared.types.BondingFlag.TheVariants.{Bonding}
use Rattle.smp_types.specs.declared.types.PairingFeatures.{PairingFeatures}
use Rattle.smp_types.specs.declared.types.UseOutOfBand.TheVariants.{NotPresent}
use Rattle.util.specs.declared.util.PairingMethod.TheVariants.{JustWorks}
use Rattle.bond.specs.Bond.{bd_addr_octets, address_octets, address_of, bond_octets, bond_with}
use Rattle.host_calls.specs.Calls.{call_octets, calls_octets, longest}
use Rattle.host_calls.specs.declared.call.Call.{Call}
use Rattle.host_answers.specs.Answers.{body_at, verdict_at, ltk_at, ediv_at, rand_at, irk_at, address_at}
use Rattle.machine.specs.Machine.{new_data, no_confirm_data, want_bonding}
use Rattle.machine.specs.declared.Event.TheVariants as event
use Rattle.machine.specs.declared.Input.{Input}
use Rattle.machine.specs.declared.Input.TheVariants as input
use Rattle.machine.specs.declared.Machine.{Machine}
use Rattle.machine.specs.declared.Phase.TheVariants as phase
use Rattle.machine.specs.declared.Role.{Role}
use Rattle.machine.specs.declared.Role.TheVariants.{Central, Peripheral}
use Rattle.machine.proofs.Canonical.{Canonical}
use Rattle.protocol.specs.Program.{bind, Ending, ended, wanting, refusing, Played}
use Rattle.protocol.specs.Handlers.{Handler, entered, enters, with_features, with_bond, with_keys, enter, send_encryption_key, send_identity_key}
use Rattle.protocol.specs.LegacyCentral as central
use Rattle.protocol.specs.LegacyPeripheral as peripheral
use Rattle.protocol.specs.Step.{handle_input_by_role, play_of, step}
use Rattle.protocol.specs.Outcome as outcome
use Rattle.protocol.proofs.StepLaws.{step_list, step_gives}
use Rattle.protocol.proofs.Programs.{OfEnding}
use Rattle.protocol.proofs.Bounds.{within_more, Within, Broken, FailsOnce, within_fails, PlaysWithin, plays_within}
use Rattle.protocol.proofs.HandlerBounds.{TransitionKeeps, Stays, entered_within}
use Rattle.protocol.proofs.CentralBounds as central-bounds
use Rattle.protocol.proofs.PeripheralBounds as peripheral-bounds

-- ---- a step's bounds

-- one step lists no more calls than these
abbrev pub most_calls : ℕ
most_calls = 11

-- a transition and the state that it enters
most_within :
    (r : Role) (m : Machine) (p : Handler Machine) → TransitionKeeps r m p →
    Within Broken (Stays r m) most_calls longest (bind p entered)
most_within r m p w =
    within_more Broken (Stays r m) (Stays r m) (bind p entered) 11 164 most_calls longest (λ m₁ h. h) (lit≤ tt) (lit≤ tt)
    (entered_within r m p w)

-- the program of a step
pub step_within :
    (r : Role) (m : Machine) (i : Input) (payload : List ℕ) →
    Within Broken (Stays r m) most_calls longest (handle_input_by_role r m i payload)
unfolding central.handle_input peripheral.handle_input
step_within Central m i payload =
    most_within Central m (central.transition m i payload) (central-bounds.transition_keeps m i payload)
step_within Peripheral m i payload =
    most_within Peripheral m (peripheral.transition m i payload) (peripheral-bounds.transition_keeps m i payload)

-- .. and its play on any answers
pub play_limits :
    (r : Role) (m : Machine) (i : Input) (payload answers : List ℕ) →
    PlaysWithin (Stays r m) most_calls longest (play_of r m i payload answers)
unfolding play_of
play_limits r m i payload answers =
    plays_within Broken (Stays r m) answers (handle_input_by_role r m i payload) most_calls longest 0 (step_within r m i payload)

pub most_calls_lem :
    (r : Role) (m : Machine) (i : Input) (payload answers : List ℕ) →
    length (play_of r m i payload answers).calls ≤ most_calls
most_calls_lem r m i payload answers = (play_limits r m i payload answers).most

pub most_octets :
    (r : Role) (m : Machine) (i : Input) (payload answers : List ℕ) →
    length (calls_octets (play_of r m i payload answers).calls) ≤ longest
most_octets r m i payload answers = (play_limits r m i payload answers).size

-- so on a list that is long enough, a step that is not refused has its calls at the front of the list, and the rest of
-- the list is as it was
pub written_front :
    (r : Role) (m : Machine) (i : Input) (payload answers list : List ℕ) → longest ≤ length list →
    ((n : ℕ) → (step r m i payload answers list).outcome ≡ outcome.refused n → ⊥) →
    (step r m i payload answers list).list
    ≡ calls_octets (play_of r m i payload answers).calls
    ++ drop (length (calls_octets (play_of r m i payload answers).calls)) list
written_front r m i payload answers list h n =
    let w = calls_octets (play_of r m i payload answers).calls in
    let most = most_octets r m i payload answers in
    step_list r m i payload answers list n ∙ written list 0 w (omega arith)
    ∙ ap (λ (n : ℕ). w ++ drop n list) (zero-add (length w))

-- after an undelivered packet, or an undelivered event that the pairing needs, the only further call is PairingFailed, and
-- the machine stands in Error; of BondLost, PairingFailed, PairingComplete and a bond update a failure does not matter
pub fails_once : (r : Role) (m : Machine) (i : Input) (payload : List ℕ) → FailsOnce (handle_input_by_role r m i payload)
fails_once r m i payload =
    within_fails (Stays r m) (handle_input_by_role r m i payload) most_calls longest (step_within r m i payload)

ending_more :
    (P Q : Machine → Type 0) → ((m : Machine) → P m → Q m) → (x : Ending Machine) → OfEnding P x → OfEnding Q x
ending_more P Q f (ended m) h = f m h
ending_more P Q f wanting h = tt
ending_more P Q f refusing h = tt

-- a step leaves a canonical machine canonical, whatever comes of it
pub canonical_step :
    (r : Role) (m : Machine) (i : Input) (payload answers list : List ℕ) → Canonical r m →
    Canonical r (step r m i payload answers list).machine
canonical_step r m i payload answers list h =
    step_gives r m i payload answers list (Canonical r) h
    (ending_more (Stays r m) (Canonical r) (λ m₁ g. g h) (play_of r m i payload answers).ending
    (play_limits r m i payload answers).gives)

-- ---- the limits are reached

-- features that wish to bond and name these keys for the initiator and the responder
abbrev bonding : ℕ → ℕ → PairingFeatures
bonding initiator responder =
    features_with (3 ∷ 0 ∷ bonding_code Bonding ∷ 16 ∷ initiator ∷ responder ∷ []) NoInputNoOutput NotPresent 16

-- the link is about to be encrypted, and there is a bond
abbrev encrypting : PairingFeatures → PairingFeatures → Machine
encrypting local peer =
    let zero = address_of (replicate 7 0) in
    let d = with_features local peer JustWorks (new_data zero zero NoInputNoOutput) in
    enters phase.WaitingLinkEncrypted no_confirm_data (with_bond (Some (bond_with (replicate 51 0) true)) d)

-- answers of zeros: the kind of each, and how many octets it has
abbrev zeros : List (ℕ × ℕ) → List ℕ
zeros [] = []
zeros (x ∷ l) = x.0 ∷ (replicate x.1 0 ++ zeros l)

-- to the draws of LTK, EDIV and Rand, the packets with them, the IRK asked and sent, the address asked and sent, the
-- bond's update and PairingComplete
abbrev all_zero : List ℕ
all_zero =
    zeros ((0x37, 16) ∷ (0x38, 2) ∷ (0x39, 8) ∷ (0x06, 1) ∷ (0x07, 1) ∷ (0x31, 16) ∷ (0x08, 1) ∷ (0x32, 8) ∷ (0x09, 1)
    ∷ (0x3C, 1) ∷ (0x21, 1) ∷ [])

abbrev longest_play : Role → Machine → Played Call Machine
longest_play r m = play_of r m (input.Event (event.LinkEncryptedResult true)) [] all_zero

abbrev pub Reaches : Played Call Machine → Type 0
Reaches x = (length x.calls ≡ most_calls) × (length (calls_octets x.calls) ≡ longest)

-- by the peripheral where it names both keys as the responder's, and the central none
pub peripheral_reached : Reaches (longest_play Peripheral (encrypting (bonding 0 3) (bonding 0 0)))
unfolding peripheral.handle_input peripheral.transition peripheral.handle_link_encrypted_success
    peripheral.send_keys_or_await_identity peripheral.send_all_keys peripheral.await_keys peripheral.await_identity_or_succeed
    send_encryption_key send_identity_key enter want_bonding with_keys new_data play_of body_at verdict_at ltk_at ediv_at rand_at
    irk_at address_at calls_octets call_octets octets_of bd_addr_octets address_octets bond_octets
peripheral_reached = (refl, refl)

-- by the central where the peripheral names both keys as the initiator's, and none of its own
pub central_reached : Reaches (longest_play Central (encrypting (bonding 3 0) (bonding 3 0)))
unfolding central.handle_input central.transition central.handle_link_encrypted_success central.await_keys
    central.await_identity_or_send central.send_all_keys send_encryption_key send_identity_key enter want_bonding new_data play_of
    body_at verdict_at ltk_at ediv_at rand_at irk_at address_at calls_octets call_octets octets_of bd_addr_octets
    address_octets bond_octets
central_reached = (refl, refl)
