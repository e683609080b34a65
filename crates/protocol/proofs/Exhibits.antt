-- Runs of 8 and of 18 inputs, one of the excepted case, and a step of either end that shows the passkey, so that nothing
-- is true for want of them: the last five laws. Such runs there are whatever the passkeys, the OOB data and the
-- addresses. Assumes nothing.
use Prim.Native.Nat.{ℕ, suc, ◌+◌, ◌*◌}
use mathlib.Core.Path.{◌≡◌, refl, sym, ap, ◌∙◌, subst}
use mathlib.Core.Bool.{Bool, true, false, cond, not, ◌&&◌, and-eq-true_iff}
use mathlib.Core.List.{List, [], ◌∷◌, ◌++◌}
use native.Mathlib.Omega.{arith}
use lib.Dec.{ltb, lit≤}
use lib.ListN.{replicate}
use borrow.Author.Tests.{ltb-true}
use Rattle.octets.specs.Octets.{word_of}
use Rattle.smp_types.specs.Types.{feature_octets, features_with, features_of}
use Rattle.smp_types.specs.declared.capabilities.IoCapabilities.{IoCapabilities}
use Rattle.smp_types.specs.declared.capabilities.IoCapabilities.TheVariants as io
use Rattle.smp_types.specs.declared.types.PairingFeatures.{PairingFeatures}
use Rattle.smp_types.specs.declared.types.UseOutOfBand.TheVariants.{NotPresent}
use Rattle.util.specs.Method.{legacy_method, io_method, wants_mitm}
use Rattle.util.specs.declared.util.PairingMethod.TheVariants as method
use Rattle.bond.specs.declared.Address.{Address}
use Rattle.host_calls.specs.declared.call.Call.{Call}
use Rattle.machine.specs.declared.Phase.TheVariants as phase
use Rattle.machine.specs.declared.Role.TheVariants.{Central, Peripheral}
use Rattle.machine.specs.Machine.{new_machine, lesc_switch}
use Rattle.host_answers.specs.Answers.{body_at, verdict_at, flag_at, irk_at, pass_key_at}
use Rattle.protocol.specs.Handlers.{features_in, enter}
use Rattle.protocol.specs.LegacyCentral as central
use Rattle.protocol.specs.LegacyPeripheral.{initiator_keys, responder_keys, response_features, begin_method, handle_pairing_request, transition, handle_input}
use Rattle.protocol.specs.Step.{play_of, step}
use Rattle.protocol.specs.FairLink.{Start, AreOctets, NamesNoMore, FairStart, Shared, Link, fresh_terminal, fresh_head, request_of, fresh_link, step_at, calls_at, an_input, Move, take_packet, no_move, move, Run}
use Rattle.protocol.specs.FairRuns.{entries, keys, response_in, responses_in, displays_in, WaitsForIdentityKey}
use Rattle.protocol.proofs.Allowed.{any_shared}
use Rattle.protocol.proofs.FairSides.{of_all_append}
use Rattle.protocol.proofs.FairRunsEnd.{calls_grow, every_fair_run_ends}

abbrev are_all_octets : List ℕ → Bool
are_all_octets [] = true
are_all_octets (x ∷ l) = ltb x 256 && are_all_octets l

are_octets : (l : List ℕ) → are_all_octets l ≡ true → AreOctets l
are_octets [] h = tt
are_octets (x ∷ l) h =
    let both = (and-eq-true_iff (ltb x 256) (are_all_octets l)).0 h in
    (ltb-true x 256 both.0, are_octets l both.1)

-- ---- starts

-- a terminal and a head that ask for these records, from their six octets
abbrev start_of : Address → Address → PairingFeatures → PairingFeatures → Start
start_of terminal head request features =
    record { request = request; head_features = features; terminal_address = terminal; head_address = head }

-- such a start with both sizes 16 is fair, if the head names no key that the request lacks
fair_start :
    (a b : Address) (request features : PairingFeatures) → are_all_octets (feature_octets request) ≡ true →
    are_all_octets (feature_octets features) ≡ true → request.maximum_encryption_key_size ≡ 16 →
    features.maximum_encryption_key_size ≡ 16 →
    NamesNoMore features.initiator_key_distribution request.initiator_key_distribution →
    FairStart (start_of a b request features)
fair_start a b request features o o₁ q q₁ names =
    record {
      request_octets = are_octets (feature_octets request) o;
      head_octets = are_octets (feature_octets features) o₁;
      request_size_least = omega (arith, q);
      request_size_largest = omega (arith, q);
      head_size_least = omega (arith, q₁);
      head_size_largest = omega (arith, q₁);
      head_flags = names;
    }

-- no input or output, no bonding, no keys
abbrev plain : PairingFeatures
plain = features_with (3 ∷ 0 ∷ 0 ∷ 16 ∷ 0 ∷ 0 ∷ []) io.NoInputNoOutput NotPresent 16

plain_fair : (a b : Address) → FairStart (start_of a b plain plain)
plain_fair a b =
    fair_start a b plain plain refl refl refl refl (record { encryption = λ h. h; identity = λ h. h })

-- ---- every list of moves goes on to a run; none is one too

abbrev RunFrom : Shared → Start → Type 0
RunFrom shared s = (moves : ℕ) × (inputs : ℕ) × (L : Link) × Run shared (fresh_link s) moves inputs L

some_run : (shared : Shared) (s : Start) → FairStart s → RunFrom shared s
some_run shared s fair =
    let z = ((every_fair_run_ends s fair).1 shared).begins 0 0 (fresh_link s) no_move in
    (z.0, z.1, z.2, z.3)

-- ---- 8 inputs: without input, output, bonding and keys

-- whatever is answered, nobody types
plain_method : (answer : PairingFeatures) → entries (legacy_method plain answer) ≡ 0
unfolding legacy_method
plain_method answer = go (wants_mitm answer) answer.io_capabilities
  where
    go : (mitm : Bool) (x : IoCapabilities) → entries (cond (not mitm) method.JustWorks (io_method io.NoInputNoOutput x))
        ≡ 0
    go false x = refl
    go true io.DisplayOnly = refl
    go true io.DisplayYesNo = refl
    go true io.KeyboardOnly = refl
    go true io.NoInputNoOutput = refl
    go true io.KeyboardDisplay = refl

shortest_of :
    (shared : Shared) (a b : Address) →
    (moves : ℕ) × (L : Link) × Run shared (fresh_link (start_of a b plain plain)) moves 8 L
shortest_of shared a b =
    let s = start_of a b plain plain in
    let z = some_run shared s (plain_fair a b) in
    let ends = ((every_fair_run_ends s (plain_fair a b)).1 shared).comes_to z.0 z.1 z.2 z.3 in
    let eight : z.1 ≡ 8 = omega (arith, ends.counted, plain_method ends.answer) in
    (z.0, z.2, subst (λ n. Run shared (fresh_link s) z.0 n z.2) eight z.3)

-- ---- the excepted case: no wish to bond, and the request names the terminal's identity key

abbrev naming_identity : PairingFeatures
naming_identity = features_with (3 ∷ 0 ∷ 0 ∷ 16 ∷ 2 ∷ 0 ∷ []) io.NoInputNoOutput NotPresent 16

identity_fair : (a b : Address) → FairStart (start_of a b naming_identity plain)
identity_fair a b =
    fair_start a b naming_identity plain refl refl refl refl (record { encryption = λ h. h; identity = λ h. refl })

left_waiting_of :
    (shared : Shared) (a b : Address) →
    (moves : ℕ) × (inputs : ℕ) × (L : Link) × Run shared (fresh_link (start_of a b naming_identity plain)) moves inputs L
    × (L.terminal.machine.phase ≡ phase.Success) × WaitsForIdentityKey L.head.machine
left_waiting_of shared a b =
    let s = start_of a b naming_identity plain in
    let z = some_run shared s (identity_fair a b) in
    let ends = ((every_fair_run_ends s (identity_fair a b)).1 shared).comes_to z.0 z.1 z.2 z.3 in
    (z.0, z.1, z.2, z.3, ends.terminal_ends, ends.head_ends)

-- ---- 18 inputs: both type the passkey, both bond, and every key is named

abbrev full : PairingFeatures
full = features_with (2 ∷ 0 ∷ 5 ∷ 16 ∷ 3 ∷ 3 ∷ []) io.KeyboardOnly NotPresent 16

full_fair : (a b : Address) → FairStart (start_of a b full full)
full_fair a b =
    fair_start a b full full refl refl refl refl (record { encryption = λ h. h; identity = λ h. h })

-- the head's host: no bond found, an IRK, bonding, no OOB data; the response is then listed, and its verdict wanted
abbrev bonding_host : List ℕ
bonding_host = 0x30 ∷ 0 ∷ 0x31 ∷ (replicate 16 1 ++ (0x33 ∷ 1 ∷ 0x34 ∷ 0 ∷ []))

first_step :
    (shared : Shared) (a b : Address) →
    (L : Link) × Move shared (fresh_link (start_of a b full full)) an_input L × (responses_in L.head.calls ≡ full ∷ [])
unfolding fresh_link fresh_head new_machine step_at calls_at step play_of handle_input transition handle_pairing_request
    features_in response_features initiator_keys responder_keys legacy_method body_at flag_at irk_at verdict_at features_of
    word_of
first_step shared a b = (
  _,
  take_packet Peripheral (request_of (start_of a b full full)) [] bonding_host refl refl refl
      (record { octets = are_octets bonding_host refl; fair = (tt, (tt, (tt, (tt, tt)))) }),
  refl,
)

abbrev head_or : PairingFeatures → List PairingFeatures → PairingFeatures
head_or x [] = x
head_or x (y ∷ l) = y

-- the answer of such a run is the one of its first step
full_answer : (first : Link) (L : Link) (more : List Call) (answer : PairingFeatures) →
    responses_in first.head.calls ≡ full ∷ [] → L.head.calls ≡ first.head.calls ++ more →
    responses_in L.head.calls ≡ answer ∷ [] → answer ≡ full
full_answer first L more answer q r e =
    head_same
    (sym e ∙ ap responses_in r ∙ of_all_append response_in first.head.calls more
    ∙ ap (λ x. x ++ responses_in more) q)
  where
    head_same : {x y : PairingFeatures} {l : List PairingFeatures} → x ∷ [] ≡ y ∷ l → x ≡ y
    head_same h = ap (λ l. head_or full l) h

eighteen_counted :
    (answer : PairingFeatures) (n : ℕ) → answer ≡ full →
    n ≡ 8 + entries (legacy_method full answer) + 2 * keys full answer → n ≡ 18
unfolding legacy_method
eighteen_counted answer n q e = e ∙ ap (λ x. 8 + entries (legacy_method full x) + 2 * keys full x) q

longest_of :
    (shared : Shared) (a b : Address) →
    (moves : ℕ) × (L : Link) × Run shared (fresh_link (start_of a b full full)) moves 18 L
longest_of shared a b =
    let s = start_of a b full full in
    let all_end = (every_fair_run_ends s (full_fair a b)).1 shared in
    let first = first_step shared a b in
    let z = all_end.begins 1 1 first.0 (move first.1 no_move) in
    let run : Run shared (fresh_link s) (suc z.0) (suc z.1) z.2 =
    record { all = move first.1 z.3.all; over = z.3.over } in
    let ends = all_end.comes_to (suc z.0) (suc z.1) z.2 run in
    let grown = calls_grow Peripheral z.3.all in
    let is-full = full_answer first.0 z.2 grown.0 ends.answer first.2 grown.1 ends.answered in
    let eighteen = eighteen_counted ends.answer (suc z.1) is-full ends.counted in
    (suc z.0, z.2, subst (λ n. Run shared (fresh_link s) (suc z.0) n z.2) eighteen run)

-- ---- the three, with passkeys, OOB data and addresses given

abbrev some_shared : Shared
some_shared = any_shared 0xFEDCBA98765432100123456789ABCDEF 123456 4000000000 (lit≤ tt)

abbrev terminal_at : Address
terminal_at = record { kind = 0; addr = record { low = 0xA1A2A3A4; high = 0xA5A6 } }

abbrev head_at : Address
head_at = record { kind = 1; addr = record { low = 0xB1B2B3B4; high = 0xB5B6 } }

-- 8 inputs
pub shortest :
    (moves : ℕ) × (L : Link) × Run some_shared (fresh_link (start_of terminal_at head_at plain plain)) moves 8 L
shortest = shortest_of some_shared terminal_at head_at

-- 18 inputs
pub longest_run :
    (moves : ℕ) × (L : Link) × Run some_shared (fresh_link (start_of terminal_at head_at full full)) moves 18 L
longest_run = longest_of some_shared terminal_at head_at

-- the excepted case: the terminal has finished, and the head waits for a key that nobody sends
pub head_left_waiting :
    (moves : ℕ) × (inputs : ℕ) × (L : Link)
    × Run some_shared (fresh_link (start_of terminal_at head_at naming_identity plain)) moves inputs L
    × (L.terminal.machine.phase ≡ phase.Success) × WaitsForIdentityKey L.head.machine
head_left_waiting = left_waiting_of some_shared terminal_at head_at

-- ---- passkeys that are shown, at the head and at the terminal: the shared number

-- a keyboard, and a display, each with protection against a man in the middle
abbrev keyboard : PairingFeatures
keyboard = features_with (2 ∷ 0 ∷ 4 ∷ 16 ∷ 0 ∷ 0 ∷ []) io.KeyboardOnly NotPresent 16

abbrev display : PairingFeatures
display = features_with (0 ∷ 0 ∷ 4 ∷ 16 ∷ 0 ∷ 0 ∷ []) io.DisplayOnly NotPresent 16

-- the head's host: no bond found, no bonding, no OOB data, and the response is sent
abbrev plain_host : List ℕ
plain_host = 0x30 ∷ 0 ∷ 0x33 ∷ 0 ∷ 0x34 ∷ 0 ∷ 0x02 ∷ 0 ∷ []

-- 123456 is drawn; 0x22 is then listed, and its verdict wanted
abbrev drawn : List ℕ
drawn = 0x36 ∷ 0x40 ∷ 0xE2 ∷ 0x01 ∷ 0x00 ∷ []

pub shown_by_the_head :
    (L : Link) × Move some_shared (fresh_link (start_of terminal_at head_at keyboard display)) an_input L
    × (displays_in L.head.calls ≡ some_shared.shown ∷ [])
unfolding fresh_link fresh_head new_machine step_at calls_at step play_of handle_input transition handle_pairing_request
    begin_method features_in response_features initiator_keys responder_keys legacy_method body_at flag_at verdict_at pass_key_at
    features_of
shown_by_the_head = (
  _,
  take_packet Peripheral (request_of (start_of terminal_at head_at keyboard display)) [] (plain_host ++ drawn) refl refl refl
      (record { octets = are_octets (plain_host ++ drawn) refl; fair = (tt, (tt, (tt, (refl, (refl, tt))))) }),
  refl,
)

-- the head types: its first step sends the response and asks for the passkey
abbrev typing_host : List ℕ
typing_host = plain_host ++ (0x23 ∷ 0 ∷ [])

pub shown_by_the_terminal :
    (L L₁ : Link) × Move some_shared (fresh_link (start_of terminal_at head_at display keyboard)) an_input L
    × Move some_shared L an_input L₁
    × (displays_in L₁.terminal.calls ≡ some_shared.shown ∷ [])
unfolding fresh_link fresh_head fresh_terminal lesc_switch new_machine step_at calls_at step play_of handle_input transition
    handle_pairing_request begin_method features_in response_features initiator_keys responder_keys legacy_method body_at
    flag_at verdict_at pass_key_at features_of enter central.handle_input central.transition
    central.handle_pairing_response central.begin_method
shown_by_the_terminal = (
  _,
  _,
  take_packet Peripheral (request_of (start_of terminal_at head_at display keyboard)) [] typing_host refl refl refl
      (record { octets = are_octets typing_host refl; fair = (tt, (tt, (tt, (refl, (refl, tt))))) }),
  take_packet Central (record { code = 0x02; payload = feature_octets keyboard }) [] drawn refl refl refl
      (record { octets = are_octets drawn refl; fair = (refl, tt) }),
  refl,
)
