-- Demand 3: every fair run ends, and how. Assumes nothing.
use Rattle.std.specs.Prelude.{Option, Some, None}
use Prim.Native.Nat.{ℕ, zero, suc, ◌+◌, ◌≤◌}
use mathlib.Core.Path.{◌≡◌, refl, sym, ap, ◌∙◌, subst, subst₂}
use mathlib.Core.Bool.{Bool, true, false, cond}
use mathlib.Core.List.{List, [], ◌∷◌, ◌++◌, append-nil, append_assoc}
use mathlib.Core.Logic.{◌⊎◌, inl, inr}
use native.Mathlib.Omega.{arith}
use lib.ListN.{length, drop}
use Rattle.smp_types.specs.declared.types.Command.TheVariants as command
use Rattle.util.specs.Method.{legacy_method}
use Rattle.util.specs.declared.util.PairingMethod.{PairingMethod}
use Rattle.util.specs.declared.util.PairingMethod.TheVariants as method
use Rattle.util.specs.declared.util.PassKeyEntryAction.{PassKeyEntryAction}
use Rattle.util.specs.declared.util.PassKeyEntryAction.TheVariants as action
use Rattle.smp_types.specs.declared.types.PairingFeatures.{PairingFeatures}
use Rattle.host_calls.specs.declared.call.Call.{Call}
use Rattle.machine.specs.declared.Role.{Role}
use Rattle.machine.specs.declared.Role.TheVariants.{Central, Peripheral}
use Rattle.protocol.specs.Handlers.{names_encryption_key, names_identity_key}
use Rattle.protocol.specs.FairLink.{Start, FairStart, Shared, QueuedPacket, Due, Given, a_packet, an_event, Link, end_of, fresh_link, calls_at, link_after, MoveKind, an_input, a_re_run, Move, take_packet, take_event, run_again, count_input, Moves, no_move, move, Run, Idle}
use Rattle.protocol.specs.FairRuns.{types_as, entries, both_bond, count_named, keys_named, keys, display_in, displays_in, shown_as, shown_at, AreAll, RunEnds, EveryFairRunEnds}
use Rattle.protocol.proofs.Codes.{code_known}
use Rattle.protocol.proofs.Exchange.{Empty}
use Rattle.protocol.proofs.InStep.{start}
use Rattle.protocol.proofs.Pairing.{pairing, Agreed}
use Rattle.protocol.proofs.FairSides.{of_all_append}
use Rattle.protocol.proofs.TerminalFollows.{terminal_follows}
use Rattle.protocol.proofs.HeadFollows.{head_follows}
use Rattle.protocol.proofs.FairMoves.{LinkInStep, kept, not_refused_move, idle_none, idle_machine, Moving, terminal_side, head_side, AllOver, goes_on}

-- ---- how many inputs at most

few_typed : (a : PassKeyEntryAction) → types_as a ≤ 1
few_typed action.Display = omega arith
few_typed action.Input = omega arith

few_entries : (x : PairingMethod) → entries x ≤ 2
few_entries method.JustWorks = omega arith
few_entries method.NumericComparison = omega arith
few_entries (method.PassKeyEntry central peripheral) = omega (arith, few_typed central, few_typed peripheral)
few_entries method.OutOfBand = omega arith

few_keys : (request answer : PairingFeatures) → keys request answer ≤ 4
few_keys request answer = go (both_bond request answer)
  where
    few : (b : Bool) → count_named b ≤ 1
    few true = omega arith
    few false = omega arith

    go : (b : Bool) → cond b (keys_named answer) 0 ≤ 4
    go true =
        omega (
          arith,
          few (names_encryption_key answer.initiator_key_distribution),
          few (names_identity_key answer.initiator_key_distribution),
          few (names_encryption_key answer.responder_key_distribution),
          few (names_identity_key answer.responder_key_distribution),
        )
    go false = omega arith

-- ---- where nothing is queued, due or open, no move is allowed

abbrev IsNone : {X : Type 0} → Option X → Type 0
IsNone None = Unit {0}
IsNone (Some x) = ⊥

not_empty : {X : Type 0} (earlier later : List X) (x : X) → Empty (earlier ++ (x ∷ later)) → ⊥
not_empty [] later x h = h
not_empty (y ∷ earlier) later x h = h

still : (shared : Shared) (L : Link) → ((r : Role) → Idle (end_of r L)) → (k : MoveKind) (L₁ : Link) →
    Move shared L k L₁ → ⊥
still shared L idle k L₁ (take_packet r p queue answers u q v f) = subst Empty (sym (idle r).none_queued ∙ q) tt
still shared L idle k L₁ (take_event r ε earlier later answers u q v f) =
    not_empty earlier later ε (subst Empty (sym (idle r).none_due ∙ q) tt)
still shared L idle k L₁ (run_again r g answers x added q f) = subst IsNone (sym (idle r).none_open ∙ q) tt

-- ---- calls are only added

grown_by :
    (shared : Shared) (r who : Role) (L : Link) (g : Given) (answers : List ℕ) (queue : List QueuedPacket)
    (due : List Due) (new : List Call) →
    (more : List Call) × ((end_of r (link_after shared who L g answers queue due new)).calls ≡ (end_of r L).calls ++ more)
grown_by shared Central Central L g answers queue due new = (new, refl)
grown_by shared Central Peripheral L g answers queue due new = ([], sym (append-nil L.terminal.calls))
grown_by shared Peripheral Central L g answers queue due new = ([], sym (append-nil L.head.calls))
grown_by shared Peripheral Peripheral L g answers queue due new = (new, refl)

grown_after :
    {shared : Shared} {L L₁ : Link} {k : MoveKind} (r : Role) → Move shared L k L₁ →
    (more : List Call) × ((end_of r L₁).calls ≡ (end_of r L).calls ++ more)
grown_after {shared} {L} r (take_packet who p queue answers o q u f) =
    grown_by shared r who L (a_packet p) answers queue (end_of who L).due (calls_at shared who L (a_packet p) answers)
grown_after {shared} {L} r (take_event who e earlier later answers o q u f) =
    grown_by shared r who L (an_event e) answers (end_of who L).queue (earlier ++ later)
    (calls_at shared who L (an_event e) answers)
grown_after {shared} {L} r (run_again who g answers x added o f) =
    grown_by shared r who L g (answers ++ (x ∷ added)) (end_of who L).queue (end_of who L).due
    (drop (length (calls_at shared who L g answers)) (calls_at shared who L g (answers ++ (x ∷ added))))

pub calls_grow :
    {shared : Shared} {L L₁ : Link} {moves inputs : ℕ} (r : Role) → Moves shared L moves inputs L₁ →
    (more : List Call) × ((end_of r L₁).calls ≡ (end_of r L).calls ++ more)
calls_grow {L = L} r no_move = ([], sym (append-nil (end_of r L).calls))
calls_grow {L = L} r (move x xs) =
    let y = grown_after r x in
    let z = calls_grow r xs in
    (_, z.1 ∙ ap (λ l. l ++ z.0) y.1 ∙ append_assoc (end_of r L).calls y.0 z.0)

-- ---- what was shown

are_all_front : (n : ℕ) (l more : List ℕ) → AreAll n (l ++ more) → AreAll n l
are_all_front n [] more h = tt
are_all_front n (x ∷ l) more h = (h.0, are_all_front n l more h.1)

-- what the method has an end show is this number
shown_as_lem : (a : PassKeyEntryAction) (n : ℕ) → AreAll n (shown_as a n)
shown_as_lem action.Display n = (refl, tt)
shown_as_lem action.Input n = tt

shown_at_lem : (r : Role) (way : PairingMethod) (n : ℕ) → AreAll n (shown_at r way n)
shown_at_lem r method.JustWorks n = tt
shown_at_lem r method.NumericComparison n = tt
shown_at_lem Central (method.PassKeyEntry central peripheral) n = shown_as_lem central n
shown_at_lem Peripheral (method.PassKeyEntry central peripheral) n = shown_as_lem peripheral n
shown_at_lem r method.OutOfBand n = tt

-- at the end of a run
shown_at_last :
    {shared : Shared} {request : PairingFeatures} {inputs : ℕ} {L : Link} (r : Role) →
    RunEnds shared request inputs L → AreAll shared.shown (displays_in (end_of r L).calls)
shown_at_last {shared} {request} Central h =
    subst (AreAll shared.shown) (sym h.terminal_displays)
    (shown_at_lem Central (legacy_method request h.answer) shared.shown)
shown_at_last {shared} {request} Peripheral h =
    subst (AreAll shared.shown) (sym h.head_displays)
    (shown_at_lem Peripheral (legacy_method request h.answer) shared.shown)

-- of the calls by now, by those later
shown_before :
    (n : ℕ) (calls more later : List Call) → later ≡ calls ++ more → AreAll n (displays_in later) →
    AreAll n (displays_in calls)
shown_before n calls more later e h =
    are_all_front n (displays_in calls) (displays_in more)
    (subst (AreAll n) (ap displays_in e ∙ of_all_append display_in calls more) h)

-- the calls and inputs of each end, at most: as TerminalFollows and HeadFollows count them, but for the last rest
abbrev terminal_moves : ℕ
terminal_moves = 25

abbrev head_moves : ℕ
head_moves = 31

module _ (shared : Shared) (s : Start) where
  -- ---- whole lists of moves

  count_more : (k : MoveKind) (n inputs : ℕ) → count_input k n + inputs ≡ n + count_input k inputs
  count_more an_input n inputs = omega arith
  count_more a_re_run n inputs = omega arith

  -- every list of moves keeps the ends in step, and leaves so many less
  whole :
      {L L₁ : Link} {moves inputs : ℕ} (d e n : ℕ) → Moves shared L moves inputs L₁ → LinkInStep shared s d e n L →
      (d₁ : ℕ) × (e₁ : ℕ) × (moves + (d₁ + e₁) ≤ d + e) × LinkInStep shared s d₁ e₁ (n + inputs) L₁
  whole {L} d e n no_move h = (d, e, omega arith, subst (λ k. LinkInStep shared s d e k L) (omega arith) h)
  whole {L} {L₁} d e n (move {L₁ = L₂} {k = k} {moves = moves} {inputs = inputs} x xs) h =
      let z = kept shared s L d e n h k L₂ x in
      let y = whole z.0 z.1 (count_input k n) xs z.3 in (
        y.0,
        y.1,
        omega (arith, y.2, z.2),
        subst (λ m. LinkInStep shared s y.0 y.1 m L₁) (count_more k n inputs) y.3,
      )

  -- ---- the end of a run

  module _ (L : Link) (d e n : ℕ) (h : LinkInStep shared s d e n L) (o : AllOver shared s h) where
    agreed : Agreed shared s L.terminal.machine (terminal_side shared s h).state L.head.machine
        (head_side shared s h).state
    agreed =
        subst₂ (λ x y. Agreed shared s x (terminal_side shared s h).state y (head_side shared s h).state)
        (idle_machine shared s L.terminal.machine o.machine L.terminal.open_step o.is_idle)
        (idle_machine shared s L.head.machine o.machine₁ L.head.open_step o.is_idle₁) o.goal

    run_ends : RunEnds shared s.request n L
    run_ends =
        record {
          terminal_idle =
              record {
                none_queued = o.no_packet;
                none_due = o.none_due;
                none_open = idle_none shared s L.terminal.machine o.machine L.terminal.open_step o.is_idle;
              };
          head_idle =
              record {
                none_queued = o.no_packet₁;
                none_due = o.none_due₁;
                none_open = idle_none shared s L.head.machine o.machine₁ L.head.open_step o.is_idle₁;
              };
          answer = agreed.answer;
          answered = agreed.answered;
          counted = sym h.total ∙ agreed.counted;
          encryption = agreed.encryption;
          terminal_encrypts = agreed.terminal_encrypts;
          head_encrypts = agreed.head_encrypts;
          terminal_displays = agreed.terminal_displays;
          head_displays = agreed.head_displays;
          terminal_ends = agreed.terminal_ends;
          head_ends = agreed.head_ends;
          same_bonds = agreed.same_bonds;
        }

    few_inputs_lem : n ≤ 18
    few_inputs_lem =
        omega (
          arith,
          h.total,
          agreed.counted,
          few_entries (legacy_method s.request agreed.answer),
          few_keys s.request agreed.answer,
        )

    over_still : (k : MoveKind) (L₁ : Link) → Move shared L k L₁ → ⊥
    over_still = still shared L idle
      where
        idle : (r : Role) → Idle (end_of r L)
        idle Central = run_ends.terminal_idle
        idle Peripheral = run_ends.head_idle

  -- from ends in step, moves lead to where all is over
  abbrev Finishes : (n : ℕ) → Link → Type 0
  Finishes n L =
      (moves : ℕ) × (inputs : ℕ) × (L₁ : Link) × Run shared L moves inputs L₁ × RunEnds shared s.request (n + inputs) L₁
      × (n + inputs ≤ 18)

  here_finished : (L : Link) (d e n : ℕ) (h : LinkInStep shared s d e n L) → AllOver shared s h → Finishes n L
  here_finished L d e n h o =
      let same : n ≡ n + 0 = omega arith in (
        0,
        0,
        L,
        record { all = no_move; over = over_still L d e n h o },
        subst (λ k. RunEnds shared s.request k L) same (run_ends L d e n h o),
        omega (arith, few_inputs_lem L d e n h o),
      )

  then_finishes : (n : ℕ) (L : Link) (m : Moving shared s L) → Finishes (count_input m.0 n) m.1 → Finishes n L
  then_finishes n L m y =
      let same = count_more m.0 n y.1 in (
        suc y.0,
        count_input m.0 y.1,
        y.2,
        record { all = move m.2 y.3.all; over = y.3.over },
        subst (λ k. RunEnds shared s.request k y.2) same y.4,
        subst (λ k. k ≤ 18) same y.5,
      )

  finishes : (b : ℕ) (L : Link) (d e n : ℕ) → d + e ≤ b → LinkInStep shared s d e n L → Finishes n L
  finishes zero L d e n l h = go (goes_on shared s L d e n h)
    where
      go : Moving shared s L ⊎ AllOver shared s h → Finishes n L
      go (inr o) = here_finished L d e n h o
      go (inl m) = absurd (omega (arith, (kept shared s L d e n h m.0 m.1 m.2).2))
  finishes (suc b) L d e n l h = go (finishes b) (goes_on shared s L d e n h)
    where
      go :
          ((L : Link) (d e n : ℕ) → d + e ≤ b → LinkInStep shared s d e n L → Finishes n L) → Moving shared s L
          ⊎ AllOver shared s h →
          Finishes n L
      go rec (inr o) = here_finished L d e n h o
      go rec (inl m) =
          let z = kept shared s L d e n h m.0 m.1 m.2 in
          then_finishes n L m (rec m.1 z.0 z.1 (count_input m.0 n) (omega (arith, z.2)) z.3)

  -- ---- from a fair start

  module _ (fair : FairStart s) where
    fresh_in_step : LinkInStep shared s terminal_moves head_moves 0 (fresh_link s)
    unfolding fresh_link
    fresh_in_step =
        record {
          terminal_inputs = 0;
          head_inputs = 0;
          total = refl;
          in_step = start (pairing shared) (Agreed shared s) tt (terminal_follows shared s 0)
              (head_follows shared s 0 fair);
          terminal_sound = record { queued = tt; opened = tt; had_by = tt; oob_once = refl };
          head_sound =
              record { queued = (code_known command.PairingRequest, tt); opened = tt; had_by = tt; oob_once = refl };
          head_first = λ h. h;
        }

    module _ (moves inputs : ℕ) (L : Link) (x : Moves shared (fresh_link s) moves inputs L) where
      in_step_lem :
          (d₁ : ℕ) × (e₁ : ℕ) × (moves + (d₁ + e₁) ≤ terminal_moves + head_moves) × LinkInStep shared s d₁ e₁ (0 + inputs) L
      in_step_lem = whole terminal_moves head_moves 0 x fresh_in_step

      then_ends : Finishes (0 + inputs) L
      then_ends = finishes (in_step_lem.0 + in_step_lem.1) L in_step_lem.0 in_step_lem.1 (0 + inputs) (omega arith) in_step_lem.3

    comes_to_lem : (moves inputs : ℕ) (L : Link) → Run shared (fresh_link s) moves inputs L → RunEnds shared s.request inputs L
    comes_to_lem moves inputs L x =
        let z = in_step_lem moves inputs L x.all in
        let none_left = goes_on shared s L z.0 z.1 (0 + inputs) z.3 in
        go z.0 z.1 z.3 none_left
      where
        go : (d e : ℕ) (h : LinkInStep shared s d e (0 + inputs) L) → Moving shared s L ⊎ AllOver shared s h →
            RunEnds shared s.request inputs L
        go d e h (inl m) = absurd (x.over m.0 m.1 m.2)
        go d e h (inr o) = subst (λ k. RunEnds shared s.request k L) (omega arith) (run_ends L d e (0 + inputs) h o)

-- the claim
pub every_fair_run_ends : EveryFairRunEnds
every_fair_run_ends s fair = (
  terminal_moves + head_moves,
  λ shared. record {
    bounded = λ moves inputs L x. omega (arith, (in_step_lem shared s fair moves inputs L x).2);
    begins = λ moves inputs L x. let z = then_ends shared s fair moves inputs L x in (z.0, z.1, z.2, z.3);
    accepted = λ moves inputs L x. let z = in_step_lem shared s fair moves inputs L x in
        not_refused_move shared s L z.0 z.1 (0 + inputs) z.3;
    few_inputs = λ moves inputs L x. let z = then_ends shared s fair moves inputs L x in omega (arith, z.5);
    displays = λ moves inputs L x r. let z = then_ends shared s fair moves inputs L x in
        let grown = calls_grow r z.3.all in
        shown_before shared.shown (end_of r L).calls grown.0 (end_of r z.2).calls grown.1
        (shown_at_last r z.4);
    comes_to = λ moves inputs L x. comes_to_lem shared s fair moves inputs L x;
  },
)
