-- Laws of a step on octets: answers left over do not matter; a step that wants goes on when it is made again with more
-- answers; what a step gives back that wants, ends or is refused. Assumes nothing.
use Prim.Native.Nat.{ℕ, ◌≤◌, ◌<◌}
use mathlib.Core.Path.{◌≡◌, refl, sym, ap, ◌∙◌, subst}
use mathlib.Core.Bool.{Bool, true, false, cond}
use mathlib.Core.List.{List, [], ◌∷◌, ◌++◌, append_assoc, append-nil}
use mathlib.Core.Logic.{◌⊎◌, inl, inr}
use native.Mathlib.Nat.{zero-add}
use lib.Dec.{ltb}
use lib.ListN.{length, take}
use borrow.Author.Tests.{lt-ltb, le-ltb}
use Rattle.octets.specs.Octets.{write_at}
use Rattle.host_calls.specs.Calls.{call_octets, calls_octets, longest}
use Rattle.host_calls.specs.declared.call.Call.{Call}
use Rattle.machine.specs.declared.Input.{Input}
use Rattle.machine.specs.declared.Machine.{Machine}
use Rattle.machine.specs.declared.Role.{Role}
use Rattle.protocol.specs.Outcome.{StepOutcome}
use Rattle.protocol.specs.Outcome as outcome
use Rattle.protocol.specs.Program.{ask, Ending, ended, wanting, refusing, Played, play}
use Rattle.protocol.specs.Ops.{Reply, answer_size, reply_at, Program}
use Rattle.protocol.specs.Step.{handle_input_by_role, play_of, Step, refused_by, stepped, is_known, step}
use Rattle.protocol.proofs.Programs.{OfEnding, total, place_ended, place_wanting, wanting_last}
use Rattle.protocol.proofs.Programs.{rest, answered, play_left_over, play_again}
use Rattle.protocol.proofs.Programs.{again_ending, again_place, again_calls, again_further}
use Rattle.protocol.proofs.Replies.{reads, reply_size}

-- ---- the octets of calls

pub calls_octets_append : (a b : List Call) → calls_octets (a ++ b) ≡ calls_octets a ++ calls_octets b
unfolding calls_octets
calls_octets_append [] b = refl
calls_octets_append (c ∷ a) b =
    ap (λ (l : List ℕ). call_octets c ++ l) (calls_octets_append a b)
    ∙ sym (append_assoc (call_octets c) (calls_octets a) (calls_octets b))

calls_octets_last : (cs : List Call) (c : Call) → calls_octets (cs ++ (c ∷ [])) ≡ calls_octets cs ++ call_octets c
unfolding calls_octets
calls_octets_last cs c =
    calls_octets_append cs (c ∷ []) ∙ ap (λ (l : List ℕ). calls_octets cs ++ l) (append-nil (call_octets c))

-- ---- from the outcome of a step to how its play came out

abbrev IsEnded : StepOutcome → Type 0
IsEnded outcome.ended = Unit {0}
IsEnded outcome.wants = ⊥
IsEnded (outcome.refused n) = ⊥

abbrev IsWants : StepOutcome → Type 0
IsWants outcome.ended = ⊥
IsWants outcome.wants = Unit {0}
IsWants (outcome.refused n) = ⊥

abbrev IsRefusedBy : ℕ → StepOutcome → Type 0
IsRefusedBy n outcome.ended = ⊥
IsRefusedBy n outcome.wants = ⊥
IsRefusedBy n (outcome.refused k) = k ≡ n

module _ (m : Machine) (list : List ℕ) (x : Played Call Machine) where
  -- a step by its two tests and the ending of its play
  abbrev made : Bool → Bool → Ending Machine → Step
  made short known e =
      cond short (refused_by 1 m list) (cond known (stepped m list x.calls x.place e) (refused_by 2 m list))

  made_ended : (short known : Bool) (e : Ending Machine) → IsEnded (made short known e).outcome
      → (m₁ : Machine) × (e ≡ ended m₁) × (made short known e ≡ stepped m list x.calls x.place (ended m₁))
  made_ended true known e h = absurd h
  made_ended false true (ended m₁) h = (m₁, refl, refl)
  made_ended false true wanting h = absurd h
  made_ended false true refusing h = absurd h
  made_ended false false e h = absurd h

  made_wants : (short known : Bool) (e : Ending Machine) → IsWants (made short known e).outcome
      → (e ≡ wanting) × (made short known e ≡ stepped m list x.calls x.place wanting)
  made_wants true known e h = absurd h
  made_wants false true (ended m₁) h = absurd h
  made_wants false true wanting h = (refl, refl)
  made_wants false true refusing h = absurd h
  made_wants false false e h = absurd h

  made_refused : (n : ℕ) (short known : Bool) (e : Ending Machine)
      → IsRefusedBy n (made short known e).outcome → made short known e ≡ refused_by n m list
  made_refused n true known e h = ap (λ (k : ℕ). refused_by k m list) h
  made_refused n false true (ended m₁) h = absurd h
  made_refused n false true wanting h = absurd h
  made_refused n false true refusing h = ap (λ (k : ℕ). refused_by k m list) h
  made_refused n false false e h = ap (λ (k : ℕ). refused_by k m list) h

  made_number : (n : ℕ) (short known : Bool) (e : Ending Machine) → IsRefusedBy n (made short known e).outcome
      → (n ≡ 1) ⊎ ((n ≡ 2) ⊎ (n ≡ 3))
  made_number n true known e h = inl (sym h)
  made_number n false true (ended m₁) h = absurd h
  made_number n false true wanting h = absurd h
  made_number n false true refusing h = inr (inr (sym h))
  made_number n false false e h = inr (inl (sym h))

  -- a step that is not refused has read to the place of its play
  made_read : (short known : Bool) (e : Ending Machine)
      → ((n : ℕ) → (made short known e).outcome ≡ outcome.refused n → ⊥)
      → (made short known e).read ≡ x.place
  made_read true known e h = absurd (h 1 refl)
  made_read false true (ended m₁) h = refl
  made_read false true wanting h = refl
  made_read false true refusing h = absurd (h 3 refl)
  made_read false false e h = absurd (h 2 refl)

  made_list : (short known : Bool) (e : Ending Machine)
      → ((n : ℕ) → (made short known e).outcome ≡ outcome.refused n → ⊥)
      → (made short known e).list ≡ write_at list 0 (calls_octets x.calls)
  made_list true known e h = absurd (h 1 refl)
  made_list false true (ended m₁) h = refl
  made_list false true wanting h = refl
  made_list false true refusing h = absurd (h 3 refl)
  made_list false false e h = absurd (h 2 refl)

  made_gives : (P : Machine → Type 0) (short known : Bool) (e : Ending Machine) → P m → OfEnding P e
      → P (made short known e).machine
  made_gives P true known e h g = h
  made_gives P false true (ended m₁) h g = g
  made_gives P false true wanting h g = h
  made_gives P false true refusing h g = h
  made_gives P false false e h g = h

module _ (r : Role) (m : Machine) (i : Input) (payload answers list : List ℕ) where
  abbrev step_by : Ending Machine → Step
  step_by e = stepped m list (play_of r m i payload answers).calls (play_of r m i payload answers).place e

  ended_play : (step r m i payload answers list).outcome ≡ outcome.ended
      → (m₁ : Machine) × ((play_of r m i payload answers).ending ≡ ended m₁)
      × (step r m i payload answers list ≡ step_by (ended m₁))
  unfolding step
  ended_play h =
      let x = play_of r m i payload answers in
      made_ended m list x (ltb (length list) longest) (is_known i) x.ending (subst IsEnded (sym h) tt)

  wants_play : (step r m i payload answers list).outcome ≡ outcome.wants
      → ((play_of r m i payload answers).ending ≡ wanting) × (step r m i payload answers list ≡ step_by wanting)
  unfolding step
  wants_play h =
      let x = play_of r m i payload answers in
      made_wants m list x (ltb (length list) longest) (is_known i) x.ending (subst IsWants (sym h) tt)

  read_place : ((n : ℕ) → (step r m i payload answers list).outcome ≡ outcome.refused n → ⊥)
      → (step r m i payload answers list).read ≡ (play_of r m i payload answers).place
  unfolding step
  read_place h =
      let x = play_of r m i payload answers in
      made_read m list x (ltb (length list) longest) (is_known i) x.ending h

  -- a step that is not refused writes its calls to the list
  pub step_list : ((n : ℕ) → (step r m i payload answers list).outcome ≡ outcome.refused n → ⊥)
      → (step r m i payload answers list).list ≡ write_at list 0 (calls_octets (play_of r m i payload answers).calls)
  unfolding step
  step_list h =
      let x = play_of r m i payload answers in
      made_list m list x (ltb (length list) longest) (is_known i) x.ending h

  -- what holds of the machine given, and of the program's where it ended, holds of the machine that a step gives back
  pub step_gives : (P : Machine → Type 0) → P m → OfEnding P (play_of r m i payload answers).ending
      → P (step r m i payload answers list).machine
  unfolding step
  step_gives P h g =
      let x = play_of r m i payload answers in
      made_gives m list x P (ltb (length list) longest) (is_known i) x.ending h g

  -- on answers with the same play, the step is the same
  same_step : (others : List ℕ) → play_of r m i payload others ≡ play_of r m i payload answers
      → step r m i payload others list ≡ step r m i payload answers list
  unfolding step
  same_step others e =
      ap (λ (x : Played Call Machine). made m list x (ltb (length list) longest) (is_known i) x.ending) e

-- ---- what a step gives back

-- a step that wants: the machine given; all answers were read, one for each call but the last, and the program waits at
-- that last call; the calls are written to the list
pub record StepWants (r : Role) (m : Machine) (i : Input) (payload answers list : List ℕ) : Type 0 where
  pub answered : List Call
  pub unanswered : Call
  pub left : Reply unanswered → Program Machine
  pub waits : rest reply_at answers (handle_input_by_role r m i payload) 0 ≡ ask unanswered left
  pub calls : (play_of r m i payload answers).calls ≡ answered ++ (unanswered ∷ [])
  pub machine : (step r m i payload answers list).machine ≡ m
  pub all_read : (step r m i payload answers list).read ≡ length answers
  pub sizes : (step r m i payload answers list).read ≡ total answer_size answered
  pub count :
      (step r m i payload answers list).written ≡ length (calls_octets answered ++ call_octets unanswered)
  pub octets :
      (step r m i payload answers list).list ≡ write_at list 0 (calls_octets answered ++ call_octets unanswered)

-- a step that ends: the program's machine; one answer was read for each call; the calls are written to the list
pub record StepEnded (r : Role) (m : Machine) (i : Input) (payload answers list : List ℕ) : Type 0 where
  pub machine : (play_of r m i payload answers).ending ≡ ended (step r m i payload answers list).machine
  pub sizes :
      (step r m i payload answers list).read ≡ total answer_size (play_of r m i payload answers).calls
  pub count :
      (step r m i payload answers list).written ≡ length (calls_octets (play_of r m i payload answers).calls)
  pub octets :
      (step r m i payload answers list).list ≡ write_at list 0 (calls_octets (play_of r m i payload answers).calls)

-- a step that is refused: the machine given, counts 0, the list untouched
pub record StepRefused (r : Role) (m : Machine) (i : Input) (payload answers list : List ℕ) : Type 0 where
  pub machine : (step r m i payload answers list).machine ≡ m
  pub none_read : (step r m i payload answers list).read ≡ 0
  pub none_written : (step r m i payload answers list).written ≡ 0
  pub untouched : (step r m i payload answers list).list ≡ list

module _ (r : Role) (m : Machine) (i : Input) (payload answers list : List ℕ) where
  pub step_wants : (step r m i payload answers list).outcome ≡ outcome.wants
      → StepWants r m i payload answers list
  unfolding play_of
  step_wants h =
      let p = handle_input_by_role r m i payload in
      let q = wants_play r m i payload answers list h in
      let l = wanting_last reply_at reads answers p 0 q.0 in
      let by_size = place_wanting reply_at answer_size reply_size answers p 0 l.0 l.1 q.0 l.3 in
      let laid = ap calls_octets l.3 ∙ calls_octets_last l.0 l.1 in
      let read_is = ap (λ (x : Step). x.read) q.1 in
      record {
        answered = l.0;
        unanswered = l.1;
        left = l.2;
        waits = l.4;
        calls = l.3;
        machine = ap (λ (x : Step). x.machine) q.1;
        all_read = read_is ∙ l.5;
        sizes = read_is ∙ by_size ∙ zero-add (total answer_size l.0);
        count = ap (λ (x : Step). x.written) q.1 ∙ ap length laid;
        octets = ap (λ (x : Step). x.list) q.1 ∙ ap (write_at list 0) laid;
      }

  pub step_ended : (step r m i payload answers list).outcome ≡ outcome.ended
      → StepEnded r m i payload answers list
  unfolding play_of
  step_ended h =
      let q = ended_play r m i payload answers list h in
      let by_size = place_ended reply_at answer_size reply_size answers (handle_input_by_role r m i payload) 0 q.1 in
      let read_is = ap (λ (x : Step). x.read) q.2 in
      record {
        machine = q.1 ∙ ap ended (sym (ap (λ (x : Step). x.machine) q.2));
        sizes = read_is ∙ by_size ∙ zero-add (total answer_size (play_of r m i payload answers).calls);
        count = ap (λ (x : Step). x.written) q.2;
        octets = ap (λ (x : Step). x.list) q.2;
      }

  -- a refused step: the machine given, counts 0, the list untouched
  pub step_refused : (n : ℕ) → (step r m i payload answers list).outcome ≡ outcome.refused n
      → step r m i payload answers list ≡ refused_by n m list
  unfolding step
  step_refused n h =
      let x = play_of r m i payload answers in
      made_refused m list x n (ltb (length list) longest) (is_known i) x.ending (subst (IsRefusedBy n) (sym h) refl)

  pub refused_numbers : (n : ℕ) → (step r m i payload answers list).outcome ≡ outcome.refused n
      → StepRefused r m i payload answers list
  refused_numbers n h =
      let e = step_refused n h in
      record {
        machine = ap (λ x. x.machine) e;
        none_read = ap (λ x. x.read) e;
        none_written = ap (λ x. x.written) e;
        untouched = ap (λ x. x.list) e;
      }

  -- no step is refused by another number than 1, 2 and 3
  pub refused_by_three : (n : ℕ) → (step r m i payload answers list).outcome ≡ outcome.refused n
      → (n ≡ 1) ⊎ ((n ≡ 2) ⊎ (n ≡ 3))
  unfolding step
  refused_by_three n h =
      let x = play_of r m i payload answers in
      made_number m list x n (ltb (length list) longest) (is_known i) x.ending (subst (IsRefusedBy n) (sym h) refl)

  -- before all else a list that is too short is refused, by 1
  pub refused_short : length list < longest → step r m i payload answers list ≡ refused_by 1 m list
  unfolding step
  refused_short l = rw (lt-ltb (length list) longest l)

  -- then a code that is no command's, by 2
  pub refused_code : longest ≤ length list → is_known i ≡ false → step r m i payload answers list ≡ refused_by 2 m list
  unfolding step
  refused_code l e = rw (le-ltb (length list) longest l, e)

  -- then an answer that is none to its call, by 3
  pub refused_answer : longest ≤ length list → is_known i ≡ true → (play_of r m i payload answers).ending ≡ refusing
      → step r m i payload answers list ≡ refused_by 3 m list
  unfolding step
  refused_answer l e h = rw (le-ltb (length list) longest l, e, h)

  -- ---- other answers

  -- answers left over are not read and do not matter
  pub step_left_over : (step r m i payload answers list).outcome ≡ outcome.ended → (w : List ℕ)
      → step r m i payload (take (step r m i payload answers list).read answers ++ w) list
      ≡ step r m i payload answers list
  unfolding play_of
  step_left_over h w =
      let q = ended_play r m i payload answers list h in
      let read_is = ap (λ (x : Step). x.read) q.2 in
      same_step r m i payload answers list (take (step r m i payload answers list).read answers ++ w)
      (ap (λ (n : ℕ). play_of r m i payload (take n answers ++ w)) read_is
      ∙ play_left_over reply_at reads answers w (handle_input_by_role r m i payload) 0 q.1)

  -- a step that wants, made again with more answers, goes on where it stopped: as what is left of its program, from the end
  -- of the first answers on, with the calls that were answered before in front
  pub step_continues : (more : List ℕ) → (step r m i payload answers list).outcome ≡ outcome.wants
      → let all = answers ++ more in
      let p = handle_input_by_role r m i payload in
      let left = play reply_at all (rest reply_at answers p 0) (length answers) in
      ((play_of r m i payload all).ending ≡ left.ending) × ((play_of r m i payload all).place ≡ left.place)
      × ((play_of r m i payload all).calls ≡ answered reply_at answers p 0 ++ left.calls)
  unfolding play_of
  step_continues more h =
      let p = handle_input_by_role r m i payload in
      let q = wants_play r m i payload answers list h in
      let end = (wanting_last reply_at reads answers p 0 q.0).5 in (
        subst (λ (n : ℕ). (play reply_at (answers ++ more) p 0).ending
            ≡ (play reply_at (answers ++ more) (rest reply_at answers p 0) n).ending) end
            (again_ending reply_at reads answers more p 0),
        subst (λ (n : ℕ). (play reply_at (answers ++ more) p 0).place
            ≡ (play reply_at (answers ++ more) (rest reply_at answers p 0) n).place) end
            (again_place reply_at reads answers more p 0),
        subst (λ (n : ℕ). (play reply_at (answers ++ more) p 0).calls
            ≡ answered reply_at answers p 0 ++ (play reply_at (answers ++ more) (rest reply_at answers p 0) n).calls) end
            (again_calls reply_at reads answers more p 0),
      )

  -- a step that wants, made again with more answers and not refused, lists the same calls, in the same octets, before what
  -- is new, and reads no less
  pub step_again : (more : List ℕ) → (step r m i payload answers list).outcome ≡ outcome.wants
      → ((n : ℕ) → (step r m i payload (answers ++ more) list).outcome ≡ outcome.refused n → ⊥)
      → (cs : List Call)
      × ((play_of r m i payload (answers ++ more)).calls ≡ (play_of r m i payload answers).calls ++ cs)
      × (calls_octets (play_of r m i payload (answers ++ more)).calls
      ≡ calls_octets (play_of r m i payload answers).calls ++ calls_octets cs)
      × ((step r m i payload answers list).read ≤ (step r m i payload (answers ++ more) list).read)
  unfolding play_of
  step_again more h ok =
      let p = handle_input_by_role r m i payload in
      let q = wants_play r m i payload answers list h in
      let a = play_again reply_at reads answers more p 0 q.0 in
      let read_is = ap (λ (x : Step). x.read) q.1 in (
        a.0,
        a.1,
        ap calls_octets a.1 ∙ calls_octets_append (play_of r m i payload answers).calls a.0,
        rw (read_place r m i payload (answers ++ more) list ok, read_is) (again_further reply_at reads answers more p 0),
      )

-- ---- what a step gives back beside its list is the same on any list that is long enough

-- a step's other values, beside this list
abbrev pub beside : List ℕ → Step → Step
beside list s = record { outcome = s.outcome; machine = s.machine; read = s.read; written = s.written; list = list }

module _ (m : Machine) (x : Played Call Machine) (a b list : List ℕ) where
  made_same : (known : Bool) (e : Ending Machine)
      → beside list (made m a x false known e) ≡ beside list (made m b x false known e)
  made_same true (ended m₁) = refl
  made_same true wanting = refl
  made_same true refusing = refl
  made_same false e = refl

pub step_on_any_list :
    (r : Role) (m : Machine) (i : Input) (payload answers a b list : List ℕ) →
    longest ≤ length a → longest ≤ length b →
    beside list (step r m i payload answers a) ≡ beside list (step r m i payload answers b)
unfolding step
step_on_any_list r m i payload answers a b list h k =
    let x = play_of r m i payload answers in
    rw (le-ltb (length a) longest h, le-ltb (length b) longest k) (made_same m x a b list (is_known i) x.ending)
