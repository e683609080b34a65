-- Every move of the fair link keeps its two ends in step, and leaves less to do; and where they are in step some move is
-- allowed, or all is over. Assumes nothing.
use Rattle.std.specs.Prelude.{Option, Some, None}
use Prim.Native.Nat.{ℕ, suc, ◌+◌, ◌≤◌, ◌<◌}
use mathlib.Core.Path.{◌≡◌, refl, sym, ap, ◌∙◌, subst, subst₂, subst₃}
use mathlib.Core.Bool.{Bool, true, false, not, ◌&&◌, true≢false}
use mathlib.Core.List.{List, [], ◌∷◌, ◌++◌}
use mathlib.Core.Logic.{◌⊎◌, inl, inr}
use native.Mathlib.Omega.{arith}
use lib.ListN.{length, drop}
use Rattle.host_calls.specs.declared.call.Call.{Call}
use Rattle.machine.specs.declared.Machine.{Machine}
use Rattle.machine.specs.declared.Role.{Role}
use Rattle.machine.specs.declared.Role.TheVariants.{Central, Peripheral}
use Rattle.protocol.specs.Outcome.{StepOutcome}
use Rattle.protocol.specs.Outcome as outcome
use Rattle.protocol.specs.Program.{wanting, play}
use Rattle.protocol.specs.Ops.{reply_at, Program}
use Rattle.protocol.specs.Step.{handle_input_by_role, play_of}
use Rattle.protocol.specs.FairLink.{Start, Shared, AreOctets, FairAnswers, QueuedPacket, Due, pass_key, oob_data, encryption_on, Given, a_packet, an_event, input_of, payload_of, OpenStep, End, Link, end_of, has_listed, made_due_by_all, step_at, calls_at, FairHost, open_after, had_oob_after, end_after, receives, link_after, MoveKind, an_input, a_re_run, report_due, MayTake, Move, take_packet, take_event, run_again, outcome_of, count_input}
use Rattle.protocol.specs.FairRuns.{NotRefused}
use Rattle.protocol.proofs.Programs.{along}
use Rattle.protocol.proofs.Replies.{reads}
use Rattle.protocol.proofs.Allowed.{no_answers}
use Rattle.protocol.proofs.FairReplies.{fair_reply, more_answers}
use Rattle.protocol.proofs.Exchange.{Party, opener, replier, other, plus_one, System, Local, locally, FairOf, Hosts}
use Rattle.protocol.proofs.InStep.{Act, Side, side, InStep, in_step_turned, side_after, Kept, packet_kept, event_kept, behind_kept, again_kept, Can, packet_can, event_can, behind_can, again_can, Over, progress}
use Rattle.protocol.proofs.InStep.{receives as received}
use Rattle.protocol.proofs.Pairing.{role_of, summary, held_back, releases, pairing, Agreed}
use Rattle.protocol.proofs.FairSides.{act_of, side_of, note_all_lem, send_all_lem, KnownGiven, AllKnown, all_known, act_after_lem, not_refused, one, oobs, oobs_append, oobs_made_by_all, OobOnce}

module _ (shared : Shared) (s : Start) where
  abbrev pub Ends : System
  Ends = pairing shared

  abbrev pub Agrees : Machine → Local Ends → Machine → Local Ends → Type 0
  Agrees = Agreed shared s

  -- ---- hosts are fair

  fair_of :
      (answers : List ℕ) (p : Program Machine) (at : ℕ) → AreOctets answers → FairAnswers shared p answers at →
      FairOf Ends answers p at
  fair_of answers p at octets =
      along reply_at answers (λ p at. FairAnswers shared p answers at → FairOf Ends answers p at)
      (λ m at f. tt)
      (λ c k at e f. rw e tt)
      (λ c k at e f. absurd (rw e at f))
      (λ c k at x n e rec f. let f₁ =
      rw e at f in rw e (fair_reply shared c answers at x n octets e f₁.0, rec f₁.1))
      p at

  hosts : Hosts Ends
  hosts = record { reads = reads; fair = λ p answers h. fair_of answers p 0 h.0 h.1 }

  -- ---- what holds of an end besides

  abbrev KnownOpen : Option OpenStep → Type 0
  KnownOpen None = Unit {0}
  KnownOpen (Some o) = KnownGiven o.given

  -- an open step on OOB data has had it
  abbrev HadBy : Option OpenStep → Bool → Type 0
  HadBy None had = Unit {0}
  HadBy (Some o) had = had_oob_after o.given had ≡ had

  -- queued packets and the open step have codes of commands, and OOB data is had once
  pub record Sound (e : End) : Type 0 where
    pub queued : AllKnown e.queue
    pub opened : KnownOpen e.open_step
    pub had_by : HadBy e.open_step e.had_oob
    pub oob_once : OobOnce e

  open_known : (o : StepOutcome) (g : Given) (answers : List ℕ) → KnownGiven g → KnownOpen (open_after o g answers)
  open_known outcome.ended g answers k = tt
  open_known outcome.wants g answers k = k
  open_known (outcome.refused n) g answers k = tt

  open_had : (o : StepOutcome) (g : Given) (answers : List ℕ) (had : Bool) →
      HadBy (open_after o g answers) (had_oob_after g had)
  open_had outcome.ended g answers had = tt
  open_had outcome.wants (a_packet p) answers had = refl
  open_had outcome.wants (an_event pass_key) answers had = refl
  open_had outcome.wants (an_event oob_data) answers had = refl
  open_had outcome.wants (an_event encryption_on) answers had = refl
  open_had (outcome.refused n) g answers had = tt

  -- the end that moved
  after_sound :
      (r : Role) (L : Link) (g : Given) (answers : List ℕ) (queue : List QueuedPacket) (due : List Due)
      (new : List Call) →
      KnownGiven g → AllKnown queue →
      oobs due + one (had_oob_after g (end_of r L).had_oob) ≡ one (has_listed 0x25 (end_of r L).calls) →
      Sound (end_after shared r L g answers queue due new)
  after_sound r L g answers queue due new k q o =
      record {
        queued = q;
        opened = open_known (step_at shared r L g answers).outcome g answers k;
        had_by = open_had (step_at shared r L g answers).outcome g answers (end_of r L).had_oob;
        oob_once =
            omega (
              arith,
              o,
              oobs_append due (made_due_by_all (end_of r L).calls new),
              oobs_made_by_all new (end_of r L).calls,
            );
      }

  -- the other end
  receives_sound : (new : List Call) (e : End) → Sound e → Sound (receives new e)
  receives_sound new e h =
      record {
        queued = all_known e.queue new h.queued;
        opened = h.opened;
        had_by = h.had_by;
        oob_once = h.oob_once;
      }

  receives_side :
      (new : List Call) (e : End) (b : Bool) (k n : ℕ) →
      received Ends Agrees new b (side_of shared s k n e) ≡ side_of shared s k (plus_one b n) (receives new e)
  receives_side new e b k n =
      ap (λ q. side Ends Agrees (act_of shared s e.machine e.open_step)
      (locally Ends (summary e.calls) e.due k) q (plus_one b n)) (send_all_lem shared s new e.queue)

  -- ---- events: what is due and what was had

  one_most : (b : Bool) → one b ≤ 1
  one_most true = omega arith
  one_most false = omega arith

  event_oobs :
      (ε : Due) (earlier later due : List Due) (had : Bool) (x : Bool) → due ≡ earlier ++ (ε ∷ later) →
      oobs due + one had ≡ one x → oobs (earlier ++ later) + one (had_oob_after (an_event ε) had) ≡ one x
  event_oobs pass_key earlier later due had x q o =
      omega (arith, o, ap oobs q, oobs_append earlier (pass_key ∷ later), oobs_append earlier later)
  event_oobs oob_data earlier later due had x q o =
      omega (arith, o, ap oobs q, one_most x, oobs_append earlier (oob_data ∷ later), oobs_append earlier later)
  event_oobs encryption_on earlier later due had x q o =
      omega (arith, o, ap oobs q, oobs_append earlier (encryption_on ∷ later), oobs_append earlier later)

  -- OOB data that is due was not had
  not_had :
      (e : End) (earlier later : List Due) → Sound e → e.due ≡ earlier ++ (oob_data ∷ later) → e.had_oob ≡ false
  not_had e earlier later k q = go e.had_oob k.oob_once
    where
      go : (had : Bool) → oobs e.due + one had ≡ one (has_listed 0x25 e.calls) → had ≡ false
      go true o =
          absurd (omega (
            arith,
            o,
            ap oobs q,
            one_most (has_listed 0x25 e.calls),
            oobs_append earlier (oob_data ∷ later),
          ))
      go false o = refl

  -- ---- the link, in step

  -- the other end's signals that an end has not used, by whether it and the other have had their OOB data: the terminal
  -- may use the head's
  abbrev unused_by : Party → (had that_had : Bool) → ℕ
  unused_by opener had that_had = one (that_had && not had)
  unused_by replier had that_had = 0

  -- the head had it before the terminal
  abbrev HeadFirst : Party → (had that_had : Bool) → Type 0
  HeadFirst opener had that_had = had ≡ true → that_had ≡ true
  HeadFirst replier had that_had = that_had ≡ true → had ≡ true

  pub record LinkInStep (d e inputs : ℕ) (L : Link) : Type 1 where
    pub terminal_inputs : ℕ
    pub head_inputs : ℕ
    pub total : terminal_inputs + head_inputs ≡ inputs
    pub in_step :
        InStep Ends Agrees opener d e
        (side_of shared s terminal_inputs (unused_by opener L.terminal.had_oob L.head.had_oob) L.terminal)
        (side_of shared s head_inputs 0 L.head)
    pub terminal_sound : Sound L.terminal
    pub head_sound : Sound L.head
    pub head_first : HeadFirst opener L.terminal.had_oob L.head.had_oob

  -- fewer moves are left after it
  abbrev pub Fewer : (d e inputs : ℕ) → Link → Type 1
  Fewer d e inputs L = (d₁ : ℕ) × (e₁ : ℕ) × (d₁ + e₁ < d + e) × LinkInStep d₁ e₁ inputs L

  -- of the terminal's number and the head's, an end's own
  abbrev own : Party → ℕ → ℕ → ℕ
  own opener t h = t
  own replier t h = h

  abbrev this : Party → Link → End
  this p L = end_of (role_of p) L

  abbrev that : Party → Link → End
  that p L = end_of (role_of (other p)) L

  module _ (L : Link) (d e n : ℕ) (h : LinkInStep d e n L) where
    -- ---- what LinkInStep says, seen from either end

    abbrev inputs_at : Party → ℕ
    inputs_at p = own p h.terminal_inputs h.head_inputs

    abbrev unused_at : Party → ℕ
    unused_at p = unused_by p (this p L).had_oob (that p L).had_oob

    abbrev unused_there : Party → ℕ
    unused_there p = unused_by (other p) (that p L).had_oob (this p L).had_oob

    abbrev state_at : Party → Local Ends
    state_at p = locally Ends (summary (this p L).calls) (this p L).due (inputs_at p)

    abbrev side_there : Party → Side Ends Agrees
    side_there p = side_of shared s (inputs_at (other p)) (unused_there p) (that p L)

    in_step_lem :
        (p : Party) →
        InStep Ends Agrees p (own p d e) (own (other p) d e) (side_of shared s (inputs_at p) (unused_at p) (this p L))
        (side_there p)
    in_step_lem opener = h.in_step
    in_step_lem replier =
        in_step_turned Ends Agrees opener d e
        (side_of shared s h.terminal_inputs (unused_at opener) L.terminal) (side_of shared s h.head_inputs 0 L.head)
        h.in_step

    sound : (r : Role) → Sound (end_of r L)
    sound Central = h.terminal_sound
    sound Peripheral = h.head_sound

    head_first_lem : (p : Party) → HeadFirst p (this p L).had_oob (that p L).had_oob
    head_first_lem opener = h.head_first
    head_first_lem replier = h.head_first

    same_inputs : (p : Party) → inputs_at p + inputs_at (other p) ≡ n
    same_inputs opener = h.total
    same_inputs replier = omega (arith, h.total)

    -- ---- a move of an end

    abbrev had_after : Party → Given → Bool
    had_after p g = had_oob_after g (this p L).had_oob

    -- what is asked of it besides: what it is given, the packets and events that it leaves, and the inputs after it, of
    -- the end and of both
    record SoundMove (p : Party) (g : Given) (queue : List QueuedPacket) (due : List Due) (inputs total : ℕ) : Type 0
      where
        counted : inputs + inputs_at (other p) ≡ total
        known : KnownGiven g
        queued : AllKnown queue
        oob_once : oobs due + one (had_after p g) ≡ one (has_listed 0x25 (this p L).calls)
        head_first : HeadFirst p (had_after p g) (that p L).had_oob

    module _ (g : Given) (answers : List ℕ) (queue : List QueuedPacket) (due : List Due) (new : List Call) where
      -- the link after it is in step, if the ends after it are
      linked :
          (p : Party) (inputs total d₁ : ℕ) → SoundMove p g queue due inputs total → d₁ < own p d e →
          InStep Ends Agrees p d₁ (own (other p) d e)
          (side_of shared s inputs (unused_by p (had_after p g) (that p L).had_oob)
          (end_after shared (role_of p) L g answers queue due new))
          (side_of shared s (inputs_at (other p)) (unused_by (other p) (that p L).had_oob (had_after p g))
          (receives new (that p L))) →
          Fewer d e total (link_after shared (role_of p) L g answers queue due new)
      linked opener inputs total d₁ m less z = (
        d₁,
        e,
        omega (arith, less),
        record {
          terminal_inputs = inputs;
          head_inputs = h.head_inputs;
          total = m.counted;
          in_step = z;
          terminal_sound = after_sound Central L g answers queue due new m.known m.queued m.oob_once;
          head_sound = receives_sound new L.head h.head_sound;
          head_first = m.head_first;
        },
      )
      linked replier inputs total d₁ m less z = (
        d,
        d₁,
        omega (arith, less),
        record {
          terminal_inputs = h.terminal_inputs;
          head_inputs = inputs;
          total = omega (arith, m.counted);
          in_step =
              in_step_turned Ends Agrees replier d₁ d
              (side_of shared s inputs 0 (end_after shared Peripheral L g answers queue due new))
              (side_of shared s h.terminal_inputs (unused_by opener L.terminal.had_oob (had_after replier g))
              (receives new L.terminal)) z;
          terminal_sound = receives_sound new L.terminal h.terminal_sound;
          head_sound = after_sound Peripheral L g answers queue due new m.known m.queued m.oob_once;
          head_first = m.head_first;
        },
      )

      -- .. and they are, if the sides after it are, with the signals that are then not used
      moved :
          (p : Party) (inputs total unused : ℕ) (b : Bool) → SoundMove p g queue due inputs total →
          unused ≡ unused_by p (had_after p g) (that p L).had_oob →
          plus_one b (unused_there p) ≡ unused_by (other p) (that p L).had_oob (had_after p g) →
          Kept Ends Agrees p (own p d e) (own (other p) d e)
          (side_after Ends Agrees p (this p L).machine g answers new
          (locally Ends (summary (this p L).calls) due inputs) queue unused)
          (received Ends Agrees new b (side_there p)) →
          Fewer d e total (link_after shared (role_of p) L g answers queue due new)
      moved p inputs total unused b m here there z =
          let ended : side_after Ends Agrees p (this p L).machine g answers new
          (locally Ends (summary (this p L).calls) due inputs) queue unused
          ≡ side_of shared s inputs unused (end_after shared (role_of p) L g answers queue due new) =
          rw (
            note_all_lem shared s new (this p L).calls due inputs,
            act_after_lem shared s (role_of p) L g answers m.known,
          ) refl in
          linked p inputs total z.0 m z.1
          (subst₂ (λ x y. InStep Ends Agrees p z.0 (own (other p) d e) x y)
          (ended ∙ ap (λ k. side_of shared s inputs k (end_after shared (role_of p) L g answers queue due new)) here)
          (receives_side new (that p L) b (inputs_at (other p)) (unused_there p)
          ∙ ap (λ k. side_of shared s (inputs_at (other p)) k (receives new (that p L))) there)
          z.2)

    -- ---- each kind of move

    -- an end in no step, with these packets and signals, is in step with the other
    idle_in_step :
        (p : Party) (queue : List QueuedPacket) (unused : ℕ) → (this p L).open_step ≡ None → (this p L).queue ≡ queue →
        unused_at p ≡ unused →
        InStep Ends Agrees p (own p d e) (own (other p) d e)
        (side Ends Agrees (act_of shared s (this p L).machine None) (state_at p) queue unused) (side_there p)
    idle_in_step p queue unused o q u =
        subst₃ (λ x w k. InStep Ends Agrees p (own p d e) (own (other p) d e)
        (side Ends Agrees (act_of shared s (this p L).machine x) (state_at p) w k) (side_there p)) o q u (in_step_lem p)

    first_known :
        (x : End) (p : QueuedPacket) (queue : List QueuedPacket) → Sound x → x.queue ≡ p ∷ queue →
        KnownGiven (a_packet p) × AllKnown queue
    first_known x p queue k q = subst AllKnown q k.queued

    open_given :
        (x : End) (g : Given) (answers : List ℕ) → Sound x → x.open_step
        ≡ Some (record { given = g; answers = answers }) →
        KnownGiven g
    open_given x g answers k o = subst KnownOpen o k.opened

    packet_moved :
        (p : Party) (x : QueuedPacket) (queue : List QueuedPacket) (answers : List ℕ) → (this p L).open_step ≡ None →
        (this p L).queue ≡ x ∷ queue → report_due (this p L).due ≡ false →
        FairHost shared (role_of p) L (a_packet x) answers →
        Fewer d e (suc n) (link_after shared (role_of p) L (a_packet x) answers queue (this p L).due
        (calls_at shared (role_of p) L (a_packet x) answers))
    unfolding calls_at play_of
    packet_moved p x queue answers o q u f =
        let known = first_known (this p L) x queue (sound (role_of p)) q in
        moved (a_packet x) answers queue (this p L).due (calls_at shared (role_of p) L (a_packet x) answers) p
        (suc (inputs_at p)) (suc n) (unused_at p) false
        (record {
          counted = omega (arith, same_inputs p);
          known = known.0;
          queued = known.1;
          oob_once = (sound (role_of p)).oob_once;
          head_first = head_first_lem p;
        }) refl refl
        (packet_kept Ends Agrees hosts p (own p d e) (own (other p) d e) (this p L).machine (state_at p) queue answers
        (side_there p) (unused_at p) x u (f.octets, f.fair) (idle_in_step p (x ∷ queue) (unused_at p) o q refl))

    module _ (p : Party) (ε : Due) (earlier later : List Due) (answers : List ℕ)
        (o : (this p L).open_step ≡ None) (q : (this p L).due ≡ earlier ++ (ε ∷ later))
        (f : FairHost shared (role_of p) L (an_event ε) answers)
        (first : HeadFirst p (had_after p (an_event ε)) (that p L).had_oob)
      where
        abbrev event_calls : List Call
        event_calls = calls_at shared (role_of p) L (an_event ε) answers

        abbrev EventMoved : Type 1
        EventMoved =
            Fewer d e (suc n)
            (link_after shared (role_of p) L (an_event ε) answers (this p L).queue (earlier ++ later) event_calls)

        sound_event : SoundMove p (an_event ε) (this p L).queue (earlier ++ later) (suc (inputs_at p)) (suc n)
        sound_event =
            record {
              counted = omega (arith, same_inputs p);
              known = tt;
              queued = (sound (role_of p)).queued;
              oob_once =
                  event_oobs ε earlier later (this p L).due (this p L).had_oob (has_listed 0x25 (this p L).calls) q
                  (sound (role_of p)).oob_once;
              head_first = first;
            }

        -- an event that waits for no signal, and may be one
        event_moved :
            held_back p ε ≡ false →
            unused_at p ≡ unused_by p (had_after p (an_event ε)) (that p L).had_oob →
            plus_one (releases p ε) (unused_there p)
            ≡ unused_by (other p) (that p L).had_oob (had_after p (an_event ε)) →
            EventMoved
        unfolding calls_at play_of
        event_moved u here there =
            moved (an_event ε) answers (this p L).queue (earlier ++ later) event_calls p (suc (inputs_at p)) (suc n) (unused_at p)
            (releases p ε) sound_event here there
            (event_kept Ends Agrees hosts p (own p d e) (own (other p) d e) (this p L).machine (state_at p)
            (this p L).queue answers (side_there p) ε earlier later (unused_at p) q u (f.octets, f.fair)
            (idle_in_step p (this p L).queue (unused_at p) o refl refl))

        -- an event that waits for a signal, and uses it
        behind_moved :
            held_back p ε ≡ true → unused_at p ≡ 1 →
            0 ≡ unused_by p (had_after p (an_event ε)) (that p L).had_oob →
            unused_there p ≡ unused_by (other p) (that p L).had_oob (had_after p (an_event ε)) →
            EventMoved
        unfolding calls_at play_of
        behind_moved u before here there =
            moved (an_event ε) answers (this p L).queue (earlier ++ later) event_calls p (suc (inputs_at p)) (suc n) 0 false
            sound_event here there
            (behind_kept Ends Agrees hosts p (own p d e) (own (other p) d e) (this p L).machine (state_at p)
            (this p L).queue answers (side_there p) ε earlier later 0 q u (f.octets, f.fair)
            (idle_in_step p (this p L).queue 1 o refl before))

    again_moved :
        (p : Party) (g : Given) (answers : List ℕ) (x : ℕ) (added : List ℕ) →
        (this p L).open_step ≡ Some (record { given = g; answers = answers }) →
        FairHost shared (role_of p) L g (answers ++ (x ∷ added)) →
        Fewer d e n (link_after shared (role_of p) L g (answers ++ (x ∷ added)) (this p L).queue (this p L).due
        (drop (length (calls_at shared (role_of p) L g answers))
        (calls_at shared (role_of p) L g (answers ++ (x ∷ added)))))
    unfolding calls_at play_of
    again_moved p g answers x added o f =
        let had : had_oob_after g (this p L).had_oob ≡ (this p L).had_oob =
        subst (λ y. HadBy y (this p L).had_oob) o (sound (role_of p)).had_by in
        let new = drop (length (calls_at shared (role_of p) L g answers))
        (calls_at shared (role_of p) L g (answers ++ (x ∷ added))) in
        moved g (answers ++ (x ∷ added)) (this p L).queue (this p L).due new p (inputs_at p) n (unused_at p) false
        (record {
          counted = same_inputs p;
          known = open_given (this p L) g answers (sound (role_of p)) o;
          queued = (sound (role_of p)).queued;
          oob_once = rw had (sound (role_of p)).oob_once;
          head_first = subst (λ b. HeadFirst p b (that p L).had_oob) (sym had) (head_first_lem p);
        })
        (ap (λ b. unused_by p b (that p L).had_oob) (sym had))
        (ap (λ b. unused_by (other p) (that p L).had_oob b) (sym had))
        (again_kept Ends Agrees hosts p (own p d e) (own (other p) d e) (this p L).machine (state_at p) (this p L).queue
        answers (side_there p) (unused_at p) g x added (f.octets, f.fair)
        (subst (λ y. InStep Ends Agrees p (own p d e) (own (other p) d e)
        (side Ends Agrees (act_of shared s (this p L).machine y) (state_at p) (this p L).queue (unused_at p))
        (side_there p)) o (in_step_lem p)))

    -- the head's OOB data is a signal ..
    signal_unused :
        (terminal_had head_had : Bool) → head_had ≡ false → (terminal_had ≡ true → head_had ≡ true) →
        plus_one true (unused_by opener terminal_had head_had) ≡ unused_by opener terminal_had true
    signal_unused true true q first = absurd (true≢false q)
    signal_unused true false q first = absurd (true≢false (sym (first refl)))
    signal_unused false true q first = absurd (true≢false q)
    signal_unused false false q first = refl

    -- each move, by the end that makes it
    pub kept : (k : MoveKind) (L₁ : Link) → Move shared L k L₁ → Fewer d e (count_input k n) L₁
    kept k L₁ (take_packet Central p queue answers o q u f) = packet_moved opener p queue answers o q u f
    kept k L₁ (take_packet Peripheral p queue answers o q u f) = packet_moved replier p queue answers o q u f
    kept k L₁ (take_event Central pass_key earlier later answers o q u f) =
        event_moved opener pass_key earlier later answers o q f h.head_first refl refl refl
    kept k L₁ (take_event Central oob_data earlier later answers o q u f) =
        let unhad = not_had L.terminal earlier later h.terminal_sound q in
        behind_moved opener oob_data earlier later answers o q f (λ had. u) refl (rw (u, unhad)) (rw u) refl
    kept k L₁ (take_event Central encryption_on earlier later answers o q u f) =
        event_moved opener encryption_on earlier later answers o q f h.head_first refl refl refl
    kept k L₁ (take_event Peripheral pass_key earlier later answers o q u f) =
        event_moved replier pass_key earlier later answers o q f h.head_first refl refl refl
    kept k L₁ (take_event Peripheral oob_data earlier later answers o q u f) =
        let unhad = not_had L.head earlier later h.head_sound q in
        event_moved replier oob_data earlier later answers o q f (λ had. refl) refl refl
        (signal_unused L.terminal.had_oob L.head.had_oob unhad h.head_first)
    kept k L₁ (take_event Peripheral encryption_on earlier later answers o q u f) =
        event_moved replier encryption_on earlier later answers o q f h.head_first refl refl refl
    kept k L₁ (run_again Central g answers x added o f) = again_moved opener g answers x added o f
    kept k L₁ (run_again Peripheral g answers x added o f) = again_moved replier g answers x added o f

    -- ---- no step is refused

    pub not_refused_move : (k : MoveKind) (L₁ : Link) (x : Move shared L k L₁) → NotRefused (outcome_of x)
    not_refused_move k L₁ (take_packet r p queue answers o q u f) =
        not_refused shared s r L (a_packet p) answers (first_known (end_of r L) p queue (sound r) q).0 f
    not_refused_move k L₁ (take_event r ε earlier later answers o q u f) =
        not_refused shared s r L (an_event ε) answers tt f
    not_refused_move k L₁ (run_again r g answers x added o f) =
        not_refused shared s r L g (answers ++ (x ∷ added)) (open_given (end_of r L) g answers (sound r) o) f

  -- ---- a move that an end can make is one that the link allows

  abbrev IsIdle : Act Ends Agrees → Type 0
  IsIdle (Act.idle m) = Unit {0}
  IsIdle (Act.busy m i answers) = ⊥

  pub idle_none :
      (m₀ m : Machine) (o : Option OpenStep) → act_of shared s m₀ o ≡ Act.idle m → o ≡ None
  idle_none m₀ m None e = refl
  idle_none m₀ m (Some o) e = absurd (subst IsIdle (sym e) tt)

  pub idle_machine : (m₀ m : Machine) (o : Option OpenStep) → act_of shared s m₀ o ≡ Act.idle m → m ≡ m₀
  idle_machine m₀ m None e = cc
  idle_machine m₀ m (Some o) e = absurd (subst IsIdle (sym e) tt)

  -- some move
  abbrev pub Moving : Link → Type 0
  Moving L = (k : MoveKind) × (L₁ : Link) × Move shared L k L₁

  may_take_freely : (p : Party) (L : Link) (ε : Due) → held_back p ε ≡ false → MayTake L (role_of p) ε
  may_take_freely opener L pass_key u = tt
  may_take_freely opener L oob_data u = absurd (true≢false u)
  may_take_freely opener L encryption_on u = tt
  may_take_freely replier L ε u = tt

  -- a signal that is not used is the head's
  may_take_behind :
      (p : Party) (L : Link) (ε : Due) (n : ℕ) → unused_by p (this p L).had_oob (that p L).had_oob ≡ suc n →
      MayTake L (role_of p) ε
  may_take_behind opener L pass_key n q = tt
  may_take_behind opener L oob_data n q = go L.terminal.had_oob L.head.had_oob q
    where
      go : (x y : Bool) → unused_by opener x y ≡ suc n → y ≡ true
      go x true q = refl
      go x false q = absurd (omega (arith, q))
  may_take_behind opener L encryption_on n q = tt
  may_take_behind replier L ε n q = tt

  module _ (p : Party) (L : Link) where
    -- the open step of an act, with a fair host, wants
    abbrev OpenOf : Act Ends Agrees → Type 0
    OpenOf (Act.idle m) = ⊥
    OpenOf (Act.busy m i answers) =
        let program = handle_input_by_role (role_of p) m (input_of shared m i) (payload_of i) in
        AreOctets answers × FairAnswers shared program answers 0 × ((play reply_at answers program 0).ending ≡ wanting)

    again_moves :
        (o : Option OpenStep) → (this p L).open_step ≡ o → OpenOf (act_of shared s (this p L).machine o) → Moving L
    again_moves None q h = absurd h
    again_moves (Some o) q h =
        let m = (this p L).machine in
        let z = more_answers shared (handle_input_by_role (role_of p) m (input_of shared m o.given) (payload_of o.given))
        o.answers h.0 h.1 h.2 in
        (a_re_run, _, run_again (role_of p) o.given o.answers z.0 z.1 q (record { octets = z.2; fair = z.3 }))

    event_moves :
        (m : Machine) (ε : Due) → act_of shared s (this p L).machine (this p L).open_step ≡ Act.idle m →
        (this p L).due ≡ ε ∷ [] → MayTake L (role_of p) ε → Moving L
    event_moves m ε e q may = (
      an_input,
      _,
      take_event (role_of p) ε [] [] [] (idle_none (this p L).machine m (this p L).open_step e) q may
          (no_answers shared (role_of p) L (an_event ε)),
    )

    can_moves :
        (k : ℕ) →
        Can Ends Agrees p (side_of shared s k (unused_by p (this p L).had_oob (that p L).had_oob) (this p L)) → Moving L
    can_moves k (packet_can m x w e q v) = (
      an_input,
      _,
      take_packet (role_of p) x w [] (idle_none (this p L).machine m (this p L).open_step e) q (rw v refl)
          (no_answers shared (role_of p) L (a_packet x)),
    )
    can_moves k (event_can m ε e v u) = event_moves m ε e v (may_take_freely p L ε u)
    can_moves k (behind_can m ε n e v u q) = event_moves m ε e v (may_take_behind p L ε n q)
    can_moves k (again_can m i answers e host w) =
        again_moves (this p L).open_step refl (subst OpenOf (sym e) (host.0, host.1, w))

  -- both ends as sides, and that all is over there
  abbrev pub terminal_side : {d e n : ℕ} {L : Link} → LinkInStep d e n L → Side Ends Agrees
  terminal_side {L = L} h =
      side_of shared s h.terminal_inputs (unused_by opener L.terminal.had_oob L.head.had_oob) L.terminal

  abbrev pub head_side : {d e n : ℕ} {L : Link} → LinkInStep d e n L → Side Ends Agrees
  head_side {L = L} h = side_of shared s h.head_inputs 0 L.head

  abbrev pub AllOver : {d e n : ℕ} {L : Link} → LinkInStep d e n L → Type 0
  AllOver h = Over Ends Agrees (terminal_side h) (head_side h)

  -- some move is allowed, or all is over
  pub goes_on : (L : Link) (d e n : ℕ) (h : LinkInStep d e n L) → Moving L ⊎ AllOver h
  goes_on L d e n h =
      go (progress Ends Agrees d e (terminal_side h) (head_side h) h.in_step)
    where
      go :
          (Can Ends Agrees opener (terminal_side h)
          ⊎ Can Ends Agrees replier (head_side h)) ⊎ AllOver h → Moving L ⊎ AllOver h
      go (inl (inl c)) = inl (can_moves opener L h.terminal_inputs c)
      go (inl (inr c)) = inl (can_moves replier L h.head_inputs c)
      go (inr o) = inr o
