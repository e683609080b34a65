-- The fair link as an exchange: each of its ends as a side, and what a step of an end does to both. Assumes nothing.
use Rattle.std.specs.Prelude.{Option, Some, None}
use Prim.Native.Nat.{ℕ, ◌+◌}
use mathlib.Core.Path.{◌≡◌, refl, sym, ap, ◌∙◌, subst}
use mathlib.Core.Bool.{Bool, true, false, cond, not, ◌&&◌, ◌||◌}
use mathlib.Core.List.{List, [], ◌∷◌, ◌++◌, append-nil, append_assoc}
use native.Mathlib.Omega.{arith}
use lib.Dec.{eqb}
use lib.ListN.{replicate}
use Rattle.host_calls.specs.Calls.{packet_command, kind_of, longest}
use Rattle.host_calls.specs.declared.call.Call.{Call}
use Rattle.host_calls.specs.declared.call.Call.TheVariants as call
use Rattle.machine.specs.declared.Input.TheVariants as input
use Rattle.machine.specs.declared.Machine.{Machine}
use Rattle.machine.specs.declared.Role.{Role}
use Rattle.protocol.specs.Program.{Ending, ended, wanting, refusing, Played, play}
use Rattle.protocol.specs.Ops.{reply_at, Program}
use Rattle.protocol.specs.Step.{handle_input_by_role, play_of, is_known, stepped, step}
use Rattle.protocol.specs.FairLink.{Start, Shared, FairAnswers, QueuedPacket, Due, pass_key, oob_data, encryption_on, Given, a_packet, an_event, input_of, payload_of, OpenStep, End, Link, of_all, sent_by, has_listed, made_due_by, made_due_by_all, machine_at, step_at, FairHost, open_after}
use Rattle.protocol.specs.FairRuns.{response_in, ltk_in, ediv_rand_in, display_in, encryption_in, NotRefused}
use Rattle.protocol.proofs.Codes.{code_known}
use Rattle.protocol.proofs.Programs.{along}
use Rattle.protocol.proofs.Exchange.{optional, System, Local, locally, note_all}
use Rattle.protocol.proofs.InStep.{send_all, Act, act_after, Side, side}
use Rattle.protocol.proofs.Pairing.{summary, with_new, listed, first_of, pairing, Agreed}

-- ---- what is kept of calls, with calls more

has_listed_lem :
    (kind : ℕ) (before : List Call) (c : Call) →
    has_listed kind (before ++ (c ∷ [])) ≡ (eqb (kind_of c) kind || has_listed kind before)
has_listed_lem kind [] c = refl
has_listed_lem kind (b ∷ before) c =
    ap (λ x. eqb (kind_of b) kind || x) (has_listed_lem kind before c)
    ∙ swap (eqb (kind_of b) kind) (eqb (kind_of c) kind) (has_listed kind before)
  where
    swap : (x y z : Bool) → (x || (y || z)) ≡ (y || (x || z))
    swap true true z = refl
    swap true false z = refl
    swap false y z = refl

pub of_all_append : {X : Type 0} (f : Call → List X) (cs ds : List Call) → of_all f (cs ++ ds) ≡ of_all f cs ++ of_all f ds
of_all_append f [] ds = refl
of_all_append f (c ∷ cs) ds = ap (λ x. f c ++ x) (of_all_append f cs ds)
    ∙ sym (append_assoc (f c) (of_all f cs) (of_all f ds))

of_all_last : {X : Type 0} (f : Call → List X) (cs : List Call) (c : Call) → of_all f (cs ++ (c ∷ [])) ≡ of_all f cs
    ++ f c
of_all_last f cs c = of_all_append f cs (c ∷ []) ∙ ap (λ x. of_all f cs ++ x) (append-nil (f c))

new_last : {X : Type 0} (l new : List X) → with_new l new ≡ l ++ new
new_last l [] = sym (append-nil l)
new_last l (x ∷ new) = refl

listed_last :
    {X : Type 0} (f : Call → List X) (before : List Call) (c : Call) →
    with_new (of_all f before) (f c) ≡ of_all f (before ++ (c ∷ []))
listed_last f before c = new_last (of_all f before) (f c) ∙ sym (of_all_last f before c)

summary_listed : (before : List Call) (c : Call) → listed c (summary before) ≡ summary (before ++ (c ∷ []))
summary_listed before c =
    rw (
      has_listed_lem 0x23 before c,
      has_listed_lem 0x25 before c,
      has_listed_lem 0x3A before c,
      listed_last encryption_in before c,
      listed_last response_in before c,
      listed_last ltk_in before c,
      listed_last ediv_rand_in before c,
      listed_last display_in before c,
    ) refl

-- a call sends at most one packet
sent_first : (c : Call) → optional (first_of (sent_by c)) ≡ sent_by c
sent_first (call.SendPacket p) = refl
sent_first (call.SendConnectionEvent e) = refl
sent_first (call.Ask q) = refl
sent_first (call.Draw d) = refl
sent_first (call.EnableEncryption k l n) = refl
sent_first call.EnableBondedEncryption = refl
sent_first (call.UpdateBondInformation b) = refl

-- ---- the codes on the link are those of commands

abbrev pub KnownGiven : Given → Type 0
KnownGiven (a_packet p) = is_known (input.Command p.code) ≡ true
KnownGiven (an_event e) = Unit {0}

abbrev pub AllKnown : List QueuedPacket → Type 0
AllKnown [] = Unit {0}
AllKnown (p ∷ queue) = KnownGiven (a_packet p) × AllKnown queue

pub all_known : (queue : List QueuedPacket) (cs : List Call) → AllKnown queue → AllKnown (queue ++ of_all sent_by cs)
all_known (p ∷ queue) cs k = (k.0, all_known queue cs k.1)
all_known [] [] k = tt
all_known [] (call.SendPacket p ∷ cs) k = (code_known (packet_command p), all_known [] cs k)
all_known [] (call.SendConnectionEvent e ∷ cs) k = all_known [] cs k
all_known [] (call.Ask q ∷ cs) k = all_known [] cs k
all_known [] (call.Draw d ∷ cs) k = all_known [] cs k
all_known [] (call.EnableEncryption x l n ∷ cs) k = all_known [] cs k
all_known [] (call.EnableBondedEncryption ∷ cs) k = all_known [] cs k
all_known [] (call.UpdateBondInformation b ∷ cs) k = all_known [] cs k

abbrev NotRefusing : Ending Machine → Type 0
NotRefusing (ended m) = Unit {0}
NotRefusing wanting = Unit {0}
NotRefusing refusing = ⊥

-- ---- each end as a side

module _ (shared : Shared) (s : Start) where
  abbrev pub Ends : System
  Ends = pairing shared

  abbrev pub Agrees : Machine → Local Ends → Machine → Local Ends → Type 0
  Agrees = Agreed shared s

  -- its open step or none, as the act of a side
  abbrev pub act_of : Machine → Option OpenStep → Act Ends Agrees
  act_of m None = Act.idle m
  act_of m (Some o) = Act.busy m o.given o.answers

  -- with the inputs that it got, and the other end's signals not used
  abbrev pub side_of : (inputs unused : ℕ) → End → Side Ends Agrees
  side_of inputs unused e =
      side Ends Agrees (act_of e.machine e.open_step)
      (locally Ends (summary e.calls) e.due inputs) e.queue unused

  pub note_all_lem :
      (cs before : List Call) (due : List Due) (n : ℕ) →
      note_all Ends cs (locally Ends (summary before) due n)
      ≡ locally Ends (summary (before ++ cs)) (due ++ made_due_by_all before cs) n
  note_all_lem [] before due n = rw (append-nil before, append-nil due) refl
  note_all_lem (c ∷ cs) before due n =
      ap (λ x. note_all Ends cs (locally Ends x (due ++ made_due_by before c) n)) (summary_listed before c)
      ∙ note_all_lem cs (before ++ (c ∷ [])) (due ++ made_due_by before c) n
      ∙ rw (
        append_assoc before (c ∷ []) cs,
        append_assoc due (made_due_by before c) (made_due_by_all (before ++ (c ∷ [])) cs),
      ) refl

  pub send_all_lem : (cs : List Call) (queue : List QueuedPacket) → send_all Ends Agrees cs queue ≡ queue ++ of_all sent_by cs
  send_all_lem [] queue = sym (append-nil queue)
  send_all_lem (c ∷ cs) queue =
      send_all_lem cs (queue ++ optional (first_of (sent_by c)))
      ∙ ap (λ x. (queue ++ x) ++ of_all sent_by cs) (sent_first c)
      ∙ append_assoc queue (sent_by c) (of_all sent_by cs)

  -- ---- a step of an end leaves the act that its program's ending says

  given_known : (m : Machine) (g : Given) → KnownGiven g → is_known (input_of shared m g) ≡ true
  given_known m (a_packet p) k = k
  given_known m (an_event pass_key) k = refl
  given_known m (an_event oob_data) k = refl
  given_known m (an_event encryption_on) k = refl

  fair_ending :
      (answers : List ℕ) (p : Program Machine) (at : ℕ) → FairAnswers shared p answers at →
      NotRefusing (play reply_at answers p at).ending
  fair_ending answers =
      along reply_at answers (λ p at. FairAnswers shared p answers at → NotRefusing (play reply_at answers p at).ending)
      (λ m at f. tt)
      (λ c k at e f. rw e tt)
      (λ c k at e f. absurd (rw e at f))
      (λ c k at x n e rec f. rw e (rec (rw e at f).1))

  module _ (r : Role) (L : Link) (g : Given) (answers : List ℕ) where
    abbrev program : Program Machine
    program = handle_input_by_role r (machine_at r L) (input_of shared (machine_at r L) g) (payload_of g)

    abbrev played : Played Call Machine
    played = play reply_at answers program 0

    pub act_after_lem :
        KnownGiven g →
        act_of (step_at shared r L g answers).machine
        (open_after (step_at shared r L g answers).outcome g answers)
        ≡ act_after Ends Agrees (machine_at r L) g answers played.ending
    unfolding step_at step play_of
    act_after_lem k =
        rw (given_known (machine_at r L) g k) (go (replicate longest 0) played.calls played.place played.ending)
      where
        go :
            (list : List ℕ) (calls : List Call) (n : ℕ) (e : Ending Machine) →
            act_of (stepped (machine_at r L) list calls n e).machine
            (open_after (stepped (machine_at r L) list calls n e).outcome g answers)
            ≡ act_after Ends Agrees (machine_at r L) g answers e
        go list calls n (ended m) = refl
        go list calls n wanting = refl
        go list calls n refusing = refl

    -- and is not refused, where the host is fair
    pub not_refused :
        KnownGiven g → FairHost shared r L g answers → NotRefused (step_at shared r L g answers).outcome
    unfolding step_at step play_of
    not_refused k host =
        rw (given_known (machine_at r L) g k)
        (go (replicate longest 0) played.calls played.place played.ending
        (fair_ending answers program 0 host.fair))
      where
        go :
            (list : List ℕ) (calls : List Call) (n : ℕ) (e : Ending Machine) → NotRefusing e →
            NotRefused (stepped (machine_at r L) list calls n e).outcome
        go list calls n (ended m) h = tt
        go list calls n wanting h = tt
        go list calls n refusing h = h

-- ---- OOB data is made due once, and had once

abbrev pub one : Bool → ℕ
one true = 1
one false = 0

abbrev pub oobs : List Due → ℕ
oobs [] = 0
oobs (pass_key ∷ v) = oobs v
oobs (oob_data ∷ v) = 1 + oobs v
oobs (encryption_on ∷ v) = oobs v

pub oobs_append : (v w : List Due) → oobs (v ++ w) ≡ oobs v + oobs w
oobs_append [] w = omega arith
oobs_append (pass_key ∷ v) w = oobs_append v w
oobs_append (oob_data ∷ v) w = omega (arith, oobs_append v w)
oobs_append (encryption_on ∷ v) w = oobs_append v w

oobs_made : (x y z h : Bool) →
    oobs (cond x (pass_key ∷ []) [] ++ (cond (y && not h) (oob_data ∷ []) [] ++ cond z (encryption_on ∷ []) [])) + one h
    ≡ one (y || h)
oobs_made true true true true = refl
oobs_made true true true false = refl
oobs_made true true false true = refl
oobs_made true true false false = refl
oobs_made true false true true = refl
oobs_made true false true false = refl
oobs_made true false false true = refl
oobs_made true false false false = refl
oobs_made false true true true = refl
oobs_made false true true false = refl
oobs_made false true false true = refl
oobs_made false true false false = refl
oobs_made false false true true = refl
oobs_made false false true false = refl
oobs_made false false false true = refl
oobs_made false false false false = refl

oobs_made_by :
    (before : List Call) (c : Call) →
    oobs (made_due_by before c) + one (has_listed 0x25 before) ≡ one (has_listed 0x25 (before ++ (c ∷ [])))
oobs_made_by before c =
    oobs_made (eqb (kind_of c) 0x23 && not (has_listed 0x23 before)) (eqb (kind_of c) 0x25)
    (eqb (kind_of c) 0x3A && not (has_listed 0x3A before)) (has_listed 0x25 before)
    ∙ sym (ap one (has_listed_lem 0x25 before c))

pub oobs_made_by_all :
    (cs before : List Call) →
    oobs (made_due_by_all before cs) + one (has_listed 0x25 before) ≡ one (has_listed 0x25 (before ++ cs))
oobs_made_by_all [] before = rw (append-nil before) (omega arith)
oobs_made_by_all (c ∷ cs) before =
    let after = before ++ (c ∷ []) in
    subst (λ (l : List Call). oobs (made_due_by_all before (c ∷ cs)) + one (has_listed 0x25 before)
    ≡ one (has_listed 0x25 l))
    (append_assoc before (c ∷ []) cs)
    (omega (
      arith,
      oobs_append (made_due_by before c) (made_due_by_all after cs),
      oobs_made_by before c,
      oobs_made_by_all cs after,
    ))

-- what is due and what was had are what was made due
abbrev pub OobOnce : End → Type 0
OobOnce e = oobs e.due + one e.had_oob ≡ one (has_listed 0x25 e.calls)
