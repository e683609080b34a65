-- A run on the code's trace is the play on lists: it comes out the same, has read as far, and lists the same calls.
-- Assumes nothing.
use Prim.Native.Nat.{ℕ, ◌+◌, ◌≤◌}
use mathlib.Core.Path.{◌≡◌, refl, sym, ap, ◌∙◌}
use mathlib.Core.Bool.{Bool, true, false, cond}
use mathlib.Core.List.{List, [], ◌∷◌, ◌++◌, append_assoc, append-nil}
use native.Mathlib.Omega.{arith}
use lib.ListN.{length, take, drop, length-append, length-replicate}
use lib.Seq.{length-take-le, take-append_seam}
use Rattle.octets.specs.Octets.{fits_at, write_at}
use Rattle.octets.proofs.Parts.{fits, written, length_written}
use Rattle.host_calls.specs.Calls.{call_octets, calls_octets, listed, longest, no_trace, push_of}
use Rattle.host_calls.specs.declared.call.Call.{Call}
use Rattle.host_calls.specs.declared.call.Trace.{Trace}
use Rattle.host_answers.specs.declared.Stop.TheVariants.{Wanted, Refused}
use Rattle.protocol.specs.Program.{ret, ask, Taken, got, wants, refused}
use Rattle.protocol.specs.Program.{Ending, ended as comes, wanting, refusing, Played, on_taken as play_on, listing, play}
use Rattle.protocol.specs.Ops.{Program, Reply, reply_at}
use Rattle.host_ops.specs.Run.{Ran, ended, stopped, and_then, read_to, on_taken, run, answer_to}

-- ---- the calls of a play, pushed one after another

abbrev pub push_all : Trace → List Call → Trace
push_all t [] = t
push_all t (c ∷ cs) = push_all (push_of t c) cs

abbrev ended_by : {A : Type 0} → Trace → Ending A → Ran A
ended_by u (comes a) = ended a u
ended_by u wanting = stopped Wanted u
ended_by u refusing = stopped Refused u

-- a play as a run behind the trace t
abbrev pub ran_as : {A : Type 0} → Trace → Played Call A → Ran A
ran_as t x = ended_by (read_to x.place (push_all t x.calls)) x.ending

-- ---- a push has nothing to do with the place that was read to

push_read : (n : ℕ) (t : Trace) (c : Call) → read_to n (push_of t c) ≡ push_of (read_to n t) c
unfolding push_of
push_read n t c = by (fits_at t.octets t.len (call_octets c))
  where
    more : ℕ → Trace
    more read = record { octets = write_at t.octets t.len (call_octets c); len = t.len + length (call_octets c); read = read }

    by : (b : Bool) → read_to n (cond b (more t.read) t) ≡ cond b (more n) (read_to n t)
    by true = refl
    by false = refl

push_keeps : (t : Trace) (c : Call) → read_to t.read (push_of t c) ≡ push_of t c
push_keeps t c = push_read t.read t c

all_read : (p n : ℕ) (t : Trace) (cs : List Call) → read_to p (push_all (read_to n t) cs) ≡ read_to p (push_all t cs)
all_read p n t [] = refl
all_read p n t (c ∷ cs) =
    ap (λ (u : Trace). read_to p (push_all u cs)) (sym (push_read n t c)) ∙ all_read p n (push_of t c) cs

-- ---- a run is the play

along :
    {A : Type 0} (s : List ℕ) (c : Call) (k : Reply c → Program A) (t : Trace) →
    ((x : Reply c) (u : Trace) → run s (k x) u ≡ ran_as u (play reply_at s (k x) u.read)) → (z : Taken (Reply c)) →
    and_then (on_taken (push_of t c) z) (λ x u. run s (k x) u)
    ≡ ran_as t (listing c (play_on t.read (λ x n. play reply_at s (k x) n) z))
along s c k t rest (got x n) =
    let y = play reply_at s (k x) n in
    rest x (read_to n (push_of t c))
    ∙ ap (λ (u : Trace). ended_by u y.ending) (all_read y.place n (push_of t c) y.calls)
along s c k t rest wants = ap (stopped Wanted) (sym (push_keeps t c))
along s c k t rest refused = ap (stopped Refused) (sym (push_keeps t c))

pub run_play :
    {A : Type 0} (s : List ℕ) (p : Program A) (t : Trace) → run s p t ≡ ran_as t (play reply_at s p t.read)
unfolding answer_to
run_play s (ret a) t = refl
run_play s (ask c k) t = along s c k t (λ x u. run_play s (k x) u) (reply_at c s t.read)

-- .. from the beginning
pub run_first : {A : Type 0} (s : List ℕ) (p : Program A) → run s p no_trace ≡ ran_as no_trace (play reply_at s p 0)
unfolding no_trace
run_first s p = run_play s p no_trace

-- ---- the calls listed

module _ (t : Trace) (c : Call) (room : t.len + length (call_octets c) ≤ length t.octets) where
  pushed :
      push_of t c
      ≡ record {
        octets = write_at t.octets t.len (call_octets c);
        len = t.len + length (call_octets c);
        read = t.read;
      }
  unfolding push_of
  pushed = rw (fits t.octets t.len (call_octets c) room)

  listed_push : listed (push_of t c) ≡ listed t ++ call_octets c
  unfolding listed
  listed_push =
      let w = call_octets c in
      let before = take t.len t.octets in
      let rest = drop (t.len + length w) t.octets in
      let size : length (before ++ w) ≡ t.len + length w =
      length-append before w ∙ ap (λ (n : ℕ). n + length w) (length-take-le t.len t.octets (omega arith)) in
      ap listed pushed
      ∙ ap (take (t.len + length w)) (written t.octets t.len w room ∙ sym (append_assoc before w rest))
      ∙ ap (λ (n : ℕ). take n ((before ++ w) ++ rest)) (sym size)
      ∙ take-append_seam (before ++ w) rest

listed_all :
    (cs : List Call) (t : Trace) → t.len + length (calls_octets cs) ≤ length t.octets →
    listed (push_all t cs) ≡ listed t ++ calls_octets cs
unfolding calls_octets
listed_all [] t h = sym (append-nil (listed t))
listed_all (c ∷ cs) t h =
    let both = length-append (call_octets c) (calls_octets cs) in
    let room : t.len + length (call_octets c) ≤ length t.octets = omega arith in
    let u = push_of t c in
    let full : length u.octets ≡ length t.octets =
    ap (λ (v : Trace). length v.octets) (pushed t c room) ∙ length_written t.octets t.len (call_octets c) room in
    let more : u.len ≡ t.len + length (call_octets c) = ap (λ (v : Trace). v.len) (pushed t c room) in
    listed_all cs u (omega arith)
    ∙ ap (λ (l : List ℕ). l ++ calls_octets cs) (listed_push t c room)
    ∙ append_assoc (listed t) (call_octets c) (calls_octets cs)

-- as many octets as a trace has room for are those of the play's calls
pub listed_octets :
    (n : ℕ) (cs : List Call) → length (calls_octets cs) ≤ longest →
    listed (read_to n (push_all no_trace cs)) ≡ calls_octets cs
unfolding listed no_trace
listed_octets n cs h =
    let all = length-replicate {A = ℕ} longest 0 in
    listed_all cs no_trace (omega arith)
