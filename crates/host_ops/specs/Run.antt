-- Inner: words between the code's functions; the archive's contracts, demand 3 and the worked cases do not rest on it.
-- A program's run on the code's trace: each call is listed, then its answer is read where the trace has read to. The contracts
-- of the handlers speak of it; `play` is the same on lists. Assumes nothing.
use Rattle.std.specs.Prelude.{ℕ, List}
use Rattle.host_calls.specs.Calls.{push_of}
use Rattle.host_calls.specs.declared.call.Call.{Call}
use Rattle.host_calls.specs.declared.call.Trace.{Trace}
use Rattle.host_answers.specs.declared.Stop.{Stop}
use Rattle.host_answers.specs.declared.Stop.TheVariants.{Wanted, Refused}
use Rattle.protocol.specs.Program.{ret, ask, Taken, got, wants, refused}
use Rattle.protocol.specs.Ops.{Program, Reply, reply_at}

-- how a run came out: with a result, or at a call that has no answer; and the trace by then
pub data Ran (A : Type 0) : Type 0 where
  ended : A → Trace → Ran A
  stopped : Stop → Trace → Ran A

abbrev pub and_then : {A B : Type 0} → Ran A → (A → Trace → Ran B) → Ran B
and_then (ended a t) k = k a t
and_then (stopped e t) k = stopped e t

-- the trace with the place that was read to
abbrev pub read_to : ℕ → Trace → Trace
read_to n t = record { octets = t.octets; len = t.len; read = n }

abbrev pub on_taken : {X : Type 0} → Trace → Taken X → Ran X
on_taken t (got x n) = ended x (read_to n t)
on_taken t wants = stopped Wanted t
on_taken t refused = stopped Refused t

-- one call and its answer
unfoldable pub answer_to : (c : Call) → List ℕ → Trace → Ran (Reply c)
answer_to c s t = on_taken (push_of t c) (reply_at c s t.read)

abbrev pub run : {A : Type 0} → List ℕ → Program A → Trace → Ran A
run s (ret a) t = ended a t
run s (ask c k) t = and_then (answer_to c s t) (λ x u. run s (k x) u)
