-- Inner: words between the code's functions; the archive's contracts, demand 3 and the worked cases do not rest on it.
-- What the code's functions give, as runs. Assumes nothing.
use Rattle.std.specs.Prelude.{ℕ, ◌+◌, List, Result, Ok, Err}
use Rattle.bond.specs.declared.Error.{Error}
use Rattle.host_calls.specs.Calls.{push_of, kind_of}
use Rattle.host_calls.specs.declared.call.Call.{Call}
use Rattle.host_calls.specs.declared.call.Trace.{Trace}
use Rattle.host_answers.specs.Answers.{Found, on_found, body_at}
use Rattle.host_answers.specs.declared.Stop.{Stop}
use Rattle.protocol.specs.Ops.{Delivery, delivered, undelivered, taken, delivery_at}
use Rattle.host_ops.specs.Run.{Ran, ended, stopped, on_taken}
use Rattle.host_ops.specs.declared.Halt.{Halt}
use Rattle.host_ops.specs.declared.Halt.TheVariants as halt

-- an error goes on as f says
abbrev pub on_halt : {A : Type 0} → Trace → (Error → Trace → Ran A) → Halt → Ran A
on_halt t f (halt.Failed e) = f e t
on_halt t f (halt.Stop e) = stopped e t

-- an answer that no error stands for
abbrev pub ran_answer : {A : Type 0} → Trace → Result A Stop → Ran A
ran_answer t (Ok a) = ended a t
ran_answer t (Err e) = stopped e t

-- a value, or the host's error
abbrev pub ran_result : {A : Type 0} → Trace → Result A Halt → Ran (Result A Error)
ran_result t (Ok a) = ended (Ok a) t
ran_result t (Err h) = on_halt t (λ e u. ended (Err e) u) h

-- what became of a packet, an event or an update of the bond
abbrev pub ran_delivery : Trace → Result (Unit {0}) Halt → Ran Delivery
ran_delivery t (Ok a) = ended delivered t
ran_delivery t (Err h) = on_halt t (λ e u. ended (undelivered e) u) h

-- a call that is answered by a verdict alone
abbrev pub told : Call → List ℕ → Trace → Ran Delivery
told c s t = on_taken (push_of t c) (taken (t.read + 2) (delivery_at s t.read (kind_of c)))

-- a call whose answer is read of a body of n octets
abbrev pub asked : {A : Type 0} → (List ℕ → Found A) → ℕ → Call → List ℕ → Trace → Ran A
asked said n c s t = on_taken (push_of t c) (taken (t.read + (1 + n)) (on_found (body_at s t.read (kind_of c) n) said))
