-- Laws of runs: one program after another, a failure passed on, and the room behind an answer. Assumes nothing.
use Prim.Native.Nat.{ℕ}
use mathlib.Core.Path.{◌≡◌, refl}
use mathlib.Core.List.{List}
use Rattle.host_calls.specs.declared.call.Trace.{Trace}
use Rattle.protocol.specs.Program.{ret, ask, bind}
use Rattle.protocol.specs.Ops.{Program}
use Rattle.host_ops.specs.Run.{Ran, ended, stopped, and_then, run, answer_to}

-- what follows what follows
pub and_and :
    {A B C : Type 0} (x : Ran A) (f : A → Trace → Ran B) (g : B → Trace → Ran C) →
    and_then (and_then x f) g ≡ and_then x (λ a u. and_then (f a u) g)
and_and (ended a t) f g = refl
and_and (stopped e t) f g = refl

pub and_same :
    {A B : Type 0} (x : Ran A) (f g : A → Trace → Ran B) → ((a : A) (u : Trace) → f a u ≡ g a u) → and_then x f ≡ and_then x g
and_same (ended a t) f g h = h a t
and_same (stopped e t) f g h = refl

pub run_bind :
    {A B : Type 0} (s : List ℕ) (p : Program A) (f : A → Program B) (t : Trace) →
    run s (bind p f) t ≡ and_then (run s p t) (λ a u. run s (f a) u)
run_bind s (ret a) f t = refl
run_bind s (ask c k) f t =
    rw (and_and) (and_same (answer_to c s t) _ _ (λ x u. run_bind s (k x) f u))
