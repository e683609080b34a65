-- Believed: the archive's contracts and demand 3 rest on it.
-- Programs of host calls. One type serves the definitions of both roles, the contracts of their code and the fair link.
-- Assumes nothing.
use Rattle.std.specs.Prelude.{ℕ, List, [], ◌∷◌}

-- a program gives a result, or makes a call and goes on with the reply; the call fixes the type of its reply
pub data Prog (C : Type 0) (R : C → Type 0) (A : Type 0) : Type 0 where
  ret : A → Prog C R A
  ask : (c : C) → (R c → Prog C R A) → Prog C R A

-- one program after another
abbrev pub bind : {C : Type 0} {R : C → Type 0} {A B : Type 0} → Prog C R A → (A → Prog C R B) → Prog C R B
bind (ret a) f = f a
bind (ask c k) f = ask c (λ x. bind (k x) f)

-- what stands at a place of the answers: a reply and the place behind it; their end; or no answer to this call
pub data Taken (X : Type 0) : Type 0 where
  got : X → ℕ → Taken X
  wants refused : Taken X

-- how a program comes out on answers
pub data Ending (A : Type 0) : Type 0 where
  ended : A → Ending A
  wanting refusing : Ending A

-- .. with the calls that it listed, in order, and the place that it read to
pub record Played (C A : Type 0) : Type 0 where
  pub ending : Ending A
  pub calls : List C
  pub place : ℕ

abbrev pub on_taken : {C X A : Type 0} → ℕ → (X → ℕ → Played C A) → Taken X → Played C A
on_taken at k (got x n) = k x n
on_taken at k wants = record { ending = wanting; calls = []; place = at }
on_taken at k refused = record { ending = refusing; calls = []; place = at }

abbrev pub listing : {C A : Type 0} → C → Played C A → Played C A
listing c x = record { ending = x.ending; calls = c ∷ x.calls; place = x.place }

-- a program's play on the answers s from a place on: each call is listed, then its answer is read
abbrev pub play :
    {C : Type 0} {R : C → Type 0} {O A : Type 0} → ((c : C) → List O → ℕ → Taken (R c)) →
    List O → Prog C R A → ℕ → Played C A
play read s (ret a) at = record { ending = ended a; calls = []; place = at }
play read s (ask c k) at = listing c (on_taken at (λ x n. play read s (k x) n) (read c s at))
