-- Believed: the archive's contracts, demand 3 and the worked cases rest on it.
-- What an operation of document 01 answers: a value, or a refusal by its number ("What is turned back").
-- Assumes nothing.
use Rattle.std.specs.Prelude.{ℕ, Result, Ok, Err}

pub data Answer (A : Type 0) : Type 0 where
  refused : ℕ → Answer A
  accepted : A → Answer A

-- the next operation works on what was accepted; a refusal stays
abbrev pub and_then : {A B : Type 0} → Answer A → (A → Answer B) → Answer B
and_then (refused n) f = refused n
and_then (accepted a) f = f a

-- what a result of the code answers, where each of its errors is refused by a number
abbrev pub answer_of : {A E : Type 0} → (E → ℕ) → Result A E → Answer A
answer_of number (Ok a) = accepted a
answer_of number (Err e) = refused (number e)
