-- Believed: the archive's contracts rest on it.
-- Reading a call list, "What is turned back" of document 01: 6 if a kind is unknown or a body cut. Assumes nothing.
use Rattle.std.specs.Prelude.{ℕ, zero, suc, List, [], ◌∷◌, length, Option, Some, None, Result}
use Rattle.octets.specs.Answer.{Answer, refused, accepted, and_then, answer_of}
use Rattle.host_calls.specs.Calls.{body_length}
use Rattle.host_call_list.specs.declared.CallRecord.{CallRecord}
use Rattle.host_call_list.specs.declared.InvalidList.{InvalidList}

-- a call of kind k begins, whose body stands at place at: the rest of the list is read behind its body
abbrev pub begins : ℕ → ℕ → Option ℕ → (ℕ → Answer (List CallRecord)) → Answer (List CallRecord)
begins k at None rest = refused 6
begins k at (Some size) rest = and_then (rest size) (λ calls. accepted (record { kind = k; body = at } ∷ calls))

-- the calls of a list that stands at place at, where so many octets of a body are still to come
unfoldable pub calls_from : ℕ → ℕ → List ℕ → Answer (List CallRecord)
calls_from at zero [] = accepted []
calls_from at (suc n) [] = refused 6
calls_from at zero (k ∷ l) = begins k (suc at) (body_length k) (λ size. calls_from (suc at) size l)
calls_from at (suc n) (x ∷ l) = calls_from (suc at) n l

-- each call of a list as its kind and its body's place
unfoldable pub calls_of : List ℕ → Answer (List CallRecord)
calls_of l = calls_from 0 0 l

-- ---- what is asked of a list

unfoldable pub count_of : List ℕ → Answer ℕ
count_of l = and_then (calls_of l) (λ calls. accepted (length calls))

-- the call at an index, if there is one
abbrev pub call_in : List CallRecord → ℕ → Option CallRecord
call_in [] i = None
call_in (c ∷ calls) zero = Some c
call_in (c ∷ calls) (suc i) = call_in calls i

unfoldable pub call_at_of : List ℕ → ℕ → Answer (Option CallRecord)
call_at_of l i = and_then (calls_of l) (λ calls. accepted (call_in calls i))

-- the length of a body, 0 where the kind is unknown
abbrev pub size_of : Option ℕ → ℕ
size_of None = 0
size_of (Some n) = n

-- ---- what the code gives

-- an invalid list is refused by 6
abbrev pub list_answer : {A : Type 0} → Result A InvalidList → Answer A
list_answer r = answer_of (λ e. 6) r

-- the number of calls, and the one at an index, if there is one
unfoldable pub checked_of : List ℕ → ℕ → Answer (ℕ × Option CallRecord)
checked_of l i = and_then (calls_of l) (λ calls. accepted (length calls, call_in calls i))
