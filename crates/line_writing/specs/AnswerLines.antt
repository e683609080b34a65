-- Inner: words between the code's functions; the archive's contracts, demand 3 and the worked cases do not rest on it.
-- The answer to a step line, OUTCOME READ WRITTEN MACHINE LIST, with its line feed. Assumes nothing.
use Rattle.std.specs.Prelude.{ℕ, zero, suc, ◌+◌, ◌-◌, ◌/◌, ◌%◌, ◌≡◌, cond, List, [], ◌∷◌, ◌++◌, ltb, length, Option, Some, None}
use Rattle.octets.specs.Octets.{fits_at, write_at}
use Rattle.machine.specs.declared.Machine.{Machine}
use Rattle.machine_record.specs.Record.{machine_octets}
use Rattle.protocol.specs.Outcome.{refusal_number}
use Rattle.protocol.specs.declared.Outcome.{Outcome}
use Rattle.protocol.specs.declared.Outcome.TheVariants as outcome
use Rattle.protocol.specs.declared.Stepped.{Stepped}
use Rattle.line_reading.specs.Text.{line_feed, space, minus, digit0, letter_a, ended_word, wants_word, refused_word, malformed_word}

-- ---- numbers

-- the last k decimal digits of n at most, and no zeros in front
unfoldable pub decimal_in : ℕ → ℕ → List ℕ
decimal_in zero n = []
decimal_in (suc k) n = cond (ltb n 10) ((digit0 + n) ∷ []) (decimal_in k (n / 10) ++ ((digit0 + n % 10) ∷ []))

-- a number n has no more than n + 1 digits
unfoldable pub decimal : ℕ → List ℕ
decimal n = decimal_in (suc n) n

-- ---- octets: lower-case hexadecimal

abbrev pub digit_text : ℕ → ℕ
digit_text v = cond (ltb v 10) (digit0 + v) (letter_a + (v - 10))

-- two digits to each octet, the high one first
unfoldable pub digits_text : List ℕ → List ℕ
digits_text [] = []
digits_text (x ∷ o) = digit_text (x / 16) ∷ digit_text (x % 16) ∷ digits_text o

-- `-` is the empty string
unfoldable pub octets_text : List ℕ → List ℕ
octets_text [] = minus ∷ []
octets_text (x ∷ o) = digits_text (x ∷ o)

-- ---- the line

-- a refusal by a number
unfoldable pub refused_text : ℕ → List ℕ
refused_text n = refused_word ++ decimal n

unfoldable pub outcome_text : Outcome → List ℕ
outcome_text outcome.Ended = ended_word
outcome_text outcome.Wants = wants_word
outcome_text (outcome.Refused r) = refused_text (refusal_number r)

-- OUTCOME, READ and WRITTEN, with a space behind each
unfoldable pub head_of : List ℕ → ℕ → ℕ → List ℕ
head_of o read written = o ++ (space ∷ (decimal read ++ (space ∷ (decimal written ++ (space ∷ [])))))

unfoldable pub head_text : Outcome → ℕ → ℕ → List ℕ
head_text o = head_of (outcome_text o)

-- MACHINE and LIST, with the space between and the line feed
unfoldable pub rest_text : Machine → List ℕ → List ℕ
rest_text m list = octets_text (machine_octets m) ++ (space ∷ (octets_text list ++ (line_feed ∷ [])))

-- what a step came to, with the list that it was lent
unfoldable pub answer_text : Stepped → List ℕ → List ℕ
answer_text s list = head_text s.outcome s.read s.written ++ rest_text s.machine list

-- a step that is refused by this number, whichever it is
unfoldable pub refusal_text : ℕ → ℕ → ℕ → Machine → List ℕ → List ℕ
refusal_text n read written m list = head_of (refused_text n) read written ++ rest_text m list

-- the answer to a malformed line
unfoldable pub malformed_text : List ℕ
malformed_text = malformed_word ++ (line_feed ∷ [])

-- ---- what writing a text answers, and what it leaves in the lent buffer

-- a text laid at the front of a buffer: the number of its octets; where it does not fit, nothing is written
pub record TextWritten (buffer text : List ℕ) (answer : Option ℕ) (buffer' : List ℕ) : Type 0 where
  pub result : answer ≡ cond (fits_at buffer 0 text) (Some (length text)) None
  pub left : buffer' ≡ write_at buffer 0 text
