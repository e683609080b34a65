-- Inner: words between the code's functions; the archive's contracts, demand 3 and the worked cases do not rest on it.
-- A step line, ROLE LISTLEN MACHINE INPUT PAYLOAD ANSWERS, without its line feed, and what is read of it. `none` stands
-- for malformed. Assumes nothing.
use Rattle.std.specs.Prelude.{ℕ, ◌+◌, ◌-◌, ◌*◌, ◌≡◌, Bool, true, false, cond, ◌&&◌, List, [], ◌∷◌, leb, eqb, length, get_or, Option, Some, None, Result, Ok, Err}
use Rattle.octets.specs.Answer.{Answer, refused, accepted}
use Rattle.octets.specs.Octets.{from_octets, word_of, write_at}
use Rattle.machine.specs.declared.Role.{Role}
use Rattle.machine.specs.declared.Role.TheVariants.{Central, Peripheral}
use Rattle.machine.specs.declared.Event.{Event}
use Rattle.machine.specs.declared.Event.TheVariants.{LinkEncryptedResult, PassKeyConfirm, PassKeyCancel, PassKeyInput, OobDataReceived}
use Rattle.machine.specs.declared.Input.{Input}
use Rattle.machine.specs.declared.Input.TheVariants as input
use Rattle.machine.specs.declared.Machine.{Machine}
use Rattle.machine_record.specs.Record.{machine_of}
use Rattle.line_reading.specs.Text.{space, minus, digit0, digit1, digit9, letter_a, letter_c, letter_f, letter_i, letter_k, letter_l, letter_o, letter_p, letter_x}
use Rattle.line_reading.specs.declared.LineError.{LineError}
use Rattle.line_reading.specs.declared.LineError.TheVariants.{Malformed, NoRoom}
use Rattle.line_reading.specs.declared.ReadLine.{ReadLine}
use Rattle.line_reading.specs.declared.Fields.{Fields}

-- what was read goes on to the next reading
abbrev pub and_then : {A B : Type 0} → Option A → (A → Option B) → Option B
and_then None f = None
and_then (Some a) f = f a

-- no longer line, and no longer list, payload or answers
abbrev pub longest_line : ℕ
longest_line = 20000

abbrev pub most : ℕ
most = 4096

-- ---- fields

-- a character in front of the first field
abbrev pub in_front : ℕ → List (List ℕ) → List (List ℕ)
in_front c [] = (c ∷ []) ∷ []
in_front c (f ∷ fs) = (c ∷ f) ∷ fs

-- what stands between the spaces of a line, before the first and behind the last
unfoldable pub fields : List ℕ → List (List ℕ)
fields [] = [] ∷ []
fields (c ∷ l) = cond (eqb c space) ([] ∷ fields l) (in_front c (fields l))

-- ---- octets: lower-case hexadecimal

unfoldable pub digit_of : ℕ → Option ℕ
digit_of c =
    cond (leb digit0 c && leb c digit9) (Some (c - digit0))
    (cond (leb letter_a c && leb c letter_f) (Some (10 + (c - letter_a))) None)

-- two digits, the high one first
unfoldable pub octet_of : ℕ → ℕ → Option ℕ
octet_of high low = and_then (digit_of high) (λ h. and_then (digit_of low) (λ l. Some (16 * h + l)))

-- two digits to each octet
unfoldable pub octets_in : List ℕ → Option (List ℕ)
octets_in [] = Some []
octets_in (high ∷ []) = None
octets_in (high ∷ low ∷ l) = and_then (octet_of high low) (λ x. and_then (octets_in l) (λ o. Some (x ∷ o)))

-- so many octets
unfoldable pub octets_of_length : ℕ → List ℕ → Option (List ℕ)
octets_of_length n f = and_then (octets_in f) (λ o. cond (eqb (length o) n) (Some o) None)

-- `-` is the empty string; else at least one octet
abbrev pub field_octets : List ℕ → Option (List ℕ)
field_octets [] = None
field_octets (c ∷ []) = cond (eqb c minus) (Some []) None
field_octets (c ∷ d ∷ l) = octets_in (c ∷ d ∷ l)

-- ---- ROLE

abbrev pub role_of : List ℕ → Option Role
role_of [] = None
role_of (c ∷ []) = cond (eqb c letter_c) (Some Central) (cond (eqb c letter_p) (Some Peripheral) None)
role_of (c ∷ d ∷ l) = None

-- ---- LISTLEN

-- the digits of a number, of which n has been read
abbrev pub decimal_from : ℕ → List ℕ → Option ℕ
decimal_from n [] = Some n
decimal_from n (c ∷ l) = cond (leb digit0 c && leb c digit9) (decimal_from (10 * n + (c - digit0)) l) None

-- one to four digits
abbrev pub decimal_of : List ℕ → Option ℕ
decimal_of f = cond (leb 1 (length f) && leb (length f) 4) (decimal_from 0 f) None

unfoldable pub room_of : List ℕ → Option ℕ
room_of f = and_then (decimal_of f) (λ n. cond (leb n most) (Some n) None)

-- ---- MACHINE

-- a record that is accepted
abbrev pub only_accepted : {A : Type 0} → Answer A → Option A
only_accepted (refused n) = None
only_accepted (accepted a) = Some a

unfoldable pub machine_in : Role → List ℕ → Option Machine
machine_in r f = and_then (octets_in f) (λ o. only_accepted (machine_of r o))

-- ---- INPUT: a letter, and what belongs to it

abbrev pub command_of : List ℕ → Option Input
command_of f = and_then (octets_of_length 1 f) (λ o. Some (input.Command (get_or o 0 0)))

abbrev pub link_of : List ℕ → Option Input
link_of [] = None
link_of (c ∷ []) =
    cond (eqb c digit0) (Some (input.Event (LinkEncryptedResult false)))
    (cond (eqb c digit1) (Some (input.Event (LinkEncryptedResult true))) None)
link_of (c ∷ d ∷ l) = None

abbrev pub event_alone : Event → List ℕ → Option Input
event_alone e [] = Some (input.Event e)
event_alone e (c ∷ l) = None

abbrev pub pass_key_of : List ℕ → Option Input
pass_key_of f = and_then (octets_of_length 4 f) (λ o. Some (input.Event (PassKeyInput (from_octets o))))

abbrev pub oob_data_of : List ℕ → Option Input
oob_data_of f = and_then (octets_of_length 16 f) (λ o. Some (input.Event (OobDataReceived (word_of o))))

unfoldable pub input_of : List ℕ → Option Input
input_of [] = None
input_of (c ∷ f) =
    cond (eqb c letter_c) (command_of f)
    (cond (eqb c letter_l) (link_of f)
    (cond (eqb c letter_k) (event_alone PassKeyConfirm f)
    (cond (eqb c letter_x) (event_alone PassKeyCancel f)
    (cond (eqb c letter_i) (pass_key_of f)
    (cond (eqb c letter_o) (oob_data_of f) None)))))

-- ---- PAYLOAD and ANSWERS

unfoldable pub octets_field : List ℕ → Option (List ℕ)
octets_field f = and_then (field_octets f) (λ o. cond (leb (length o) most) (Some o) None)

-- so many octets of payload: an event has none
abbrev pub may_carry : Input → ℕ → Bool
may_carry (input.Command code) n = true
may_carry (input.Event e) n = eqb n 0

-- ---- the line

pub record StepLine : Type 0 where
  pub role : Role
  pub room : ℕ
  pub machine : Machine
  pub input : Input
  pub payload : List ℕ
  pub answers : List ℕ

-- the line of six fields
unfoldable pub line_with : (role room machine input payload answers : List ℕ) → Option StepLine
line_with role room machine input payload answers =
    and_then (role_of role) (λ r.
    and_then (room_of room) (λ n.
    and_then (machine_in r machine) (λ m.
    and_then (input_of input) (λ i.
    and_then (octets_field payload) (λ p.
    and_then (octets_field answers) (λ a.
    cond (may_carry i (length p)) (Some (record { role = r; room = n; machine = m; input = i; payload = p; answers = a })) None))))))

-- exactly six fields
abbrev pub line_of_fields : List (List ℕ) → Option StepLine
line_of_fields fs =
    cond (eqb (length fs) 6)
    (line_with (get_or fs 0 []) (get_or fs 1 []) (get_or fs 2 []) (get_or fs 3 []) (get_or fs 4 []) (get_or fs 5 []))
    None

unfoldable pub line_of : List ℕ → Option StepLine
line_of l = cond (leb (length l) longest_line) (line_of_fields (fields l)) None

-- ---- what reading a line answers, and what it leaves in the lent buffers

unfoldable pub read_of : StepLine → ReadLine
read_of l =
    record {
      role = l.role;
      room = l.room;
      machine = l.machine;
      input = l.input;
      payload = length l.payload;
      answers = length l.answers;
    }

unfoldable pub line_answer : Option StepLine → Result ReadLine LineError
line_answer None = Err Malformed
line_answer (Some l) = Ok (read_of l)

-- octets laid at the front of a buffer, where a line was read
unfoldable pub laid : List ℕ → Option (List ℕ) → List ℕ
laid buffer None = buffer
laid buffer (Some o) = write_at buffer 0 o

abbrev pub payload_in : Option StepLine → Option (List ℕ)
payload_in x = and_then x (λ l. Some l.payload)

abbrev pub answers_in : Option StepLine → Option (List ℕ)
answers_in x = and_then x (λ l. Some l.answers)

-- both buffers have room for the longest payload and answers
unfoldable pub have_room : List ℕ → List ℕ → Bool
have_room payload answers = leb most (length payload) && leb most (length answers)

-- a line that is read with the buffers payload and answers: what is answered, and what is left in them
pub record LineRead (line payload answers : List ℕ) (answer : Result ReadLine LineError) (payload' answers' : List ℕ) : Type 0 where
  pub result : answer ≡ cond (have_room payload answers) (line_answer (line_of line)) (Err NoRoom)
  pub payload_left : payload' ≡ cond (have_room payload answers) (laid payload (payload_in (line_of line))) payload
  pub answers_left : answers' ≡ cond (have_room payload answers) (laid answers (answers_in (line_of line))) answers

-- ---- the code's parts

-- the number of octets
abbrev pub size_of : Option (List ℕ) → Option ℕ
size_of x = and_then x (λ o. Some (length o))

unfoldable pub line_in : Fields → Option StepLine
line_in f = line_with f.role.now f.room.now f.machine.now f.input.now f.payload.now f.answers.now

abbrev pub SplitAs : List ℕ → Option Fields → Type 0
SplitAs l None = line_of l ≡ None
SplitAs l (Some f) = line_of l ≡ line_in f

-- the same, but for the octets of the last two
abbrev pub fields_read : Fields → Option ReadLine
fields_read f =
    and_then (role_of f.role.now) (λ r.
    and_then (room_of f.room.now) (λ n.
    and_then (machine_in r f.machine.now) (λ m.
    and_then (input_of f.input.now) (λ i.
    and_then (size_of (octets_field f.payload.now)) (λ p.
    and_then (size_of (octets_field f.answers.now)) (λ a.
    cond (may_carry i p) (Some (record { role = r; room = n; machine = m; input = i; payload = p; answers = a })) None))))))
