-- Believed: the archive's contracts rest on it.
-- Steps and fresh machines on octet strings and numbers: what each gives back, and what it leaves behind its references.
-- A machine is its record of 161 octets. What is new here is how numbers stand for roles, inputs and outcomes. A refusal
-- leaves the record and the list as they were; the two counts become 0 by refusals 1 to 3 and are left by any other.
-- Assumes nothing.
use Rattle.std.specs.Prelude.{ℕ, Bool, ◌-◌, true, false, cond, List, [], ◌∷◌, ltb, eqb, length, get_or, Option, Some, None, Result, Ok, Err}
use Rattle.octets.specs.Answer.{Answer, refused, accepted, and_then, answer_of}
use Rattle.octets.specs.Octets.{from_octets, word_of}
use Rattle.smp_types.specs.Types.{features_of}
use Rattle.smp_types.specs.declared.types.PairingFeatures.{PairingFeatures}
use Rattle.bond.specs.Bond.{failed_body, flag_code}
use Rattle.bond.specs.declared.Address.{Address}
use Rattle.bond.specs.declared.Error.{Error}
use Rattle.machine.specs.Machine.{new_machine, lesc_switch, result_of, is_encrypted, security_level_of}
use Rattle.machine.specs.declared.Event.{Event}
use Rattle.machine.specs.declared.Event.TheVariants.{LinkEncryptedResult, PassKeyConfirm, PassKeyCancel, PassKeyInput, OobDataReceived}
use Rattle.machine.specs.declared.Input.{Input}
use Rattle.machine.specs.declared.Input.TheVariants as input
use Rattle.machine.specs.declared.Machine.{Machine}
use Rattle.machine.specs.declared.Role.{Role}
use Rattle.machine.specs.declared.Role.TheVariants.{Central, Peripheral}
use Rattle.machine_record.specs.Record.{machine_octets, machine_of, record_refusal}
use Rattle.protocol.specs.Outcome.{StepOutcome, refusal_number}
use Rattle.protocol.specs.Outcome as outcome
use Rattle.protocol.specs.Step.{Step, step}
use Rattle.protocol.specs.FairLink.{fresh_data}
use Rattle.c_values.specs.Values.{done, Wrote, writes, address_in, error_number, number_of}
use Rattle.c_steps.specs.declared.InputError.{InputError}
use Rattle.c_steps.specs.declared.InputError.TheVariants as input-error
use Rattle.c_steps.specs.declared.Progress.{Progress}
use Rattle.c_steps.specs.declared.Status.{Status}
use Rattle.c_steps.specs.declared.StepError.{StepError}
use Rattle.c_steps.specs.declared.StepError.TheVariants as error

-- ---- how a step came out, beside document 01's refusals 1 to 5 and those of the machine record, 20 to 25

-- no role has this number
abbrev pub no_role : ℕ
no_role = 26

-- no input has this number
abbrev pub no_input : ℕ
no_input = 27

-- an event's data have another length or a forbidden value
abbrev pub bad_event : ℕ
bad_event = 28

-- a step wants an answer
abbrev pub wants : ℕ
wants = 255

-- ---- roles and inputs as numbers

-- 0 the terminal, 1 the head
unfoldable pub role_of : ℕ → Answer Role
role_of n = get_or (accepted Central ∷ accepted Peripheral ∷ []) n (refused no_role)

-- an event whose data have so many octets
abbrev pub with_data : List ℕ → ℕ → Event → Answer Input
with_data payload size e = cond (eqb (length payload) size) (accepted (input.Event e)) (refused bad_event)

-- one octet, 0 or 1
abbrev pub link_result_of : List ℕ → Answer Input
link_result_of payload =
    get_or (with_data payload 1 (LinkEncryptedResult false) ∷ with_data payload 1 (LinkEncryptedResult true) ∷ [])
    (get_or payload 0 0) (refused bad_event)

abbrev pub pass_key_input_of : List ℕ → Answer Input
pass_key_input_of payload = with_data payload 4 (PassKeyInput (from_octets payload))

abbrev pub oob_data_received_of : List ℕ → Answer Input
oob_data_received_of payload = with_data payload 16 (OobDataReceived (word_of payload))

-- the events in the order of their numbers, from 0x100 on
abbrev pub events_with : List ℕ → List (Answer Input)
events_with payload =
    link_result_of payload
    ∷ with_data payload 0 PassKeyConfirm
    ∷ with_data payload 0 PassKeyCancel
    ∷ pass_key_input_of payload
    ∷ oob_data_received_of payload
    ∷ []

-- a command code, any octet; or 0x100 and the number of an event, whose data stand in the payload's place
unfoldable pub input_of : ℕ → List ℕ → Answer Input
input_of n payload =
    cond (ltb n 0x100) (accepted (input.Command n))
    (get_or (events_with payload) (n - 0x100) (refused no_input))

-- ---- a step

abbrev pub outcome_number : StepOutcome → ℕ
outcome_number outcome.ended = done
outcome_number outcome.wants = wants
outcome_number (outcome.refused n) = n

-- the number given back, and what stands behind the references
pub record StepLeft : Type 0 where
  pub number : ℕ
  pub machine : List ℕ
  pub list : List ℕ
  pub read : ℕ
  pub written : ℕ

abbrev pub step_left : ℕ → List ℕ → List ℕ → ℕ → ℕ → StepLeft
step_left number machine list read written =
    record { number = number; machine = machine; list = list; read = read; written = written }

-- a step that ended leaves its machine's record, another the record given
abbrev pub record_after : StepOutcome → List ℕ → Machine → List ℕ
record_after outcome.ended given m = machine_octets m
record_after outcome.wants given m = given
record_after (outcome.refused n) given m = given

abbrev pub stored : List ℕ → Step → StepLeft
stored given s =
    record {
      number = outcome_number s.outcome;
      machine = record_after s.outcome given s.machine;
      list = s.list;
      read = s.read;
      written = s.written;
    }

-- a role, a record or an input that is none is refused before the step, and nothing is written
abbrev pub unless_refused : List ℕ → List ℕ → ℕ → ℕ → Answer Step → StepLeft
unless_refused machine list read written (refused n) = step_left n machine list read written
unless_refused machine list read written (accepted s) = stored machine s

unfoldable pub step_on : ℕ → List ℕ → ℕ → List ℕ → List ℕ → List ℕ → ℕ → ℕ → StepLeft
step_on role machine n payload answers list read written =
    unless_refused machine list read written
    (and_then (role_of role) (λ r.
    and_then (machine_of r machine) (λ m.
    and_then (input_of n payload) (λ i.
    accepted (step r m i payload answers list)))))

-- ---- a fresh machine, as at the start of the fair link

abbrev pub fresh_machine : Role → Address → Address → PairingFeatures → Machine
fresh_machine Central local peer features = lesc_switch (fresh_data local peer features)
fresh_machine Peripheral local peer features = new_machine (fresh_data local peer features)

unfoldable pub new_on : ℕ → List ℕ → List ℕ → List ℕ → List ℕ → Wrote
new_on role local peer features out =
    writes out
    (and_then (role_of role) (λ r.
    and_then (address_in local) (λ own.
    and_then (address_in peer) (λ other.
    and_then (features_of features) (λ f.
    accepted (machine_octets (fresh_machine r own other f)))))))

-- ---- how a machine stands

-- the pairing goes on, has succeeded, or has failed
abbrev pub pending : ℕ
pending = 0

abbrev pub succeeded : ℕ
succeeded = 1

abbrev pub failed : ℕ
failed = 2

abbrev pub result_number : Option (Result (Unit {0}) Error) → ℕ
result_number None = pending
result_number (Some (Ok x)) = succeeded
result_number (Some (Err e)) = failed

-- the failed body, two octets; zeros where the pairing has not failed
abbrev pub error_octets : Option (Result (Unit {0}) Error) → List ℕ
error_octets None = 0 ∷ 0 ∷ []
error_octets (Some (Ok x)) = 0 ∷ 0 ∷ []
error_octets (Some (Err e)) = failed_body e

-- the number given back, and what stands behind the references
pub record StatusLeft : Type 0 where
  pub number : ℕ
  pub result : ℕ
  pub kind : ℕ
  pub detail : ℕ
  pub encrypted : ℕ
  pub level : ℕ

abbrev pub status_left : ℕ → ℕ → ℕ → ℕ → ℕ → ℕ → StatusLeft
status_left number result kind detail encrypted level =
    record { number = number; result = result; kind = kind; detail = detail; encrypted = encrypted; level = level }

-- a result, whether the link is encrypted, and the security level
abbrev pub status_written : Option (Result (Unit {0}) Error) → Bool → ℕ → StatusLeft
status_written r e level =
    status_left done (result_number r) (get_or (error_octets r) 0 0) (get_or (error_octets r) 1 0) (flag_code e) level

-- a role or a record that is none is refused, and nothing is written
abbrev pub status_unless_refused : ℕ → ℕ → ℕ → ℕ → ℕ → Answer Machine → StatusLeft
status_unless_refused result kind detail encrypted level (refused n) = status_left n result kind detail encrypted level
status_unless_refused result kind detail encrypted level (accepted m) =
    status_written (result_of m.phase) (is_encrypted m.phase) (security_level_of m)

unfoldable pub status_on : ℕ → List ℕ → ℕ → ℕ → ℕ → ℕ → ℕ → StatusLeft
status_on role machine result kind detail encrypted level =
    status_unless_refused result kind detail encrypted level
    (and_then (role_of role) (λ r. machine_of r machine))

-- ---- what the code gives

abbrev pub role_answer : Option Role → Answer Role
role_answer (Some r) = accepted r
role_answer None = refused no_role

abbrev pub input_error_number : InputError → ℕ
input_error_number input-error.NoInput = no_input
input_error_number input-error.EventData = bad_event

abbrev pub input_answer : Result Input InputError → Answer Input
input_answer r = answer_of input_error_number r

-- the number of each error
abbrev pub step_error_number : StepError → ℕ
step_error_number (error.Step r) = refusal_number r
step_error_number (error.Octets e) = error_number e
step_error_number (error.Record e) = record_refusal e
step_error_number (error.Input e) = input_error_number e
step_error_number error.NoRole = no_role

abbrev pub steps_number : {A : Type 0} → Result A StepError → ℕ
steps_number r = number_of step_error_number r

-- what an error leaves of a count: 0 where the step itself was refused
abbrev pub count_after : StepError → ℕ → ℕ
count_after (error.Step r) n = 0
count_after (error.Octets e) n = n
count_after (error.Record e) n = n
count_after (error.Input e) n = n
count_after error.NoRole n = n

-- what a result of a step leaves behind the references, beside the record and the list
abbrev pub step_told : Result Progress StepError → List ℕ → List ℕ → ℕ → ℕ → StepLeft
step_told (Ok p) machine list read written = step_left (cond p.is_ended done wants) machine list p.read p.written
step_told (Err e) machine list read written =
    step_left (step_error_number e) machine list (count_after e read) (count_after e written)

-- what a result leaves behind the references
abbrev pub status_told : Result Status StepError → ℕ → ℕ → ℕ → ℕ → ℕ → StatusLeft
status_told (Ok s) result kind detail encrypted level = status_written s.result s.is_encrypted s.security_level
status_told (Err e) result kind detail encrypted level =
    status_left (step_error_number e) result kind detail encrypted level
