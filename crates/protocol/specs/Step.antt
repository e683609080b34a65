-- Believed: the archive's contracts and demand 3 rest on it.
-- A step on octets, document 01 ("Paired or failed", "What is turned back"): the dispatch of pairing/mod.rs over the
-- role, refusals, and what the caller gets. Assumes nothing.
use Rattle.std.specs.Prelude.{ℕ, Bool, true, false, cond, List, ltb, length}
use Rattle.octets.specs.Answer.{Answer, refused, accepted}
use Rattle.octets.specs.Octets.{write_at}
use Rattle.smp_types.specs.Types.{command_of}
use Rattle.host_calls.specs.Calls.{calls_octets, longest}
use Rattle.host_calls.specs.declared.call.Call.{Call}
use Rattle.host_answers.specs.Answers.{answer_refusal}
use Rattle.machine.specs.declared.Input.{Input}
use Rattle.machine.specs.declared.Input.TheVariants as input
use Rattle.machine.specs.declared.Machine.{Machine}
use Rattle.machine.specs.declared.Role.{Role}
use Rattle.machine.specs.declared.Role.TheVariants.{Central, Peripheral}
use Rattle.protocol.specs.declared.Stepped.{Stepped}
use Rattle.protocol.specs.Outcome.{StepOutcome, step_outcome}
use Rattle.protocol.specs.Outcome as outcome
use Rattle.protocol.specs.Program.{ended, wanting, refusing, Ending, Played, play}
use Rattle.protocol.specs.Ops.{Program, reply_at}
use Rattle.protocol.specs.LegacyCentral as central
use Rattle.protocol.specs.LegacyPeripheral as peripheral

-- the program of a step
abbrev pub handle_input_by_role : Role → Machine → Input → List ℕ → Program Machine
handle_input_by_role Central m i payload = central.handle_input m i payload
handle_input_by_role Peripheral m i payload = peripheral.handle_input m i payload

-- .. and its play on the answers, from their beginning
unfoldable pub play_of : Role → Machine → Input → List ℕ → List ℕ → Played Call Machine
play_of r m i payload answers = play reply_at answers (handle_input_by_role r m i payload) 0

-- what a step gives back: how it came out, the machine, the octets of answers read and of the list written; and the call
-- list behind it
pub record Step : Type 0 where
  pub outcome : StepOutcome
  pub machine : Machine
  pub read : ℕ
  pub written : ℕ
  pub list : List ℕ

-- a refused step: the machine given, counts 0, the list untouched
abbrev pub refused_by : ℕ → Machine → List ℕ → Step
refused_by n m list = record { outcome = outcome.refused n; machine = m; read = 0; written = 0; list = list }

-- the calls stand at the front of the list, which is unchanged beyond them
abbrev pub reports : StepOutcome → Machine → List ℕ → List Call → ℕ → Step
reports o m list calls read =
    record {
      outcome = o;
      machine = m;
      read = read;
      written = length (calls_octets calls);
      list = write_at list 0 (calls_octets calls);
    }

-- a step that ends gives the program's machine, one that wants the machine given
abbrev pub stepped : Machine → List ℕ → List Call → ℕ → Ending Machine → Step
stepped m list calls read (ended m₁) = reports outcome.ended m₁ list calls read
stepped m list calls read wanting = reports outcome.wants m list calls read
stepped m list calls read refusing = refused_by answer_refusal m list

abbrev pub is_accepted : {A : Type 0} → Answer A → Bool
is_accepted (refused n) = false
is_accepted (accepted a) = true

-- an event, or a command code from 0x01 to 0x0E
abbrev pub is_known : Input → Bool
is_known (input.Command code) = is_accepted (command_of code)
is_known (input.Event e) = true

-- refused by 1: the list is shorter than the longest step; by 2: no command has this code; by 3: an answer reached has
-- another kind, a cut body or a forbidden value
unfoldable pub step : Role → Machine → Input → List ℕ → List ℕ → List ℕ → Step
step r m i payload answers list =
    cond (ltb (length list) longest) (refused_by 1 m list)
    (cond (is_known i)
    (let x = play_of r m i payload answers in stepped m list x.calls x.place x.ending)
    (refused_by 2 m list))

-- ---- what the code gives: its result, and the list behind it, in these words

abbrev pub step_of : Stepped → List ℕ → Step
step_of s list =
    record { outcome = step_outcome s.outcome; machine = s.machine; read = s.read; written = s.written; list = list }
