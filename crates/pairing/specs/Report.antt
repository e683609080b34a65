-- Inner: words between the code's functions; the archive's contracts, demand 3 and the worked cases do not rest on it.
-- What a step gives back, from what its input gave on the code's trace. Assumes nothing.
use Rattle.std.specs.Prelude.{ℕ, List, length}
use Rattle.octets.specs.Octets.{write_at}
use Rattle.host_calls.specs.Calls.{listed}
use Rattle.host_calls.specs.declared.call.Trace.{Trace}
use Rattle.host_answers.specs.Answers.{answer_refusal}
use Rattle.host_answers.specs.declared.Stop.TheVariants.{Wanted, Refused}
use Rattle.machine.specs.declared.Machine.{Machine}
use Rattle.protocol.specs.Outcome.{StepOutcome}
use Rattle.protocol.specs.Outcome as outcome
use Rattle.protocol.specs.Step.{Step, refused_by}
use Rattle.host_ops.specs.Run.{Ran, ended, stopped}

-- the trace's calls stand at the front of the list
abbrev pub listing : StepOutcome → Machine → List ℕ → Trace → Step
listing o m list t =
    record {
      outcome = o;
      machine = m;
      read = t.read;
      written = length (listed t);
      list = write_at list 0 (listed t);
    }

-- m is the machine before the step
abbrev pub reported : Machine → List ℕ → Ran Machine → Step
reported m list (ended m₁ t) = listing outcome.ended m₁ list t
reported m list (stopped Wanted t) = listing outcome.wants m list t
reported m list (stopped Refused t) = refused_by answer_refusal m list
