-- What an input gives on the code's trace comes to the step of the definition. Assumes nothing.
use Prim.Native.Nat.{ℕ, ◌≤◌}
use mathlib.Core.Path.{◌≡◌, refl, ap}
use mathlib.Core.Bool.{true}
use mathlib.Core.List.{List}
use lib.ListN.{length}
use borrow.Author.Tests.{le-ltb}
use Rattle.octets.specs.Octets.{write_at}
use Rattle.host_calls.specs.Calls.{calls_octets, longest, no_trace}
use Rattle.host_calls.specs.declared.call.Call.{Call}
use Rattle.machine.specs.declared.Input.{Input}
use Rattle.machine.specs.declared.Machine.{Machine}
use Rattle.machine.specs.declared.Role.{Role}
use Rattle.protocol.specs.Program.{Ending, ended, wanting, refusing}
use Rattle.protocol.specs.Step.{handle_input_by_role, play_of, stepped, is_known, step}
use Rattle.protocol.specs.Outcome as outcome
use Rattle.protocol.proofs.Limits.{most_octets}
use Rattle.host_ops.specs.Run.{run}
use Rattle.host_ops.proofs.Playing.{ran_as, run_first, listed_octets}
use Rattle.pairing.specs.Report.{reported}

-- from a play whose calls have no more octets than a trace has room for
play_reported :
    (m : Machine) (list : List ℕ) (cs : List Call) (n : ℕ) (e : Ending Machine) → length (calls_octets cs) ≤ longest →
    reported m list (ran_as no_trace (record { ending = e; calls = cs; place = n })) ≡ stepped m list cs n e
play_reported m list cs n (ended m₁) h =
    ap (λ (w : List ℕ). record { outcome = outcome.ended; machine = m₁; read = n; written = length w; list = write_at list 0 w })
    (listed_octets n cs h)
play_reported m list cs n wanting h =
    ap (λ (w : List ℕ). record { outcome = outcome.wants; machine = m; read = n; written = length w; list = write_at list 0 w })
    (listed_octets n cs h)
play_reported m list cs n refusing h = refl

-- where the list is long enough and the input is known, the step is what its input gave
pub reported_step :
    (r : Role) (m : Machine) (i : Input) (payload answers list : List ℕ) → longest ≤ length list → is_known i ≡ true →
    reported m list (run answers (handle_input_by_role r m i payload) no_trace) ≡ step r m i payload answers list
unfolding step play_of
reported_step r m i payload answers list l k =
    let x = play_of r m i payload answers in
    rw (le-ltb (length list) longest l, k, run_first answers (handle_input_by_role r m i payload))
    (play_reported m list x.calls x.place x.ending (most_octets r m i payload answers))
