-- Inner: words between the code's functions; the archive's contracts, demand 3 and the worked cases do not rest on it.
-- Parts of the definitions that both roles have, as programs. Assumes nothing.
use Rattle.std.specs.Prelude.{ℕ, List, None, Result, Ok, Err}
use Rattle.host_calls.specs.declared.call.ConnectionEvent.TheVariants as notice
use Rattle.host_answers.specs.declared.Stop.{Stop}
use Rattle.host_ops.specs.declared.Halt.{Halt}
use Rattle.host_ops.specs.declared.Halt.TheVariants as halt
use Rattle.machine.specs.declared.Machine.{Machine}
use Rattle.machine.specs.declared.PairingData.{PairingData}
use Rattle.machine.specs.declared.Phase.TheVariants as phase
use Rattle.protocol.specs.Handlers.{Handler, ◌>>◌, give, send_event, enters, confirm_data}

-- a failure that does not matter
abbrev pub attempt_of : Result (Unit {0}) Halt → Result (Unit {0}) Stop
attempt_of (Ok x) = Ok x
attempt_of (Err (halt.Failed e)) = Ok tt
attempt_of (Err (halt.Stop e)) = Err e

abbrev pub request_oob_data : List ℕ → List ℕ → PairingData → Handler Machine
request_oob_data preq pres d = do
  send_event d notice.OobRequest
  give (enters phase.WaitingOobData (confirm_data 0 preq pres) d)

abbrev pub request_pass_key : List ℕ → List ℕ → PairingData → Handler Machine
request_pass_key preq pres d = do
  send_event d notice.PassKeyInput
  give (enters (phase.WaitingPassKeyInput None) (confirm_data 0 preq pres) d)
