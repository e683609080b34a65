-- Inner: words between the code's functions; the archive's contracts, demand 3 and the worked cases do not rest on it.
-- A part of `handle_pairing_response`, as its function has it. Assumes nothing.
use Rattle.std.specs.Prelude.{ℕ, List}
use Rattle.host_calls.specs.declared.call.ConnectionEvent.TheVariants as notice
use Rattle.host_calls.specs.declared.call.Draw.TheVariants as draw
use Rattle.machine.specs.declared.Machine.{Machine}
use Rattle.machine.specs.declared.PairingData.{PairingData}
use Rattle.protocol.specs.Handlers.{Handler, ◌>>=◌, ◌>>◌, send_event, drawn, pass_key_tk}
use Rattle.protocol.specs.LegacyCentral.{begin_confirm}

abbrev pub display_pass_key : List ℕ → List ℕ → PairingData → Handler Machine
display_pass_key preq pres d = do
  tk ← drawn draw.PassKey
  send_event d (notice.PassKeyDisplay tk)
  begin_confirm preq pres d (pass_key_tk tk.0)
