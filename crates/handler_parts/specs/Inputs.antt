-- Inner: words between the code's functions; the archive's contracts, demand 3 and the worked cases do not rest on it.
-- Whether an input is what a state awaits. Assumes nothing.
use Rattle.std.specs.Prelude.{ℕ, Bool, true, false, eqb, Option, Some, None}
use Rattle.smp_types.specs.Types.{command_code}
use Rattle.smp_types.specs.declared.types.Command.{Command}
use Rattle.machine.specs.declared.Event.TheVariants as event
use Rattle.machine.specs.declared.Input.{Input}
use Rattle.machine.specs.declared.Input.TheVariants as input

abbrev pub is_command : Command → Input → Bool
is_command c (input.Command code) = eqb code (command_code c)
is_command c (input.Event e) = false

abbrev pub link_encrypted_in : Input → Option Bool
link_encrypted_in (input.Command code) = None
link_encrypted_in (input.Event (event.LinkEncryptedResult b)) = Some b
link_encrypted_in (input.Event event.PassKeyConfirm) = None
link_encrypted_in (input.Event event.PassKeyCancel) = None
link_encrypted_in (input.Event (event.PassKeyInput n)) = None
link_encrypted_in (input.Event (event.OobDataReceived w)) = None

abbrev pub pass_key_in : Input → Option ℕ
pass_key_in (input.Command code) = None
pass_key_in (input.Event (event.LinkEncryptedResult b)) = None
pass_key_in (input.Event event.PassKeyConfirm) = None
pass_key_in (input.Event event.PassKeyCancel) = None
pass_key_in (input.Event (event.PassKeyInput n)) = Some n
pass_key_in (input.Event (event.OobDataReceived w)) = None

abbrev pub is_pass_key_cancel : Input → Bool
is_pass_key_cancel (input.Command code) = false
is_pass_key_cancel (input.Event (event.LinkEncryptedResult b)) = false
is_pass_key_cancel (input.Event event.PassKeyConfirm) = false
is_pass_key_cancel (input.Event event.PassKeyCancel) = true
is_pass_key_cancel (input.Event (event.PassKeyInput n)) = false
is_pass_key_cancel (input.Event (event.OobDataReceived w)) = false

abbrev pub oob_data_in : Input → Option ℕ
oob_data_in (input.Command code) = None
oob_data_in (input.Event (event.LinkEncryptedResult b)) = None
oob_data_in (input.Event event.PassKeyConfirm) = None
oob_data_in (input.Event event.PassKeyCancel) = None
oob_data_in (input.Event (event.PassKeyInput n)) = None
oob_data_in (input.Event (event.OobDataReceived w)) = Some w
