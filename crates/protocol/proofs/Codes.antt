-- The codes that a step knows, 0x01 to 0x0E: those of the commands and no others. Assumes nothing.
use Prim.Native.Nat.{ℕ, ◌<◌}
use mathlib.Core.Path.{◌≡◌, refl, ap}
use mathlib.Core.Bool.{true, false}
use mathlib.Core.List.{◌∷◌, map}
use native.Mathlib.Omega.{arith}
use lib.ListN.{get_or-eq_default}
use Rattle.octets.specs.Answer.{refused, accepted}
use Rattle.smp_types.specs.Types.{command_code, commands}
use Rattle.smp_types.specs.declared.types.Command.{Command}
use Rattle.smp_types.specs.declared.types.Command.TheVariants as command
use Rattle.machine.specs.declared.Input.TheVariants as input
use Rattle.protocol.specs.Step.{is_accepted, is_known}

pub code_zero : is_known (input.Command 0) ≡ false
code_zero = refl

pub code_beyond : (code : ℕ) → 0x0E < code → is_known (input.Command code) ≡ false
code_beyond code h =
    ap is_accepted (get_or-eq_default (refused 2 ∷ map accepted commands) (refused 2) {n = code} (omega arith))

pub code_known : (c : Command) → is_known (input.Command (command_code c)) ≡ true
code_known command.PairingRequest = refl
code_known command.PairingResponse = refl
code_known command.PairingConfirm = refl
code_known command.PairingRandom = refl
code_known command.PairingFailed = refl
code_known command.EncryptionInformation = refl
code_known command.CentralIdentification = refl
code_known command.IdentityInformation = refl
code_known command.IdentityAddressInformation = refl
code_known command.SigningInformation = refl
code_known command.SecurityRequest = refl
code_known command.PairingPublicKey = refl
code_known command.PairingDhKeyCheck = refl
code_known command.KeypressNotification = refl
