-- Canonical machines: what they are, that those a pairing starts with are canonical, and that what a state keeps it keeps
-- again. Assumes nothing.
use mathlib.Core.Path.{◌≡◌, refl}
use Rattle.machine.specs.Machine.{kept_by, new_machine, lesc_switch}
use Rattle.machine.specs.declared.Role.{Role}
use Rattle.machine.specs.declared.Role.TheVariants.{Central, Peripheral}
use Rattle.machine.specs.declared.Machine.{Machine}
use Rattle.machine.specs.declared.PairingData.{PairingData}
use Rattle.machine.specs.declared.ConfirmPhaseData.{ConfirmPhaseData}
use Rattle.machine.specs.declared.Phase.{Phase}
use Rattle.machine.specs.declared.Phase.TheVariants as phase

-- the states of a role
abbrev pub OfRole : Role → Phase → Type 0
OfRole r phase.WaitingPairingRequest = r ≡ Peripheral
OfRole r phase.WaitingPairingResponse = r ≡ Central
OfRole r (phase.WaitingPassKeyInput b) = Unit {0}
OfRole r phase.WaitingOobData = Unit {0}
OfRole r phase.WaitingPairingConfirm = Unit {0}
OfRole r (phase.WaitingPairingRandom p) = Unit {0}
OfRole r phase.WaitingLinkEncrypted = Unit {0}
OfRole r phase.WaitingIdentitityInformation = Unit {0}
OfRole r phase.WaitingIdentitityAddressInformation = Unit {0}
OfRole r (phase.ReceivingKeys n k) = Unit {0}
OfRole r phase.Success = Unit {0}
OfRole r (phase.Error e) = Unit {0}

-- a canonical machine of a role: its state is one of the role's, and nothing is kept that the state does not hold
pub record Canonical (r : Role) (m : Machine) : Type 0 where
  pub of_role : OfRole r m.phase
  pub kept : kept_by m.phase m.confirm_data ≡ m.confirm_data

pub new_canonical : (d : PairingData) → Canonical Peripheral (new_machine d)
unfolding new_machine
new_canonical d = record { of_role = refl; kept = refl }

pub switch_canonical : (d : PairingData) → Canonical Central (lesc_switch d)
unfolding lesc_switch
switch_canonical d = record { of_role = refl; kept = refl }

pub kept_kept : (p : Phase) (d : ConfirmPhaseData) → kept_by p (kept_by p d) ≡ kept_by p d
kept_kept phase.WaitingPairingRequest d = refl
kept_kept phase.WaitingPairingResponse d = refl
kept_kept (phase.WaitingPassKeyInput b) d = refl
kept_kept phase.WaitingOobData d = refl
kept_kept phase.WaitingPairingConfirm d = refl
kept_kept (phase.WaitingPairingRandom p) d = refl
kept_kept phase.WaitingLinkEncrypted d = refl
kept_kept phase.WaitingIdentitityInformation d = refl
kept_kept phase.WaitingIdentitityAddressInformation d = refl
kept_kept (phase.ReceivingKeys n k) d = refl
kept_kept phase.Success d = refl
kept_kept (phase.Error e) d = refl
