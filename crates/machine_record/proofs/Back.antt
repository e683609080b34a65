-- Each piece of a record is read as what was written. Assumes nothing.
use borrow.Author.Rules.{rules}
use mathlib.Core.Path.{◌≡◌}
use Prim.Native.Nat.{ℕ, ◌≤◌}
use Rattle.std.specs.Prelude.{true, List, Option, Some, is_some}
use Rattle.octets.specs.Answer.{accepted}
use Rattle.smp_types.specs.Types.{reason_code, reason_of, feature_octets}
use Rattle.smp_types.specs.declared.types.Reason.{Reason}
use Rattle.smp_types.specs.declared.types.PairingFeatures.{PairingFeatures}
use Rattle.smp_types.proofs.Codes.{io_back, oob_back}
use Rattle.util.specs.declared.util.PairingMethod.{PairingMethod}
use Rattle.bond.specs.Bond.{flag_code, flag_of, bond_of, bond_or_zeros}
use Rattle.bond.specs.declared.BondInformation.{BondInformation}
use Rattle.bond.proofs.Back.{OptionBondValued, bond_back}
use Rattle.machine.specs.declared.Role.{Role}
use Rattle.machine.specs.declared.Phase.{Phase}
use Rattle.machine.proofs.Canonical.{OfRole}
use Rattle.machine_record.specs.Record.{phase_octets, confirm_in, received_in, method_code, reason_at, error_of, pass_key_of, phase_of, features_at, method_of, bond_answer, option_bond_of}

-- the reasons from 0x01 to 0x10 are those of a Pairing Failed
pub reason_read : (v : ℕ) → 1 ≤ v → v ≤ 16 → reason_at v ≡ accepted (reason_of v)
reason_read v a b = search rules

-- where octet 109 is yes, a bond is read
pub present_read : (v : ℕ) (s : List ℕ) → flag_of v ≡ Some true → option_bond_of v s ≡ bond_answer (bond_of s)
present_read v s e = search rules

-- ---- piece by piece

reason_back : (r : Reason) → reason_at (reason_code r) ≡ accepted r
reason_back r = search rules

pub phase_back : (r : Role) (p : Phase) → OfRole r p → phase_of r (phase_octets p) (confirm_in p) (received_in p) ≡ accepted p
unfolding pass_key_of error_of phase_of phase_octets confirm_in received_in
phase_back r p h = search (rules, reason_back)

pub features_back : (f : PairingFeatures) → features_at (feature_octets f) ≡ accepted f
unfolding features_at
features_back f = rw (io_back f.io_capabilities, oob_back f.use_oob)

pub method_back : (m : PairingMethod) → method_of (method_code m) ≡ accepted m
method_back m = search rules

pub option_bond_back : (o : Option BondInformation) → OptionBondValued o → option_bond_of (flag_code (is_some o)) (bond_or_zeros o) ≡ accepted o
option_bond_back o v = search (rules, bond_back)
