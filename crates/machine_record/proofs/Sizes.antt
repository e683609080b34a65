-- How many octets each piece of a record has, and the whole. Assumes nothing.
use borrow.Author.Rules.{rules}
use mathlib.Core.Path.{◌≡◌, refl}
use Rattle.std.specs.Prelude.{Option}
use lib.ListN.{length, length-append}
use Rattle.octets.specs.Octets.{octets_of}
use Rattle.octets.proofs.Octets.{word_length}
use Rattle.smp_types.specs.Types.{feature_octets}
use Rattle.smp_types.specs.declared.types.PairingFeatures.{PairingFeatures}
use Rattle.bond.specs.Bond.{bd_addr_octets, address_octets, bond_octets, bond_or_zeros, option_bond_octets}
use Rattle.bond.specs.declared.Address.{Address}
use Rattle.bond.specs.declared.BondInformation.{BondInformation}
use Rattle.machine.specs.declared.Phase.{Phase}
use Rattle.machine.specs.declared.Machine.{Machine}
use Rattle.machine_record.specs.Record.{record_size, phase_octets, machine_octets}

pub phase_length : (p : Phase) → length (phase_octets p) ≡ 4
unfolding phase_octets
phase_length p = search rules

pub address_length : (a : Address) → length (address_octets a) ≡ 7
unfolding address_octets bd_addr_octets
address_length a = refl

pub bond_length : (o : Option BondInformation) → length (bond_or_zeros o) ≡ 51
unfolding bond_octets octets_of address_octets bd_addr_octets
bond_length o = search rules

pub option_bond_length : (o : Option BondInformation) → length (option_bond_octets o) ≡ 52
option_bond_length o = rw (bond_length o)

pub features_length : (f : PairingFeatures) → length (feature_octets f) ≡ 6
features_length f = refl

pub record_length : (m : Machine) → length m.confirm_data.preq ≡ 7 → length m.confirm_data.pres ≡ 7 → length (machine_octets m) ≡ record_size
unfolding machine_octets
record_length m p q = simp (length-append, phase_length, word_length, address_length, bond_length, p, q)
