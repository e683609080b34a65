-- `bond::BondInformation::encode` meets its contract. Assumes nothing.
use mathlib.Core.Path.{◌∙◌}
use Rattle.std.specs.Int.{w64}
use Rattle.octets.proofs.Bytes.{to_le}
use Rattle.octets.specs.Octets.{octets_of, fits_at, write_at}
use Rattle.bond.specs.Bond.{bd_addr_octets, address_octets, bond_octets}
use Rattle.bond.proofs.BondInformation.encode.Goals as goal

pub returns : goal.returns
unfolding octets_of fits_at write_at bd_addr_octets address_octets bond_octets
returns c =
    rw (
      c.write-6.ensures.slice,
      c.encode.ensures,
      c.write-5.ensures.slice,
      c.to_le_bytes-4.ensures,
      c.write-4.ensures.slice,
      c.from.ensures,
      c.write-3.ensures.slice,
      c.to_le_bytes-3.ensures ∙ to_le w64 c.args.self.rand,
      c.write-2.ensures.slice,
      c.to_le_bytes-2.ensures,
      c.write.ensures.slice,
      c.to_le_bytes.ensures,
    )
