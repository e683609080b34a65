-- Believed: the list of methods rests on it.
-- The method of every pair of feature records that differ in I/O capabilities, OOB data flag and MITM flag, a line for each
-- pair: Vol 3 Part H, 2.3.5.1, Tables 2.6 and 2.8. Assumes nothing.
use Rattle.std.specs.Prelude.{ℕ, ◌+◌, Bool, true, false, cond, List, [], ◌∷◌, ◌++◌, map, flat_map, codes}
use Rattle.smp_types.specs.declared.capabilities.IoCapabilities.{IoCapabilities}
use Rattle.smp_types.specs.declared.types.UseOutOfBand.{UseOutOfBand}
use Rattle.smp_types.specs.declared.types.BondingFlag.TheVariants.{NoBonding}
use Rattle.smp_types.specs.declared.types.PairingFeatures.{PairingFeatures}
use Rattle.smp_types.specs.Capabilities.{io_code, ios}
use Rattle.smp_types.specs.Types.{oob_code, oobs, bonding_code, mitm_flag, with_flag, largest_key_size}
use Rattle.util.specs.declared.util.PassKeyEntryAction.TheVariants.{Display, Input}
use Rattle.util.specs.declared.util.PairingMethod.{PairingMethod}
use Rattle.util.specs.declared.util.PairingMethod.TheVariants.{JustWorks, NumericComparison, PassKeyEntry, OutOfBand}
use Rattle.util.specs.Method.{wants_mitm, legacy_method}

-- ---- the records

-- AuthReq, 3.5.1: no bonding and no other flag, but MITM protection where it is asked for
abbrev pub auth_req : Bool → ℕ
auth_req false = bonding_code NoBonding
auth_req true = with_flag mitm_flag (bonding_code NoBonding)

-- the record with these three fields: no bonding, key size 16, no keys to be distributed
abbrev pub features : IoCapabilities → UseOutOfBand → Bool → PairingFeatures
features io oob mitm =
    record {
      io_capabilities = io;
      use_oob = oob;
      security_properties = record { 0 = auth_req mitm };
      maximum_encryption_key_size = largest_key_size;
      initiator_key_distribution = record { 0 = 0 };
      responder_key_distribution = record { 0 = 0 };
    }

-- the 20 records: I/O varies slowest, then OOB, then MITM, each upwards from 0
abbrev pub records : List PairingFeatures
records = flat_map (λ io. flat_map (λ oob. map (λ mitm. features io oob mitm) (false ∷ true ∷ [])) oobs) ios

-- the terminal's record, that of the Pairing Request, and the head's, that of the Pairing Response
pub record Pair : Type 0 where
  pub terminal : PairingFeatures
  pub head : PairingFeatures

-- every pair of these records: the terminal's varies slowest
abbrev pub pairs : List Pair
pairs = flat_map (λ terminal. map (λ head. record { terminal = terminal; head = head }) records) records

-- ---- the lines

-- a digit by its character: 48 is that of 0
abbrev pub digit : ℕ → ℕ
digit n = 48 + n

-- a record by three digits: I/O, OOB, MITM
abbrev pub digits : PairingFeatures → List ℕ
digits f = map digit (io_code f.io_capabilities ∷ oob_code f.use_oob ∷ cond (wants_mitm f) 1 0 ∷ [])

-- the letter of a method. LE legacy pairing has no Numeric Comparison, and never has both ends display: `?` stands on no line
abbrev pub letter : PairingMethod → List ℕ
letter JustWorks = codes "J"
letter (PassKeyEntry Display Input) = codes "C"
letter (PassKeyEntry Input Display) = codes "P"
letter (PassKeyEntry Input Input) = codes "B"
letter (PassKeyEntry Display Display) = codes "?"
letter NumericComparison = codes "?"
letter OutOfBand = codes "O"

-- three digits for the terminal, three for the head, a space, and the letter of the method: the terminal is the central
abbrev pub line : Pair → List ℕ
line p = digits p.terminal ++ digits p.head ++ codes " " ++ letter (legacy_method p.terminal p.head)

abbrev pub lines : List (List ℕ)
lines = map line pairs

-- the lines one after another, each with its line feed
unfoldable pub text : List ℕ
text = flat_map (λ l. l ++ codes "\n") lines
