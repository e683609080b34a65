-- Believed: the archive's contracts, demand 3 and the worked cases rest on it.
-- The method of LE legacy pairing, Vol 3 Part H, 2.3.5.1, and its security level. Assumes nothing.
use Rattle.std.specs.Prelude.{ℕ, Bool, cond, not, ◌&&◌, List, [], ◌∷◌, get_or}
use Rattle.smp_types.specs.declared.capabilities.IoCapabilities.{IoCapabilities}
use Rattle.smp_types.specs.declared.types.PairingFeatures.{PairingFeatures}
use Rattle.smp_types.specs.Capabilities.{io_code}
use Rattle.smp_types.specs.Types.{oob_present, flag, mitm_flag}
use Rattle.util.specs.declared.connection.SecurityLevel.{SecurityLevel}
use Rattle.util.specs.declared.connection.SecurityLevel.TheVariants.{NoEncryption, Encrypted, EncryptedAuthenticated}
use Rattle.util.specs.declared.util.PassKeyEntryAction.TheVariants.{Display, Input}
use Rattle.util.specs.declared.util.PairingMethod.{PairingMethod}
use Rattle.util.specs.declared.util.PairingMethod.TheVariants.{JustWorks, NumericComparison, PassKeyEntry, OutOfBand}

-- the numbers of the levels, document 01
abbrev pub level_code : SecurityLevel → ℕ
level_code NoEncryption = 0
level_code Encrypted = 1
level_code EncryptedAuthenticated = 2

-- the number of the level that a method gives: Just Works authenticates nobody
abbrev pub security_level : PairingMethod → ℕ
security_level JustWorks = 1
security_level NumericComparison = 2
security_level (PassKeyEntry central peripheral) = 2
security_level OutOfBand = 2

-- Passkey Entry: who displays the passkey, and who inputs it
abbrev pub CENTRAL_DISPLAYS : PairingMethod
CENTRAL_DISPLAYS = PassKeyEntry Display Input

abbrev pub PERIPHERAL_DISPLAYS : PairingMethod
PERIPHERAL_DISPLAYS = PassKeyEntry Input Display

abbrev pub BOTH_INPUT : PairingMethod
BOTH_INPUT = PassKeyEntry Input Input

-- The letters of Table 2.8 below: Just Works; Passkey Entry where the central displays and the peripheral inputs, where the
-- peripheral displays and the central inputs, and where both input.
abbrev pub J : PairingMethod
J = JustWorks

abbrev pub C : PairingMethod
C = CENTRAL_DISPLAYS

abbrev pub P : PairingMethod
P = PERIPHERAL_DISPLAYS

abbrev pub B : PairingMethod
B = BOTH_INPUT

-- Table 2.8. A row for each I/O capability of the responder, a column for each of the initiator, both in the order of the
-- codes: DisplayOnly, DisplayYesNo, KeyboardOnly, NoInputNoOutput, KeyboardDisplay. J stands wherever one end has neither
-- input nor output, and wherever no end can input a passkey.
abbrev pub method_table : List (List PairingMethod)
method_table =
    -- DisplayOnly: an initiator with a keyboard inputs what it displays
    (J ∷ J ∷ P ∷ J ∷ P ∷ [])
    -- DisplayYesNo: the same, since its yes or no serves Secure Connections alone
    ∷ (J ∷ J ∷ P ∷ J ∷ P ∷ [])
    -- KeyboardOnly: it inputs what the initiator displays; where that has only a keyboard too, both input
    ∷ (C ∷ C ∷ B ∷ J ∷ C ∷ [])
    -- NoInputNoOutput: Just Works, whatever the initiator has
    ∷ (J ∷ J ∷ J ∷ J ∷ J ∷ [])
    -- KeyboardDisplay: it displays where the initiator has only a keyboard, and inputs what any other displays
    ∷ (C ∷ C ∷ P ∷ J ∷ C ∷ [])
    ∷ []

abbrev pub io_method : IoCapabilities → IoCapabilities → PairingMethod
io_method central peripheral = get_or (get_or method_table (io_code peripheral) []) (io_code central) JustWorks

abbrev pub has_oob : PairingFeatures → Bool
has_oob f = oob_present f.use_oob

abbrev pub wants_mitm : PairingFeatures → Bool
wants_mitm f = flag mitm_flag f.security_properties.0

-- Table 2.6: both have OOB data; neither asks for MITM protection; else by the I/O capabilities
unfoldable pub legacy_method : PairingFeatures → PairingFeatures → PairingMethod
legacy_method central peripheral =
    cond (has_oob central && has_oob peripheral) OutOfBand
    (cond (not (wants_mitm central) && not (wants_mitm peripheral)) JustWorks
    (io_method central.io_capabilities peripheral.io_capabilities))
