-- Believed: the archive's contracts, demand 3 and the worked cases rest on it.
-- Reasons, command codes, the flags and the pairing features, Vol 3 Part H, 3.3 to 3.6. Assumes nothing.
use Rattle.std.specs.Prelude.{ℕ, ◌%◌, ◌^◌, Bool, true, false, cond, ◌&&◌, List, [], ◌∷◌, map, length, get_or, leb, ltb, eqb, Result}
use Rattle.std.specs.Int.Bits.{bit_and, bit_or}
use Rattle.octets.specs.Answer.{Answer, refused, accepted, and_then, answer_of}
use Rattle.smp_types.specs.declared.types.Reason.{Reason}
use Rattle.smp_types.specs.declared.types.Reason.TheVariants.{Success, PasskeyEntryFailed, OobNotAvailable, AuthenticationRequirements, ConfirmValueFailed, PairingNotSupported, EncryptionKeySize, CommandNotSupported, UnspecifiedReason, RepeatedAttempts, InvalidParameters, DHKeyCheckFailed, NumericComparisonFailed, BrEdrPairingInProgress, GenerationNotAllowed, KeyRejected, Busy}
use Rattle.smp_types.specs.declared.types.Command.{Command}
use Rattle.smp_types.specs.declared.types.Command.TheVariants.{PairingRequest, PairingResponse, PairingConfirm, PairingRandom, PairingFailed, EncryptionInformation, CentralIdentification, IdentityInformation, IdentityAddressInformation, SigningInformation, SecurityRequest, PairingPublicKey, PairingDhKeyCheck, KeypressNotification}
use Rattle.smp_types.specs.declared.types.UseOutOfBand.{UseOutOfBand}
use Rattle.smp_types.specs.declared.types.UseOutOfBand.TheVariants.{NotPresent, Present}
use Rattle.smp_types.specs.declared.types.BondingFlag.{BondingFlag}
use Rattle.smp_types.specs.declared.types.BondingFlag.TheVariants.{NoBonding, Bonding}
use Rattle.smp_types.specs.declared.types.PairingFeatures.{PairingFeatures}
use Rattle.smp_types.specs.declared.codec.Error.{Error}
use Rattle.smp_types.specs.declared.codec.Error.TheVariants as codec
use Rattle.smp_types.specs.declared.error.InvalidValue.{InvalidValue}
use Rattle.smp_types.specs.declared.capabilities.IoCapabilities.{IoCapabilities}
use Rattle.smp_types.specs.declared.capabilities.IoCapabilities.TheVariants.{NoInputNoOutput}
use Rattle.smp_types.specs.Capabilities.{io_code, io_of}

-- ---- Pairing Failed, 3.5.5

abbrev pub reason_code : Reason → ℕ
reason_code Success = 0x00
reason_code PasskeyEntryFailed = 0x01
reason_code OobNotAvailable = 0x02
reason_code AuthenticationRequirements = 0x03
reason_code ConfirmValueFailed = 0x04
reason_code PairingNotSupported = 0x05
reason_code EncryptionKeySize = 0x06
reason_code CommandNotSupported = 0x07
reason_code UnspecifiedReason = 0x08
reason_code RepeatedAttempts = 0x09
reason_code InvalidParameters = 0x0a
reason_code DHKeyCheckFailed = 0x0b
reason_code NumericComparisonFailed = 0x0c
reason_code BrEdrPairingInProgress = 0x0d
reason_code GenerationNotAllowed = 0x0e
reason_code KeyRejected = 0x0f
reason_code Busy = 0x10

-- the reasons in the order of their codes, from 0x01 on
abbrev pub reasons : List Reason
reasons =
    PasskeyEntryFailed
    ∷ OobNotAvailable
    ∷ AuthenticationRequirements
    ∷ ConfirmValueFailed
    ∷ PairingNotSupported
    ∷ EncryptionKeySize
    ∷ CommandNotSupported
    ∷ UnspecifiedReason
    ∷ RepeatedAttempts
    ∷ InvalidParameters
    ∷ DHKeyCheckFailed
    ∷ NumericComparisonFailed
    ∷ BrEdrPairingInProgress
    ∷ GenerationNotAllowed
    ∷ KeyRejected
    ∷ Busy
    ∷ []

-- the reason of a code; a code that is not 0x01 to 0x10 is read as an unspecified reason
abbrev pub reason_of : ℕ → Reason
reason_of v = get_or (UnspecifiedReason ∷ reasons) v UnspecifiedReason

-- ---- the codes of the commands, 3.3, and the sizes of their payloads, 3.5 and 3.6

abbrev pub command_code : Command → ℕ
command_code PairingRequest = 0x01
command_code PairingResponse = 0x02
command_code PairingConfirm = 0x03
command_code PairingRandom = 0x04
command_code PairingFailed = 0x05
command_code EncryptionInformation = 0x06
command_code CentralIdentification = 0x07
command_code IdentityInformation = 0x08
command_code IdentityAddressInformation = 0x09
command_code SigningInformation = 0x0a
command_code SecurityRequest = 0x0b
command_code PairingPublicKey = 0x0c
command_code PairingDhKeyCheck = 0x0d
command_code KeypressNotification = 0x0e

abbrev pub payload_size : Command → ℕ
payload_size PairingRequest = 6
payload_size PairingResponse = 6
payload_size PairingConfirm = 16
payload_size PairingRandom = 16
payload_size PairingFailed = 1
payload_size EncryptionInformation = 16
payload_size CentralIdentification = 10
payload_size IdentityInformation = 16
payload_size IdentityAddressInformation = 7
payload_size SigningInformation = 16
payload_size SecurityRequest = 1
payload_size PairingPublicKey = 64
payload_size PairingDhKeyCheck = 16
payload_size KeypressNotification = 1

-- the commands in the order of their codes, from 0x01 on
abbrev pub commands : List Command
commands =
    PairingRequest
    ∷ PairingResponse
    ∷ PairingConfirm
    ∷ PairingRandom
    ∷ PairingFailed
    ∷ EncryptionInformation
    ∷ CentralIdentification
    ∷ IdentityInformation
    ∷ IdentityAddressInformation
    ∷ SigningInformation
    ∷ SecurityRequest
    ∷ PairingPublicKey
    ∷ PairingDhKeyCheck
    ∷ KeypressNotification
    ∷ []

-- the command of a code; a code that is not 0x01 to 0x0E is refused by 2
abbrev pub command_of : ℕ → Answer Command
command_of v = get_or (refused 2 ∷ map accepted commands) v (refused 2)

abbrev pub command_answer : Result Command InvalidValue → Answer Command
command_answer r = answer_of (λ e. 2) r

-- ---- the OOB data flag, 2.3.3 and 3.5.1

abbrev pub oob_code : UseOutOfBand → ℕ
oob_code NotPresent = 0x00
oob_code Present = 0x01

-- the flags in the order of their codes, from 0x00 on
abbrev pub oobs : List UseOutOfBand
oobs = NotPresent ∷ Present ∷ []

-- the flag of a code; a code above 0x01 is refused by 5
abbrev pub oob_of : ℕ → Answer UseOutOfBand
oob_of v = get_or (map accepted oobs) v (refused 5)

abbrev pub oob_answer : Result UseOutOfBand InvalidValue → Answer UseOutOfBand
oob_answer r = answer_of (λ e. 5) r

abbrev pub oob_present : UseOutOfBand → Bool
oob_present NotPresent = false
oob_present Present = true

-- ---- the bonding flag, the two low bits of AuthReq, 3.5.1

abbrev pub bonding_flag : Bool → BondingFlag
bonding_flag false = NoBonding
bonding_flag true = Bonding

abbrev pub bonding_code : BondingFlag → ℕ
bonding_code NoBonding = 0
bonding_code Bonding = 1

-- the reserved values 2 and 3 are no bonding
abbrev pub bonding_of : ℕ → BondingFlag
bonding_of x = cond (eqb (x % 4) 1) Bonding NoBonding

-- ---- flags: bit i of an octet

abbrev pub flag : ℕ → ℕ → Bool
flag i x = eqb (bit_and x (2 ^ i)) (2 ^ i)

abbrev pub with_flag : ℕ → ℕ → ℕ
with_flag i x = bit_or x (2 ^ i)

-- the flags of AuthReq, 3.5.1
abbrev pub mitm_flag : ℕ
mitm_flag = 2

abbrev pub secure_connection_flag : ℕ
secure_connection_flag = 3

abbrev pub key_press_flag : ℕ
key_press_flag = 4

abbrev pub ct2_flag : ℕ
ct2_flag = 5

-- the flags of key distribution, 3.6.1
abbrev pub encryption_key_flag : ℕ
encryption_key_flag = 0

abbrev pub identity_key_flag : ℕ
identity_key_flag = 1

abbrev pub signing_key_flag : ℕ
signing_key_flag = 2

abbrev pub link_key_flag : ℕ
link_key_flag = 3

-- ---- the six octets of a Pairing Request or Response, 3.5.1 and 3.5.2

abbrev pub feature_size : ℕ
feature_size = 6

abbrev pub least_key_size : ℕ
least_key_size = 7

abbrev pub largest_key_size : ℕ
largest_key_size = 16

-- a size outside of 7 to 16 is refused by 5
abbrev pub size_of : ℕ → Answer ℕ
size_of n = cond (leb least_key_size n && leb n largest_key_size) (accepted n) (refused 5)

unfoldable pub default_features : PairingFeatures
default_features =
    record {
      io_capabilities = NoInputNoOutput;
      use_oob = NotPresent;
      security_properties = record { 0 = with_flag secure_connection_flag (bonding_code NoBonding) };
      maximum_encryption_key_size = largest_key_size;
      initiator_key_distribution = record { 0 = 0 };
      responder_key_distribution = record { 0 = 0 };
    }

abbrev pub feature_octets : PairingFeatures → List ℕ
feature_octets f =
    io_code f.io_capabilities
    ∷ oob_code f.use_oob
    ∷ f.security_properties.0
    ∷ f.maximum_encryption_key_size
    ∷ f.initiator_key_distribution.0
    ∷ f.responder_key_distribution.0
    ∷ []

-- the record with these capabilities, OOB flag and key size, the other octets as they stand in s
abbrev pub features_with : List ℕ → IoCapabilities → UseOutOfBand → ℕ → PairingFeatures
features_with s io oob size =
    record {
      io_capabilities = io;
      use_oob = oob;
      security_properties = record { 0 = get_or s 2 0 };
      maximum_encryption_key_size = size;
      initiator_key_distribution = record { 0 = get_or s 4 0 };
      responder_key_distribution = record { 0 = get_or s 5 0 };
    }

-- fewer than six octets are refused by 4; then the I/O capabilities, the OOB flag and the key size are read
unfoldable pub features_of : List ℕ → Answer PairingFeatures
features_of s =
    cond (ltb (length s) feature_size) (refused 4)
    (and_then (io_of (get_or s 0 0)) (λ io.
    and_then (oob_of (get_or s 1 0)) (λ oob.
    and_then (size_of (get_or s 3 0)) (λ size.
    accepted (features_with s io oob size)))))

-- the same of six octets, with a key size of any value
abbrev pub any_size_features_of : List ℕ → Answer PairingFeatures
any_size_features_of s =
    and_then (io_of (get_or s 0 0)) (λ io.
    and_then (oob_of (get_or s 1 0)) (λ oob.
    accepted (features_with s io oob (get_or s 3 0))))

abbrev pub any_size_answer : Result PairingFeatures InvalidValue → Answer PairingFeatures
any_size_answer r = answer_of (λ e. 5) r

-- the number by which an error of reading refuses
abbrev pub codec_refusal : Error → ℕ
codec_refusal codec.InsufficientSpace = 4
codec_refusal codec.InvalidValue = 5

abbrev pub decoded_answer : Result PairingFeatures Error → Answer PairingFeatures
decoded_answer r = answer_of codec_refusal r
