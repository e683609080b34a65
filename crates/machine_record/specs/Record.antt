-- Believed: the archive's contracts rest on it.
-- The machine record: a machine of either role as 161 octets, and the machine that is read of them. Assumes nothing.
use Rattle.std.specs.Prelude.{ℕ, cond, List, [], ◌∷◌, ◌++◌, map, eqb, length, get_or, take, drop, bytes_eq, Option, Some, None, is_some}
use Rattle.octets.specs.Answer.{Answer, refused, accepted, and_then}
use Rattle.octets.specs.Octets.{octets_of, word_of}
use Rattle.smp_types.specs.Capabilities.{io_of}
use Rattle.smp_types.specs.Types.{reasons, oob_of, feature_octets, features_with}
use Rattle.smp_types.specs.declared.types.Reason.{Reason}
use Rattle.smp_types.specs.declared.types.Reason.TheVariants as reason
use Rattle.smp_types.specs.declared.types.PairingFeatures.{PairingFeatures}
use Rattle.util.specs.Method.{CENTRAL_DISPLAYS, PERIPHERAL_DISPLAYS, BOTH_INPUT}
use Rattle.util.specs.declared.util.PassKeyEntryAction.TheVariants.{Display, Input}
use Rattle.util.specs.declared.util.PairingMethod.{PairingMethod}
use Rattle.util.specs.declared.util.PairingMethod.TheVariants.{JustWorks, NumericComparison, PassKeyEntry, OutOfBand}
use Rattle.crypto.specs.declared.crypto.Confirm.{Confirm}
use Rattle.bond.specs.Bond.{address_octets, address_of, failed_body, flag_code, bond_of, option_bond_octets}
use Rattle.bond.specs.declared.Error.TheVariants.{Security, InvalidState, InvalidValue, OutOfMemory, Host}
use Rattle.bond.specs.declared.BondInformation.{BondInformation}
use Rattle.machine.specs.Machine.{kept_by, first_phase}
use Rattle.machine.specs.declared.Role.{Role}
use Rattle.machine.specs.declared.PairingData.{PairingData}
use Rattle.machine.specs.declared.ConfirmPhaseData.{ConfirmPhaseData}
use Rattle.machine.specs.declared.Phase.{Phase}
use Rattle.machine.specs.declared.Phase.TheVariants as phase
use Rattle.machine.specs.declared.Machine.{Machine}
use Rattle.machine_record.specs.declared.RecordError.{RecordError}
use Rattle.machine_record.specs.declared.RecordError.TheVariants as error

abbrev pub record_size : ℕ
record_size = 161

-- ---- octets 0 to 3, the phase

abbrev pub phase_code : Phase → ℕ
phase_code phase.WaitingPairingRequest = 0
phase_code phase.WaitingPairingResponse = 0
phase_code (phase.WaitingPassKeyInput b) = 1
phase_code phase.WaitingOobData = 2
phase_code phase.WaitingPairingConfirm = 3
phase_code (phase.WaitingPairingRandom c) = 4
phase_code phase.WaitingLinkEncrypted = 5
phase_code phase.WaitingIdentitityInformation = 6
phase_code phase.WaitingIdentitityAddressInformation = 7
phase_code (phase.ReceivingKeys n k) = 8
phase_code phase.Success = 9
phase_code (phase.Error e) = 10

-- the phase of ReceivingKeys or the failed body of an error, then 1 where a confirm value is stored
abbrev pub phase_detail : Phase → List ℕ
phase_detail phase.WaitingPairingRequest = 0 ∷ 0 ∷ 0 ∷ []
phase_detail phase.WaitingPairingResponse = 0 ∷ 0 ∷ 0 ∷ []
phase_detail (phase.WaitingPassKeyInput b) = 0 ∷ 0 ∷ flag_code (is_some b) ∷ []
phase_detail phase.WaitingOobData = 0 ∷ 0 ∷ 0 ∷ []
phase_detail phase.WaitingPairingConfirm = 0 ∷ 0 ∷ 0 ∷ []
phase_detail (phase.WaitingPairingRandom c) = 0 ∷ 0 ∷ 0 ∷ []
phase_detail phase.WaitingLinkEncrypted = 0 ∷ 0 ∷ 0 ∷ []
phase_detail phase.WaitingIdentitityInformation = 0 ∷ 0 ∷ 0 ∷ []
phase_detail phase.WaitingIdentitityAddressInformation = 0 ∷ 0 ∷ 0 ∷ []
phase_detail (phase.ReceivingKeys n k) = n ∷ 0 ∷ 0 ∷ []
phase_detail phase.Success = 0 ∷ 0 ∷ 0 ∷ []
phase_detail (phase.Error e) = failed_body e ++ (0 ∷ [])

unfoldable pub phase_octets : Phase → List ℕ
phase_octets p = phase_code p ∷ phase_detail p

-- ---- octets 50 to 81, what the phase itself holds

abbrev pub stored_confirm : Option Confirm → ℕ
stored_confirm (Some c) = c.0
stored_confirm None = 0

-- the peer's confirm value, or the one stored while a passkey was typed
unfoldable pub confirm_in : Phase → ℕ
confirm_in phase.WaitingPairingRequest = 0
confirm_in phase.WaitingPairingResponse = 0
confirm_in (phase.WaitingPassKeyInput b) = stored_confirm b
confirm_in phase.WaitingOobData = 0
confirm_in phase.WaitingPairingConfirm = 0
confirm_in (phase.WaitingPairingRandom c) = c.0
confirm_in phase.WaitingLinkEncrypted = 0
confirm_in phase.WaitingIdentitityInformation = 0
confirm_in phase.WaitingIdentitityAddressInformation = 0
confirm_in (phase.ReceivingKeys n k) = 0
confirm_in phase.Success = 0
confirm_in (phase.Error e) = 0

-- the key that was received
unfoldable pub received_in : Phase → ℕ
received_in phase.WaitingPairingRequest = 0
received_in phase.WaitingPairingResponse = 0
received_in (phase.WaitingPassKeyInput b) = 0
received_in phase.WaitingOobData = 0
received_in phase.WaitingPairingConfirm = 0
received_in (phase.WaitingPairingRandom c) = 0
received_in phase.WaitingLinkEncrypted = 0
received_in phase.WaitingIdentitityInformation = 0
received_in phase.WaitingIdentitityAddressInformation = 0
received_in (phase.ReceivingKeys n k) = k.0
received_in phase.Success = 0
received_in (phase.Error e) = 0

-- ---- octet 108, the method

-- the methods in the order of their numbers, from 0 on
abbrev pub methods : List PairingMethod
methods =
    JustWorks
    ∷ NumericComparison
    ∷ CENTRAL_DISPLAYS
    ∷ PERIPHERAL_DISPLAYS
    ∷ BOTH_INPUT
    ∷ OutOfBand
    ∷ PassKeyEntry Display Display
    ∷ []

abbrev pub method_code : PairingMethod → ℕ
method_code JustWorks = 0
method_code NumericComparison = 1
method_code (PassKeyEntry Display Input) = 2
method_code (PassKeyEntry Input Display) = 3
method_code (PassKeyEntry Input Input) = 4
method_code OutOfBand = 5
method_code (PassKeyEntry Display Display) = 6

-- ---- the record of a machine: its parts from places 0, 4, 11, 18, 34, 50, 66, 82, 89, 96, 102, 108 and 109 on

unfoldable pub machine_octets : Machine → List ℕ
machine_octets m =
    phase_octets m.phase
    ++ (m.confirm_data.preq
    ++ (m.confirm_data.pres
    ++ (octets_of m.confirm_data.tk
    ++ (octets_of m.confirm_data.local_nonce.0
    ++ (octets_of (confirm_in m.phase)
    ++ (octets_of (received_in m.phase)
    ++ (address_octets m.pairing_data.local_address
    ++ (address_octets m.pairing_data.peer_address
    ++ (feature_octets m.pairing_data.local_features
    ++ (feature_octets m.pairing_data.peer_features
    ++ (method_code m.pairing_data.pairing_method
    ∷ option_bond_octets m.pairing_data.bond_information)))))))))))

-- ---- what is read of it: n octets from place at on

abbrev pub octets_at : ℕ → ℕ → List ℕ → List ℕ
octets_at n at l = take n (drop at l)

abbrev pub word_at : ℕ → List ℕ → ℕ
word_at at l = word_of (octets_at 16 at l)

-- the reason of a detail octet: all of them, from 0 on
abbrev pub reason_at : ℕ → Answer Reason
reason_at v = get_or (map accepted (reason.Success ∷ reasons)) v (refused 21)

-- the errors with a detail, in the order of their kinds, from 1 on
abbrev pub errors_with : ℕ → List (Answer Phase)
errors_with detail =
    and_then (reason_at detail) (λ r. accepted (phase.Error (Security r)))
    ∷ accepted (phase.Error InvalidState)
    ∷ accepted (phase.Error InvalidValue)
    ∷ accepted (phase.Error OutOfMemory)
    ∷ accepted (phase.Error (Host detail))
    ∷ []

unfoldable pub error_of : ℕ → ℕ → Answer Phase
error_of kind detail = get_or (refused 21 ∷ errors_with detail) kind (refused 21)

-- without and with the stored confirm value
abbrev pub pass_keys_with : ℕ → List (Answer Phase)
pass_keys_with confirm =
    accepted (phase.WaitingPassKeyInput None)
    ∷ accepted (phase.WaitingPassKeyInput (Some (record { 0 = confirm })))
    ∷ []

unfoldable pub pass_key_of : ℕ → ℕ → Answer Phase
pass_key_of present confirm = get_or (pass_keys_with confirm) present (refused 21)

-- the phases in the order of their numbers, with octets 1 to 3, the confirm value and the key that stand in the record
abbrev pub phases_with : Role → List ℕ → ℕ → ℕ → List (Answer Phase)
phases_with r o confirm received =
    accepted (first_phase r)
    ∷ pass_key_of (get_or o 3 0) confirm
    ∷ accepted phase.WaitingOobData
    ∷ accepted phase.WaitingPairingConfirm
    ∷ accepted (phase.WaitingPairingRandom (record { 0 = confirm }))
    ∷ accepted phase.WaitingLinkEncrypted
    ∷ accepted phase.WaitingIdentitityInformation
    ∷ accepted phase.WaitingIdentitityAddressInformation
    ∷ accepted (phase.ReceivingKeys (get_or o 1 0) (record { 0 = received }))
    ∷ accepted phase.Success
    ∷ error_of (get_or o 1 0) (get_or o 2 0)
    ∷ []

unfoldable pub phase_of : Role → List ℕ → ℕ → ℕ → Answer Phase
phase_of r o confirm received = get_or (phases_with r o confirm received) (get_or o 0 0) (refused 21)

unfoldable pub phase_at : Role → List ℕ → Answer Phase
phase_at r l = phase_of r (octets_at 4 0 l) (word_at 50 l) (word_at 66 l)

-- a refusal by another number
abbrev pub refused_by : {A : Type 0} → ℕ → Answer A → Answer A
refused_by n (refused k) = refused n
refused_by n (accepted a) = accepted a

-- six octets of features, of any key size
unfoldable pub features_at : List ℕ → Answer PairingFeatures
features_at s =
    refused_by 22
    (and_then (io_of (get_or s 0 0)) (λ io.
    and_then (oob_of (get_or s 1 0)) (λ oob.
    accepted (features_with s io oob (get_or s 3 0)))))

abbrev pub method_of : ℕ → Answer PairingMethod
method_of v = get_or (map accepted methods) v (refused 23)

abbrev pub bond_answer : Option BondInformation → Answer (Option BondInformation)
bond_answer None = refused 24
bond_answer (Some b) = accepted (Some b)

-- a bond is read only where it is present
abbrev pub bonds_of : List ℕ → List (Answer (Option BondInformation))
bonds_of s = accepted None ∷ bond_answer (bond_of s) ∷ []

abbrev pub option_bond_of : ℕ → List ℕ → Answer (Option BondInformation)
option_bond_of present s = get_or (bonds_of s) present (refused 24)

unfoldable pub pairing_data_of : List ℕ → Answer PairingData
pairing_data_of l =
    and_then (features_at (octets_at 6 96 l)) (λ local.
    and_then (features_at (octets_at 6 102 l)) (λ peer.
    and_then (method_of (get_or l 108 0)) (λ method.
    and_then (option_bond_of (get_or l 109 0) (octets_at 51 110 l)) (λ bond.
    accepted (record {
      local_address = address_of (octets_at 7 82 l);
      peer_address = address_of (octets_at 7 89 l);
      local_features = local;
      peer_features = peer;
      pairing_method = method;
      bond_information = bond;
    })))))

unfoldable pub confirm_data_of : List ℕ → ConfirmPhaseData
confirm_data_of l =
    record {
      tk = word_at 18 l;
      preq = octets_at 7 4 l;
      pres = octets_at 7 11 l;
      local_nonce = record { 0 = word_at 34 l };
    }

-- only the record of the machine that was read: so what its phase does not hold is zero
unfoldable pub canonical : List ℕ → Machine → Answer Machine
canonical l m = cond (bytes_eq (machine_octets m) l) (accepted m) (refused 25)

-- refused by 20: the length; 21: the phase; 22: features; 23: the method; 24: the bond; 25: not the record of what was read
unfoldable pub machine_of : Role → List ℕ → Answer Machine
machine_of r l =
    cond (eqb (length l) record_size)
    (and_then (phase_at r l) (λ p.
    and_then (pairing_data_of l) (λ d.
    canonical l (record { phase = p; confirm_data = kept_by p (confirm_data_of l); pairing_data = d }))))
    (refused 20)

-- the number by which an error of reading refuses
abbrev pub record_refusal : RecordError → ℕ
record_refusal error.Length = 20
record_refusal error.Phase = 21
record_refusal error.Features = 22
record_refusal error.Method = 23
record_refusal error.Bond = 24
record_refusal error.NotCanonical = 25
