-- Believed: the archive's contracts and demand 3 rest on it.
-- The data of a pairing, from pairing/mod.rs, and the part of both roles' states that a machine keeps beside its phase,
-- from the states of legacy_peripheral.rs and legacy_central.rs. Assumes nothing.
use Rattle.std.specs.Prelude.{ℕ, Bool, true, false, cond, ◌&&◌, ◌∷◌, replicate, Option, Some, None, Result, Ok, Err}
use Rattle.smp_types.specs.Types.{command_code, default_features, feature_octets, bonding_of}
use Rattle.smp_types.specs.declared.types.Command.TheVariants.{PairingRequest}
use Rattle.smp_types.specs.declared.types.BondingFlag.{BondingFlag}
use Rattle.smp_types.specs.declared.types.BondingFlag.TheVariants.{NoBonding, Bonding}
use Rattle.smp_types.specs.declared.types.PairingFeatures.{PairingFeatures}
use Rattle.smp_types.specs.declared.capabilities.IoCapabilities.{IoCapabilities}
use Rattle.util.specs.declared.util.PairingMethod.TheVariants.{JustWorks}
use Rattle.bond.specs.declared.Address.{Address}
use Rattle.bond.specs.declared.BondInformation.{BondInformation}
use Rattle.bond.specs.declared.Error as error
use Rattle.machine.specs.declared.Role.{Role}
use Rattle.machine.specs.declared.Role.TheVariants.{Central, Peripheral}
use Rattle.machine.specs.declared.PairingData.{PairingData}
use Rattle.machine.specs.declared.ConfirmPhaseData.{ConfirmPhaseData}
use Rattle.machine.specs.declared.Phase.{Phase}
use Rattle.machine.specs.declared.Phase.TheVariants.{WaitingPairingRequest, WaitingPairingResponse, WaitingPassKeyInput, WaitingOobData, WaitingPairingConfirm, WaitingPairingRandom, WaitingLinkEncrypted, WaitingIdentitityInformation, WaitingIdentitityAddressInformation, ReceivingKeys, Success, Error}
use Rattle.machine.specs.declared.Machine.{Machine}

-- ---- PairingData

-- the default features with these I/O capabilities
abbrev pub with_io : IoCapabilities → PairingFeatures → PairingFeatures
with_io io f =
    record {
      io_capabilities = io;
      use_oob = f.use_oob;
      security_properties = f.security_properties;
      maximum_encryption_key_size = f.maximum_encryption_key_size;
      initiator_key_distribution = f.initiator_key_distribution;
      responder_key_distribution = f.responder_key_distribution;
    }

unfoldable pub new_data : Address → Address → IoCapabilities → PairingData
new_data local peer io =
    record {
      local_address = local;
      peer_address = peer;
      local_features = with_io io default_features;
      peer_features = default_features;
      pairing_method = JustWorks;
      bond_information = None;
    }

abbrev pub is_bonding : BondingFlag → Bool
is_bonding Bonding = true
is_bonding NoBonding = false

-- the wish to bond in a record of features
abbrev pub wishes : PairingFeatures → Bool
wishes f = is_bonding (bonding_of f.security_properties.0)

-- both wish to bond
unfoldable pub want_bonding : PairingData → Bool
want_bonding d = wishes d.local_features && wishes d.peer_features

-- ---- the states of legacy_peripheral.rs and legacy_central.rs

abbrev pub no_confirm_data : ConfirmPhaseData
no_confirm_data = record { tk = 0; preq = replicate 7 0; pres = replicate 7 0; local_nonce = record { 0 = 0 } }

abbrev pub only_preq : ConfirmPhaseData → ConfirmPhaseData
only_preq d = record { tk = 0; preq = d.preq; pres = replicate 7 0; local_nonce = record { 0 = 0 } }

abbrev pub preq_and_pres : ConfirmPhaseData → ConfirmPhaseData
preq_and_pres d = record { tk = 0; preq = d.preq; pres = d.pres; local_nonce = record { 0 = 0 } }

-- what the Rust's state of a phase holds of the confirm data; the rest is zero
abbrev pub kept_by : Phase → ConfirmPhaseData → ConfirmPhaseData
kept_by WaitingPairingRequest d = no_confirm_data
kept_by WaitingPairingResponse d = only_preq d
kept_by (WaitingPassKeyInput b) d = preq_and_pres d
kept_by WaitingOobData d = preq_and_pres d
kept_by WaitingPairingConfirm d = d
kept_by (WaitingPairingRandom p) d = d
kept_by WaitingLinkEncrypted d = no_confirm_data
kept_by WaitingIdentitityInformation d = no_confirm_data
kept_by WaitingIdentitityAddressInformation d = no_confirm_data
kept_by (ReceivingKeys n k) d = no_confirm_data
kept_by Success d = no_confirm_data
kept_by (Error e) d = no_confirm_data

-- each role has a first state of its own
abbrev pub first_phase : Role → Phase
first_phase Central = WaitingPairingResponse
first_phase Peripheral = WaitingPairingRequest

abbrev pub result_of : Phase → Option (Result (Unit {0}) error.Error)
result_of WaitingPairingRequest = None
result_of WaitingPairingResponse = None
result_of (WaitingPassKeyInput b) = None
result_of WaitingOobData = None
result_of WaitingPairingConfirm = None
result_of (WaitingPairingRandom p) = None
result_of WaitingLinkEncrypted = None
result_of WaitingIdentitityInformation = None
result_of WaitingIdentitityAddressInformation = None
result_of (ReceivingKeys n k) = None
result_of Success = Some (Ok tt)
result_of (Error e) = Some (Err e)

abbrev pub is_encrypted : Phase → Bool
is_encrypted WaitingPairingRequest = false
is_encrypted WaitingPairingResponse = false
is_encrypted (WaitingPassKeyInput b) = false
is_encrypted WaitingOobData = false
is_encrypted WaitingPairingConfirm = false
is_encrypted (WaitingPairingRandom p) = false
is_encrypted WaitingLinkEncrypted = false
is_encrypted WaitingIdentitityInformation = true
is_encrypted WaitingIdentitityAddressInformation = true
is_encrypted (ReceivingKeys n k) = true
is_encrypted Success = true
is_encrypted (Error e) = false

-- ---- machines

-- legacy_peripheral's `new`
unfoldable pub new_machine : PairingData → Machine
new_machine d = record { phase = WaitingPairingRequest; confirm_data = no_confirm_data; pairing_data = d }

-- preq is the request with its code
abbrev pub request_data : PairingFeatures → ConfirmPhaseData
request_data f = record { tk = 0; preq = command_code PairingRequest ∷ feature_octets f; pres = replicate 7 0; local_nonce = record { 0 = 0 } }

-- legacy_central's `from_lesc_switch`, of the request that had the local features
unfoldable pub lesc_switch : PairingData → Machine
lesc_switch d = record { phase = WaitingPairingResponse; confirm_data = request_data d.local_features; pairing_data = d }

abbrev pub bond_level : Option BondInformation → ℕ
bond_level (Some b) = b.security_level
bond_level None = 0

-- the bond's level where the link is encrypted, else 0
unfoldable pub security_level_of : Machine → ℕ
security_level_of m = cond (is_encrypted m.phase) (bond_level m.pairing_data.bond_information) 0
