-- The answer to a request, flag by flag, as `handle_pairing_request` of the Rust makes it: what the head's record has,
-- what the request adds to it, and what the head's host says. Assumes nothing.
use Rattle.std.specs.Prelude.{Some, eqb}
use Prim.Native.Nat.{ℕ}
use mathlib.Core.Path.{◌≡◌, refl, ap, ◌∙◌}
use mathlib.Core.Bool.{Bool, true, false, ◌||◌}
use mathlib.Core.List.{List}
use native.Mathlib.Omega.{arith}
use Rattle.crypto.specs.declared.crypto.IdentityResolvingKey.{IdentityResolvingKey}
use Rattle.smp_types.specs.Types.{feature_octets, oob_present, bonding_of, flag, mitm_flag, encryption_key_flag, identity_key_flag}
use Rattle.smp_types.specs.declared.capabilities.IoCapabilities.{IoCapabilities}
use Rattle.smp_types.specs.declared.capabilities.IoCapabilities.TheVariants as io
use Rattle.smp_types.specs.declared.types.Command.TheVariants as command
use Rattle.smp_types.specs.declared.types.KeyDistributionFlags.{KeyDistributionFlags}
use Rattle.smp_types.specs.declared.types.PairingFeatures.{PairingFeatures}
use Rattle.util.specs.Method.{has_oob, wants_mitm, legacy_method}
use Rattle.host_calls.specs.declared.call.Call.TheVariants as call
use Rattle.host_calls.specs.declared.call.Packet.TheVariants as packet
use Rattle.host_calls.specs.declared.call.Question.TheVariants as question
use Rattle.machine.specs.declared.Machine.{Machine}
use Rattle.machine.specs.declared.PairingData.{PairingData}
use Rattle.machine.specs.Machine.{is_bonding, wishes}
use Rattle.protocol.specs.Program.{ask}
use Rattle.protocol.specs.Ops.{Delivery}
use Rattle.protocol.specs.Handlers.{Handler, ◌>>=◌, ◌>>◌, give, on_delivery, asked, features_in, command_octets, names_encryption_key, names_identity_key, with_features}
use Rattle.protocol.specs.LegacyPeripheral.{add_key, initiator_keys, responder_keys, identity_offered, with_oob, with_mitm, new_legacy, bond_lost, response_features, begin_method, handle_pairing_request}
use Rattle.protocol.proofs.Payloads.{key_added, key_kept}

-- any input or output
abbrev pub has_input_output : IoCapabilities → Bool
has_input_output io.DisplayOnly = true
has_input_output io.DisplayYesNo = true
has_input_output io.KeyboardOnly = true
has_input_output io.NoInputNoOutput = false
has_input_output io.KeyboardDisplay = true

-- an AuthReq octet with these flags and no other: 0x01 bonding, 0x04 protection against a man in the middle
abbrev pub auth_octet : (bonding mitm : Bool) → ℕ
auth_octet false false = 0x00
auth_octet true false = 0x01
auth_octet false true = 0x04
auth_octet true true = 0x05

-- flags name what others name and what is added, of the two keys; every other flag is as it was
pub record NamesKeys (flags others : KeyDistributionFlags) (encryption identity : Bool) : Type 0 where
  pub encryption_key : names_encryption_key flags ≡ (names_encryption_key others || encryption)
  pub identity_key : names_identity_key flags ≡ (names_identity_key others || identity)
  pub other_flags :
      (i : ℕ) → (i ≡ encryption_key_flag → ⊥) → (i ≡ identity_key_flag → ⊥) → flag i flags.0 ≡ flag i others.0

names_keys :
    (others : KeyDistributionFlags) (encryption identity : Bool) →
    NamesKeys (add_key encryption_key_flag (add_key identity_key_flag others identity) encryption) others encryption identity
names_keys others encryption identity =
    let first = add_key identity_key_flag others identity in
    record {
      encryption_key =
          key_added encryption_key_flag first encryption
          ∙ ap (λ b. b || encryption) (key_kept identity_key_flag encryption_key_flag others identity (λ e. omega arith));
      identity_key =
          key_kept encryption_key_flag identity_key_flag first encryption (λ e. omega arith)
          ∙ key_added identity_key_flag others identity;
      other_flags = λ i h k. key_kept encryption_key_flag i first encryption h ∙ key_kept identity_key_flag i others identity k;
    }

module _ (local peer : PairingFeatures) (offered bonding available : Bool) where
  abbrev answer : PairingFeatures
  answer = response_features local peer offered bonding available

  -- AuthReq: bonding as the host says, MITM where the head has any input or output
  pub answer_auth :
      answer.security_properties.0 ≡ auth_octet bonding (has_input_output local.io_capabilities)
  unfolding response_features
  answer_auth = go bonding local.io_capabilities
    where
      go : (b : Bool) (x : IoCapabilities) → (with_mitm (new_legacy b) x).0 ≡ auth_octet b (has_input_output x)
      go true io.DisplayOnly = refl
      go true io.DisplayYesNo = refl
      go true io.KeyboardOnly = refl
      go true io.NoInputNoOutput = refl
      go true io.KeyboardDisplay = refl
      go false io.DisplayOnly = refl
      go false io.DisplayYesNo = refl
      go false io.KeyboardOnly = refl
      go false io.NoInputNoOutput = refl
      go false io.KeyboardDisplay = refl

  -- .. which are read back
  pub answer_bonds : wishes answer ≡ bonding
  answer_bonds =
      ap (λ x. is_bonding (bonding_of x)) answer_auth ∙ go bonding (has_input_output local.io_capabilities)
    where
      go : (b mitm : Bool) → is_bonding (bonding_of (auth_octet b mitm)) ≡ b
      go true true = refl
      go true false = refl
      go false true = refl
      go false false = refl

  pub answer_mitm : wants_mitm answer ≡ has_input_output local.io_capabilities
  answer_mitm = ap (flag mitm_flag) answer_auth ∙ go bonding (has_input_output local.io_capabilities)
    where
      go : (b mitm : Bool) → flag mitm_flag (auth_octet b mitm) ≡ mitm
      go true true = refl
      go true false = refl
      go false true = refl
      go false false = refl

  -- OOB data where the host has it, or the head's record says so
  pub answer_oob : has_oob answer ≡ (available || has_oob local)
  unfolding response_features
  answer_oob = go available
    where
      go : (b : Bool) → oob_present (with_oob local.use_oob b) ≡ (b || has_oob local)
      go true = refl
      go false = refl

  -- I/O capabilities and key size are the head's
  pub answer_io : answer.io_capabilities ≡ local.io_capabilities
  unfolding response_features
  answer_io = refl

  pub answer_size_lem : answer.maximum_encryption_key_size ≡ local.maximum_encryption_key_size
  unfolding response_features
  answer_size_lem = refl

  -- keys of the initiator: those of the head's record, and those that the request names
  pub answer_initiator :
      NamesKeys answer.initiator_key_distribution local.initiator_key_distribution
      (names_encryption_key peer.initiator_key_distribution)
      (names_identity_key peer.initiator_key_distribution)
  unfolding response_features initiator_keys
  answer_initiator = names_keys local.initiator_key_distribution _ _

  -- keys of the responder: the identity key only where it is offered
  pub answer_responder :
      NamesKeys answer.responder_key_distribution local.responder_key_distribution
      (names_encryption_key peer.responder_key_distribution) offered
  unfolding response_features responder_keys
  answer_responder = names_keys local.responder_key_distribution _ _

-- the identity key is offered where the request names it and the host has an IRK, which it is asked for
pub record OffersIdentity : Type 0 where
  pub not_named : identity_offered false ≡ give false
  pub then : IdentityResolvingKey → Handler Bool
  pub named : identity_offered true ≡ ask (call.Ask question.LocalIrk) then
  pub without_irk : then (record { 0 = 0 }) ≡ give false
  pub with_irk : (irk : IdentityResolvingKey) → eqb irk.0 0 ≡ false → then irk ≡ give true

pub offers_identity : OffersIdentity
offers_identity =
    record { not_named = refl; then = _; named = refl; without_irk = refl; with_irk = λ irk e. rw e refl }

-- ---- packet 0x02 has that record, by what the host said

-- behind 0x30 and any BondLost: 0x31 where the request names the identity key, then 0x33, 0x34 and the response
pub answer_sent :
    (d : PairingData) (payload : List ℕ) (peer : PairingFeatures) → features_in payload ≡ Some peer →
    (then : (offered bonding available : Bool) → Delivery → Handler Machine)
    × (handle_pairing_request d payload
    ≡ ◌>>=◌ (asked question.FindBond) (λ found. ◌>>◌ (bond_lost found)
    (◌>>=◌ (identity_offered (names_identity_key peer.responder_key_distribution)) (λ offered.
    ask (call.Ask question.BondingFlag) (λ bonding. ask (call.Ask question.OobAvailable) (λ available.
    ask (call.SendPacket (packet.PairingResponse
    (response_features d.local_features peer offered bonding available)))
    (then offered bonding available)))))))
unfolding handle_pairing_request
answer_sent d payload peer h = (begins, rw h refl)
  where
    -- the method begins
    begins : (offered bonding available : Bool) → Delivery → Handler Machine
    begins offered bonding available reply =
        let local = response_features d.local_features peer offered bonding available in
        let d₁ = with_features local peer (legacy_method peer local) d in
        ◌>>◌ (on_delivery d₁ reply)
        (begin_method (command_octets command.PairingRequest payload)
        (command_octets command.PairingResponse (feature_octets local)) d₁ (legacy_method peer local))
