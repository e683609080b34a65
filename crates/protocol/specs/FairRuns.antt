-- Believed: demand 3 is stated in it.
-- Demand 3, the rest of document 01's section "The fair link of demand 3": what every run from a fair start comes to.
-- First the words of the claim, in the section's order, then the claim, which is one of whole lists of moves. Assumes
-- nothing.
use Rattle.std.specs.Prelude.{ℕ, ◌+◌, ◌*◌, ◌≤◌, ◌≡◌, Bool, true, false, cond, not, ◌&&◌, List, [], ◌∷◌, length, replicate, Some, None}
use Rattle.octets.specs.Octets.{word_of}
use Rattle.crypto.specs.Crypto.{masked_of}
use Rattle.crypto.specs.declared.crypto.LongTermKey.{LongTermKey}
use Rattle.smp_types.specs.Types.{command_code}
use Rattle.smp_types.specs.declared.types.Command.TheVariants as command
use Rattle.smp_types.specs.declared.types.PairingFeatures.{PairingFeatures}
use Rattle.util.specs.Method.{legacy_method}
use Rattle.util.specs.declared.util.PairingMethod.{PairingMethod}
use Rattle.util.specs.declared.util.PairingMethod.TheVariants as method
use Rattle.util.specs.declared.util.PassKeyEntryAction.{PassKeyEntryAction}
use Rattle.util.specs.declared.util.PassKeyEntryAction.TheVariants as action
use Rattle.bond.specs.declared.BondInformation.{BondInformation}
use Rattle.host_calls.specs.Calls.{longest}
use Rattle.host_calls.specs.declared.call.Call.{Call}
use Rattle.host_calls.specs.declared.call.Call.TheVariants as call
use Rattle.host_calls.specs.declared.call.ConnectionEvent.{ConnectionEvent}
use Rattle.host_calls.specs.declared.call.ConnectionEvent.TheVariants as notice
use Rattle.host_calls.specs.declared.call.Packet.{Packet}
use Rattle.host_calls.specs.declared.call.Packet.TheVariants as packet
use Rattle.machine.specs.Machine.{wishes, result_of}
use Rattle.machine.specs.declared.Input.TheVariants as input
use Rattle.machine.specs.declared.Machine.{Machine}
use Rattle.machine.specs.declared.Phase.TheVariants as phase
use Rattle.machine.specs.declared.Role.{Role}
use Rattle.machine.specs.declared.Role.TheVariants.{Central, Peripheral}
use Rattle.protocol.specs.Outcome.{StepOutcome}
use Rattle.protocol.specs.Outcome as outcome
use Rattle.protocol.specs.Handlers.{names_encryption_key, names_identity_key, smaller}
use Rattle.protocol.specs.Step.{Step, step}
use Rattle.protocol.specs.FairLink.{Start, FairStart, Shared, Link, end_of, fresh_link, of_all, MoveKind, Move, outcome_of, Moves, Run, Idle}

-- ---- entries: 1 where the method has one end type, 2 where it has both type or is OOB, else 0

abbrev pub types_as : PassKeyEntryAction → ℕ
types_as action.Display = 0
types_as action.Input = 1

abbrev pub entries : PairingMethod → ℕ
entries method.JustWorks = 0
entries method.NumericComparison = 0
entries (method.PassKeyEntry central peripheral) = types_as central + types_as peripheral
entries method.OutOfBand = 2

-- ---- keys: if both bond, the encryption and identity keys of either side named in the answer, else 0

-- request and answer both carry the bonding flag as the Rust reads it
abbrev pub both_bond : PairingFeatures → PairingFeatures → Bool
both_bond request answer = wishes request && wishes answer

abbrev pub count_named : Bool → ℕ
count_named true = 1
count_named false = 0

abbrev pub keys_named : PairingFeatures → ℕ
keys_named answer =
    count_named (names_encryption_key answer.initiator_key_distribution)
    + count_named (names_identity_key answer.initiator_key_distribution)
    + count_named (names_encryption_key answer.responder_key_distribution)
    + count_named (names_identity_key answer.responder_key_distribution)

abbrev pub keys : PairingFeatures → PairingFeatures → ℕ
keys request answer = cond (both_bond request answer) (keys_named answer) 0

-- ---- what an end's calls say

-- what f reads of the packet that a call sends
abbrev pub of_packet : {X : Type 0} → (Packet → List X) → Call → List X
of_packet f (call.SendPacket p) = f p
of_packet f (call.SendConnectionEvent e) = []
of_packet f (call.Ask q) = []
of_packet f (call.Draw d) = []
of_packet f (call.EnableEncryption k l n) = []
of_packet f call.EnableBondedEncryption = []
of_packet f (call.UpdateBondInformation b) = []

-- the answer is the response sent, packet 0x02
abbrev pub response_of : Packet → List PairingFeatures
response_of (packet.PairingResponse f) = f ∷ []
response_of (packet.PairingConfirm c) = []
response_of (packet.PairingRandom n) = []
response_of (packet.EncryptionInformation k) = []
response_of (packet.CentralIdentification e r) = []
response_of (packet.IdentityInformation k) = []
response_of (packet.IdentityAddressInformation a) = []

abbrev pub response_in : Call → List PairingFeatures
response_in c = of_packet response_of c

abbrev pub responses_in : List Call → List PairingFeatures
responses_in cs = of_all response_in cs

-- ---- calling for encryption is call 0x3A, key and level being those of its body

pub record Encryption : Type 0 where
  pub key : LongTermKey
  pub level : ℕ

abbrev pub encryption_in : Call → List Encryption
encryption_in (call.SendPacket p) = []
encryption_in (call.SendConnectionEvent e) = []
encryption_in (call.Ask q) = []
encryption_in (call.Draw d) = []
encryption_in (call.EnableEncryption k l n) = record { key = k; level = l } ∷ []
encryption_in call.EnableBondedEncryption = []
encryption_in (call.UpdateBondInformation b) = []

abbrev pub encryptions_in : List Call → List Encryption
encryptions_in cs = of_all encryption_in cs

-- ---- passkeys shown

-- a passkey shown, event 0x22
abbrev pub display_of : ConnectionEvent → List ℕ
display_of (notice.PairingFailed e) = []
display_of (notice.PairingComplete l b) = []
display_of (notice.PassKeyDisplay k) = k.0 ∷ []
display_of notice.PassKeyInput = []
display_of notice.BondLost = []
display_of notice.OobRequest = []

abbrev pub display_in : Call → List ℕ
display_in (call.SendPacket p) = []
display_in (call.SendConnectionEvent e) = display_of e
display_in (call.Ask q) = []
display_in (call.Draw d) = []
display_in (call.EnableEncryption k l n) = []
display_in call.EnableBondedEncryption = []
display_in (call.UpdateBondInformation b) = []

abbrev pub displays_in : List Call → List ℕ
displays_in cs = of_all display_in cs

-- where the method has an end show the passkey, it shows it once
abbrev pub shown_as : PassKeyEntryAction → ℕ → List ℕ
shown_as action.Display pass_key = pass_key ∷ []
shown_as action.Input pass_key = []

abbrev pub shown_at : Role → PairingMethod → ℕ → List ℕ
shown_at r method.JustWorks pass_key = []
shown_at r method.NumericComparison pass_key = []
shown_at Central (method.PassKeyEntry central peripheral) pass_key = shown_as central pass_key
shown_at Peripheral (method.PassKeyEntry central peripheral) pass_key = shown_as peripheral pass_key
shown_at r method.OutOfBand pass_key = []

-- all of these are this number
abbrev pub AreAll : ℕ → List ℕ → Type 0
AreAll n [] = Unit {0}
AreAll n (x ∷ l) = (x ≡ n) × AreAll n l

-- ---- how the ends stand

-- a step of a head on an IdentityInformation, 0x08
abbrev pub on_identity_information : Machine → List ℕ → Step
on_identity_information m payload =
    step Peripheral m (input.Command (command_code command.IdentityInformation)) payload [] (replicate longest 0)

-- the head waits for the identity key: it is in neither Success nor Error, and would read an IdentityInformation as that
-- key, so that its bond would have it
pub record WaitsForIdentityKey (m : Machine) : Type 0 where
  pub pending : result_of m.phase ≡ None
  pub reads :
      (payload : List ℕ) → length payload ≡ 16 →
      let s = on_identity_information m payload in
      (s.outcome ≡ outcome.ended)
      × ((b : BondInformation) × (s.machine.pairing_data.bond_information ≡ Some b)
      × (b.identity.irk.0 ≡ word_of payload))

-- the one excepted case: no common wish to bond, and the request names the terminal's identity key
abbrev pub excepted : PairingFeatures → PairingFeatures → Bool
excepted request answer = not (both_bond request answer) && names_identity_key request.initiator_key_distribution

abbrev pub HeadEnds : (is_excepted : Bool) → Machine → Type 0
HeadEnds true m = WaitsForIdentityKey m
HeadEnds false m = m.phase ≡ phase.Success

-- the smaller maximum of request and answer
abbrev pub negotiated : PairingFeatures → PairingFeatures → ℕ
negotiated request answer = smaller request.maximum_encryption_key_size answer.maximum_encryption_key_size

-- an LTK on the air, packet 0x06
abbrev pub ltk_of : Packet → List LongTermKey
ltk_of (packet.PairingResponse f) = []
ltk_of (packet.PairingConfirm c) = []
ltk_of (packet.PairingRandom n) = []
ltk_of (packet.EncryptionInformation k) = k ∷ []
ltk_of (packet.CentralIdentification e r) = []
ltk_of (packet.IdentityInformation k) = []
ltk_of (packet.IdentityAddressInformation a) = []

abbrev pub ltk_in : Call → List LongTermKey
ltk_in c = of_packet ltk_of c

abbrev pub ltks_in : List Call → List LongTermKey
ltks_in cs = of_all ltk_in cs

-- EDIV and Rand on the air, packet 0x07
pub record Identification : Type 0 where
  pub ediv : ℕ
  pub rand : ℕ

abbrev pub ediv_rand_of : Packet → List Identification
ediv_rand_of (packet.PairingResponse f) = []
ediv_rand_of (packet.PairingConfirm c) = []
ediv_rand_of (packet.PairingRandom n) = []
ediv_rand_of (packet.EncryptionInformation k) = []
ediv_rand_of (packet.CentralIdentification e r) = record { ediv = e; rand = r } ∷ []
ediv_rand_of (packet.IdentityInformation k) = []
ediv_rand_of (packet.IdentityAddressInformation a) = []

abbrev pub ediv_rand_in : Call → List Identification
ediv_rand_in c = of_packet ediv_rand_of c

abbrev pub ediv_rands_in : List Call → List Identification
ediv_rands_in cs = of_all ediv_rand_in cs

-- a machine's bond holds this LTK, cut to the negotiated size, and this EDIV and Rand
pub record HoldsKeys (size : ℕ) (ltk : LongTermKey) (identification : Identification) (m : Machine) : Type 0 where
  pub bond : BondInformation
  pub has : m.pairing_data.bond_information ≡ Some bond
  pub cut : bond.ltk ≡ masked_of size ltk
  pub same_ediv : bond.ediv ≡ identification.ediv
  pub same_rand : bond.rand ≡ identification.rand

-- one LTK was sent, and one EDIV and Rand, and both bonds hold them
pub record SameBonds
    (size : ℕ) (ltks : List LongTermKey) (identifications : List Identification) (terminal head : Machine) : Type 0
  where
    pub ltk : LongTermKey
    pub identification : Identification
    pub ltk_sent : ltks ≡ ltk ∷ []
    pub identification_sent : identifications ≡ identification ∷ []
    pub terminal_holds : HoldsKeys size ltk identification terminal
    pub head_holds : HoldsKeys size ltk identification head

-- ---- the claim

-- what a run of this many inputs comes to
pub record RunEnds (shared : Shared) (request : PairingFeatures) (inputs : ℕ) (L : Link) : Type 0 where
  -- nothing is queued, due or open
  pub terminal_idle : Idle L.terminal
  pub head_idle : Idle L.head
  -- one response was sent
  pub answer : PairingFeatures
  pub answered : responses_in L.head.calls ≡ answer ∷ []
  -- 8 + entries + twice the keys
  pub counted : inputs ≡ 8 + entries (legacy_method request answer) + 2 * keys request answer
  -- each end has called for encryption once, both with the same key and level
  pub encryption : Encryption
  pub terminal_encrypts : encryptions_in L.terminal.calls ≡ encryption ∷ []
  pub head_encrypts : encryptions_in L.head.calls ≡ encryption ∷ []
  -- the shared passkey was shown once by an end that the method has show it, and by none else
  pub terminal_displays :
      displays_in L.terminal.calls ≡ shown_at Central (legacy_method request answer) shared.shown
  pub head_displays : displays_in L.head.calls ≡ shown_at Peripheral (legacy_method request answer) shared.shown
  -- both stand in Success, the state of that name of the machines, but for the excepted case, in which the head waits for
  -- the identity key
  pub terminal_ends : L.terminal.machine.phase ≡ phase.Success
  pub head_ends : HeadEnds (excepted request answer) L.head.machine
  -- if both bond and the answer names the responder's encryption key, both bonds hold the keys that the head sent
  pub same_bonds :
      both_bond request answer ≡ true → names_encryption_key answer.responder_key_distribution ≡ true →
      SameBonds (negotiated request answer) (ltks_in L.head.calls) (ediv_rands_in L.head.calls)
      L.terminal.machine L.head.machine

abbrev pub NotRefused : StepOutcome → Type 0
NotRefused outcome.ended = Unit {0}
NotRefused outcome.wants = Unit {0}
NotRefused (outcome.refused n) = ⊥

-- every run from a start ends, with this bound. (A run itself is a list of allowed moves after which none is allowed:
-- FairLink.)
pub record RunsEnd (s : Start) (bound : ℕ) (shared : Shared) : Type 0 where
  -- the number bounds the moves, re-runs included, of every list of allowed moves
  pub bounded : (moves inputs : ℕ) (L : Link) → Moves shared (fresh_link s) moves inputs L → moves ≤ bound
  -- every list of allowed moves is the beginning of a run
  pub begins :
      (moves inputs : ℕ) (L : Link) → Moves shared (fresh_link s) moves inputs L →
      (more more_inputs : ℕ) × (L₁ : Link) × Run shared L more more_inputs L₁
  -- no step on the way is refused
  pub accepted :
      (moves inputs : ℕ) (L : Link) → Moves shared (fresh_link s) moves inputs L →
      (k : MoveKind) (L₁ : Link) (x : Move shared L k L₁) → NotRefused (outcome_of x)
  -- inputs, the moves of the first kind, are at most 18 in any list of moves
  pub few_inputs : (moves inputs : ℕ) (L : Link) → Moves shared (fresh_link s) moves inputs L → inputs ≤ 18
  -- any passkey shown, at either end and by now, is the shared one, to which those typed are then equal
  pub displays :
      (moves inputs : ℕ) (L : Link) → Moves shared (fresh_link s) moves inputs L →
      (r : Role) → AreAll shared.shown (displays_in (end_of r L).calls)
  -- what every run comes to
  pub comes_to :
      (moves inputs : ℕ) (L : Link) → Run shared (fresh_link s) moves inputs L → RunEnds shared s.request inputs L

-- demand 3: from each start some number bounds all lists of moves, in all orders, with all host answers, passkeys and OOB
-- data, and every run comes to what is said
abbrev pub EveryFairRunEnds : Type 0
EveryFairRunEnds = (s : Start) → FairStart s → (bound : ℕ) × ((shared : Shared) → RunsEnd s bound shared)
