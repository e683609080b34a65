-- Believed: the archive's contracts and demand 3 rest on it.
-- Host calls as document 01 has them ("Paired or failed"): the number of each, its body, and the length that the number
-- fixes. Assumes nothing.
use Rattle.std.specs.Prelude.{ℕ, ◌+◌, cond, List, [], ◌∷◌, ◌++◌, eqb, length, take, replicate, Option, Some, None}
use Rattle.octets.specs.Octets.{to_octets, octets_of, fits_at, write_at}
use Rattle.smp_types.specs.Types.{command_code, feature_octets}
use Rattle.smp_types.specs.declared.types.Command.{Command}
use Rattle.smp_types.specs.declared.types.Command.TheVariants as command
use Rattle.bond.specs.Bond.{address_type, bd_addr_octets, failed_body, bond_octets, option_bond_octets}
use Rattle.host_calls.specs.declared.call.Packet.{Packet}
use Rattle.host_calls.specs.declared.call.Packet.TheVariants.{PairingResponse, PairingConfirm, PairingRandom, EncryptionInformation, CentralIdentification, IdentityInformation, IdentityAddressInformation}
use Rattle.host_calls.specs.declared.call.ConnectionEvent.{ConnectionEvent}
use Rattle.host_calls.specs.declared.call.ConnectionEvent.TheVariants.{PairingFailed, PairingComplete, PassKeyDisplay, PassKeyInput, BondLost, OobRequest}
use Rattle.host_calls.specs.declared.call.Question.{Question}
use Rattle.host_calls.specs.declared.call.Question.TheVariants as question
use Rattle.host_calls.specs.declared.call.Draw.{Draw}
use Rattle.host_calls.specs.declared.call.Draw.TheVariants as draw
use Rattle.host_calls.specs.declared.call.Call.{Call}
use Rattle.host_calls.specs.declared.call.Call.TheVariants as call
use Rattle.host_calls.specs.declared.call.Trace.{Trace}

-- ---- packets: kind is the SMP code, body the payload

abbrev pub packet_command : Packet → Command
packet_command (PairingResponse f) = command.PairingResponse
packet_command (PairingConfirm c) = command.PairingConfirm
packet_command (PairingRandom n) = command.PairingRandom
packet_command (EncryptionInformation k) = command.EncryptionInformation
packet_command (CentralIdentification e r) = command.CentralIdentification
packet_command (IdentityInformation k) = command.IdentityInformation
packet_command (IdentityAddressInformation a) = command.IdentityAddressInformation

abbrev pub packet_body : Packet → List ℕ
packet_body (PairingResponse f) = feature_octets f
packet_body (PairingConfirm c) = octets_of c.0
packet_body (PairingRandom n) = octets_of n.0
packet_body (EncryptionInformation k) = octets_of k.0
packet_body (CentralIdentification e r) = to_octets 2 e ++ to_octets 8 r
packet_body (IdentityInformation k) = octets_of k.0
packet_body (IdentityAddressInformation a) = address_type a ∷ bd_addr_octets a.addr

-- ---- events

abbrev pub event_kind : ConnectionEvent → ℕ
event_kind (PairingFailed e) = 0x20
event_kind (PairingComplete l b) = 0x21
event_kind (PassKeyDisplay k) = 0x22
event_kind PassKeyInput = 0x23
event_kind BondLost = 0x24
event_kind OobRequest = 0x25

-- 0x21: level, bond present 0/1, bond or zeros
abbrev pub event_body : ConnectionEvent → List ℕ
event_body (PairingFailed e) = failed_body e
event_body (PairingComplete l b) = l ∷ option_bond_octets b
event_body (PassKeyDisplay k) = to_octets 4 k.0
event_body PassKeyInput = []
event_body BondLost = []
event_body OobRequest = []

-- ---- questions and draws: empty bodies

abbrev pub question_kind : Question → ℕ
question_kind question.FindBond = 0x30
question_kind question.LocalIrk = 0x31
question_kind question.LocalIdentityAddress = 0x32
question_kind question.BondingFlag = 0x33
question_kind question.OobAvailable = 0x34

abbrev pub draw_kind : Draw → ℕ
draw_kind draw.Nonce = 0x35
draw_kind draw.PassKey = 0x36
draw_kind draw.LongTermKey = 0x37
draw_kind draw.Ediv = 0x38
draw_kind draw.Rand = 0x39

-- ---- encryption and bonds

abbrev pub encryption_kind : ℕ
encryption_kind = 0x3A

abbrev pub bonded_kind : ℕ
bonded_kind = 0x3B

abbrev pub update_kind : ℕ
update_kind = 0x3C

-- ---- every call

abbrev pub kind_of : Call → ℕ
kind_of (call.SendPacket p) = command_code (packet_command p)
kind_of (call.SendConnectionEvent e) = event_kind e
kind_of (call.Ask q) = question_kind q
kind_of (call.Draw d) = draw_kind d
kind_of (call.EnableEncryption k l n) = encryption_kind
kind_of call.EnableBondedEncryption = bonded_kind
kind_of (call.UpdateBondInformation b) = update_kind

-- 0x3A: key 16, level, key size
abbrev pub body_of : Call → List ℕ
body_of (call.SendPacket p) = packet_body p
body_of (call.SendConnectionEvent e) = event_body e
body_of (call.Ask q) = []
body_of (call.Draw d) = []
body_of (call.EnableEncryption k l n) = octets_of k.0 ++ (l ∷ n ∷ [])
body_of call.EnableBondedEncryption = []
body_of (call.UpdateBondInformation b) = bond_octets b

-- a call is one octet of kind, then its body
unfoldable pub call_octets : Call → List ℕ
call_octets c = kind_of c ∷ body_of c

-- ---- the length of the body that a kind fixes

-- kinds and lengths
abbrev pub body_lengths : List (ℕ × ℕ)
body_lengths =
    (0x02, 6)
    ∷ (0x03, 16)
    ∷ (0x04, 16)
    ∷ (0x06, 16)
    ∷ (0x07, 10)
    ∷ (0x08, 16)
    ∷ (0x09, 7)
    ∷ (0x20, 2)
    ∷ (0x21, 53)
    ∷ (0x22, 4)
    ∷ (0x23, 0)
    ∷ (0x24, 0)
    ∷ (0x25, 0)
    ∷ (0x30, 0)
    ∷ (0x31, 0)
    ∷ (0x32, 0)
    ∷ (0x33, 0)
    ∷ (0x34, 0)
    ∷ (0x35, 0)
    ∷ (0x36, 0)
    ∷ (0x37, 0)
    ∷ (0x38, 0)
    ∷ (0x39, 0)
    ∷ (0x3A, 18)
    ∷ (0x3B, 0)
    ∷ (0x3C, 51)
    ∷ []

abbrev pub length_in : List (ℕ × ℕ) → ℕ → Option ℕ
length_in [] kind = None
length_in (x ∷ l) kind = cond (eqb kind x.0) (Some x.1) (length_in l kind)

-- None where there is no call of this kind
abbrev pub body_length : ℕ → Option ℕ
body_length kind = length_in body_lengths kind

-- ---- a list of calls

-- the octets of calls, one after another
unfoldable pub calls_octets : List Call → List ℕ
calls_octets [] = []
calls_octets (c ∷ l) = call_octets c ++ calls_octets l

-- one step lists no more octets of calls than these
abbrev pub longest : ℕ
longest = 164

-- ---- the trace of a step

-- the octets of the calls that it lists
unfoldable pub listed : Trace → List ℕ
listed t = take t.len t.octets

unfoldable pub no_trace : Trace
no_trace = record { octets = replicate longest 0; len = 0; read = 0 }

-- one more call; where it has no room, the trace stays as it is
unfoldable pub push_of : Trace → Call → Trace
push_of t c =
    cond (fits_at t.octets t.len (call_octets c))
    (record {
      octets = write_at t.octets t.len (call_octets c);
      len = t.len + length (call_octets c);
      read = t.read;
    })
    t
