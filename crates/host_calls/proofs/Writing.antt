-- Laws of calls as octets: how long they are. Assumes nothing.
use mathlib.Core.Path.{◌≡◌, refl, sym, ap}
use Rattle.std.specs.Prelude.{Option, Some, None}
use Prim.Native.Nat.{ℕ, suc, ◌≤◌}
use native.Mathlib.Omega.{arith}
use lib.Dec.{lit≤}
use lib.ListN.{length}
use Rattle.octets.specs.Octets.{octets_of}
use Rattle.bond.specs.Bond.{bd_addr_octets, address_octets, failed_body, bond_octets, bond_or_zeros}
use Rattle.host_calls.specs.Calls.{kind_of, body_of, event_kind, event_body, packet_body, body_length, call_octets}
use Rattle.bond.specs.declared.Error.{Error}
use Rattle.bond.specs.declared.Error.TheVariants as error
use Rattle.bond.specs.declared.BondInformation.{BondInformation}
use Rattle.host_calls.specs.declared.call.Packet.{Packet}
use Rattle.host_calls.specs.declared.call.Packet.TheVariants.{PairingResponse, PairingConfirm, PairingRandom, EncryptionInformation, CentralIdentification, IdentityInformation, IdentityAddressInformation}
use Rattle.host_calls.specs.declared.call.ConnectionEvent.{ConnectionEvent}
use Rattle.host_calls.specs.declared.call.ConnectionEvent.TheVariants.{PairingFailed, PairingComplete, PassKeyDisplay, PassKeyInput, BondLost, OobRequest}
use Rattle.host_calls.specs.declared.call.Question.TheVariants as question
use Rattle.host_calls.specs.declared.call.Draw.TheVariants as draw
use Rattle.host_calls.specs.declared.call.Call.{Call}
use Rattle.host_calls.specs.declared.call.Call.TheVariants as call

-- ---- a body is as long as its kind says

failed_length : (e : Error) → length (failed_body e) ≡ 2
failed_length (error.Security r) = refl
failed_length error.InvalidState = refl
failed_length error.InvalidValue = refl
failed_length error.OutOfMemory = refl
failed_length (error.Host v) = refl

pub bond_length : (o : Option BondInformation) → length (bond_or_zeros o) ≡ 51
unfolding octets_of bd_addr_octets address_octets bond_octets
bond_length (Some b) = refl
bond_length None = refl

packet_length : (p : Packet) → body_length (kind_of (call.SendPacket p)) ≡ Some (length (packet_body p))
unfolding octets_of bd_addr_octets
packet_length (PairingResponse f) = refl
packet_length (PairingConfirm c) = refl
packet_length (PairingRandom n) = refl
packet_length (EncryptionInformation k) = refl
packet_length (CentralIdentification e r) = refl
packet_length (IdentityInformation k) = refl
packet_length (IdentityAddressInformation a) = refl

event_length : (e : ConnectionEvent) → body_length (event_kind e) ≡ Some (length (event_body e))
event_length (PairingFailed e) = ap Some (sym (failed_length e))
event_length (PairingComplete l b) = ap (λ (n : ℕ). Some (suc (suc n))) (sym (bond_length b))
event_length (PassKeyDisplay k) = refl
event_length PassKeyInput = refl
event_length BondLost = refl
event_length OobRequest = refl

pub body_length_lem : (c : Call) → body_length (kind_of c) ≡ Some (length (body_of c))
unfolding octets_of bd_addr_octets address_octets bond_octets
body_length_lem (call.SendPacket p) = packet_length p
body_length_lem (call.SendConnectionEvent e) = event_length e
body_length_lem (call.Ask question.FindBond) = refl
body_length_lem (call.Ask question.LocalIrk) = refl
body_length_lem (call.Ask question.LocalIdentityAddress) = refl
body_length_lem (call.Ask question.BondingFlag) = refl
body_length_lem (call.Ask question.OobAvailable) = refl
body_length_lem (call.Draw draw.Nonce) = refl
body_length_lem (call.Draw draw.PassKey) = refl
body_length_lem (call.Draw draw.LongTermKey) = refl
body_length_lem (call.Draw draw.Ediv) = refl
body_length_lem (call.Draw draw.Rand) = refl
body_length_lem (call.EnableEncryption k l n) = refl
body_length_lem call.EnableBondedEncryption = refl
body_length_lem (call.UpdateBondInformation b) = refl

-- and no longer than the longest, 53 octets
pub body_short : (c : Call) → length (body_of c) ≤ 53
unfolding octets_of bd_addr_octets address_octets bond_octets
body_short (call.SendPacket (PairingResponse f)) = lit≤ tt
body_short (call.SendPacket (PairingConfirm c)) = lit≤ tt
body_short (call.SendPacket (PairingRandom n)) = lit≤ tt
body_short (call.SendPacket (EncryptionInformation k)) = lit≤ tt
body_short (call.SendPacket (CentralIdentification e r)) = lit≤ tt
body_short (call.SendPacket (IdentityInformation k)) = lit≤ tt
body_short (call.SendPacket (IdentityAddressInformation a)) = lit≤ tt
body_short (call.SendConnectionEvent (PairingFailed e)) = let h = failed_length e in omega arith
body_short (call.SendConnectionEvent (PairingComplete l b)) = let h = bond_length b in omega arith
body_short (call.SendConnectionEvent (PassKeyDisplay k)) = lit≤ tt
body_short (call.SendConnectionEvent PassKeyInput) = lit≤ tt
body_short (call.SendConnectionEvent BondLost) = lit≤ tt
body_short (call.SendConnectionEvent OobRequest) = lit≤ tt
body_short (call.Ask q) = lit≤ tt
body_short (call.Draw d) = lit≤ tt
body_short (call.EnableEncryption k l n) = lit≤ tt
body_short call.EnableBondedEncryption = lit≤ tt
body_short (call.UpdateBondInformation b) = lit≤ tt

pub call_short : (c : Call) {size : ℕ} → size ≡ length (call_octets c) → size ≤ 54
unfolding call_octets
call_short c e = let h = body_short c in omega arith
