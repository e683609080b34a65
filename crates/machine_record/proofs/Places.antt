-- What stands at each place of a machine's record. Assumes nothing.
use mathlib.Core.Path.{◌≡◌, refl, sym, ap, ◌∙◌}
use mathlib.Core.List.{List, [], ◌∷◌, ◌++◌}
use Prim.Native.Nat.{ℕ, ◌+◌}
use Rattle.std.specs.Prelude.{is_some}
use native.Mathlib.Nat.{le_of_eq}
use lib.ListN.{length, get_or, take, drop}
use lib.Seq.{take_at, take_all, drop_at, drop-drop, get_or-drop}
use Rattle.octets.specs.Octets.{octets_of}
use Rattle.octets.proofs.Octets.{word_length}
use Rattle.smp_types.specs.Types.{feature_octets}
use Rattle.bond.specs.Bond.{address_octets, flag_code, bond_or_zeros, option_bond_octets}
use Rattle.machine.specs.declared.Machine.{Machine}
use Rattle.machine_record.specs.Record.{phase_octets, confirm_in, received_in, method_code, machine_octets, octets_at}
use Rattle.machine_record.proofs.Sizes.{phase_length, address_length, features_length, bond_length}

pub record Placed (m : Machine) (l : List ℕ) : Type 0 where
  pub phase : octets_at 4 0 l ≡ phase_octets m.phase
  pub preq : octets_at 7 4 l ≡ m.confirm_data.preq
  pub pres : octets_at 7 11 l ≡ m.confirm_data.pres
  pub tk : octets_at 16 18 l ≡ octets_of m.confirm_data.tk
  pub nonce : octets_at 16 34 l ≡ octets_of m.confirm_data.local_nonce.0
  pub confirm : octets_at 16 50 l ≡ octets_of (confirm_in m.phase)
  pub received : octets_at 16 66 l ≡ octets_of (received_in m.phase)
  pub local : octets_at 7 82 l ≡ address_octets m.pairing_data.local_address
  pub peer : octets_at 7 89 l ≡ address_octets m.pairing_data.peer_address
  pub local_features : octets_at 6 96 l ≡ feature_octets m.pairing_data.local_features
  pub peer_features : octets_at 6 102 l ≡ feature_octets m.pairing_data.peer_features
  pub method : get_or l 108 0 ≡ method_code m.pairing_data.pairing_method
  pub present : get_or l 109 0 ≡ flag_code (is_some m.pairing_data.bond_information)
  pub bond : octets_at 51 110 l ≡ bond_or_zeros m.pairing_data.bond_information

-- where a piece of n octets comes at place k, it is read there, and the rest comes behind it
module _ (l : List ℕ) (k n : ℕ) (a rest : List ℕ) (e : drop k l ≡ a ++ rest) (h : length a ≡ n) where
  piece : octets_at n k l ≡ a
  piece = ap (take n) e ∙ take_at a rest n h

  behind : drop (k + n) l ≡ rest
  behind = sym (drop-drop n k l) ∙ ap (drop n) e ∙ drop_at a rest n h

-- an octet at place k
octet : (l : List ℕ) (k x : ℕ) (rest : List ℕ) → drop k l ≡ x ∷ rest → get_or l (k + 0) 0 ≡ x
octet l k x rest e = sym (get_or-drop k l 0 0) ∙ ap (λ (t : List ℕ). get_or t 0 0) e

pub placed : (m : Machine) → length m.confirm_data.preq ≡ 7 → length m.confirm_data.pres ≡ 7 → Placed m (machine_octets m)
unfolding machine_octets
placed m hp hq =
    let l = machine_octets m in
    let c = m.confirm_data in
    let d = m.pairing_data in
    let bond = bond_or_zeros d.bond_information in
    let tail = method_code d.pairing_method ∷ option_bond_octets d.bond_information in
    let f2 = feature_octets d.peer_features ++ tail in
    let f1 = feature_octets d.local_features ++ f2 in
    let a2 = address_octets d.peer_address ++ f1 in
    let a1 = address_octets d.local_address ++ a2 in
    let w4 = octets_of (received_in m.phase) ++ a1 in
    let w3 = octets_of (confirm_in m.phase) ++ w4 in
    let w2 = octets_of c.local_nonce.0 ++ w3 in
    let w1 = octets_of c.tk ++ w2 in
    let q = c.pres ++ w1 in
    let p = c.preq ++ q in
    let at4 : drop 4 l ≡ p = behind l 0 4 (phase_octets m.phase) p refl (phase_length m.phase) in
    let at11 : drop 11 l ≡ q = behind l 4 7 c.preq q at4 hp in
    let at18 : drop 18 l ≡ w1 = behind l 11 7 c.pres w1 at11 hq in
    let at34 : drop 34 l ≡ w2 = behind l 18 16 (octets_of c.tk) w2 at18 (word_length c.tk) in
    let at50 : drop 50 l ≡ w3 = behind l 34 16 (octets_of c.local_nonce.0) w3 at34 (word_length c.local_nonce.0) in
    let at66 : drop 66 l ≡ w4 = behind l 50 16 (octets_of (confirm_in m.phase)) w4 at50 (word_length (confirm_in m.phase)) in
    let at82 : drop 82 l ≡ a1 = behind l 66 16 (octets_of (received_in m.phase)) a1 at66 (word_length (received_in m.phase)) in
    let at89 : drop 89 l ≡ a2 = behind l 82 7 (address_octets d.local_address) a2 at82 (address_length d.local_address) in
    let at96 : drop 96 l ≡ f1 = behind l 89 7 (address_octets d.peer_address) f1 at89 (address_length d.peer_address) in
    let at102 : drop 102 l ≡ f2 = behind l 96 6 (feature_octets d.local_features) f2 at96 (features_length d.local_features) in
    let at108 : drop 108 l ≡ tail = behind l 102 6 (feature_octets d.peer_features) tail at102 (features_length d.peer_features) in
    let at109 : drop 109 l ≡ option_bond_octets d.bond_information =
    behind l 108 1 (method_code d.pairing_method ∷ []) (option_bond_octets d.bond_information) at108 refl in
    let at110 : drop 110 l ≡ bond = behind l 109 1 (flag_code (is_some d.bond_information) ∷ []) bond at109 refl in
    record {
      phase = piece l 0 4 (phase_octets m.phase) p refl (phase_length m.phase);
      preq = piece l 4 7 c.preq q at4 hp;
      pres = piece l 11 7 c.pres w1 at11 hq;
      tk = piece l 18 16 (octets_of c.tk) w2 at18 (word_length c.tk);
      nonce = piece l 34 16 (octets_of c.local_nonce.0) w3 at34 (word_length c.local_nonce.0);
      confirm = piece l 50 16 (octets_of (confirm_in m.phase)) w4 at50 (word_length (confirm_in m.phase));
      received = piece l 66 16 (octets_of (received_in m.phase)) a1 at66 (word_length (received_in m.phase));
      local = piece l 82 7 (address_octets d.local_address) a2 at82 (address_length d.local_address);
      peer = piece l 89 7 (address_octets d.peer_address) f1 at89 (address_length d.peer_address);
      local_features = piece l 96 6 (feature_octets d.local_features) f2 at96 (features_length d.local_features);
      peer_features = piece l 102 6 (feature_octets d.peer_features) tail at102 (features_length d.peer_features);
      method = octet l 108 (method_code d.pairing_method) (option_bond_octets d.bond_information) at108;
      present = octet l 109 (flag_code (is_some d.bond_information)) bond at109;
      bond = ap (take 51) at110 ∙ take_all 51 bond (le_of_eq (bond_length d.bond_information));
    }
