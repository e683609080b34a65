-- `machine_record::machine_octets` meets its contract: thirteen pieces, each behind the one before. Assumes nothing.
use borrow.Author.Rules.{rules}
use mathlib.Core.Path.{◌≡◌, ◌∙◌}
use mathlib.Core.List.{List, [], ◌∷◌, append_assoc}
use Prim.Native.Nat.{ℕ}
use native.Mathlib.Omega.{arith}
use lib.ListN.{length, length-append, replicate}
use Rattle.octets.specs.Octets.{octets_of}
use Rattle.octets.proofs.Octets.{word_length}
use Rattle.octets.proofs.Parts.{over_all}
use Rattle.smp_types.specs.Types.{feature_octets}
use Rattle.bond.specs.Bond.{address_octets, option_bond_octets}
use Rattle.machine_record.specs.Record.{phase_octets, confirm_in, received_in, method_code, machine_octets}
use Rattle.machine_record.proofs.Sizes.{phase_length, address_length, option_bond_length}
use Rattle.machine_record.proofs.Pieces.{four}
use Rattle.machine_record.proofs.machine_octets.Goals as goal

pub returns : goal.returns
unfolding machine_octets
returns c =
    let m = c.args.machine in
    let p = m.phase in
    let d = m.confirm_data in
    let q = m.pairing_data in
    let bond = q.bond_information in
    let lengths : (length d.preq ≡ 7) × (length d.pres ≡ 7) = (search rules, search rules) in
    let n1 = phase_length p in
    let n2 = word_length d.tk in
    let n3 = word_length d.local_nonce.0 in
    let n4 = word_length (confirm_in p) in
    let n5 = word_length (received_in p) in
    let n6 = address_length q.local_address in
    let n7 = address_length q.peer_address in
    let n8 = option_bond_length bond in
    let zeros : List ℕ = replicate 161 0 in
    let first =
    four zeros
    0 (phase_octets p) (rw c.phase_octets.ensures at c.write.ensures.slice)
    4 (omega arith) d.preq c.write-2.ensures.slice
    11 (omega arith) d.pres c.write-3.ensures.slice
    18 (omega arith) (octets_of d.tk) (rw c.word_to_octets.ensures at c.write-4.ensures.slice)
    (omega arith) in
    let second =
    four c.write-4.new.dst
    34 (octets_of d.local_nonce.0) (rw c.word_to_octets-2.ensures at c.write-5.ensures.slice)
    50 (omega arith) (octets_of (confirm_in p)) (rw (c.word_to_octets-3.ensures, c.confirm_in.ensures) at c.write-6.ensures.slice)
    66 (omega arith) (octets_of (received_in p)) (rw (c.word_to_octets-4.ensures, c.received_in.ensures) at c.write-7.ensures.slice)
    82 (omega arith) (address_octets q.local_address) (rw c.encode.ensures at c.write-8.ensures.slice)
    (omega arith) in
    let third =
    four c.write-8.new.dst
    89 (address_octets q.peer_address) (rw c.encode-2.ensures at c.write-9.ensures.slice)
    96 (omega arith) (feature_octets q.local_features) (rw c.encode-3.ensures at c.write-10.ensures.slice)
    102 (omega arith) (feature_octets q.peer_features) (rw c.encode-4.ensures at c.write-11.ensures.slice)
    108 (omega arith) (method_code q.pairing_method ∷ [])
    (rw c.method_code-method.ensures at c.write-12.ensures.slice)
    (omega arith) in
    four zeros
    0 _ first
    34 (simp length-append (omega arith)) _ second
    89 (simp length-append (omega arith)) _ third
    109 (simp length-append (omega arith)) (option_bond_octets bond) (rw c.encode_option_bond.ensures at c.write-13.ensures.slice)
    (omega arith)
    ∙ over_all zeros _ (simp length-append (omega arith))
    ∙ simp append_assoc
