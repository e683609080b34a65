-- A canonical machine is read back from its record, and a record that is read is the one of its machine, which is
-- canonical. Assumes nothing.
use borrow.Author.Rules.{rules}
use mathlib.Core.Path.{◌≡◌, refl, subst, ◌∙◌}
use mathlib.Core.Bool.{Bool, true, false, cond}
use mathlib.Core.List.{List}
use Prim.Native.Nat.{ℕ, ◌^◌, ◌<◌}
use lib.Dec.{eqb}
use lib.ListN.{length}
use borrow.Author.Tests.{eq-eqb}
use Rattle.std.specs.Prelude.{bytes_eq}
use Rattle.std.proofs.lemmas.Slice.Eq.{bytes_eq-Decides}
use Rattle.octets.specs.Answer.{Answer, refused, accepted, and_then}
use Rattle.octets.proofs.Octets.{word_back}
use Rattle.bond.proofs.Back.{AddressValued, OptionBondValued, address_back}
use Rattle.machine.specs.Machine.{kept_by}
use Rattle.machine.specs.declared.Role.{Role}
use Rattle.machine.specs.declared.Phase.{Phase}
use Rattle.machine.specs.declared.Machine.{Machine}
use Rattle.machine.proofs.Canonical.{OfRole, Canonical, kept_kept}
use Rattle.machine_record.specs.Record.{record_size, confirm_in, received_in, machine_octets, octets_at, word_at, error_of, pass_key_of}
use Rattle.machine_record.specs.Record.{phase_of, phase_at, pairing_data_of, confirm_data_of, canonical, machine_of}
use Rattle.machine_record.proofs.Sizes.{record_length}
use Rattle.machine_record.proofs.Back.{phase_back, features_back, method_back, option_bond_back}
use Rattle.machine_record.proofs.Places.{Placed, placed}

-- every machine in code has this: its numbers fit their types, and its arrays have their lengths
pub record Valued (m : Machine) : Type 0 where
  pub preq : length m.confirm_data.preq ≡ 7
  pub pres : length m.confirm_data.pres ≡ 7
  pub tk : m.confirm_data.tk < 2 ^ 128
  pub nonce : m.confirm_data.local_nonce.0 < 2 ^ 128
  pub confirm : confirm_in m.phase < 2 ^ 128
  pub received : received_in m.phase < 2 ^ 128
  pub local : AddressValued m.pairing_data.local_address
  pub peer : AddressValued m.pairing_data.peer_address
  pub bond : OptionBondValued m.pairing_data.bond_information

-- ---- what was written is read back

module _ (m : Machine) (l : List ℕ) (p : Placed m l) (v : Valued m) where
  pairing_read : pairing_data_of l ≡ accepted m.pairing_data
  unfolding pairing_data_of
  pairing_read =
      let d = m.pairing_data in
      rw (
        p.local_features,
        features_back d.local_features,
        p.peer_features,
        features_back d.peer_features,
        p.method,
        method_back d.pairing_method,
        p.present,
        p.bond,
        option_bond_back d.bond_information v.bond,
        p.local,
        address_back d.local_address v.local,
        p.peer,
        address_back d.peer_address v.peer,
      )

  confirm_read : confirm_data_of l ≡ m.confirm_data
  unfolding confirm_data_of
  confirm_read =
      let c = m.confirm_data in
      rw (p.preq, p.pres, p.tk, word_back c.tk v.tk, p.nonce, word_back c.local_nonce.0 v.nonce)

  phase_read : (r : Role) → OfRole r m.phase → phase_at r l ≡ accepted m.phase
  unfolding phase_at
  phase_read r h =
      rw (p.phase, p.confirm, word_back (confirm_in m.phase) v.confirm, p.received, word_back (received_in m.phase) v.received)
      (phase_back r m.phase h)

  machine_read_lem : (r : Role) → Canonical r m → length l ≡ record_size → machine_of r l ≡ canonical l m
  unfolding machine_of
  machine_read_lem r c h = rw (eq-eqb (length l) record_size h, phase_read r c.of_role, pairing_read, confirm_read, c.kept)

own : (m : Machine) → canonical (machine_octets m) m ≡ accepted m
unfolding canonical
own m = rw ((bytes_eq-Decides (machine_octets m) (machine_octets m)).1 refl)

pub read_back : (r : Role) (m : Machine) → Canonical r m → Valued m → machine_of r (machine_octets m) ≡ accepted m
read_back r m c v =
    machine_read_lem m (machine_octets m) (placed m v.preq v.pres) v r c (record_length m v.preq v.pres)
    ∙ own m

-- ---- what was read

-- an operation that accepts has accepted what it worked on
after : {A B C : Type 0} (x : Answer A) (f : A → Answer B) {b : B} → and_then x f ≡ accepted b → ((a : A) → x ≡ accepted a → f a ≡ accepted b → C) → C
after (refused n) f e k = cc
after (accepted a) f e k = k a refl e

tested : {A : Type 0} (t : Bool) (x : Answer A) (n : ℕ) {a : A} → cond t x (refused n) ≡ accepted a → (t ≡ true) × (x ≡ accepted a)
tested true x n e = (refl, e)
tested false x n e = cc

-- the machine that was read has a phase of the role and what that keeps, and the record is its own
pub record WasRead (r : Role) (l : List ℕ) (m : Machine) : Type 0 where
  pub phase : phase_at r l ≡ accepted m.phase
  pub kept : kept_by m.phase (confirm_data_of l) ≡ m.confirm_data
  pub same : machine_octets m ≡ l

module _ (r : Role) (l : List ℕ) {m : Machine} where
  was_read : machine_of r l ≡ accepted m → WasRead r l m
  unfolding machine_of canonical
  was_read e =
      after (phase_at r l) _ (tested (eqb (length l) record_size) _ 20 e).1 (λ p e1 f1.
      after (pairing_data_of l) _ f1 (λ d e2 f2.
      let m' : Machine = record { phase = p; confirm_data = kept_by p (confirm_data_of l); pairing_data = d } in
      let t = tested (bytes_eq (machine_octets m') l) (accepted m') 25 f2 in
      let is : m' ≡ m = cc t.1 in
      subst (λ (x : Machine). WasRead r l x) is (record { phase = e1; kept = refl; same = (bytes_eq-Decides (machine_octets m') l).0 t.0 })))

  pub written_same : machine_of r l ≡ accepted m → machine_octets m ≡ l
  written_same e = (was_read e).same

-- ---- the phase that is read is one of the role

abbrev OfRoleIfRead : Role → Answer Phase → Type 0
OfRoleIfRead r (refused n) = Unit {0}
OfRoleIfRead r (accepted p) = OfRole r p

phase_of_role : (r : Role) (o : List ℕ) (confirm received : ℕ) → OfRoleIfRead r (phase_of r o confirm received)
unfolding pass_key_of error_of phase_of
phase_of_role r o confirm received = search rules

pub read_canonical : (r : Role) (l : List ℕ) {m : Machine} → machine_of r l ≡ accepted m → Canonical r m
unfolding phase_at
read_canonical r l {m} e =
    let w = was_read r l e in
    record {
      of_role = subst (OfRoleIfRead r) w.phase (phase_of_role r (octets_at 4 0 l) (word_at 50 l) (word_at 66 l));
      kept = rw (← w.kept) (kept_kept m.phase (confirm_data_of l));
    }
