-- What the reading of a machine record tells of its length. Assumes nothing.
use Rattle.std.proofs.Common.{ℕ, ◌≡◌, refl, Bool, true, false, List, length, eqb}
use borrow.Author.Tests.{eqb-true}
use Rattle.octets.specs.Answer.{Answer, refused, accepted}
use Rattle.machine.specs.declared.Machine.{Machine}
use Rattle.machine.specs.declared.Role.{Role}
use Rattle.machine_record.specs.Record.{record_size, machine_of}

by_test : (r : Role) (l : List ℕ) (m : Machine) (t : Bool) → eqb (length l) record_size ≡ t → machine_of r l ≡ accepted m → length l ≡ record_size
unfolding machine_of
by_test r l m true h e = eqb-true (length l) record_size h
by_test r l m false h e =
    let e₁ : ◌≡◌ {A = Answer Machine} (refused 20) (accepted m) = rw (h) at e in
    cc

-- a record that was read has its length
pub read_length : (r : Role) (l : List ℕ) (m : Machine) → machine_of r l ≡ accepted m → length l ≡ record_size
read_length r l m e = by_test r l m (eqb (length l) record_size) refl e
