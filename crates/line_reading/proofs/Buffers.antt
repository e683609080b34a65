-- Laws of reading a line into lent buffers. Assumes nothing.
use Rattle.std.specs.Prelude.{Option, Some, None}
use Rattle.std.proofs.lemmas.Grind.{common_steps}
use mathlib.Core.Path.{◌≡◌, refl}
use mathlib.Core.Bool.{true}
use mathlib.Core.List.{List}
use Prim.Native.Nat.{ℕ, ◌≤◌}
use native.Mathlib.Omega.{arith}
use lib.ListN.{length}
use borrow.Author.Tests.{le-leb}
use Rattle.line_reading.specs.declared.Fields.{Fields}
use Rattle.line_reading.specs.declared.ReadLine.{ReadLine}
use Rattle.line_reading.specs.Lines.{and_then, StepLine, octets_field, line_with, line_in, read_of, fields_read, have_room}

-- the octets of a line that was read are those of its fields
pub fields_laid : (role room machine input payload answers : List ℕ) {l : StepLine} → line_with role room machine input payload answers ≡ Some l
    → (octets_field payload ≡ Some l.payload) × (octets_field answers ≡ Some l.answers)
unfolding line_with
fields_laid role room machine input payload answers e = grind (arith, common_steps)

-- the numbers of octets in place of the octets
pub read_as : (f : Fields) → fields_read f ≡ and_then (line_in f) (λ l. Some (read_of l))
unfolding line_in line_with read_of
read_as f = grind (arith, common_steps)

-- a line was read
pub was_some : (x : Option StepLine) {r : ReadLine} → Some r ≡ and_then x (λ l. Some (read_of l)) → (l : StepLine) × (x ≡ Some l) × (read_of l ≡ r)
was_some None e = cc
was_some (Some l) e = (l, refl, cc)

pub roomy : (payload answers : List ℕ) → 4096 ≤ length payload → 4096 ≤ length answers → have_room payload answers ≡ true
unfolding have_room
roomy payload answers a b = rw (le-leb 4096 (length payload) a, le-leb 4096 (length answers) b)
