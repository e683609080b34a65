-- Laws of a line's fields: the cases in which each is read, and in which it is malformed. Assumes nothing.
use native.Mathlib.Omega.{arith}
use Rattle.std.proofs.lemmas.Grind.{common_steps}
use mathlib.Core.Path.{◌≡◌}
use mathlib.Core.List.{List}
use Prim.Native.Nat.{ℕ, zero, suc, ◌*◌}
use Rattle.machine.specs.declared.Role.{Role}
use Rattle.machine_record.specs.Record.{machine_of}
use Rattle.line_reading.specs.Lines.{and_then, only_accepted, machine_in, octets_of_length}

-- ---- LISTLEN

-- ten to a power
abbrev pub ten_to : ℕ → ℕ
ten_to zero = 1
ten_to (suc k) = 10 * ten_to k

-- ---- MACHINE

-- octets of another number are no record
pub machine_sized : (r : Role) (l : List ℕ) → machine_in r l ≡ and_then (octets_of_length 161 l) (λ o. only_accepted (machine_of r o))
unfolding machine_in octets_of_length machine_of
machine_sized r l = grind (arith, common_steps)
