-- `line_reading::read_room` meets its contract. Assumes nothing.
use mathlib.Core.Path.{◌≡◌}
use Prim.Native.Nat.{◌<◌}
use lib.ListN.{drop}
use Rattle.line_reading.specs.Lines.{decimal_from}
use Rattle.line_reading.proofs.Values.{ten_to}
use Rattle.line_reading.proofs.read_room.Given as goal

abbrev pub invariant-loop-c : goal.invariant-loop-c
invariant-loop-c l = (l.n < ten_to l.c-index) × (decimal_from 0 l.text ≡ decimal_from l.n (drop l.c-index l.text))
