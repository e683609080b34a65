-- `method_lines::write_method_lines` meets its contract. Assumes nothing.
use mathlib.Core.Path.{◌≡◌}
use Rattle.method_lines.proofs.Lines.{begun}
use Rattle.method_lines.proofs.write_method_lines.Given as goal

-- the lines before this one stand over the front
abbrev pub invariant-loop-number : goal.invariant-loop-number
invariant-loop-number l = l.out ≡ begun l.fn.out l.number
