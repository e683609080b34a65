-- `line_writing::head` meets its contract. Assumes nothing.
use Rattle.std.proofs.lemmas.Grind.{common_steps}
use mathlib.Core.List.{append_assoc}
use native.Mathlib.Omega.{arith}
use Rattle.line_writing.specs.AnswerLines.{head_of}
use Rattle.line_writing.proofs.Decimals.{same_decimal}
use Rattle.line_writing.proofs.head.Goals as goal

pub returns : goal.returns
unfolding head_of
returns c = grind (arith, common_steps, same_decimal, append_assoc)
