-- `host_call_list::check` meets its contract. Assumes nothing.
use mathlib.Core.Path.{sym, ◌∙◌}
use native.Mathlib.Omega.{arith}
use Rattle.std.proofs.lemmas.List.{take_rest, nil_from_length}
use Rattle.host_call_list.proofs.Listing.{seen_none, seen_unknown, seen_cut, seen_here, seen_other, seen_all, invalid}
use Rattle.host_call_list.proofs.check.Goals.{then-count-index, else-count-index}
use Rattle.host_call_list.proofs.check.Goals as goal

pub loop-kind-init : goal.loop-kind-init
loop-kind-init c = seen_none _ _

pub returns-in_err-size : goal.returns-in_err-size
returns-in_err-size c =
    let w = rw c.in-Some.ensures.cases.0 at c.loop-kind.invariant in
    invalid _ c.from_residual.ensures.0 ∙ seen_unknown w (sym c.body_length.ensures ∙ c.in_err-size.ensures.ok_part)

pub returns-in_err-rest : goal.returns-in_err-rest
returns-in_err-rest c =
    let w = rw c.in-Some.ensures.cases.0 at c.loop-kind.invariant in
    let none = rw c.in_err-rest.ensures.ok_part at c.get.ensures.lookup in
    invalid _ c.from_residual-in_err-rest.ensures.0 ∙ seen_cut w (sym c.body_length.ensures ∙ c.in_ok-size.ensures.ok_part) (omega arith)

pub loop-kind-preserved : goal.loop-kind-preserved
loop-kind-preserved c =
    let w = rw c.in-Some.ensures.cases.0 at c.loop-kind.invariant in
    let part = rw c.in_ok-rest.ensures.ok_part at c.get.ensures.lookup in
    let size = sym c.body_length.ensures ∙ c.in_ok-size.ensures.ok_part in
    elim c.if-count-index.branch [
      | then-count-index t ↦ rw (t.call-is, part.0.2, take_rest) (seen_here w size part.0.0 t.if-count-index.true)
      | else-count-index t ↦ rw (t.call-is, part.0.2, take_rest) (seen_other w size part.0.0 t.if-count-index.false)
    ]

pub returns : goal.returns
returns c = seen_all (rw (nil_from_length _ c.in_default.ensures.cases) at c.loop-kind.invariant)
