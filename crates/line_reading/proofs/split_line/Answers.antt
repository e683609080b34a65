-- `line_reading::split_line` meets its contract: a line has a seventh field, fewer than six, or six. Assumes nothing.
use Rattle.std.specs.Prelude.{Result, Ok, Err}
use Rattle.std.specs.Result.{OnErr, MatchResult, IsOk}
use mathlib.Core.Path.{◌≡◌, refl, sym, ap, ◌∙◌}
use borrow.Author.Rules.{rules}
use borrow.Author.Tests.{tests}
use lib.ListN.{length}
use Rattle.std.proofs.lemmas.List.{length-map}
use Rattle.line_reading.proofs.Splits.{six, not_six, all_fields, seventh}
use Rattle.line_reading.proofs.split_line.Goals as goal

-- what holds of a result that is an error, and of one that is none
of_error : {E Q : Type 0} (r : Result (Unit {0}) E) → (IsOk r → ⊥) → OnErr r Q → Q
of_error (Ok x) h q = absurd (h refl)
of_error (Err x) h q = q

of_value : {E P : Type 0} (Q : E → Type 0) (r : Result (Unit {0}) E) → IsOk r → MatchResult r (λ _. P) Q → P
of_value Q (Ok y) h p = p
of_value Q (Err y) h p = cc

pub returns-in_err-ok : goal.returns-in_err-ok
returns-in_err-ok c =
    let f = c.split.ensures in
    let e : IsOk c.extend.result → ⊥ = search rules in
    let m = of_error c.extend.result e c.extend.ensures.one_more in
    let n : length c.extend.new.self.items ≡ 6 = of_error c.extend.result e c.extend.ensures.full in
    let k : length m.1 ≡ 6 = search rules in
    rw c.from_residual.ensures
    (seventh _ c.args.line.now c.split.result _ f.rest f.done f.closure (λ x b q j. search (rules, tests)) m.1 m.2 m.3 k (rw m.4 at m.5))

pub returns-in_default : goal.returns-in_default
returns-in_default c =
    let f = c.split.ensures in
    let e : IsOk c.extend.result = search rules in
    let m = c.extend.ensures.ran in
    let d = of_value _ c.extend.result e m.4 in
    let a = all_fields _ c.args.line.now c.split.result _ f.rest f.done f.closure (λ x b q j. search (rules, tests)) m.1 (rw m.2 at d) in
    let n : length m.1 ≡ 6 → ⊥ = search rules in
    not_six c.args.line.now (λ x. n (sym (length-map m.1 (λ b. b.now)) ∙ ap length a ∙ x))

pub returns : goal.returns
returns c =
    let f = c.split.ensures in
    let e : IsOk c.extend.result = search rules in
    let m = c.extend.ensures.ran in
    let d = of_value _ c.extend.result e m.4 in
    let a = all_fields _ c.args.line.now c.split.result _ f.rest f.done f.closure (λ x b q j. search (rules, tests)) m.1 (rw m.2 at d) in
    let i : c.as_slice.result.now ≡ m.1 = search rules in
    six c.args.line.now _ c.as_slice.result.now (search rules) (rw i a) (search rules)
