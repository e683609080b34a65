-- `aes::store` meets its contract. Assumes nothing.
use Rattle.std.proofs.Common.{rules, ◌≡◌, ◌∙◌, sym, ap, ℕ, ◌<◌, ◌/◌, ◌%◌, List, [], length, get_or}
use native.Mathlib.Omega.{arith}
use Rattle.std.proofs.lemmas.List.FromFn.{fill_by_all}
use Rattle.aes.specs.Columns.{four}
use Rattle.aes.proofs.Columns.{columns}
use Rattle.aes.proofs.store.Goals as goal

pub returns : goal.returns
unfolding four
returns c =
    let s = c.args.s in
    let n : length s ≡ 4 = search rules in
    let split : (i : ℕ) → i < 4 → get_or c.map-columns.result i [] ≡ four (get_or s i 0) = λ i h. search rules in
    let e : (i : ℕ) → i < 16 → get_or c.from_fn.result i 0 ≡ get_or (four (get_or s (i / 4) 0)) (i % 4) 0 =
    λ i h.
    let x : get_or c.from_fn.result i 0 ≡ get_or (get_or c.map-columns.result (i / 4) []) (i % 4) 0 = search rules in
    x ∙ ap (λ (l : List ℕ). get_or l (i % 4) 0) (split (i / 4) (omega arith)) in
    fill_by_all (λ i. get_or (four (get_or s (i / 4) 0)) (i % 4) 0) c.from_fn.result 16 0 c.from_fn.ensures.items.long e ∙ sym (columns s n)
