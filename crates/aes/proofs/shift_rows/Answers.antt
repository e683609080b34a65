-- `aes::shift_rows` meets its contract. Assumes nothing.
use Rattle.std.proofs.Common.{rules, ◌≡◌, ◌∙◌, sym, ap, ℕ, ◌+◌, ◌*◌, ◌<◌, ◌%◌, [], ◌∷◌, length, get_or, lit<}
use native.Mathlib.Nat.{mod-lt}
use Rattle.octets.specs.Tabulate.{tabulate}
use Rattle.aes.specs.Aes.{shift_rows}
use Rattle.aes.specs.Columns.{four}
use Rattle.aes.proofs.Columns.{joined, by_columns, columns}
use Rattle.aes.proofs.shift_rows.Goals as goal

pub returns : goal.returns
unfolding four tabulate shift_rows
returns c =
    let s = c.args.s in
    let r = c.from_fn.result in
    let n : length s ≡ 4 = search rules in
    let old : (i : ℕ) → i < 4 → get_or c.map-columns.result i [] ≡ four (get_or s i 0) = λ i h. search rules in
    let turned = λ (k i : ℕ). old ((i + k) % 4) (mod-lt (i + k) (lit< tt)) in
    let new : (i : ℕ) → i < 4
    → four (get_or r i 0)
    ≡ get_or (four (get_or s i 0)) 0 0 ∷ get_or (four (get_or s ((i + 1) % 4) 0)) 1 0 ∷ get_or (four (get_or s ((i + 2) % 4) 0)) 2 0 ∷ get_or (four (get_or s ((i + 3) % 4) 0)) 3 0 ∷ [] =
    λ i h.
    let x : get_or r i 0
    ≡ get_or (get_or c.map-columns.result i []) 0 0 + get_or (get_or c.map-columns.result ((i + 1) % 4) []) 1 0 * 256 + get_or (get_or c.map-columns.result ((i + 2) % 4) []) 2 0 * 65536
    + get_or (get_or c.map-columns.result ((i + 3) % 4) []) 3 0 * 16777216 = search rules in
    ap four (x ∙ rw (old i h, turned 1 i, turned 2 i, turned 3 i))
    ∙ joined _ _ _ _ (mod-lt _ (lit< tt)) (mod-lt _ (lit< tt)) (mod-lt _ (lit< tt)) (mod-lt _ (lit< tt)) in
    by_columns r _ c.from_fn.ensures.items.long new ∙ ap shift_rows (sym (columns s n))
