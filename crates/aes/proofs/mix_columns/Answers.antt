-- `aes::mix_columns` meets its contract. Assumes nothing.
use Rattle.std.proofs.Common.{rules, ◌≡◌, ◌∙◌, sym, ap, ℕ, ◌<◌, List, [], ◌∷◌, length, get_or}
use Rattle.std.specs.List.{flat_map}
use Rattle.aes.specs.Aes.{mix_column, mixed_at, mix_columns}
use Rattle.aes.specs.Columns.{four, octets}
use Rattle.aes.proofs.Columns.{by_columns, columns}
use Rattle.aes.proofs.mix_columns.Goals as goal

mixed : (s : List ℕ) → length s ≡ 4 → flat_map (λ i. mixed_at (four (get_or s i 0)) 0) (0 ∷ 1 ∷ 2 ∷ 3 ∷ []) ≡ mix_columns (octets s)
unfolding four mix_column mixed_at mix_columns
mixed s n = ap mix_columns (sym (columns s n))

pub returns : goal.returns
returns c =
    let s = c.args.s in
    let n : length s ≡ 4 = search rules in
    let e : (i : ℕ) → i < 4 → four (get_or c.map.result i 0) ≡ mixed_at (four (get_or s i 0)) 0 = λ i h. search rules in
    by_columns c.map.result _ c.map.ensures.items.long e ∙ mixed s n
