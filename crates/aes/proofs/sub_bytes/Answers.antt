-- `aes::sub_bytes` meets its contract. Assumes nothing.
use Rattle.std.proofs.Common.{rules, ◌≡◌, ◌∙◌, sym, ap, ℕ, ◌<◌, length, get_or}
use Rattle.aes.specs.Aes.{sub_word, sub_bytes}
use Rattle.aes.specs.Columns.{four}
use Rattle.aes.proofs.Columns.{by_columns, columns}
use Rattle.aes.proofs.sub_bytes.Goals as goal

pub returns : goal.returns
unfolding four sub_word sub_bytes
returns c =
    let s = c.args.s in
    let n : length s ≡ 4 = search rules in
    let e : (i : ℕ) → i < 4 → four (get_or c.map.result i 0) ≡ sub_word (four (get_or s i 0)) = λ i h. search rules in
    by_columns c.map.result _ c.map.ensures.items.long e ∙ ap sub_bytes (sym (columns s n))
