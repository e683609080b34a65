-- `aes::load` meets its contract. Assumes nothing.
use Rattle.std.proofs.Common.{rules, ◌≡◌, ◌∙◌, sym, ap, ℕ, ◌+◌, ◌*◌, ◌<◌, [], ◌∷◌, length, get_or}
use Rattle.octets.proofs.Lists.{whole}
use Rattle.aes.specs.Columns.{four}
use Rattle.aes.proofs.Columns.{joined, by_columns}
use Rattle.aes.proofs.load.Goals as goal

pub returns : goal.returns
returns c =
    let s = c.args.s.now in
    let r = c.from_fn.result in
    let n : length s ≡ 16 = search rules in
    let o : (k : ℕ) → get_or s k 0 < 256 = search rules in
    let column : (i : ℕ) → i < 4 → four (get_or r i 0) ≡ get_or s (4 * i) 0 ∷ get_or s (4 * i + 1) 0 ∷ get_or s (4 * i + 2) 0 ∷ get_or s (4 * i + 3) 0 ∷ [] =
    λ i h.
    let e : get_or r i 0 ≡ get_or s (4 * i) 0 + get_or s (4 * i + 1) 0 * 256 + get_or s (4 * i + 2) 0 * 65536 + get_or s (4 * i + 3) 0 * 16777216 = search rules in
    ap four e ∙ joined _ _ _ _ (o _) (o _) (o _) (o _) in
    by_columns r _ c.from_fn.ensures.items.long column ∙ sym (whole 16 s n)
