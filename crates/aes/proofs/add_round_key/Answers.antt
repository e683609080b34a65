-- `aes::add_round_key` meets its contract. Assumes nothing.
use Rattle.std.proofs.Common.{rules, ◌≡◌, ◌∙◌, sym, ap, ℕ, ◌<◌, length, get_or}
use Rattle.std.proofs.Common.{ap₂}
use lib.Bits.{bit_xor}
use Rattle.octets.specs.Tabulate.{tabulate}
use Rattle.aes.specs.Aes.{xor_word, add_round_key}
use Rattle.aes.specs.Columns.{four}
use Rattle.aes.proofs.Columns.{four_xor, by_columns, columns}
use Rattle.aes.proofs.add_round_key.Goals as goal

pub returns : goal.returns
unfolding four tabulate xor_word add_round_key
returns c =
    let s = c.args.s in
    let k = c.args.k in
    let ns : length s ≡ 4 = search rules in
    let nk : length k ≡ 4 = search rules in
    let e : (i : ℕ) → i < 4 → four (get_or c.from_fn.result i 0) ≡ xor_word (four (get_or s i 0)) (four (get_or k i 0)) =
    λ i h.
    let x : get_or c.from_fn.result i 0 ≡ bit_xor (get_or s i 0) (get_or k i 0) = search rules in
    ap four x ∙ four_xor (get_or s i 0) (get_or k i 0) in
    by_columns c.from_fn.result _ c.from_fn.ensures.items.long e ∙ ap₂ add_round_key (sym (columns s ns)) (sym (columns k nk))
