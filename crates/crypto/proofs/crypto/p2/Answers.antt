-- `crypto::p2` meets its contract. Assumes nothing.
use mathlib.Core.Path.{◌≡◌, sym, ap₂, ◌∙◌}
use mathlib.Core.List.{List, [], ◌∷◌, ◌++◌}
use Prim.Native.Nat.{ℕ}
use lib.ListN.{length}
use Rattle.octets.specs.Octets.{word_of}
use Rattle.octets.proofs.Lists.{whole}
use Rattle.crypto.proofs.Reading.{p2_reading}
use borrow.Author.Rules.{rules}
use Rattle.crypto.proofs.crypto.p2.Goals as goal

pub returns : goal.returns
returns c =
    let a = c.args in
    let h : length a.ia ≡ 6 = search rules in
    let g : length a.ra ≡ 6 = search rules in
    c.from_octets.ensures.word
    ∙ sym (ap₂ (λ (ia ra : List ℕ). word_of (ra ++ (ia ++ (0 ∷ 0 ∷ 0 ∷ 0 ∷ [])))) (whole 6 a.ia h) (whole 6 a.ra g))
    ∙ sym (p2_reading a.ia a.ra)
