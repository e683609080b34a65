-- `crypto::p1` meets its contract. Assumes nothing.
use mathlib.Core.Path.{◌≡◌, sym, ap₂, ◌∙◌}
use mathlib.Core.List.{List, ◌∷◌, ◌++◌}
use Prim.Native.Nat.{ℕ}
use lib.ListN.{length}
use Rattle.octets.specs.Octets.{word_of}
use Rattle.octets.proofs.Lists.{whole}
use Rattle.crypto.proofs.Reading.{p1_reading}
use borrow.Author.Rules.{rules}
use Rattle.crypto.proofs.crypto.p1.Goals as goal

pub returns : goal.returns
returns c =
    let a = c.args in
    let h : length a.pres ≡ 7 = search rules in
    let g : length a.preq ≡ 7 = search rules in
    c.from_octets.ensures.word
    ∙ sym (ap₂ (λ (pres preq : List ℕ). word_of (a.iat ∷ a.rat ∷ (preq ++ pres))) (whole 7 a.pres h) (whole 7 a.preq g))
    ∙ sym (p1_reading a.pres a.preq a.rat a.iat)
