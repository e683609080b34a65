-- Laws of the digits that are written one octet after another. Assumes nothing.
use mathlib.Core.Path.{◌≡◌, refl, sym, ap, ◌∙◌}
use mathlib.Core.List.{List, [], ◌∷◌, ◌++◌, append_assoc, append-nil}
use Prim.Native.Nat.{ℕ, suc, ◌+◌, ◌*◌, ◌/◌, ◌%◌, ◌≤◌, ◌<◌}
use native.Mathlib.Numerals.{add-one}
use native.Mathlib.Omega.{arith}
use lib.ListN.{length, get_or, take, drop, set, length-append, length-drop, drop_of_length-le}
use lib.Seq.{take_all, take-suc, drop-cons, set_at, length-take-le}
use Rattle.line_writing.specs.AnswerLines.{digit_text, digits_text}
use Rattle.line_writing.proofs.Texts.{digits_length}

-- the next two
pub two_digits : (text : List ℕ) (i : ℕ) → 2 * i + 1 < length text
    → drop (2 * i) text ≡ get_or text (2 * i) 0 ∷ get_or text (2 * i + 1) 0 ∷ drop (2 * (i + 1)) text
two_digits text i h =
    let a : suc (2 * i) ≡ 2 * i + 1 = omega arith in
    let b : suc (2 * i + 1) ≡ 2 * (i + 1) = omega arith in
    drop-cons text (2 * i) 0 (omega arith)
    ∙ ap (λ (j : ℕ). get_or text (2 * i) 0 ∷ drop j text) a
    ∙ ap (λ (t : List ℕ). get_or text (2 * i) 0 ∷ t) (drop-cons text (2 * i + 1) 0 h ∙ ap (λ (j : ℕ). get_or text (2 * i + 1) 0 ∷ drop j text) b)

digits_one_more : (o : List ℕ) (x : ℕ) → digits_text (o ++ (x ∷ [])) ≡ digits_text o ++ (digit_text (x / 16) ∷ digit_text (x % 16) ∷ [])
unfolding digits_text
digits_one_more [] x = refl
digits_one_more (y ∷ o) x = ap (λ (l : List ℕ). digit_text (y / 16) ∷ digit_text (y % 16) ∷ l) (digits_one_more o x)

-- two places are set, behind what was written
two_set : (p r : List ℕ) (u v a b n : ℕ) → length p ≡ n → set (set (p ++ (u ∷ v ∷ r)) n a) (n + 1) b ≡ (p ++ (a ∷ b ∷ [])) ++ r
two_set p r u v a b n e =
    let q : List ℕ = p ++ (a ∷ []) in
    let m : length q ≡ n + 1 = rw length-append (omega arith) in
    ap (λ (s : List ℕ). set s (n + 1) b) (set_at p u (v ∷ r) a n e ∙ sym (append_assoc p (a ∷ []) (v ∷ r)))
    ∙ set_at q v r b (n + 1) m
    ∙ append_assoc p (a ∷ []) (b ∷ r)
    ∙ sym (append_assoc p (a ∷ b ∷ []) r)

-- the digits of the first i octets have been written
pub record DigitsPut (octets buffer : List ℕ) (i : ℕ) (left : List ℕ) : Type 0 where
  pub bound : i ≤ length octets
  pub slice : left ≡ digits_text (take i octets) ++ drop (2 * i) buffer

module _ (octets buffer : List ℕ) (size : length buffer ≡ 2 * length octets) where
  pub no_digits : DigitsPut octets buffer 0 buffer
  unfolding digits_text
  no_digits = record { bound = omega arith; slice = refl }

  pub digits_put_length : {i : ℕ} {left : List ℕ} → DigitsPut octets buffer i left → length left ≡ length buffer
  digits_put_length {i} w =
      let bound = w.bound in
      let n = digits_length (take i octets) in
      let m = length-take-le i octets bound in
      ap length w.slice ∙ simp (length-append, length-drop) (omega arith)

  pub more_digits_put : {i a b : ℕ} {left : List ℕ} → DigitsPut octets buffer i left → i < length octets
      → a ≡ digit_text (get_or octets i 0 / 16) → b ≡ digit_text (get_or octets i 0 % 16) → DigitsPut octets buffer (i + 1) (set (set left (2 * i) a) (2 * i + 1) b)
  more_digits_put {i} {a} {b} {left} w h p q =
      let bound = w.bound in
      let front = digits_text (take i octets) in
      let n : length front ≡ 2 * i = digits_length (take i octets) ∙ ap (λ (k : ℕ). 2 * k) (length-take-le i octets bound) in
      let rest = drop (2 * (i + 1)) buffer in
      let last : digits_text (take (i + 1) octets) ≡ front ++ (a ∷ b ∷ []) =
      rw (add-one, take-suc octets i 0 h, digits_one_more (take i octets) (get_or octets i 0), p, q) in
      record {
        bound = omega arith;
        slice =
            ap (λ (s : List ℕ). set (set s (2 * i) a) (2 * i + 1) b) (w.slice ∙ ap (λ (s : List ℕ). front ++ s) (two_digits buffer i (omega arith)))
            ∙ two_set front rest (get_or buffer (2 * i) 0) (get_or buffer (2 * i + 1) 0) a b (2 * i) n
            ∙ ap (λ (s : List ℕ). s ++ rest) (sym last);
      }

  pub all_digits_put : {i : ℕ} {left : List ℕ} → DigitsPut octets buffer i left → length octets ≤ i → left ≡ digits_text octets
  all_digits_put {i} w h =
      let bound = w.bound in
      w.slice ∙ rw (take_all i octets h, drop_of_length-le buffer {i = 2 * i} (omega arith), append-nil)
