-- Laws of octets that are read from lower-case digits, as `hex` reads them. Assumes nothing.
use Rattle.std.specs.Prelude.{Option, Some, None, Result, Ok, Err, is_some}
use Rattle.std.specs.Bool.{then_some}
use Rattle.std.specs.List.{list_all}
use Rattle.std.specs.Result.{result_ok}
use Rattle.std.proofs.lemmas.Grind.{common_steps}
use mathlib.Core.Path.{◌≡◌, refl, sym, ap, ◌∙◌}
use mathlib.Core.Bool.{Bool, true, false, cond, ◌&&◌}
use mathlib.Core.List.{List, [], ◌∷◌, ◌++◌}
use Prim.Native.Nat.{ℕ, suc, ◌+◌, ◌*◌, ◌/◌, ◌%◌, ◌≤◌}
use native.Mathlib.Nat.{zero-add}
use native.Mathlib.Omega.{arith}
use lib.Dec.{leb, eqb}
use borrow.Author.Tests.{leb-true}
use lib.ListN.{length, drop}
use Rattle.octets.proofs.Parts.{written}
use Rattle.hex.specs.Hex.{hex_digit_value, pair_value, decode_pairs, decode_sized, ◌>>=◌}
use Rattle.hex.specs.declared.error.FromHexError.{FromHexError}
use Rattle.hex.proofs.HexLemmas.{decode_pairs-ok}
use Rattle.line_reading.specs.Text.{minus}
use Rattle.line_reading.specs.Lines.{and_then, most, digit_of, octet_of, octets_in, octets_of_length, octets_field, size_of, laid}

-- a digit of a line
abbrev pub is_digit : ℕ → Bool
is_digit c = is_some (digit_of c)

-- it has the value that `hex` gives it
same_digit : (c : ℕ) → is_digit c ≡ true → hex_digit_value c ≡ digit_of c
unfolding digit_of
same_digit c h = grind (arith, common_steps)

some_digit : (c v : ℕ) → digit_of c ≡ Some v → hex_digit_value c ≡ Some v
some_digit c v e = same_digit c (ap is_some e) ∙ e

-- digits are read as `hex` reads them, and nothing else is read
read_by_hex : (i : ℕ) (text : List ℕ) → octets_in text ≡ cond (list_all is_digit text) (result_ok (decode_pairs i text)) None
unfolding octet_of octets_in decode_pairs
read_by_hex i [] = refl
read_by_hex i (c ∷ []) = grind (arith, common_steps)
read_by_hex i (c ∷ d ∷ text) = go (digit_of c) (digit_of d) refl refl (read_by_hex (i + 2) text)
  where
    rest : (x : ℕ) (b : Bool) (r : Result (List ℕ) FromHexError) → octets_in text ≡ cond b (result_ok r) None
        → and_then (octets_in text) (λ o. Some (x ∷ o)) ≡ cond b (result_ok (r >>= (λ o. Ok (x ∷ o)))) None
    rest x true (Ok o) e = rw e
    rest x true (Err o) e = rw e
    rest x false r e = rw e

    go : (a b : Option ℕ) → digit_of c ≡ a → digit_of d ≡ b → octets_in text ≡ cond (list_all is_digit text) (result_ok (decode_pairs (i + 2) text)) None
        → and_then (and_then a (λ h. and_then b (λ l. Some (16 * h + l)))) (λ x. and_then (octets_in text) (λ o. Some (x ∷ o)))
        ≡ cond (is_some a && (is_some b && list_all is_digit text)) (result_ok (pair_value c d i >>= (λ x. decode_pairs (i + 2) text >>= (λ o. Ok (x ∷ o))))) None
    go None b e f k = refl
    go (Some h) None e f k = refl
    go (Some h) (Some l) e f k =
        let n : h * 16 + l ≡ 16 * h + l = omega arith in
        rw (some_digit c h e, some_digit d l f, n) (rest (16 * h + l) (list_all is_digit text) (decode_pairs (i + 2) text) k)

-- a text that is read decodes to its octets, two digits each
pub decoded : (text : List ℕ) {o : List ℕ} → octets_in text ≡ Some o → (decode_sized text (length text / 2) ≡ Ok o) × (length o ≡ length text / 2)
decoded text {o} e =
    let d = go (list_all is_digit text) (decode_pairs 0 text) (sym (read_by_hex 0 text) ∙ e) in
    let n = (decode_pairs-ok 0 text o d).1 in
    (grind (arith, common_steps), omega arith)
  where
    go : (b : Bool) (r : Result (List ℕ) FromHexError) → cond b (result_ok r) None ≡ Some o → r ≡ Ok o
    go true (Ok p) k = cc
    go true (Err p) k = cc
    go false r k = cc

-- so many octets, in an array
pub sized_by_hex : (n : ℕ) (text : List ℕ) → octets_of_length n text ≡ cond (list_all is_digit text) (result_ok (decode_sized text n)) None
unfolding octets_of_length
sized_by_hex n text = rw (read_by_hex 0 text) (go (list_all is_digit text) (decode_pairs 0 text) refl)
  where
    go : (b : Bool) (r : Result (List ℕ) FromHexError) → decode_pairs 0 text ≡ r
        → and_then (cond b (result_ok r) None) (λ o. cond (eqb (length o) n) (Some o) None) ≡ cond b (result_ok (decode_sized text n)) None
    go true (Ok o) e = let m = (decode_pairs-ok 0 text o e).1 in grind (arith, common_steps)
    go true (Err o) e = grind (arith, common_steps)
    go false r e = refl

-- how many octets they are
pub counted : (text : List ℕ) → size_of (octets_in text) ≡ then_some (list_all is_digit text && eqb (length text % 2) 0) (length text / 2)
unfolding octet_of octets_in
counted [] = refl
counted (c ∷ []) = grind (arith, common_steps)
counted (c ∷ d ∷ text) = go (digit_of c) (digit_of d) (octets_in text) (list_all is_digit text) (length text) (counted text)
  where
    go : (a b : Option ℕ) (r : Option (List ℕ)) (t : Bool) (n : ℕ) → size_of r ≡ then_some (t && eqb (n % 2) 0) (n / 2)
        → size_of (and_then (and_then a (λ h. and_then b (λ l. Some (16 * h + l)))) (λ y. and_then r (λ o. Some (y ∷ o))))
        ≡ then_some ((is_some a && (is_some b && t)) && eqb (suc (suc n) % 2) 0) (suc (suc n) / 2)
    go None b r t n e = refl
    go (Some h) None r t n e = refl
    go (Some h) (Some l) None t n e = grind (arith, common_steps)
    go (Some h) (Some l) (Some o) t n e = grind (arith, common_steps)

-- ---- PAYLOAD and ANSWERS

-- a field that is not malformed: its octets are those that `hex` gives, and `-` has none
pub record FieldRead (text : List ℕ) : Type 0 where
  pub octets : List ℕ
  pub field : octets_field text ≡ Some octets
  pub number : length octets ≡ length text / 2
  pub short : length octets ≤ most
  pub decodes : 2 ≤ length text → decode_sized text (length text / 2) ≡ Ok octets

pub field_read : (text : List ℕ) → (octets_field text ≡ None → ⊥) → FieldRead text
unfolding octets_field
field_read [] k = absurd (k refl)
field_read (c ∷ []) k = go (eqb c minus) refl k
  where
    go : (b : Bool) → eqb c minus ≡ b → (and_then (cond b (Some []) None) (λ o. cond (leb (length {A = ℕ} o) most) (Some o) None) ≡ None → ⊥) → FieldRead (c ∷ [])
    go true e j = record { octets = []; field = rw e; number = refl; short = omega arith; decodes = λ h. absurd (omega arith) }
    go false e j = absurd (j refl)
field_read (c ∷ d ∷ l) k = go (octets_in (c ∷ d ∷ l)) refl k
  where
    text : List ℕ
    text = c ∷ d ∷ l

    within : (o : List ℕ) (b : Bool) → octets_in text ≡ Some o → leb (length o) most ≡ b → (cond b (Some o) None ≡ None → ⊥) → FieldRead text
    within o true e s j = let m = decoded text e in record { octets = o; field = rw (e, s); number = m.1; short = leb-true (length o) most s; decodes = λ h. m.0 }
    within o false e s j = absurd (j refl)

    go : (x : Option (List ℕ)) → octets_in text ≡ x → (and_then x (λ o. cond (leb (length o) most) (Some o) None) ≡ None → ⊥) → FieldRead text
    go None e j = absurd (j refl)
    go (Some o) e j = within o (leb (length o) most) e refl j

pub laid_front : (buffer o : List ℕ) → length o ≤ length buffer → laid buffer (Some o) ≡ o ++ drop (length o) buffer
unfolding laid
laid_front buffer o h = written buffer 0 o (omega arith) ∙ rw zero-add
