-- Laws of the fields of a line, that `split` gives one after the other. Assumes nothing.
use Rattle.std.specs.Prelude.{Some, None, slice_index_or}
use Rattle.std.specs.Borrow.{Bor}
use Rattle.std.specs.Fn.{CalledAt}
use Rattle.std.specs.Iterator.{Drains, YieldsThen}
use Rattle.std.specs.List.{slice_split, onto_first}
use Rattle.std.specs.Slice.Iter as slice
use Rattle.std.specs.declared.slice.Split.{Split}
use Rattle.std.proofs.lemmas.Iterator.{YieldsList, items_from_drains}
use Rattle.std.proofs.lemmas.Iterator.Consumers.{nth_from_yields_List}
use Rattle.std.proofs.lemmas.Option.{slice_get_past, none-some}
use Rattle.std.proofs.lemmas.Iterator.Splits.{YieldsList-from_slice_split}
use denote.Param.Members.{Mut}
use mathlib.Core.Path.{◌≡◌, refl, subst, sym, ap, ◌∙◌}
use mathlib.Core.Bool.{Bool, true, false, cond}
use mathlib.Core.List.{List, [], ◌∷◌, map}
use Prim.Native.Nat.{ℕ, ◌≤◌, ◌<◌}
use native.Mathlib.Omega.{arith}
use lib.Dec.{leb, eqb}
use borrow.Author.Tests.{le-leb, lt-leb, ne_eqb}
use lib.ListN.{length}
use Rattle.line_reading.specs.Text.{space}
use Rattle.line_reading.specs.Lines.{in_front, fields, line_of, line_in}

-- they are the parts that `split` gives
parts : (l : List ℕ) → slice_split (λ c. eqb c space) l ≡ fields l
unfolding fields
parts [] = refl
parts (c ∷ l) = go (eqb c space) (slice_split (λ b. eqb b space) l) (parts l)
  where
    go : (b : Bool) (fs : List (List ℕ)) {gs : List (List ℕ)} → fs ≡ gs → cond b ([] ∷ fs) (onto_first c fs) ≡ cond b ([] ∷ gs) (in_front c gs)
    go true fs e = ap (λ (gs : List (List ℕ)). [] ∷ gs) e
    go false [] e = ap (in_front c) e
    go false (f ∷ fs) e = ap (in_front c) e

-- ---- lines by the number of their fields

same_either : {A : Type 0} (b : Bool) (x : A) → cond b x x ≡ x
same_either true x = refl
same_either false x = refl

pub too_long : (l : List ℕ) → 20000 < length l → line_of l ≡ None
unfolding line_of
too_long l h = rw (lt-leb (length l) 20000 h)

pub not_six : (l : List ℕ) → (length (fields l) ≡ 6 → ⊥) → line_of l ≡ None
unfolding line_of
not_six l h = rw (ne_eqb (length (fields l)) 6 h) (same_either (leb (length l) 20000) None)

-- a line of six fields
pub six : (l : List ℕ) (d : Bor (List ℕ)) (fs : List (Bor (List ℕ))) → length fs ≡ 6 → map (λ x. x.now) fs ≡ fields l → length l ≤ 20000
    → line_of l
    ≡ line_in
    (record {
      role = slice_index_or fs 0 d;
      room = slice_index_or fs 1 d;
      machine = slice_index_or fs 2 d;
      input = slice_index_or fs 3 d;
      payload = slice_index_or fs 4 d;
      answers = slice_index_or fs 5 d;
    })
unfolding line_of line_in
six l d (r ∷ n ∷ m ∷ i ∷ p ∷ a ∷ []) h e k = rw (le-leb (length l) 20000 k, sym e) refl
six l d [] h e k = cc
six l d (r ∷ []) h e k = cc
six l d (r ∷ n ∷ []) h e k = cc
six l d (r ∷ n ∷ m ∷ []) h e k = cc
six l d (r ∷ n ∷ m ∷ i ∷ []) h e k = cc
six l d (r ∷ n ∷ m ∷ i ∷ p ∷ []) h e k = cc
six l d (r ∷ n ∷ m ∷ i ∷ p ∷ a ∷ x ∷ fs) h e k = absurd (omega arith)

-- ---- what `split` gives

module _ {F : Type 0} (g : Mut F (Bor ℕ × Unit {0}) Bool) (line : List ℕ) (s : Split ℕ F) (f : F) (rest : slice.split_rest s ≡ line) (done : slice.split_done s ≡ false) (closure : slice.split_callee s ≡ f) (tests : (x : ℕ) (b : Bool) (q : F) → CalledAt g f x b q → (q ≡ f) × (b ≡ eqb x space)) where
  gives : YieldsList (slice.split_steps g) (λ x. x.now) s (fields line)
  gives = subst (YieldsList (slice.split_steps g) (λ x. x.now) s) (parts line) (YieldsList-from_slice_split g (λ b. eqb b space) line rest done closure tests)

  -- all of it are the fields
  pub all_fields : (fs : List (Bor (List ℕ))) → Drains (slice.split_steps g) s fs → map (λ x. x.now) fs ≡ fields line
  all_fields fs d = items_from_drains fs (d.1.0, d.1.1, λ _. (d.0, d.1.2)) gives

  -- a seventh field
  pub seventh : (fs : List (Bor (List ℕ))) (x : Bor (List ℕ)) (u : _) → length fs ≡ 6 → YieldsThen (slice.split_steps g) s fs (Some x) u → line_of line ≡ None
  seventh fs x u n y =
      let e = nth_from_yields_List (Some x) u 6 (fs, y, n) gives in
      not_six line (λ m. none-some x.now (sym (slice_get_past (fields line) 6 (omega arith)) ∙ sym e))
