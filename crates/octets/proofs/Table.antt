-- One computed test over a whole list gives the rule at each entry. Assumes nothing.
use mathlib.Core.Path.{sym, subst, ◌∙◌}
use mathlib.Core.Bool.{Bool, true, false, ◌&&◌}
use mathlib.Core.List.{List, [], ◌∷◌}
use Prim.Native.Nat.{ℕ, zero, suc, ◌+◌, ◌<◌}
use native.Mathlib.Nat.{add-zero, add-suc, suc-add, zero-add, not-suc-le-zero, le_of_suc-le-suc}
use lib.Dec.{T}
use lib.ListN.{length, get_or}

first : (a b : Bool) → T (a && b) → T a
first true b t = tt
first false b t = t

second : (a b : Bool) → T (a && b) → T b
second true b t = t
second false b t = absurd t

module _ {A : Type 0} (test : ℕ → A → Bool) where
  -- the test passes at each entry and its place; places are counted from i
  abbrev pub all_from : ℕ → List A → Bool
  all_from i [] = true
  all_from i (x ∷ l) = test i x && all_from (suc i) l

  pub entry_from : (l : List A) (d : A) (i : ℕ) → T (all_from i l) → (k : ℕ) → k < length l → T (test (i + k) (get_or l k d))
  entry_from [] d i t k h = absurd (not-suc-le-zero h)
  entry_from (x ∷ l) d i t zero h = subst (λ (n : ℕ). T (test n x)) (sym (add-zero i)) (first (test i x) (all_from (suc i) l) t)
  entry_from (x ∷ l) d i t (suc k) h =
      subst (λ (n : ℕ). T (test n (get_or l k d))) (suc-add i k ∙ sym (add-suc i k))
      (entry_from l d (suc i) (second (test i x) (all_from (suc i) l) t) k (le_of_suc-le-suc h))

  pub entry_rule : (l : List A) (d : A) → T (all_from 0 l) → (k : ℕ) → k < length l → T (test k (get_or l k d))
  entry_rule l d t k h = subst (λ (n : ℕ). T (test n (get_or l k d))) (zero-add k) (entry_from l d 0 t k h)
