-- Laws of lists, over the width and the index. Assumes nothing.
use mathlib.Core.Path.{◌≡◌, refl, sym, ap, ◌∙◌}
use mathlib.Core.List.{List, [], ◌∷◌}
use Prim.Native.Nat.{ℕ, zero, suc, ◌+◌, ◌≤◌, ◌<◌}
use native.Mathlib.Nat.{add-suc, suc-add, zero-add, le_of_eq}
use native.Mathlib.Numerals.{add-one}
use native.Mathlib.Omega.{arith}
use lib.ListN.{length, get_or, take, drop, replicate, length-append, get_or-append}
use lib.Seq.{drop-cons, take_all, take-take, drop-drop, get_or-take, get_or-drop, get_or_at}
use Rattle.octets.specs.Tabulate.{tabulate}

-- ---- n elements of a list from place at + k on, one by one
abbrev pub reads_from : List ℕ → ℕ → ℕ → ℕ → List ℕ
reads_from s at k zero = []
reads_from s at k (suc n) = get_or s (at + k) 0 ∷ reads_from s at (suc k) n

pub reads_from_lem : (n k at : ℕ) (s : List ℕ) → at + k + n ≤ length s → take n (drop (at + k) s) ≡ reads_from s at k n
reads_from_lem zero k at s h = refl
reads_from_lem (suc n) k at s h =
    rw (drop-cons s (at + k) 0 (omega arith), ← add-suc at k) (ap (λ (l : List ℕ). get_or s (at + k) 0 ∷ l) (reads_from_lem n (suc k) at s (omega arith)))

-- a list of n elements, one by one
pub whole : (n : ℕ) (l : List ℕ) → length l ≡ n → l ≡ reads_from l 0 0 n
whole n l h = sym (take_all n l (le_of_eq h)) ∙ reads_from_lem n 0 0 l (omega arith)

-- ---- a part of a part
pub part_part : (m k n : ℕ) (l : List ℕ) → k + m ≤ n → take m (drop k (take n l)) ≡ take m (drop k l)
part_part m zero n l h = take-take m n l (omega arith)
part_part m (suc k) zero l h = absurd (omega arith)
part_part m (suc k) (suc n) [] h = refl
part_part m (suc k) (suc n) (x ∷ l) h = part_part m k n l (omega arith)

-- m elements from place k on, of the n that begin at place at
pub within_part : (m k n at : ℕ) (s : List ℕ) → k + m ≤ n → take m (drop k (take n (drop at s))) ≡ take m (drop (at + k) s)
within_part m k n at s h = part_part m k n (drop at s) h ∙ ap (take m) (drop-drop k at s)

-- and one of them
pub element_of_part : (k n at : ℕ) (s : List ℕ) → k < n → get_or (take n (drop at s)) k 0 ≡ get_or s (at + k) 0
element_of_part k n at s h = get_or-take n (drop at s) k 0 h ∙ get_or-drop at s k 0

-- ---- a list by its rule
pub length_tabulate : (f : ℕ → ℕ) (n : ℕ) → length (tabulate f n) ≡ n
unfolding tabulate
length_tabulate f zero = refl
length_tabulate f (suc n) = length-append (tabulate f n) (f n ∷ []) ∙ add-one (length (tabulate f n)) ∙ ap suc (length_tabulate f n)

-- element k of k + 1 + m
pub tabulate_at : (f : ℕ → ℕ) (m k : ℕ) → get_or (tabulate f (suc (m + k))) k 0 ≡ f k
unfolding tabulate
tabulate_at f zero k = rw zero-add (get_or_at (tabulate f k) (f k) [] 0 k (length_tabulate f k))
tabulate_at f (suc m) k =
    let s : suc m + k ≡ suc (m + k) = omega arith in
    rw s (get_or-append (tabulate f (suc (m + k))) (f (suc (m + k)) ∷ []) 0 k (rw length_tabulate (omega arith)) ∙ tabulate_at f m k)

-- ---- a list of one value
pub drop_replicate : (m n a : ℕ) → drop m (replicate (m + n) a) ≡ replicate n a
drop_replicate zero n a = ap (λ (k : ℕ). replicate k a) (zero-add n)
drop_replicate (suc m) n a = rw (suc-add m n) (drop_replicate m n a)
