-- Laws of numbers and their octets, over the count. Assumes nothing.
use mathlib.Core.Path.{◌≡◌, refl, sym, ap, ◌∙◌}
use mathlib.Core.Bool.{true}
use mathlib.Core.List.{List, [], ◌∷◌, ◌++◌, reverse, reverse_aux}
use Prim.Native.Nat.{ℕ, zero, suc, ◌+◌, ◌*◌, ◌/◌, ◌%◌, ◌^◌, ◌≤◌, ◌<◌}
use native.Mathlib.Nat.{pow-suc, mod-lt, div-lt_iff_lt-mul}
use native.Mathlib.Omega.{arith}
use borrow.Author.Tests.{eq-eqb}
use lib.Dec.{lit<, eqb}
use lib.ListN.{length, get_or, take, drop, replicate}
use lib.Seq.{take_all}
use lib.Pow.{mod-pow-add}
use Rattle.octets.specs.Octets.{from_octets, to_octets, octets_of, word_of}

-- ---- a list of octets: every element is below 256
abbrev pub Octets : List ℕ → Type 0
Octets [] = Unit {0}
Octets (x ∷ l) = (x < 256) × Octets l

pub octet_at : (l : List ℕ) → Octets l → (i : ℕ) → get_or l i 0 < 256
octet_at [] o i = lit< tt
octet_at (x ∷ l) o zero = o.0
octet_at (x ∷ l) o (suc i) = octet_at l o.1 i

pub octets_append : (l m : List ℕ) → Octets l → Octets m → Octets (l ++ m)
octets_append [] m o p = p
octets_append (x ∷ l) m o p = (o.0, octets_append l m o.1 p)

reversed : (l r : List ℕ) → Octets l → Octets r → Octets (reverse_aux l r)
reversed [] r p q = q
reversed (x ∷ l) r p q = reversed l (x ∷ r) p.1 (p.0, q)

pub octets_reverse : (l : List ℕ) → Octets l → Octets (reverse l)
octets_reverse l p = reversed l [] p tt

pub octets_drop : (n : ℕ) (l : List ℕ) → Octets l → Octets (drop n l)
octets_drop zero l p = p
octets_drop (suc n) [] p = tt
octets_drop (suc n) (x ∷ l) p = octets_drop n l p.1

pub octets_take : (n : ℕ) (l : List ℕ) → Octets l → Octets (take n l)
octets_take zero l p = tt
octets_take (suc n) [] p = tt
octets_take (suc n) (x ∷ l) p = (p.0, octets_take n l p.1)

-- ---- a number to octets, and back
pub length_to : (n x : ℕ) → length (to_octets n x) ≡ n
length_to zero x = refl
length_to (suc n) x = ap suc (length_to n (x / 256))

pub octets_to : (n x : ℕ) → Octets (to_octets n x)
octets_to zero x = tt
octets_to (suc n) x = (mod-lt x (lit< tt), octets_to n (x / 256))

-- the number of n octets of x is x, where x has no more
pub from_to : (n x : ℕ) → x < 256 ^ n → from_octets (to_octets n x) ≡ x
from_to zero x h = omega arith
from_to (suc n) x h =
    let fewer : x / 256 < 256 ^ n = (div-lt_iff_lt-mul (lit< tt)).1 (rw pow-suc at h) in
    rw (from_to n (x / 256) fewer) (omega arith)

-- the octets of a number that was read are those that it was read from
pub to_from : (l : List ℕ) → Octets l → to_octets (length l) (from_octets l) ≡ l
to_from [] o = refl
to_from (x ∷ l) o =
    let r : x < 256 = o.0 in
    let low : (x + 256 * from_octets l) % 256 ≡ x = omega arith in
    let high : (x + 256 * from_octets l) / 256 ≡ from_octets l = omega arith in
    rw (low, high) (ap (λ (t : List ℕ). x ∷ t) (to_from l o.1))

-- the low n octets are the remainder by 2^(8n)
pub from_mod : (n x : ℕ) → from_octets (to_octets n x) ≡ x % 2 ^ (8 * n)
from_mod zero x = omega arith
from_mod (suc n) x =
    let e : 8 * suc n ≡ 8 * n + 8 = omega arith in
    rw (from_mod n (x / 256), e, mod-pow-add x (8 * n) 8) (omega arith)

-- fewer octets of the same number
pub take_to : (m n x : ℕ) → m ≤ n → take m (to_octets n x) ≡ to_octets m x
take_to zero n x h = refl
take_to (suc m) zero x h = absurd (omega arith)
take_to (suc m) (suc n) x h = ap (λ (l : List ℕ). x % 256 ∷ l) (take_to m n (x / 256) (omega arith))

-- zeros above the last octet do not change the number
pub from_zeros : (l : List ℕ) (n : ℕ) → from_octets (l ++ replicate n 0) ≡ from_octets l
from_zeros [] zero = refl
from_zeros [] (suc n) = rw (from_zeros [] n)
from_zeros (x ∷ l) n = ap (λ (m : ℕ). x + 256 * m) (from_zeros l n)

-- n octets are a number below 256^n
pub from_lt : (n : ℕ) (l : List ℕ) → Octets l → from_octets (take n l) < 256 ^ n
from_lt zero l o = lit< tt
from_lt (suc n) [] o = positive (suc n)
  where
    positive : (n : ℕ) → 0 < 256 ^ n
    positive zero = lit< tt
    positive (suc n) = let m : 0 < 256 ^ n = positive n in rw pow-suc (omega arith)
from_lt (suc n) (x ∷ l) o =
    let r : x < 256 = o.0 in
    let m : from_octets (take n l) < 256 ^ n = from_lt n l o.1 in
    rw pow-suc (omega arith)

-- ---- a word to octets, and back
pub word_octets_lem : (w : ℕ) → Octets (octets_of w)
unfolding octets_of
word_octets_lem w = octets_to 16 w

pub word_length : (w : ℕ) → length (octets_of w) ≡ 16
unfolding octets_of
word_length w = refl

-- a word is its octets
pub word_back : (w : ℕ) → w < 2 ^ 128 → word_of (octets_of w) ≡ w
unfolding octets_of word_of
word_back w h = from_to 16 w h

-- and 16 octets are those of their word
pub octets_back : (l : List ℕ) → Octets l → length l ≡ 16 → octets_of (word_of l) ≡ l
unfolding octets_of word_of
octets_back l o h =
    ap (λ (m : List ℕ). to_octets 16 (from_octets m)) (take_all 16 l (omega arith))
    ∙ ap (λ (n : ℕ). to_octets n (from_octets l)) (sym h) ∙ to_from l o

-- octets that were read as a word have 128 bits
pub word_lt : (l : List ℕ) → Octets l → word_of l < 2 ^ 128
unfolding word_of
word_lt l o = from_lt 16 l o

-- a number is equal to itself
pub same_number : (n : ℕ) → eqb n n ≡ true
same_number n = eq-eqb n n refl
