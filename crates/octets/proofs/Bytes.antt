-- The library's words for the octets of a number say what this crate's definitions say. Assumes nothing.
use mathlib.Core.Path.{◌≡◌, refl, sym, ap, ◌∙◌}
use mathlib.Core.List.{List, [], ◌∷◌, ◌++◌, reverse}
use Prim.Native.Nat.{ℕ, zero, suc, ◌+◌, ◌*◌, ◌/◌, ◌%◌, ◌^◌}
use Rattle.std.proofs.Math.Nat.{pow-suc, div-one, div-div-eq-div-mul, mul_comm}
use native.Mathlib.Omega.{arith}
use lib.ListN.{length, get_or, take}
use Rattle.std.specs.Int.{Width, byte_len, byte_at, byte_worth, bytes_low_first, bytes_high_first, sum_through, from_le_bytes, to_le_bytes, from_be_bytes, to_be_bytes, w128}
use Rattle.octets.specs.Octets.{from_octets, to_octets, octets_of, word_of, octets_be, word_be}
use Rattle.std.proofs.lemmas.List.{reverse-append}
use Rattle.octets.proofs.Lists.{whole, reads_from}

-- ---- to octets
octet_of : (i n : ℕ) → byte_at i n ≡ n / 256 ^ i % 256
octet_of zero n = rw div-one
octet_of (suc i) n = refl

low_first : (i k n : ℕ) → bytes_low_first i k n ≡ to_octets k (n / 256 ^ i)
low_first i zero n = refl
low_first i (suc k) n =
    let next : n / 256 ^ i / 256 ≡ n / 256 ^ suc i = rw pow-suc (div-div-eq-div-mul n (256 ^ i) 256) in
    rw (octet_of i n, low_first (suc i) k n, next)

-- one octet more, above the others
to_more : (k n : ℕ) → to_octets (suc k) n ≡ to_octets k n ++ byte_at k n ∷ []
to_more zero n = refl
to_more (suc k) n =
    let next : n / 256 ^ suc k ≡ n / 256 / 256 ^ k = ap (λ (m : ℕ). n / m) (rw pow-suc (mul_comm (256 ^ k) 256)) ∙ sym (div-div-eq-div-mul n 256 (256 ^ k)) in
    ap (λ (l : List ℕ). n % 256 ∷ l) (rw (next, ← octet_of k (n / 256)) (to_more k (n / 256)))

high_first : (k n : ℕ) → bytes_high_first k n ≡ reverse (to_octets k n)
high_first zero n = refl
high_first (suc k) n = rw (to_more k n, reverse-append) (ap (λ (l : List ℕ). byte_at k n ∷ l) (high_first k n))

pub to_le : (w : Width) (n : ℕ) → to_le_bytes w n ≡ to_octets (byte_len w) n
to_le w n = low_first 0 (byte_len w) n ∙ rw div-one

-- ---- from octets
from_more : (n : ℕ) (l : List ℕ) → from_octets (take (suc n) l) ≡ from_octets (take n l) + get_or l n 0 * 256 ^ n
from_more zero [] = refl
from_more zero (x ∷ l) = omega arith
from_more (suc n) [] = omega arith
from_more (suc n) (x ∷ l) = rw (from_more n l, pow-suc) (omega arith)

from_through : (n : ℕ) (l : List ℕ) → sum_through (λ i. byte_worth i (get_or l i 0)) n ≡ from_octets (take (suc n) l)
from_through zero [] = refl
from_through zero (x ∷ l) = omega arith
from_through (suc n) l = rw (from_through n l) (sym (from_more (suc n) l))

pub from_be : (l : List ℕ) → length l ≡ 16 → from_be_bytes w128 l ≡ word_be l
unfolding word_be word_of
from_be l h = at_sixteen l (whole 16 l h)
  where
    at_sixteen : (l : List ℕ) → l ≡ reads_from l 0 0 16 → from_be_bytes w128 l ≡ from_octets (take 16 (reverse l))
    at_sixteen l e = rw e (omega arith)

-- ---- words
pub from_word : (l : List ℕ) → from_le_bytes w128 l ≡ word_of l
unfolding word_of
from_word l = from_through 15 l

pub to_word : (w : ℕ) → to_le_bytes w128 w ≡ octets_of w
unfolding octets_of
to_word w = to_le w128 w

pub to_be : (w : ℕ) → to_be_bytes w128 w ≡ octets_be w
unfolding octets_be octets_of
to_be w = high_first 16 w
