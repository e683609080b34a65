-- A key cut to a size is the remainder by the power of two. Assumes nothing.
use mathlib.Core.Path.{◌≡◌, ap, ap₂, ◌∙◌}
use mathlib.Core.List.{List, ◌++◌, append-nil}
use Prim.Native.Nat.{ℕ, ◌-◌, ◌*◌, ◌%◌, ◌^◌, ◌≤◌, ◌<◌}
use native.Mathlib.Nat.{one-mul}
use native.Mathlib.Omega.{arith}
use lib.Dec.{lit<}
use lib.Pow.{shl_exact}
use lib.ListN.{length, take, replicate, length-append, length-replicate}
use lib.Seq.{take_all}
use Rattle.octets.specs.Octets.{from_octets, to_octets, octets_of, word_of}
use Rattle.octets.proofs.Octets.{length_to, from_mod, take_to, from_zeros, word_back}
use Rattle.crypto.specs.declared.crypto.LongTermKey.{LongTermKey}
use Rattle.crypto.specs.Crypto.{cut, masked_of}

abbrev pub key : ℕ → LongTermKey
key w = record { 0 = w }

-- 16 and above: nothing is cut
pub cut_whole : (l : List ℕ) (n : ℕ) → length l ≤ n → cut n l ≡ l
unfolding cut
cut_whole l n h =
    let e : length l - n ≡ 0 = omega arith in
    ap₂ (λ (t : List ℕ) (m : ℕ). t ++ replicate m 0) (take_all n l h) e ∙ append-nil l

pub masked_whole : (n : ℕ) (k : LongTermKey) → k.0 < 2 ^ 128 → 16 ≤ n → masked_of n k ≡ k
unfolding masked_of octets_of
masked_whole n k l b = ap key (ap word_of (cut_whole (octets_of k.0) n b) ∙ word_back k.0 l)

-- 0 to 16: the low n octets stay
pub masked_part : (n : ℕ) (k : LongTermKey) → n ≤ 16 → masked_of n k ≡ key (k.0 % 2 ^ (8 * n))
unfolding masked_of octets_of word_of cut
masked_part n k b =
    let l : List ℕ = to_octets n k.0 ++ replicate (16 - n) 0 in
    let s : length l ≡ 16 = simp (length-append, length-replicate, length_to) (omega arith) in
    let t : take n (to_octets 16 k.0) ++ replicate (16 - n) 0 ≡ l = ap (λ (m : List ℕ). m ++ replicate (16 - n) 0) (take_to n 16 k.0 b) in
    ap (λ (m : List ℕ). key (from_octets (take 16 m))) t
    ∙ ap (λ (m : List ℕ). key (from_octets m)) (take_all 16 l (omega arith))
    ∙ ap key (from_zeros (to_octets n k.0) (16 - n) ∙ from_mod n k.0)

-- the bound of a number of n octets, as the code shifts it
pub shifted : (n : ℕ) → n ≤ 15 → (1 * 2 ^ (8 * n)) % 2 ^ 128 ≡ 2 ^ (8 * n)
shifted n h = shl_exact {a = 1} 1 (8 * n) 128 (lit< tt) (omega arith) ∙ one-mul (2 ^ (8 * n))
