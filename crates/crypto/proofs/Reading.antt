-- Document 01 reads the same octet strings least significant octet first: p1 is iat, rat, preq, pres; p2 is ra, ia,
-- four zeros; s1 is over the low 8 octets of r2, then of r1. Both readings are one. Assumes nothing.
use mathlib.Core.Path.{◌≡◌, refl, ap, ◌∙◌}
use mathlib.Core.List.{List, [], ◌∷◌, ◌++◌, reverse, append_assoc, reverse-append, reverse-reverse}
use Prim.Native.Nat.{ℕ, ◌+◌, ◌*◌, ◌%◌, ◌^◌}
use native.Mathlib.Omega.{arith}
use lib.ListN.{take, replicate}
use Rattle.octets.proofs.Octets.{from_mod}
use Rattle.octets.specs.Octets.{octets_of, word_of, octets_be, word_be}
use Rattle.crypto.specs.declared.crypto.Nonce.{Nonce}
use Rattle.crypto.specs.Crypto.{e_of, p1_of, p2_of, s1_of}

pub p1_reading : (pres preq : List ℕ) (rat iat : ℕ) → p1_of pres preq rat iat ≡ word_of (iat ∷ rat ∷ (preq ++ pres))
unfolding p1_of word_be
p1_reading pres preq rat iat = ap word_of (simp (reverse-append, reverse-reverse))

pub p2_reading : (ia ra : List ℕ) → p2_of ia ra ≡ word_of (ra ++ (ia ++ (0 ∷ 0 ∷ 0 ∷ 0 ∷ [])))
unfolding p2_of word_be
p2_reading ia ra =
    let e : reverse (reverse ia ++ reverse ra) ≡ ra ++ ia = simp (reverse-append, reverse-reverse) in
    ap word_of
    (reverse-append (replicate 4 0) (reverse ia ++ reverse ra) ∙ ap (λ (l : List ℕ). l ++ (0 ∷ 0 ∷ 0 ∷ 0 ∷ [])) e
    ∙ append_assoc ra ia (0 ∷ 0 ∷ 0 ∷ 0 ∷ []))

pub s1_reading : (k : ℕ) (r1 r2 : Nonce) → (s1_of k r1 r2).0 ≡ e_of k (word_of (take 8 (octets_of r2.0) ++ take 8 (octets_of r1.0)))
unfolding s1_of octets_be word_be octets_of
s1_reading k r1 r2 = refl

-- the low 64 bits of y above those of x
pub low_halves : (x y : ℕ) → x % 2 ^ 64 + 2 ^ 64 * (y % 2 ^ 64) ≡ word_of (take 8 (octets_of x) ++ take 8 (octets_of y))
unfolding octets_of word_of
low_halves x y = rw (← from_mod 8 x, ← from_mod 8 y) (omega arith)
