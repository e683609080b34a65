-- Pieces that are written one behind the other, at places i, j, k and m, are written as one. Assumes nothing.
use mathlib.Core.Path.{◌≡◌, ap, ◌∙◌}
use mathlib.Core.List.{List, ◌++◌, append_assoc}
use Prim.Native.Nat.{ℕ, ◌+◌, ◌≤◌}
use native.Mathlib.Omega.{arith}
use lib.ListN.{length, length-append}
use Rattle.octets.specs.Octets.{write_at}
use Rattle.octets.proofs.Parts.{write_then}

pub two : (s : List ℕ)
    (i : ℕ) (a : List ℕ) {s1 : List ℕ} → s1 ≡ write_at s i a
    → (j : ℕ) → j ≡ i + length a → (b : List ℕ) {s2 : List ℕ} → s2 ≡ write_at s1 j b
    → j + length b ≤ length s → s2 ≡ write_at s i (a ++ b)
two s i a e1 j p b e2 h = rw (e2, e1, p) (write_then s a b i (omega arith))

pub three : (s : List ℕ)
    (i : ℕ) (a : List ℕ) {s1 : List ℕ} → s1 ≡ write_at s i a
    → (j : ℕ) → j ≡ i + length a → (b : List ℕ) {s2 : List ℕ} → s2 ≡ write_at s1 j b
    → (k : ℕ) → k ≡ j + length b → (c : List ℕ) {s3 : List ℕ} → s3 ≡ write_at s2 k c
    → k + length c ≤ length s → s3 ≡ write_at s i (a ++ (b ++ c))
three s i a e1 j p b e2 k q c e3 h =
    let l : k ≡ i + length (a ++ b) = rw length-append (omega arith) in
    two s i (a ++ b) (two s i a e1 j p b e2 (omega arith)) k l c e3 h ∙ ap (write_at s i) (append_assoc a b c)

pub four : (s : List ℕ)
    (i : ℕ) (a : List ℕ) {s1 : List ℕ} → s1 ≡ write_at s i a
    → (j : ℕ) → j ≡ i + length a → (b : List ℕ) {s2 : List ℕ} → s2 ≡ write_at s1 j b
    → (k : ℕ) → k ≡ j + length b → (c : List ℕ) {s3 : List ℕ} → s3 ≡ write_at s2 k c
    → (m : ℕ) → m ≡ k + length c → (d : List ℕ) {s4 : List ℕ} → s4 ≡ write_at s3 m d
    → m + length d ≤ length s → s4 ≡ write_at s i (a ++ (b ++ (c ++ d)))
four s i a e1 j p b e2 k q c e3 m r d e4 h =
    three s i (a ++ b) (two s i a e1 j p b e2 (omega arith)) k (rw length-append (omega arith)) c e3 m r d e4 h
    ∙ ap (write_at s i) (append_assoc a b (c ++ d))
