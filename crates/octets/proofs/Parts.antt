-- Laws of a part of a list that is written, and of a part that is lent, over place and width. Assumes nothing.
use mathlib.Core.Path.{◌≡◌, refl, sym, ap, ap₂, ◌∙◌}
use mathlib.Core.Bool.{true, false}
use mathlib.Core.List.{List, ◌++◌, append_assoc, append-nil}
use Prim.Native.Nat.{ℕ, ◌+◌, ◌-◌, ◌≤◌, ◌<◌}
use native.Mathlib.Omega.{arith}
use borrow.Author.Tests.{leb-true, le-leb, lt-leb}
use borrow.Rule.Slice.PartMut.{put_mid, Post-is}
use lib.ListN.{length, take, drop, length-append, length-drop, drop_of_length-le}
use lib.Seq.{take_at, drop_at, drop-drop, drop-append-add, length-take-le}
use Rattle.octets.specs.Octets.{fits_at, write_at}

-- ---- a part that is lent, `&mut s[a..e]`, and comes back as q
pub first_part : (s : List ℕ) (a e : ℕ) (q : List ℕ) → a ≤ e → put_mid a (e - a) s q ≡ take a s ++ (q ++ drop e s)
first_part s a e q h = ap (λ (l : List ℕ). take a s ++ (q ++ l)) (Post-is a e s h)

-- ---- writing at a place
module _ (s : List ℕ) (at : ℕ) (w : List ℕ) where
  pub fits : at + length w ≤ length s → fits_at s at w ≡ true
  unfolding fits_at
  fits h = le-leb (at + length w) (length s) h

  pub fits_not : length s < at + length w → fits_at s at w ≡ false
  unfolding fits_at
  fits_not h = lt-leb (at + length w) (length s) h

  pub fitting : fits_at s at w ≡ true → at + length w ≤ length s
  unfolding fits_at
  fitting e = leb-true (at + length w) (length s) e

  pub written : at + length w ≤ length s → write_at s at w ≡ take at s ++ (w ++ drop (at + length w) s)
  unfolding write_at
  written h = rw (fits h)

  pub not_written : length s < at + length w → write_at s at w ≡ s
  unfolding write_at
  not_written h = rw (fits_not h)

  -- a slice keeps its length
  pub length_written : at + length w ≤ length s → length (write_at s at w) ≡ length s
  length_written h =
      let a : length (take at s) ≡ at = length-take-le at s (omega arith) in
      rw (written h) (simp (length-append, length-drop) (omega arith))

-- what was written at a place is read there
pub written_read : (s : List ℕ) (at : ℕ) (w : List ℕ) → at + length w ≤ length s → take (length w) (drop at (write_at s at w)) ≡ w
written_read s at w h =
    let rest : List ℕ = drop (at + length w) s in
    rw (written s at w h)
    (ap (take (length w)) (drop_at (take at s) (w ++ rest) at (length-take-le at s (omega arith))) ∙ take_at w rest (length w) refl)

-- where front has been written and rest follows, w comes next
pub write_next : (front rest w : List ℕ) (at : ℕ) → at ≡ length front → length w ≤ length rest
    → write_at (front ++ rest) at w ≡ (front ++ w) ++ drop (length w) rest
write_next front rest w at e h =
    written (front ++ rest) at w (simp length-append (omega arith))
    ∙ ap (λ (l : List ℕ). l ++ (w ++ drop (at + length w) (front ++ rest))) (take_at front rest at (sym e))
    ∙ ap (λ (n : ℕ). front ++ (w ++ drop (n + length w) (front ++ rest))) e
    ∙ ap (λ (l : List ℕ). front ++ (w ++ l)) (drop-append-add front rest (length w))
    ∙ sym (append_assoc front w (drop (length w) rest))

-- v is written, and then w behind it: both are
pub write_then : (s v w : List ℕ) (at : ℕ) → at + length v + length w ≤ length s → write_at (write_at s at v) (at + length v) w ≡ write_at s at (v ++ w)
write_then s v w at h =
    let front : List ℕ = take at s ++ v in
    let rest : List ℕ = drop (at + length v) s in
    let l : length (take at s) ≡ at = length-take-le at s (omega arith) in
    let k : at + length v ≡ length front = sym (length-append (take at s) v ∙ ap (λ (n : ℕ). n + length v) l) in
    let room : length w ≤ length rest = rw length-drop (omega arith) in
    let sum : at + length v + length w ≡ at + length (v ++ w) = rw length-append (omega arith) in
    ap (λ (t : List ℕ). write_at t (at + length v) w) (written s at v (omega arith) ∙ sym (append_assoc (take at s) v rest))
    ∙ write_next front rest w (at + length v) k room
    ∙ ap₂ (λ (t u : List ℕ). t ++ u) (append_assoc (take at s) v w) (drop-drop (length w) (at + length v) s ∙ ap (λ (n : ℕ). drop n s) sum)
    ∙ append_assoc (take at s) (v ++ w) (drop (at + length (v ++ w)) s)
    ∙ sym (written s at (v ++ w) (rw sum at h))

-- a string over all of another of its length
pub over_all : (s w : List ℕ) → length s ≡ length w → write_at s 0 w ≡ w
over_all s w h = written s 0 w (omega arith) ∙ ap (λ (l : List ℕ). w ++ l) (drop_of_length-le s {i = 0 + length w} (omega arith)) ∙ append-nil w
