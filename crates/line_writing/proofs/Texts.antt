-- Laws of the texts that are written. Assumes nothing.
use mathlib.Core.Path.{◌≡◌, refl, sym, ap, ◌∙◌}
use mathlib.Core.List.{List, [], ◌∷◌, ◌++◌, append_assoc}
use Prim.Native.Nat.{ℕ, ◌-◌, ◌+◌, ◌*◌, ◌≤◌}
use native.Mathlib.Omega.{arith}
use lib.ListN.{length, take, drop, length-append}
use Rattle.octets.specs.Octets.{write_at}
use Rattle.octets.proofs.Parts.{first_part, written}
use Rattle.machine_record.proofs.Pieces.{two, four}
use Rattle.machine.specs.declared.Machine.{Machine}
use Rattle.machine_record.specs.Record.{machine_octets}
use Rattle.protocol.specs.declared.Stepped.{Stepped}
use Rattle.line_reading.specs.Text.{minus}
use Rattle.line_writing.specs.AnswerLines.{digits_text, octets_text, head_text, rest_text, answer_text}
use borrow.Rule.Slice.PartMut.{put_mid}

-- ---- octets as digits

pub digits_length : (o : List ℕ) → length (digits_text o) ≡ 2 * length o
unfolding digits_text
digits_length [] = refl
digits_length (x ∷ o) = let n = digits_length o in omega arith

pub octets_none : (o : List ℕ) → length o ≡ 0 → octets_text o ≡ minus ∷ []
unfolding octets_text
octets_none [] h = refl
octets_none (x ∷ o) h = absurd (omega arith)

pub octets_digits : (o : List ℕ) → (length o ≡ 0 → ⊥) → octets_text o ≡ digits_text o
unfolding octets_text
octets_digits [] h = absurd (h refl)
octets_digits (x ∷ o) h = refl

pub octets_length : (o : List ℕ) → (length o ≡ 0 → ⊥) → length (octets_text o) ≡ 2 * length o
octets_length o h = ap length (octets_digits o h) ∙ digits_length o

pub octets_at_least : (o : List ℕ) → 2 * length o ≤ length (octets_text o)
unfolding octets_text
octets_at_least [] = omega arith
octets_at_least (x ∷ o) = let n = digits_length (x ∷ o) in omega arith

pub octets_at_most : (o : List ℕ) → length (octets_text o) ≤ 2 * length o + 1
unfolding octets_text
octets_at_most [] = omega arith
octets_at_most (x ∷ o) = let n = digits_length (x ∷ o) in omega arith

-- a part that is lent, and comes back as w
pub part_written : (s : List ℕ) (a e : ℕ) {q w : List ℕ} → q ≡ w → a + length w ≡ e → e ≤ length s → put_mid a (e - a) s q ≡ write_at s a w
part_written s a e {q} {w} f n h =
    first_part s a e q (omega arith) ∙ ap (λ (l : List ℕ). take a s ++ (l ++ drop e s)) f ∙ ap (λ (k : ℕ). take a s ++ (w ++ drop k s)) (sym n) ∙ sym (written s a w (omega arith))

-- ---- five pieces that are written one behind the other are written as one

pub five : (s : List ℕ)
    (i : ℕ) (a : List ℕ) {s1 : List ℕ} → s1 ≡ write_at s i a
    → (j : ℕ) → j ≡ i + length a → (b : List ℕ) {s2 : List ℕ} → s2 ≡ write_at s1 j b
    → (k : ℕ) → k ≡ j + length b → (c : List ℕ) {s3 : List ℕ} → s3 ≡ write_at s2 k c
    → (m : ℕ) → m ≡ k + length c → (d : List ℕ) {s4 : List ℕ} → s4 ≡ write_at s3 m d
    → (n : ℕ) → n ≡ m + length d → (e : List ℕ) {s5 : List ℕ} → s5 ≡ write_at s4 n e
    → n + length e ≤ length s → s5 ≡ write_at s i (a ++ (b ++ (c ++ (d ++ e))))
five s i a e1 j p b e2 k q c e3 m r d e4 n t e e5 h =
    let front : List ℕ = a ++ (b ++ (c ++ d)) in
    let l : n ≡ i + length front = simp length-append (omega arith) in
    two s i front (four s i a e1 j p b e2 k q c e3 m r d e4 (omega arith)) n l e e5 h ∙ ap (write_at s i) (simp append_assoc)

-- ---- how long an answer is

pub line_length : (h : List ℕ) (m : Machine) (list : List ℕ) → length (machine_octets m) ≡ 161
    → length (h ++ rest_text m list) ≡ length h + (324 + length (octets_text list))
unfolding rest_text
line_length h m list e =
    let n = octets_length (machine_octets m) (λ f. omega arith) in
    simp length-append (omega arith)

pub answer_length_lem : (s : Stepped) (list : List ℕ) → length (machine_octets s.machine) ≡ 161
    → length (answer_text s list) ≡ length (head_text s.outcome s.read s.written) + (324 + length (octets_text list))
unfolding answer_text
answer_length_lem s list m = line_length (head_text s.outcome s.read s.written) s.machine list m
