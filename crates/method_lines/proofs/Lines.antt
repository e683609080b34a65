-- The text line by line, and its lines by their numbers. Assumes nothing.
use mathlib.Core.Path.{◌≡◌, refl, sym, ap, ap₂, ◌∙◌}
use mathlib.Core.List.{List, [], ◌∷◌, ◌++◌}
use Prim.Native.Nat.{ℕ, zero, suc, ◌+◌, ◌*◌, ◌/◌, ◌%◌, ◌<◌, ◌≤◌}
use native.Mathlib.Nat.{le_of_suc-le-suc, not-suc-le-zero, zero-add, mul-zero, mul-suc, mul_comm, le_of_eq}
use native.Mathlib.Omega.{arith}
use lib.ListN.{length, get_or, take, drop, length-append}
use lib.Seq.{take_at, drop-append-add, length-take-le}
use Rattle.std.specs.Prelude.{flat_map, codes}
use Rattle.std.proofs.lemmas.List.FromFn.{get_or-map-range_with_len}
use Rattle.std.proofs.lemmas.List.{flat_map_more, take_more}
use Rattle.std.proofs.lemmas.Nat.{mul-le}
use Rattle.std.proofs.lemmas.List.Folds.{flat_map-map}
use Rattle.octets.specs.Octets.{write_at}
use Rattle.octets.proofs.Parts.{written, write_then, over_all}
use Rattle.smp_types.specs.declared.types.PairingFeatures.{PairingFeatures}
use Rattle.util.specs.Method.{legacy_method}
use Rattle.util.specs.declared.util.PassKeyEntryAction.TheVariants.{Display, Input}
use Rattle.util.specs.declared.util.PairingMethod.{PairingMethod}
use Rattle.util.specs.declared.util.PairingMethod.TheVariants.{JustWorks, NumericComparison, PassKeyEntry, OutOfBand}
use Rattle.method_lines.specs.MethodLines.{Pair, records, pairs, letter, line, text}

-- ---- the pairs by their numbers
pub numbered : Pair → ℕ → Pair
numbered p n = record { terminal = get_or records (n / 20) p.terminal; head = get_or records (n % 20) p.head }

pub pair_numbered : (p : Pair) (n : ℕ) → n < 400 → get_or pairs n p ≡ numbered p n
unfolding numbered legacy_method
pair_numbered p n h = get_or-map-range_with_len (numbered p) 0 400 n n p h (zero-add n)

-- ---- each line has eight octets
letter_length : (m : PairingMethod) → length (letter m) ≡ 1
letter_length JustWorks = refl
letter_length (PassKeyEntry Display Input) = refl
letter_length (PassKeyEntry Input Display) = refl
letter_length (PassKeyEntry Input Input) = refl
letter_length (PassKeyEntry Display Display) = refl
letter_length NumericComparison = refl
letter_length OutOfBand = refl

line_length : (p : Pair) → length (line p) ≡ 8
line_length p = rw letter_length refl

-- ---- the text: each line with its line feed
abbrev pub ended : List ℕ → List ℕ
ended l = l ++ codes "\n"

ended_length : (p : Pair) → length (ended (line p)) ≡ 9
ended_length p = rw (length-append (line p) (codes "\n"), line_length p) refl

-- lines of one length, each at its place
module _ {X : Type 0} (f : X → List ℕ) (n : ℕ) (h : (x : X) → length (f x) ≡ n) where
  pub piece : (xs : List X) (i : ℕ) (d : X) → i < length xs → take n (drop (n * i) (flat_map f xs)) ≡ f (get_or xs i d)
  piece [] i d l = absurd (not-suc-le-zero l)
  piece (x ∷ xs) zero d l = rw mul-zero (take_at (f x) (flat_map f xs) n (h x))
  piece (x ∷ xs) (suc i) d l =
      let e : n * suc i ≡ length (f x) + n * i = omega (arith, mul-suc n i, h x) in
      ap (λ (k : ℕ). take n (drop k (f x ++ flat_map f xs))) e
      ∙ ap (take n) (drop-append-add (f x) (flat_map f xs) (n * i))
      ∙ piece xs i d (le_of_suc-le-suc l)

  pieces_length : (xs : List X) → length (flat_map f xs) ≡ n * length xs
  pieces_length [] = sym (mul-zero n)
  pieces_length (x ∷ xs) = rw (length-append (f x) (flat_map f xs)) (omega (arith, mul-suc n (length xs), h x, pieces_length xs))

  -- where the first i are written over the front of s, one more is written behind them
  pub next : (s : List ℕ) (xs : List X) (i : ℕ) (d : X) → i < length xs → n * length xs ≤ length s
      → write_at (write_at s 0 (flat_map f (take i xs))) (n * i) (f (get_or xs i d)) ≡ write_at s 0 (flat_map f (take (i + 1) xs))
  next s xs i d l room =
      let front : List ℕ = flat_map f (take i xs) in
      let e : length front ≡ n * i = pieces_length (take i xs) ∙ ap (λ (k : ℕ). n * k) (length-take-le i xs (omega arith)) in
      let fits : n * i + n ≤ n * length xs = omega (arith, mul-suc n i, mul-le n (suc i) n (length xs) (omega arith) l) in
      ap (λ (k : ℕ). write_at (write_at s 0 front) k (f (get_or xs i d))) (sym (zero-add (length front) ∙ e))
      ∙ write_then s front (f (get_or xs i d)) 0 (omega (arith, e, h (get_or xs i d)))
      ∙ ap (write_at s 0)
      (flat_map_more f [] (take i xs) (get_or xs i d) ∙ ap (flat_map f) (sym (take_more xs i d l)))

pub line_of : (i : ℕ) (p : Pair) → i < 400 → take 9 (drop (9 * i) text) ≡ ended (line (get_or pairs i p))
unfolding text legacy_method
line_of i p l = ap (λ (s : List ℕ). take 9 (drop (9 * i) s)) (flat_map-map ended line pairs) ∙ piece (λ (q : Pair). ended (line q)) 9 ended_length pairs i p l

-- ---- the text as it is written: its first n lines over the front of s
pub begun : List ℕ → ℕ → List ℕ
begun s n = write_at s 0 (flat_map (λ (p : Pair). ended (line p)) (take n pairs))

pub begun_none : (s : List ℕ) → begun s 0 ≡ s
unfolding begun
begun_none s = written s 0 [] (omega arith)

pub begun_more : (s : List ℕ) (n : ℕ) (t h : PairingFeatures) → length s ≡ 3600 → n < 400
    → get_or records (n / 20) t ≡ t → get_or records (n % 20) h ≡ h
    → write_at (begun s n) (n * 9) (ended (line (record { terminal = t; head = h }))) ≡ begun s (n + 1)
unfolding begun numbered legacy_method
begun_more s n t h e l et eh =
    let p : Pair = record { terminal = t; head = h } in
    ap (λ (q : Pair). write_at (begun s n) (n * 9) (ended (line q)))
    (ap₂ (λ (f g : PairingFeatures). record { terminal = f; head = g }) (sym et) (sym eh) ∙ sym (pair_numbered p n l))
    ∙ ap (λ (k : ℕ). write_at (begun s n) k (ended (line (get_or pairs n p)))) (mul_comm n 9)
    ∙ next (λ (p : Pair). ended (line p)) 9 ended_length s pairs n p l (le_of_eq (sym e))

pub begun_all : (s : List ℕ) (n : ℕ) → length s ≡ 3600 → n ≡ 400 → begun s n ≡ text
unfolding begun text legacy_method
begun_all s n e h = rw h (over_all s text e ∙ sym (flat_map-map ended line pairs))
