-- Every pair stands on the list once, in order, with its letter. Assumes nothing.
use mathlib.Core.Path.{◌≡◌, refl, sym, ap, ap₂, subst, ◌∙◌}
use mathlib.Core.Logic.{◌⊎◌}
use mathlib.Core.Logic.◌⊎◌.{inl, inr}
use mathlib.Core.Bool.{Bool, true, false, cond, ◌&&◌}
use mathlib.Core.List.{List, [], ◌∷◌, ◌++◌, map}
use Prim.Native.Nat.{ℕ, zero, suc, ◌<◌}
use native.Mathlib.Nat.{le_of_suc-le-suc, not-suc-le-zero, lt_irrefl}
use native.Mathlib.Numerals.{add-one}
use native.Mathlib.Omega.{arith}
use lib.Dec.{ltb}
use lib.ListN.{length, get_or}
use Rattle.std.specs.Prelude.{flat_map, Contains, codes}
use Rattle.std.specs.List.Sorted.{IsStrictlyIncreasing}
use Rattle.std.proofs.lemmas.Bool.{and_parts, ltb-true, cases_order}
use Rattle.std.proofs.lemmas.List.{get_or-map, length-map}
use Rattle.std.proofs.lemmas.List.Concat.{flat_map_single}
use Rattle.std.proofs.lemmas.List.Elements.{Contains-append_left, Contains-append_right, Contains-push}
use Rattle.std.proofs.lemmas.List.Kept.{AllPairs-from_increasing}
use Rattle.smp_types.specs.declared.capabilities.IoCapabilities.{IoCapabilities}
use Rattle.smp_types.specs.declared.capabilities.IoCapabilities.TheVariants.{DisplayOnly, DisplayYesNo, KeyboardOnly, NoInputNoOutput, KeyboardDisplay}
use Rattle.smp_types.specs.declared.types.PairingFeatures.{PairingFeatures}
use Rattle.smp_types.specs.declared.types.UseOutOfBand.{UseOutOfBand}
use Rattle.smp_types.specs.declared.types.UseOutOfBand.TheVariants.{NotPresent, Present}
use Rattle.smp_types.specs.Capabilities.{ios, io_code}
use Rattle.smp_types.specs.Types.{oobs, oob_code}
use Rattle.util.specs.declared.util.PairingMethod.{PairingMethod}
use Rattle.util.specs.Method.{legacy_method}
use Rattle.method_lines.specs.MethodLines.{Pair, auth_req, features, records, pairs, digit, digits, letter, line, lines, text}
use Rattle.method_lines.specs.EveryPair.{number, EveryPair}
use Rattle.method_lines.proofs.Lines.{line_of}

-- ---- the octets and the digits of a record
auth_req_octet : (mitm : Bool) → auth_req mitm ≡ cond mitm 4 0
auth_req_octet false = refl
auth_req_octet true = refl

digits_of_record : (io : IoCapabilities) (oob : UseOutOfBand) (mitm : Bool)
    → digits (features io oob mitm) ≡ map digit (io_code io ∷ oob_code oob ∷ cond mitm 1 0 ∷ [])
digits_of_record io oob false = refl
digits_of_record io oob true = refl

-- ---- numbers in order, by a test that computes
abbrev rising : List ℕ → Bool
rising [] = true
rising (m ∷ []) = true
rising (m ∷ n ∷ l) = ltb m n && rising (n ∷ l)

rises : (l : List ℕ) → rising l ≡ true → (k : ℕ) → suc k < length l → get_or l k 0 < get_or l (suc k) 0
rises [] e k h = absurd (not-suc-le-zero h)
rises (m ∷ []) e k h = absurd (not-suc-le-zero (le_of_suc-le-suc h))
rises (m ∷ n ∷ l) e zero h = ltb-true m n (and_parts (ltb m n) (rising (n ∷ l)) e).0
rises (m ∷ n ∷ l) e (suc k) h = rises (n ∷ l) (and_parts (ltb m n) (rising (n ∷ l)) e).1 k (le_of_suc-le-suc h)

all_rise : (l : List ℕ) → rising l ≡ true → IsStrictlyIncreasing l
all_rise l e k h = rw add-one (rises l e k (rw (← add-one k) h))

in_order : IsStrictlyIncreasing (map number lines)
unfolding legacy_method
in_order = all_rise (map number lines) refl

-- ---- every pair stands on the list
contains_flat_map : {X Y : Type 0} (f : X → List Y) (xs : List X) (x : X) (y : Y) → Contains xs x → Contains (f x) y → Contains (flat_map f xs) y
contains_flat_map f [] x y (k, h, e) c = absurd (not-suc-le-zero h)
contains_flat_map f (z ∷ xs) x y (zero, h, e) c =
    Contains-append_left (f z) (flat_map f xs) y (subst (λ w. Contains (f w) y) (sym e) c)
contains_flat_map f (z ∷ xs) x y (suc k, h, e) c =
    Contains-append_right (f z) (flat_map f xs) y (contains_flat_map f xs x y (k, le_of_suc-le-suc h, e) c)

contains_map : {X Y : Type 0} (f : X → Y) (xs : List X) (x : X) → Contains xs x → Contains (map f xs) (f x)
contains_map f xs x c =
    subst (λ l. Contains l (f x)) (flat_map_single f xs) (contains_flat_map (λ w. f w ∷ []) xs x (f x) c (Contains-push [] (f x)))

io_listed : (io : IoCapabilities) → Contains ios io
io_listed DisplayOnly = (0, omega arith, refl)
io_listed DisplayYesNo = (1, omega arith, refl)
io_listed KeyboardOnly = (2, omega arith, refl)
io_listed NoInputNoOutput = (3, omega arith, refl)
io_listed KeyboardDisplay = (4, omega arith, refl)

oob_listed : (oob : UseOutOfBand) → Contains oobs oob
oob_listed NotPresent = (0, omega arith, refl)
oob_listed Present = (1, omega arith, refl)

mitm_listed : (mitm : Bool) → Contains (false ∷ true ∷ []) mitm
mitm_listed false = (0, omega arith, refl)
mitm_listed true = (1, omega arith, refl)

record_listed : (io : IoCapabilities) (oob : UseOutOfBand) (mitm : Bool) → Contains records (features io oob mitm)
record_listed io oob mitm =
    let mitms : List Bool = false ∷ true ∷ [] in
    contains_flat_map (λ i. flat_map (λ o. map (features i o) mitms) oobs) ios io (features io oob mitm) (io_listed io)
    (contains_flat_map (λ o. map (features io o) mitms) oobs oob (features io oob mitm) (oob_listed oob)
    (contains_map (features io oob) mitms mitm (mitm_listed mitm)))

pair_of : PairingFeatures → PairingFeatures → Pair
pair_of t h = record { terminal = t; head = h }

pair_listed : (t h : PairingFeatures) → Contains records t → Contains records h → Contains pairs (record { terminal = t; head = h })
unfolding pair_of
pair_listed t h ct ch = contains_flat_map (λ t. map (pair_of t) records) records t (pair_of t h) ct (contains_map (pair_of t) records h ch)

-- ---- and at no two places: the digits of an earlier line are less
module _ (ps : List Pair) (up : IsStrictlyIncreasing (map number (map line ps))) (p : Pair) where
  number_at : (k : ℕ) → k < length ps → get_or ps k p ≡ p → get_or (map number (map line ps)) k 0 ≡ number (line p)
  number_at k h e =
      get_or-map number (map line ps) k (line p) 0 (rw length-map h) ∙ ap number (get_or-map line ps k p (line p) h ∙ ap line e)

  not_earlier : (i j : ℕ) → i < j → j < length ps → get_or ps i p ≡ p → get_or ps j p ≡ p → ⊥
  not_earlier i j l h ei ej =
      let less = AllPairs-from_increasing (map number (map line ps)) up i j 0 l (rw (length-map, length-map) h) in
      lt_irrefl (number (line p)) (rw (number_at i (omega arith) ei, number_at j h ej) at less)

  one_place : (i j : ℕ) → i < length ps → j < length ps → get_or ps i p ≡ p → get_or ps j p ≡ p → (i ≡ j) ⊎ ((i < j) ⊎ (j < i)) → i ≡ j
  one_place i j hi hj ei ej (inl e) = e
  one_place i j hi hj ei ej (inr (inl l)) = absurd (not_earlier i j l hj ei ej)
  one_place i j hi hj ei ej (inr (inr l)) = absurd (not_earlier j i l hi ej ei)

pub every_pair : EveryPair
unfolding text legacy_method
every_pair =
    record {
      octets_of_record = λ io oob mitm. ap (λ (a : ℕ). io_code io ∷ oob_code oob ∷ a ∷ 16 ∷ 0 ∷ 0 ∷ []) (auth_req_octet mitm);
      stands_once = λ io io' oob oob' mitm mitm'.
          let p : Pair = record { terminal = features io oob mitm; head = features io' oob' mitm' } in (
            pair_listed p.terminal p.head (record_listed io oob mitm) (record_listed io' oob' mitm'),
            λ i j hi hj ei ej. one_place pairs in_order p i j hi hj ei ej (cases_order i j),
          );
      in_order = in_order;
      line_of_records = λ io io' oob oob' mitm mitm'.
          let m : PairingMethod = legacy_method (features io oob mitm) (features io' oob' mitm') in
          ap₂ (λ (t h : List ℕ). t ++ h ++ codes " " ++ letter m) (digits_of_record io oob mitm) (digits_of_record io' oob' mitm');
      four_hundred = refl;
      line_of_pair = line_of;
      text_length = refl;
      first_line = refl;
      last_line = refl;
      just_works = refl;
      terminal_shows = refl;
      head_shows = refl;
      both_type = refl;
      out_of_band = refl;
    }
