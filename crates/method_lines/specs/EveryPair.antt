-- Believed: what is claimed of the list of methods is stated in it.
-- Every pair of records stands on it once, in order, with the letter of Part H's tables. Assumes nothing.
use Rattle.std.specs.Prelude.{ℕ, ◌+◌, ◌-◌, ◌*◌, ◌<◌, ◌≡◌, Bool, cond, List, [], ◌∷◌, ◌++◌, map, length, get_or, take, drop, fold, count_by, Contains, codes, bytes_eq}
use Rattle.std.specs.List.Sorted.{IsStrictlyIncreasing}
use Rattle.smp_types.specs.declared.capabilities.IoCapabilities.{IoCapabilities}
use Rattle.smp_types.specs.declared.types.UseOutOfBand.{UseOutOfBand}
use Rattle.smp_types.specs.Capabilities.{io_code}
use Rattle.smp_types.specs.Types.{oob_code, feature_octets}
use Rattle.util.specs.Method.{legacy_method}
use Rattle.method_lines.specs.MethodLines.{Pair, features, pairs, digit, letter, line, lines, text}

-- x stands on the list, and at one place alone
abbrev pub StandsOnce : {X : Type 0} → List X → X → Type 0
StandsOnce xs x =
    Contains xs x
    × ((i j : ℕ) → i < length xs → j < length xs → get_or xs i x ≡ x → get_or xs j x ≡ x → i ≡ j)

-- the number that the six digits of a line make
abbrev pub number : List ℕ → ℕ
number l = fold (λ n c. 10 * n + (c - 48)) 0 (take 6 l)

-- how many lines have the letter, which stands behind six digits and a space
abbrev pub lines_with : List ℕ → ℕ
lines_with letter = count_by (λ l. bytes_eq (drop 7 l) letter) lines

pub record EveryPair : Type 0 where
  -- a record on the air: I/O, OOB, AuthReq with nothing but MITM as asked, size 16, no keys
  pub octets_of_record : (io : IoCapabilities) (oob : UseOutOfBand) (mitm : Bool)
      → feature_octets (features io oob mitm) ≡ io_code io ∷ oob_code oob ∷ cond mitm 4 0 ∷ 16 ∷ 0 ∷ 0 ∷ []
  -- every record of the terminal with every record of the head
  pub stands_once : (io io' : IoCapabilities) (oob oob' : UseOutOfBand) (mitm mitm' : Bool)
      → StandsOnce pairs (record { terminal = features io oob mitm; head = features io' oob' mitm' })
  -- the digits of each line are less than those of the next
  pub in_order : IsStrictlyIncreasing (map number lines)
  -- the line of a pair: I/O, OOB and MITM of the terminal, those of the head, a space, and the letter of Part H's tables, for
  -- which the terminal is the central
  pub line_of_records : (io io' : IoCapabilities) (oob oob' : UseOutOfBand) (mitm mitm' : Bool)
      → line (record { terminal = features io oob mitm; head = features io' oob' mitm' })
      ≡ map digit (io_code io ∷ oob_code oob ∷ cond mitm 1 0 ∷ io_code io' ∷ oob_code oob' ∷ cond mitm' 1 0 ∷ [])
      ++ codes " " ++ letter (legacy_method (features io oob mitm) (features io' oob' mitm'))
  pub four_hundred : length lines ≡ 400
  -- line i of the text is that of pair i, and ends in a line feed; nothing follows the last
  pub line_of_pair : (i : ℕ) (p : Pair) → i < 400 → take 9 (drop (9 * i) text) ≡ line (get_or pairs i p) ++ codes "\n"
  pub text_length : length text ≡ 9 * 400
  pub first_line : get_or lines 0 [] ≡ codes "000000 J"
  pub last_line : get_or lines 399 [] ≡ codes "411411 O"
  -- how often each method is chosen: 400 in all, so that no line has another letter
  pub just_works : lines_with (codes "J") ≡ 192
  pub terminal_shows : lines_with (codes "C") ≡ 54
  pub head_shows : lines_with (codes "P") ≡ 45
  pub both_type : lines_with (codes "B") ≡ 9
  pub out_of_band : lines_with (codes "O") ≡ 100
