-- Laws of the octets of a column, and of a state of four columns. Assumes nothing.
use mathlib.Core.Path.{◌≡◌, refl, sym, ap, ap₂, ◌∙◌}
use mathlib.Core.List.{List, [], ◌∷◌, ◌++◌, map}
use Prim.Native.Nat.{ℕ, ◌+◌, ◌*◌, ◌/◌, ◌%◌, ◌^◌, ◌≤◌, ◌<◌}
use native.Mathlib.Nat.{mod-lt}
use native.Mathlib.Omega.{arith}
use lib.Bits.{bit_and, bit_or, bit_xor, xor_mod, xor_shr, and_mod, and_shr, and_mask, and_high, and_le_r, or_shifted_r}
use lib.Dec.{lit<}
use lib.ListN.{length, get_or}
use Rattle.std.specs.List.{flat_map}
use Rattle.octets.proofs.Lists.{whole}
use Rattle.aes.specs.Gf.{xtime}
use Rattle.aes.specs.Aes.{word, xor_word, rot_word, sub_word}
use Rattle.aes.specs.Columns.{four, octets, next_key}

-- the octet of w above its lowest k bits
abbrev octet : ℕ → ℕ → ℕ
octet k w = w / 2 ^ k % 256

-- ---- exclusive or, octet by octet
xor_at : (k x y : ℕ) → octet k (bit_xor x y) ≡ bit_xor (octet k x) (octet k y)
xor_at k x y = rw xor_shr (xor_mod (x / 2 ^ k) (y / 2 ^ k) 8)

pub four_xor : (x y : ℕ) → four (bit_xor x y) ≡ xor_word (four x) (four y)
unfolding four xor_word
four_xor x y = λ i. xor_mod x y 8 i ∷ xor_at 8 x y i ∷ xor_at 16 x y i ∷ xor_at 24 x y i ∷ []

-- ---- four octets joined, as `u32::from_le_bytes` does
pub joined : (a b c d : ℕ) → a < 256 → b < 256 → c < 256 → d < 256 → four (a + b * 256 + c * 65536 + d * 16777216) ≡ a ∷ b ∷ c ∷ d ∷ []
unfolding four
joined a b c d ha hb hc hd =
    let w : ℕ = a + b * 256 + c * 65536 + d * 16777216 in
    let e0 : w % 256 ≡ a = omega arith in
    let e1 : w / 256 % 256 ≡ b = omega arith in
    let e2 : w / 65536 % 256 ≡ c = omega arith in
    let e3 : w / 16777216 % 256 ≡ d = omega arith in
    λ i. e0 i ∷ e1 i ∷ e2 i ∷ e3 i ∷ []

-- an octet as a word
pub small : (r : ℕ) → r < 256 → four r ≡ r ∷ 0 ∷ 0 ∷ 0 ∷ []
small r h = ap four (omega arith) ∙ joined r 0 0 0 h (lit< tt) (lit< tt) (lit< tt)

-- a number below 2^32 is its octets, joined
parts : (w : ℕ) → w < 4294967296 → w ≡ w % 256 + w / 256 % 256 * 256 + w / 65536 % 256 * 65536 + w / 16777216 % 256 * 16777216
parts w h = omega arith

-- `rotate_right(8)`
pub rotated_word : (w : ℕ) → w < 4294967296 → four (bit_or (w / 256) (w * 16777216 % 4294967296)) ≡ rot_word (four w)
unfolding four rot_word
rotated_word w h =
    let e : w * 16777216 % 4294967296 ≡ w % 256 * 16777216 = omega arith in
    let m : w % 256 * 16777216 + w / 256 ≡ w / 256 % 256 + w / 65536 % 256 * 256 + w / 16777216 % 256 * 65536 + w % 256 * 16777216 = omega arith in
    rw (e, or_shifted_r (w % 256) 24 (w / 256) (omega arith), m)
    (joined (w / 256 % 256) (w / 65536 % 256) (w / 16777216 % 256) (w % 256) (omega arith) (omega arith) (omega arith) (omega arith))

-- ---- the product by {02} of four octets at once
masked : (k x m b : ℕ) → octet k m ≡ b → octet k (bit_and x m) ≡ bit_and (octet k x) b
masked k x m b e = rw (and_shr, and_mod (x / 2 ^ k) (m / 2 ^ k) 8, e)

-- the digits below the highest of each octet, moved up
moved_up : (x : ℕ) → four (bit_and x 0x7F7F7F7F * 2) ≡ map (λ a. a % 128 * 2) (four x)
unfolding four
moved_up x =
    let l : ℕ = bit_and x 0x7F7F7F7F in
    let m : l ≤ 0x7F7F7F7F = and_le_r x 0x7F7F7F7F in
    let e0 : l % 256 ≡ x % 256 % 128 = and_mod x 0x7F7F7F7F 8 ∙ and_mask (x % 256) 7 in
    let e1 : l / 256 % 256 ≡ x / 256 % 256 % 128 = masked 8 x 0x7F7F7F7F 127 refl ∙ and_mask (x / 256 % 256) 7 in
    let e2 : l / 65536 % 256 ≡ x / 65536 % 256 % 128 = masked 16 x 0x7F7F7F7F 127 refl ∙ and_mask (x / 65536 % 256) 7 in
    let e3 : l / 16777216 % 256 ≡ x / 16777216 % 256 % 128 = masked 24 x 0x7F7F7F7F 127 refl ∙ and_mask (x / 16777216 % 256) 7 in
    scaled l _ _ _ _ (omega arith) e0 e1 e2 e3 (mod-lt _ (lit< tt)) (mod-lt _ (lit< tt)) (mod-lt _ (lit< tt)) (mod-lt _ (lit< tt))
  where
    scaled : (l a b c d : ℕ) → l < 4294967296 → l % 256 ≡ a → l / 256 % 256 ≡ b → l / 65536 % 256 ≡ c → l / 16777216 % 256 ≡ d → a < 128 → b < 128 → c < 128 → d < 128
        → four (l * 2) ≡ a * 2 ∷ b * 2 ∷ c * 2 ∷ d * 2 ∷ []
    scaled l a b c d h ea eb ec ed ha hb hc hd =
        let e : l * 2 ≡ a * 2 + b * 2 * 256 + c * 2 * 65536 + d * 2 * 16777216 = omega (arith, parts l h) in
        ap four e ∙ joined (a * 2) (b * 2) (c * 2) (d * 2) (omega arith) (omega arith) (omega arith) (omega arith)

-- {1b} where the highest digit of an octet is set
reduced : (x : ℕ) → four (bit_and x 0x80808080 / 128 * 27) ≡ map (λ a. a / 128 % 2 * 27) (four x)
unfolding four
reduced x =
    let l : ℕ = bit_and x 0x80808080 in
    let m : l ≤ 0x80808080 = and_le_r x 0x80808080 in
    let e0 : l % 256 ≡ x % 256 / 128 % 2 * 128 = and_mod x 0x80808080 8 ∙ and_high (x % 256) 1 7 in
    let e1 : l / 256 % 256 ≡ x / 256 % 256 / 128 % 2 * 128 = masked 8 x 0x80808080 128 refl ∙ and_high (x / 256 % 256) 1 7 in
    let e2 : l / 65536 % 256 ≡ x / 65536 % 256 / 128 % 2 * 128 = masked 16 x 0x80808080 128 refl ∙ and_high (x / 65536 % 256) 1 7 in
    let e3 : l / 16777216 % 256 ≡ x / 16777216 % 256 / 128 % 2 * 128 = masked 24 x 0x80808080 128 refl ∙ and_high (x / 16777216 % 256) 1 7 in
    scaled l _ _ _ _ (omega arith) e0 e1 e2 e3 (mod-lt _ (lit< tt)) (mod-lt _ (lit< tt)) (mod-lt _ (lit< tt)) (mod-lt _ (lit< tt))
  where
    scaled : (l a b c d : ℕ) → l < 4294967296 → l % 256 ≡ a * 128 → l / 256 % 256 ≡ b * 128 → l / 65536 % 256 ≡ c * 128 → l / 16777216 % 256 ≡ d * 128
        → a < 2 → b < 2 → c < 2 → d < 2 → four (l / 128 * 27) ≡ a * 27 ∷ b * 27 ∷ c * 27 ∷ d * 27 ∷ []
    scaled l a b c d h ea eb ec ed ha hb hc hd =
        let e : l / 128 ≡ a + b * 256 + c * 65536 + d * 16777216 = omega (arith, parts l h) in
        let f : l / 128 * 27 ≡ a * 27 + b * 27 * 256 + c * 27 * 65536 + d * 27 * 16777216 = omega (arith, e) in
        ap four f ∙ joined (a * 27) (b * 27) (c * 27) (d * 27) (omega arith) (omega arith) (omega arith) (omega arith)

one_doubled : (w : ℕ) → bit_xor (w % 256 % 128 * 2) (w % 256 / 128 % 2 * 27) ≡ xtime (w % 256)
unfolding xtime
one_doubled w =
    let e : w % 256 % 128 * 2 ≡ w % 256 * 2 % 256 = omega arith in
    let f : w % 256 / 128 % 2 ≡ w % 256 / 128 = omega arith in
    rw (e, f)

pub doubled : (x : ℕ) → four (bit_xor (bit_and x 0x7F7F7F7F * 2 % 4294967296) (bit_and x 0x80808080 / 128 * 27)) ≡ map xtime (four x)
unfolding four xor_word
doubled x =
    let h : bit_and x 0x7F7F7F7F ≤ 0x7F7F7F7F = and_le_r x 0x7F7F7F7F in
    let e : bit_and x 0x7F7F7F7F * 2 % 4294967296 ≡ bit_and x 0x7F7F7F7F * 2 = omega arith in
    rw e
    (four_xor (bit_and x 0x7F7F7F7F * 2) (bit_and x 0x80808080 / 128 * 27) ∙ ap₂ xor_word (moved_up x) (reduced x)
    ∙ (λ i. one_doubled x i ∷ one_doubled (x / 256) i ∷ one_doubled (x / 65536) i ∷ one_doubled (x / 16777216) i ∷ []))

-- ---- a state of four columns, column by column
pub by_columns : (r : List ℕ) (f : ℕ → List ℕ) → length r ≡ 4 → ((i : ℕ) → i < 4 → four (get_or r i 0) ≡ f i) → octets r ≡ flat_map f (0 ∷ 1 ∷ 2 ∷ 3 ∷ [])
unfolding octets
by_columns r f n e = rw (whole 4 r n, e 0 (lit< tt), e 1 (lit< tt), e 2 (lit< tt), e 3 (lit< tt))

pub columns : (s : List ℕ) → length s ≡ 4 → octets s ≡ flat_map (λ i. four (get_or s i 0)) (0 ∷ 1 ∷ 2 ∷ 3 ∷ [])
columns s n = by_columns s (λ i. four (get_or s i 0)) n (λ i h. refl)

-- the words of the next round key; t is the last word, turned, substituted and with the round constant added
pub next_words : (k : List ℕ) (r t : ℕ) → length k ≡ 4 → four t ≡ xor_word (sub_word (rot_word (four (get_or k 3 0)))) (r ∷ 0 ∷ 0 ∷ 0 ∷ [])
    → octets (bit_xor (get_or k 0 0) t ∷ bit_xor (get_or k 1 0) (bit_xor (get_or k 0 0) t) ∷ bit_xor (get_or k 2 0) (bit_xor (get_or k 1 0) (bit_xor (get_or k 0 0) t))
    ∷ bit_xor (get_or k 3 0) (bit_xor (get_or k 2 0) (bit_xor (get_or k 1 0) (bit_xor (get_or k 0 0) t))) ∷ [])
    ≡ next_key r (octets k)
unfolding four octets word xor_word rot_word sub_word next_key
next_words k r t n e =
    let a = four_xor (get_or k 0 0) t ∙ ap (xor_word (four (get_or k 0 0))) e in
    let b = four_xor (get_or k 1 0) _ ∙ ap (xor_word (four (get_or k 1 0))) a in
    let c = four_xor (get_or k 2 0) _ ∙ ap (xor_word (four (get_or k 2 0))) b in
    let d = four_xor (get_or k 3 0) _ ∙ ap (xor_word (four (get_or k 3 0))) c in
    (λ i. a i ++ b i ++ c i ++ d i) ∙ ap (next_key r) (sym (columns k n))

pub octets_length : (s : List ℕ) → length s ≡ 4 → length (octets s) ≡ 16
unfolding four
octets_length s n = ap length (columns s n)
