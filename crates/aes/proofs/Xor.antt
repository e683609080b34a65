-- Sums in GF(2^8): four terms may be rotated; the products by {02} and {03}. Assumes nothing.
use mathlib.Core.Path.{◌≡◌, ◌∙◌, ap}
use Prim.Native.Nat.{ℕ, ◌/◌, ◌%◌}
use native.Mathlib.Nat.{zero-mul, one-mul}
use lib.Bits.{bit_xor, xor_zero_l, xor_zero_r, xor_comm, xor_assoc}
use mathlib.Core.List.{List, [], ◌∷◌, map}
use Rattle.aes.specs.Gf.{xtime, product, times}
use Rattle.aes.specs.Aes.{xor_word, rot_word, mix_column, mixed_at}
use Rattle.aes.specs.Columns.{four}

-- four terms, the first put last
rotated : (a b c d : ℕ) → bit_xor a (bit_xor b (bit_xor c d)) ≡ bit_xor b (bit_xor c (bit_xor d a))
rotated a b c d = xor_comm a (bit_xor b (bit_xor c d)) ∙ xor_assoc b (bit_xor c d) a ∙ ap (bit_xor b) (xor_assoc c d a)

-- ---- the products of MixColumns
times_two : (a : ℕ) → times 2 a ≡ xtime a
unfolding product times
times_two a = simp (zero-mul, one-mul, xor_zero_l, xor_zero_r)

times_three : (a : ℕ) → times 3 a ≡ bit_xor a (xtime a)
unfolding product times
times_three a = simp (zero-mul, one-mul, xor_zero_l, xor_zero_r)

-- a row of the matrix, as the code adds it up; the other rows are its rotations
abbrev mixed_row : ℕ → ℕ → ℕ → ℕ → ℕ
mixed_row a b c d = bit_xor (xtime a) (bit_xor (bit_xor b (xtime b)) (bit_xor c d))

mixed_rows : (a b c d : ℕ) → ◌≡◌ {A = List ℕ} (mixed_row a b c d ∷ mixed_row b c d a ∷ mixed_row c d a b ∷ mixed_row d a b c ∷ []) (mix_column a b c d)
unfolding mix_column
mixed_rows a b c d =
    let b2 : ℕ = xtime b in
    let c2 : ℕ = xtime c in
    let d2 : ℕ = xtime d in
    let a3 : ℕ = bit_xor a (xtime a) in
    let c3 : ℕ = bit_xor c (xtime c) in
    let d3 : ℕ = bit_xor d (xtime d) in
    let r1 : bit_xor a (bit_xor b2 (bit_xor c3 d)) ≡ mixed_row b c d a = rotated a b2 c3 d in
    let r2 : bit_xor a (bit_xor b (bit_xor c2 d3)) ≡ mixed_row c d a b = rotated a b c2 d3 ∙ rotated b c2 d3 a in
    let r3 : bit_xor a3 (bit_xor b (bit_xor c d2)) ≡ mixed_row d a b c = rotated a3 b c d2 ∙ rotated b c d2 a3 ∙ rotated c d2 a3 b in
    simp (times_two, times_three) (cc)

-- a column mixed as the code does it, by sums of the column, its double and their rotations
pub mixed : (x : ℕ) → xor_word (map xtime (four x)) (rot_word (xor_word (xor_word (four x) (map xtime (four x))) (rot_word (xor_word (four x) (rot_word (four x)))))) ≡ mixed_at (four x) 0
unfolding four xor_word rot_word mixed_at
mixed x = mixed_rows (x % 256) (x / 256 % 256) (x / 65536 % 256) (x / 16777216 % 256)
