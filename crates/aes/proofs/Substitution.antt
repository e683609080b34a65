-- The S-box as it is defined: its entries, and that the inverse inverts. Assumes nothing.
use mathlib.Core.Path.{◌≡◌, refl, sym, ap, ◌∙◌}
use mathlib.Core.Bool.{Bool, ◌||◌}
use mathlib.Core.List.{List, [], ◌∷◌, map}
use Prim.Native.Nat.{ℕ, zero, suc, ◌*◌, ◌/◌, ◌%◌, ◌<◌}
use native.Mathlib.Omega.{arith}
use borrow.Author.Tests.{ne_eqb}
use lib.Bits.{bit_xor, xor_comm}
use lib.Dec.{T, eqb, eqb→eq}
use lib.ListN.{get_or}
use Rattle.std.proofs.lemmas.List.{get_or-map}
use Rattle.octets.proofs.Table.{all_from, entry_rule}
use Rattle.aes.specs.Gf.{xtime, product, times, squares, inverse, affine, sub_byte}

-- ---- the inverse, computed quicker: a sum takes a step for each digit of its first number, here the shorter one
quick_xtime : ℕ → ℕ
quick_xtime a = bit_xor (a / 128 * 0x1B) (a * 2 % 256)

quick_product : ℕ → ℕ → ℕ → ℕ
quick_product zero a b = 0
quick_product (suc n) a b = bit_xor (a % 2 * b) (quick_product n (a / 2) (quick_xtime b))

quick_squares : ℕ → ℕ → ℕ → ℕ
quick_squares zero x acc = acc
quick_squares (suc n) x acc = quick_squares n (quick_product 8 x x) (quick_product 8 (quick_product 8 x x) acc)

quick_xtime_lem : (a : ℕ) → quick_xtime a ≡ xtime a
unfolding quick_xtime xtime
quick_xtime_lem a = xor_comm (a / 128 * 0x1B) (a * 2 % 256)

quick_product_lem : (n a b : ℕ) → quick_product n a b ≡ product n a b
unfolding quick_product product
quick_product_lem zero a b = refl
quick_product_lem (suc n) a b =
    ap (λ (x : ℕ). bit_xor (a % 2 * b) (quick_product n (a / 2) x)) (quick_xtime_lem b) ∙ ap (bit_xor (a % 2 * b)) (quick_product_lem n (a / 2) (xtime b))

quick_squares_lem : (n x acc : ℕ) → quick_squares n x acc ≡ squares n x acc
unfolding quick_squares squares times
quick_squares_lem zero x acc = refl
quick_squares_lem (suc n) x acc =
    let e : quick_product 8 x x ≡ product 8 x x = quick_product_lem 8 x x in
    ap (λ (y : ℕ). quick_squares n y (quick_product 8 y acc)) e ∙ ap (quick_squares n (product 8 x x)) (quick_product_lem 8 (product 8 x x) acc)
    ∙ quick_squares_lem n (product 8 x x) (product 8 (product 8 x x) acc)

quick_inverse : (k : ℕ) → quick_squares 7 k 1 ≡ inverse k
unfolding inverse
quick_inverse k = quick_squares_lem 7 k 1

-- ---- the inverses of 0 to 255, which antt computes
unfoldable pub inverses : List ℕ
inverses =
    0 ∷ 1 ∷ 141 ∷ 246 ∷ 203 ∷ 82 ∷ 123 ∷ 209 ∷ 232 ∷ 79 ∷ 41 ∷ 192 ∷ 176 ∷ 225 ∷ 229 ∷ 199
    ∷ 116 ∷ 180 ∷ 170 ∷ 75 ∷ 153 ∷ 43 ∷ 96 ∷ 95 ∷ 88 ∷ 63 ∷ 253 ∷ 204 ∷ 255 ∷ 64 ∷ 238 ∷ 178
    ∷ 58 ∷ 110 ∷ 90 ∷ 241 ∷ 85 ∷ 77 ∷ 168 ∷ 201 ∷ 193 ∷ 10 ∷ 152 ∷ 21 ∷ 48 ∷ 68 ∷ 162 ∷ 194
    ∷ 44 ∷ 69 ∷ 146 ∷ 108 ∷ 243 ∷ 57 ∷ 102 ∷ 66 ∷ 242 ∷ 53 ∷ 32 ∷ 111 ∷ 119 ∷ 187 ∷ 89 ∷ 25
    ∷ 29 ∷ 254 ∷ 55 ∷ 103 ∷ 45 ∷ 49 ∷ 245 ∷ 105 ∷ 167 ∷ 100 ∷ 171 ∷ 19 ∷ 84 ∷ 37 ∷ 233 ∷ 9
    ∷ 237 ∷ 92 ∷ 5 ∷ 202 ∷ 76 ∷ 36 ∷ 135 ∷ 191 ∷ 24 ∷ 62 ∷ 34 ∷ 240 ∷ 81 ∷ 236 ∷ 97 ∷ 23
    ∷ 22 ∷ 94 ∷ 175 ∷ 211 ∷ 73 ∷ 166 ∷ 54 ∷ 67 ∷ 244 ∷ 71 ∷ 145 ∷ 223 ∷ 51 ∷ 147 ∷ 33 ∷ 59
    ∷ 121 ∷ 183 ∷ 151 ∷ 133 ∷ 16 ∷ 181 ∷ 186 ∷ 60 ∷ 182 ∷ 112 ∷ 208 ∷ 6 ∷ 161 ∷ 250 ∷ 129 ∷ 130
    ∷ 131 ∷ 126 ∷ 127 ∷ 128 ∷ 150 ∷ 115 ∷ 190 ∷ 86 ∷ 155 ∷ 158 ∷ 149 ∷ 217 ∷ 247 ∷ 2 ∷ 185 ∷ 164
    ∷ 222 ∷ 106 ∷ 50 ∷ 109 ∷ 216 ∷ 138 ∷ 132 ∷ 114 ∷ 42 ∷ 20 ∷ 159 ∷ 136 ∷ 249 ∷ 220 ∷ 137 ∷ 154
    ∷ 251 ∷ 124 ∷ 46 ∷ 195 ∷ 143 ∷ 184 ∷ 101 ∷ 72 ∷ 38 ∷ 200 ∷ 18 ∷ 74 ∷ 206 ∷ 231 ∷ 210 ∷ 98
    ∷ 12 ∷ 224 ∷ 31 ∷ 239 ∷ 17 ∷ 117 ∷ 120 ∷ 113 ∷ 165 ∷ 142 ∷ 118 ∷ 61 ∷ 189 ∷ 188 ∷ 134 ∷ 87
    ∷ 11 ∷ 40 ∷ 47 ∷ 163 ∷ 218 ∷ 212 ∷ 228 ∷ 15 ∷ 169 ∷ 39 ∷ 83 ∷ 4 ∷ 27 ∷ 252 ∷ 172 ∷ 230
    ∷ 122 ∷ 7 ∷ 174 ∷ 99 ∷ 197 ∷ 219 ∷ 226 ∷ 234 ∷ 148 ∷ 139 ∷ 196 ∷ 213 ∷ 157 ∷ 248 ∷ 144 ∷ 107
    ∷ 177 ∷ 13 ∷ 214 ∷ 235 ∷ 198 ∷ 14 ∷ 207 ∷ 173 ∷ 8 ∷ 78 ∷ 215 ∷ 227 ∷ 93 ∷ 80 ∷ 30 ∷ 179
    ∷ 91 ∷ 35 ∷ 56 ∷ 52 ∷ 104 ∷ 70 ∷ 3 ∷ 140 ∷ 221 ∷ 156 ∷ 125 ∷ 160 ∷ 205 ∷ 26 ∷ 65 ∷ 28 ∷ []

is_inverse : ℕ → ℕ → Bool
is_inverse k x = eqb (quick_squares 7 k 1) x

all_inverses : T (all_from is_inverse 0 inverses)
unfolding is_inverse inverses quick_xtime quick_product quick_squares
all_inverses = tt

inverse_at : (k : ℕ) → k < 256 → inverse k ≡ get_or inverses k 0
unfolding is_inverse inverses
inverse_at k h = sym (quick_inverse k) ∙ eqb→eq (quick_squares 7 k 1) (get_or inverses k 0) (entry_rule is_inverse inverses 0 all_inverses k h)

-- ---- k times its inverse is 1, for each octet but 0
inverts : ℕ → ℕ → Bool
inverts k x = eqb k 0 || eqb (times k x) 1

all_invert : T (all_from inverts 0 inverses)
unfolding inverts inverses xtime product times
all_invert = tt

pub inverse_rule : (k : ℕ) → 0 < k → k < 256 → times k (inverse k) ≡ 1
unfolding inverts inverses
inverse_rule k p h =
    ap (times k) (inverse_at k h)
    ∙ eqb→eq (times k (get_or inverses k 0)) 1 (rw (ne_eqb k 0 (λ e. omega arith)) at (entry_rule inverts inverses 0 all_invert k h))

-- ---- the S-box is the affine transformation of the inverses
pub sub_byte_at : (k : ℕ) → k < 256 → get_or (map affine inverses) k 0 ≡ sub_byte k
unfolding sub_byte inverses
sub_byte_at k h = get_or-map affine inverses k 0 0 h ∙ ap affine (sym (inverse_at k h))

pub inverse_zero : inverse 0 ≡ 0
unfolding xtime product times squares inverse
inverse_zero = refl
