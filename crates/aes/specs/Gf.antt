-- Believed: the archive's contracts, demand 3 and the worked cases rest on it.
-- FIPS 197, section 4: octets as elements of GF(2^8), polynomials modulo x^8 + x^4 + x^3 + x + 1; and section 5.1.1,
-- the substitution of one octet. Assumes nothing.
use Rattle.std.specs.Prelude.{ℕ, zero, suc, ◌+◌, ◌*◌, ◌/◌, ◌%◌, ◌^◌}
use Rattle.std.specs.Int.Bits.{bit_xor}

-- the product by {02}: a shift, and {1b} added where a digit was shifted out
unfoldable pub xtime : ℕ → ℕ
xtime a = bit_xor (a * 2 % 256) (a / 128 * 0x1B)

-- the product, by the low n digits of a
unfoldable pub product : ℕ → ℕ → ℕ → ℕ
product zero a b = 0
product (suc n) a b = bit_xor (a % 2 * b) (product n (a / 2) (xtime b))

-- the product of two octets
unfoldable pub times : ℕ → ℕ → ℕ
times a b = product 8 a b

-- acc times the n squares that follow x: x^2, x^4, ..
unfoldable pub squares : ℕ → ℕ → ℕ → ℕ
squares zero x acc = acc
squares (suc n) x acc = squares n (times x x) (times (times x x) acc)

-- the multiplicative inverse, a^254 = a^(2 + 4 + .. + 128); {00} goes to {00}
unfoldable pub inverse : ℕ → ℕ
inverse a = squares 7 a 1

-- digit i of b
unfoldable pub bit : ℕ → ℕ → ℕ
bit b i = b / 2 ^ i % 2

-- digit i of the affine transformation of b, with the constant {63}
unfoldable pub affine_bit : ℕ → ℕ → ℕ
affine_bit b i = (bit b i + bit b ((i + 4) % 8) + bit b ((i + 5) % 8) + bit b ((i + 6) % 8) + bit b ((i + 7) % 8) + bit 0x63 i) % 2

-- the number whose low n digits are f 0, f 1, ..
unfoldable pub from_bits : (ℕ → ℕ) → ℕ → ℕ
from_bits f zero = 0
from_bits f (suc n) = from_bits f n + f n * 2 ^ n

unfoldable pub affine : ℕ → ℕ
affine b = from_bits (affine_bit b) 8

-- the S-box at one octet: the inverse, then the affine transformation
unfoldable pub sub_byte : ℕ → ℕ
sub_byte a = affine (inverse a)
