-- Octets in, octets out: what the cipher gives is 16 octets. Assumes nothing.
use mathlib.Core.Path.{◌≡◌}
use mathlib.Core.Bool.{Bool, true, false, cond}
use mathlib.Core.List.{List, [], ◌∷◌, map}
use Prim.Native.Nat.{ℕ, zero, suc, ◌+◌, ◌-◌, ◌*◌, ◌/◌, ◌%◌, ◌^◌, ◌≤◌, ◌<◌}
use native.Mathlib.Nat.{pow-suc, mod-lt, one-mul, mul-le-mul_right}
use native.Mathlib.Omega.{arith}
use lib.Bits.{bit_xor, xor_lt}
use lib.Dec.{lit<, eqb}
use lib.ListN.{get_or, length, drop}
use Rattle.octets.specs.Tabulate.{tabulate}
use Rattle.octets.proofs.Lists.{length_tabulate}
use Rattle.octets.proofs.Octets.{Octets, octet_at, octets_append, octets_take, octets_drop}
use Rattle.aes.specs.Gf.{xtime, affine_bit, from_bits, affine, inverse, sub_byte}
use Rattle.aes.specs.Aes.{sub_bytes, shift_rows, add_round_key, word, xor_word, rot_word, sub_word, power, rcon, next_word, expand, key_expansion, round_key, rounds, cipher, aes128}

octets_tabulate : (f : ℕ → ℕ) → ((i : ℕ) → f i < 256) → (n : ℕ) → Octets (tabulate f n)
unfolding tabulate
octets_tabulate f h zero = tt
octets_tabulate f h (suc n) = octets_append (tabulate f n) (f n ∷ []) (octets_tabulate f h n) (h n, tt)

-- ---- the substitution
from_bits_lem : (f : ℕ → ℕ) → ((i : ℕ) → f i < 2) → (n : ℕ) → from_bits f n < 2 ^ n
unfolding from_bits
from_bits_lem f h zero = lit< tt
from_bits_lem f h (suc n) =
    let b : f n < 2 = h n in
    let m : f n * 2 ^ n ≤ 2 ^ n = at_most (f n) (2 ^ n) b in
    let r : from_bits f n < 2 ^ n = from_bits_lem f h n in
    rw pow-suc (omega arith)
  where
    below_one : (a : ℕ) → a < 2 → a ≤ 1
    below_one a h = omega arith

    at_most : (a p : ℕ) → a < 2 → a * p ≤ p
    at_most a p h = rw one-mul at (mul-le-mul_right p (below_one a h))

pub sub_octet : (x : ℕ) → sub_byte x < 256
unfolding sub_byte affine affine_bit
sub_octet x = from_bits_lem (affine_bit (inverse x)) (λ i. mod-lt _ (lit< tt)) 8

substituted : (s : List ℕ) → Octets (map sub_byte s)
substituted [] = tt
substituted (x ∷ s) = (sub_octet x, substituted s)

-- ---- the key expansion
at_word : (w : List ℕ) → Octets w → (i : ℕ) → Octets (word w i)
unfolding word
at_word w o i = (octet_at w o (4 * i), (octet_at w o (4 * i + 1), (octet_at w o (4 * i + 2), (octet_at w o (4 * i + 3), tt))))

xored : (v w : List ℕ) → Octets v → Octets w → Octets (xor_word v w)
unfolding xor_word
xored v w p q = (at 0, (at 1, (at 2, (at 3, tt))))
  where
    at : (i : ℕ) → bit_xor (get_or v i 0) (get_or w i 0) < 256
    at i = xor_lt 8 (get_or v i 0) (get_or w i 0) (octet_at v p i) (octet_at w q i)

doubled : (a : ℕ) → a < 256 → xtime a < 256
unfolding xtime
doubled a h = xor_lt 8 (a * 2 % 256) (a / 128 * 0x1B) (omega arith) (omega arith)

power_octet : (n : ℕ) → power n < 256
unfolding power
power_octet zero = lit< tt
power_octet (suc n) = doubled (power n) (power_octet n)

rcon_octets : (j : ℕ) → Octets (rcon j)
unfolding rcon
rcon_octets j = (power_octet (j - 1), (lit< tt, (lit< tt, (lit< tt, tt))))

either_octets : (b : Bool) (v w : List ℕ) → Octets v → Octets w → Octets (cond b v w)
either_octets true v w p q = p
either_octets false v w p q = q

next_octets : (i : ℕ) (w : List ℕ) → Octets w → Octets (next_word i w)
unfolding next_word sub_word
next_octets i w o =
    let last = word w (i - 1) in
    xored (word w (i - 4)) _ (at_word w o (i - 4))
    (either_octets (eqb (i % 4) 0) (xor_word (sub_word (rot_word last)) (rcon (i / 4))) last
    (xored (sub_word (rot_word last)) (rcon (i / 4)) (substituted (rot_word last)) (rcon_octets (i / 4)))
    (at_word w o (i - 1)))

expand_octets : (n : ℕ) (k : List ℕ) → Octets k → Octets (expand n k)
unfolding expand
expand_octets zero k o = o
expand_octets (suc n) k o = octets_append (expand n k) _ (expand_octets n k o) (next_octets (n + 4) (expand n k) (expand_octets n k o))

round_key_octets : (n : ℕ) (k : List ℕ) → Octets k → Octets (round_key n (key_expansion k))
unfolding round_key key_expansion
round_key_octets n k o = octets_take 16 (drop (16 * n) (expand 40 k)) (octets_drop (16 * n) (expand 40 k) (expand_octets 40 k o))

-- ---- the cipher
shifted : (s : List ℕ) → Octets s → Octets (shift_rows s)
unfolding shift_rows
shifted s o = octets_tabulate _ (λ i. octet_at s o _) 16

added : (s k : List ℕ) → Octets s → Octets k → Octets (add_round_key s k)
unfolding add_round_key
added s k p q = octets_tabulate _ (λ i. xor_lt 8 _ _ (octet_at s p i) (octet_at k q i)) 16

pub aes128_octets : (key block : List ℕ) → Octets key → Octets (aes128 key block)
unfolding aes128 cipher sub_bytes
aes128_octets key block o =
    let w = key_expansion key in
    let s = rounds 9 w (add_round_key block (round_key 0 w)) in
    added (shift_rows (sub_bytes s)) (round_key 10 w) (shifted (sub_bytes s) (substituted s)) (round_key_octets 10 key o)

pub aes128_length : (key block : List ℕ) → length (aes128 key block) ≡ 16
unfolding aes128 cipher add_round_key
aes128_length key block = length_tabulate _ 16
