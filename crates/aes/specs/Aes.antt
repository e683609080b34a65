-- Believed: the archive's contracts, demand 3 and the worked cases rest on it.
-- FIPS 197, section 5, for a key of 128 bits: Nk = 4 words, Nr = 10 rounds. The state is 16 octets in the order of the
-- input (section 3.4): octet r + 4c stands in row r and column c. Assumes nothing.
use Rattle.std.specs.Prelude.{ℕ, zero, suc, ◌+◌, ◌-◌, ◌*◌, ◌/◌, ◌%◌, cond, List, [], ◌∷◌, ◌++◌, map, eqb, get_or, take, drop}
use Rattle.std.specs.Int.Bits.{bit_xor}
use Rattle.octets.specs.Tabulate.{tabulate}
use Rattle.aes.specs.Gf.{xtime, times, sub_byte}

-- ---- 5.1.1 SubBytes
unfoldable pub sub_bytes : List ℕ → List ℕ
sub_bytes s = map sub_byte s

-- ---- 5.1.2 ShiftRows: row r is shifted left by r columns
unfoldable pub shift_rows : List ℕ → List ℕ
shift_rows s = tabulate (λ i. get_or s (i % 4 + 4 * ((i / 4 + i % 4) % 4)) 0) 16

-- ---- 5.1.3 MixColumns: each column is multiplied by the matrix {02} {03} {01} {01} and its rotations
unfoldable pub mix_column : ℕ → ℕ → ℕ → ℕ → List ℕ
mix_column s0 s1 s2 s3 =
    bit_xor (times 2 s0) (bit_xor (times 3 s1) (bit_xor s2 s3))
    ∷ bit_xor s0 (bit_xor (times 2 s1) (bit_xor (times 3 s2) s3))
    ∷ bit_xor s0 (bit_xor s1 (bit_xor (times 2 s2) (times 3 s3)))
    ∷ bit_xor (times 3 s0) (bit_xor s1 (bit_xor s2 (times 2 s3)))
    ∷ []

-- column c of the state, mixed
unfoldable pub mixed_at : List ℕ → ℕ → List ℕ
mixed_at s c = mix_column (get_or s (4 * c) 0) (get_or s (4 * c + 1) 0) (get_or s (4 * c + 2) 0) (get_or s (4 * c + 3) 0)

unfoldable pub mix_columns : List ℕ → List ℕ
mix_columns s = mixed_at s 0 ++ mixed_at s 1 ++ mixed_at s 2 ++ mixed_at s 3

-- ---- 5.1.4 AddRoundKey
unfoldable pub add_round_key : List ℕ → List ℕ → List ℕ
add_round_key s k = tabulate (λ i. bit_xor (get_or s i 0) (get_or k i 0)) 16

-- ---- 5.2 KeyExpansion. A word is four octets; the schedule is its words laid end to end.

-- w[i]
unfoldable pub word : List ℕ → ℕ → List ℕ
word w i = get_or w (4 * i) 0 ∷ get_or w (4 * i + 1) 0 ∷ get_or w (4 * i + 2) 0 ∷ get_or w (4 * i + 3) 0 ∷ []

unfoldable pub xor_word : List ℕ → List ℕ → List ℕ
xor_word v w =
    bit_xor (get_or v 0 0) (get_or w 0 0) ∷ bit_xor (get_or v 1 0) (get_or w 1 0) ∷ bit_xor (get_or v 2 0) (get_or w 2 0)
    ∷ bit_xor (get_or v 3 0) (get_or w 3 0) ∷ []

unfoldable pub rot_word : List ℕ → List ℕ
rot_word w = get_or w 1 0 ∷ get_or w 2 0 ∷ get_or w 3 0 ∷ get_or w 0 0 ∷ []

unfoldable pub sub_word : List ℕ → List ℕ
sub_word w = map sub_byte w

-- {02}^n
unfoldable pub power : ℕ → ℕ
power zero = 1
power (suc n) = xtime (power n)

-- Rcon[j]
unfoldable pub rcon : ℕ → List ℕ
rcon j = power (j - 1) ∷ 0 ∷ 0 ∷ 0 ∷ []

-- w[i], from the words before it
unfoldable pub next_word : ℕ → List ℕ → List ℕ
next_word i w =
    xor_word (word w (i - 4)) (cond (eqb (i % 4) 0) (xor_word (sub_word (rot_word (word w (i - 1)))) (rcon (i / 4))) (word w (i - 1)))

-- the first n + 4 words
unfoldable pub expand : ℕ → List ℕ → List ℕ
expand zero key = key
expand (suc n) key = expand n key ++ next_word (n + 4) (expand n key)

-- all 44 words
unfoldable pub key_expansion : List ℕ → List ℕ
key_expansion key = expand 40 key

-- the four words of round n
unfoldable pub round_key : ℕ → List ℕ → List ℕ
round_key n w = take 16 (drop (16 * n) w)

-- ---- 5.1 Cipher
unfoldable pub full_round : List ℕ → List ℕ → List ℕ
full_round s k = add_round_key (mix_columns (shift_rows (sub_bytes s))) k

-- n full rounds, with the round keys 1 to n, from the state s
unfoldable pub rounds : ℕ → List ℕ → List ℕ → List ℕ
rounds zero w s = s
rounds (suc n) w s = full_round (rounds n w s) (round_key (suc n) w)

unfoldable pub cipher : List ℕ → List ℕ → List ℕ
cipher block w = add_round_key (shift_rows (sub_bytes (rounds 9 w (add_round_key block (round_key 0 w))))) (round_key 10 w)

-- AES-128 of a block under a key
unfoldable pub aes128 : List ℕ → List ℕ → List ℕ
aes128 key block = cipher block (key_expansion key)
