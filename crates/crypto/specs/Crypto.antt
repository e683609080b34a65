-- Believed: the archive's contracts, demand 3 and the worked cases rest on it.
-- The functions of legacy pairing, Core Specification Vol 3 Part H, section 2.2, and what document 01 says of keys and
-- nonces ("Same key"). Part H writes a number most significant octet first, and `||` puts the more significant part
-- first: so does this file. Octet strings as they are on the air are the reverse. Assumes nothing.
use Rattle.std.specs.Prelude.{ℕ, ◌-◌, cond, List, [], ◌∷◌, ◌++◌, reverse, length, take, drop, replicate, bit_xor, ◌==◌}
use Rattle.octets.specs.Octets.{octets_of, word_of, octets_be, word_be}
use Rattle.aes.specs.Aes.{aes128}
use Rattle.crypto.specs.declared.crypto.LongTermKey.{LongTermKey}
use Rattle.crypto.specs.declared.crypto.Nonce.{Nonce}
use Rattle.crypto.specs.declared.crypto.Confirm.{Confirm}

-- ---- 2.2.1 Security function e: AES-128, the most significant octet first
unfoldable pub e_of : ℕ → ℕ → ℕ
e_of key plaintext_data = word_be (aes128 (octets_be key) (octets_be plaintext_data))

-- ---- 2.2.3 Confirm value generation function c1
-- preq, pres: the commands with their codes, 7 octets each as on the air; iat, rat: 0 for a public address, 1 for a
-- random one; ia, ra: 6 octets each as on the air

-- p1 = pres || preq || rat' || iat'
unfoldable pub p1_of : List ℕ → List ℕ → ℕ → ℕ → ℕ
p1_of pres preq rat iat = word_be (reverse pres ++ (reverse preq ++ (rat ∷ iat ∷ [])))

-- p2 = padding || ia || ra, the padding 32 zero bits
unfoldable pub p2_of : List ℕ → List ℕ → ℕ
p2_of ia ra = word_be (replicate 4 0 ++ (reverse ia ++ reverse ra))

-- c1 (k, r, preq, pres, iat, rat, ia, ra) = e(k, e(k, r XOR p1) XOR p2)
unfoldable pub c1_of : (k : ℕ) (r : Nonce) (preq pres : List ℕ) (iat : ℕ) (ia : List ℕ) (rat : ℕ) (ra : List ℕ) → Confirm
c1_of k r preq pres iat ia rat ra = record { 0 = e_of k (bit_xor (e_of k (bit_xor r.0 (p1_of pres preq rat iat))) (p2_of ia ra)) }

-- ---- 2.2.4 Key generation function s1
-- r1' and r2' are the least significant 64 bits of r1 and r2; r' = r1' || r2'; s1(k, r1, r2) = e(k, r')
unfoldable pub s1_of : (k : ℕ) (r1 r2 : Nonce) → LongTermKey
s1_of k r1 r2 = record { 0 = e_of k (word_be (drop 8 (octets_be r1.0) ++ drop 8 (octets_be r2.0))) }

-- ---- 2.3.4 Encryption key size: a key keeps the low octets that the size counts, and loses what is above them

-- the first n of an octet string, and zeros in place of the others
unfoldable pub cut : ℕ → List ℕ → List ℕ
cut n l = take n l ++ replicate (length l - n) 0

unfoldable pub masked_of : ℕ → LongTermKey → LongTermKey
masked_of size k = record { 0 = word_of (cut size (octets_of k.0)) }

-- ---- a nonce as it is drawn: 16 octets, most significant first; 0 becomes 1
unfoldable pub non_zero : ℕ → ℕ
non_zero w = cond (w == 0) 1 w

unfoldable pub drawn_nonce : List ℕ → Nonce
drawn_nonce l = record { 0 = non_zero (word_be l) }
