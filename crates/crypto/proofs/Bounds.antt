-- What e, c1 and s1 give has 128 bits: its octets are read back as itself. Assumes nothing.
use mathlib.Core.Path.{◌≡◌}
use mathlib.Core.List.{List, reverse}
use Prim.Native.Nat.{ℕ, ◌^◌, ◌<◌}
use Rattle.octets.specs.Octets.{octets_of, word_of, octets_be, word_be}
use Rattle.octets.proofs.Octets.{Octets, octets_reverse, word_octets_lem, word_lt, word_back}
use Rattle.aes.specs.Aes.{aes128}
use Rattle.aes.proofs.Bounds.{aes128_octets}
use Rattle.crypto.specs.declared.crypto.Nonce.{Nonce}
use Rattle.crypto.specs.Crypto.{e_of, c1_of, s1_of}

e_octets : (k x : ℕ) → Octets (reverse (aes128 (octets_be k) (octets_be x)))
unfolding octets_be
e_octets k x =
    octets_reverse (aes128 (octets_be k) (octets_be x))
    (aes128_octets (octets_be k) (octets_be x) (octets_reverse (octets_of k) (word_octets_lem k)))

pub e_lt : (k x : ℕ) → e_of k x < 2 ^ 128
unfolding e_of word_be
e_lt k x = word_lt (reverse (aes128 (octets_be k) (octets_be x))) (e_octets k x)

pub e_back : (k x : ℕ) → word_of (octets_of (e_of k x)) ≡ e_of k x
e_back k x = word_back (e_of k x) (e_lt k x)

pub c1_back : (k : ℕ) (r : Nonce) (preq pres : List ℕ) (iat : ℕ) (ia : List ℕ) (rat : ℕ) (ra : List ℕ)
    → word_of (octets_of (c1_of k r preq pres iat ia rat ra).0) ≡ (c1_of k r preq pres iat ia rat ra).0
unfolding c1_of
c1_back k r preq pres iat ia rat ra = e_back k _

pub s1_back : (k : ℕ) (r1 r2 : Nonce) → word_of (octets_of (s1_of k r1 r2).0) ≡ (s1_of k r1 r2).0
unfolding s1_of
s1_back k r1 r2 = e_back k _
