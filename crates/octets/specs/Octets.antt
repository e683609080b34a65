-- Believed: the archive's contracts, demand 3 and the worked cases rest on it.
-- Numbers as octet strings. An octet string runs least significant octet first, as on the air, unless a name says
-- otherwise (BE: most significant octet first). Assumes nothing.
use Rattle.std.specs.Prelude.{◌≡◌, ℕ, zero, suc, ◌+◌, ◌*◌, ◌/◌, ◌%◌, Bool, cond, List, [], ◌∷◌, ◌++◌, reverse, leb, length, take, drop}

-- ---- numbers of any width

-- the number that an octet string stands for
abbrev pub from_octets : List ℕ → ℕ
from_octets [] = 0
from_octets (x ∷ xs) = x + 256 * from_octets xs

-- the low n octets of x
abbrev pub to_octets : ℕ → ℕ → List ℕ
to_octets zero x = []
to_octets (suc n) x = x % 256 ∷ to_octets n (x / 256)

-- ---- numbers of 128 bits

-- the 16 octets of a word
unfoldable pub octets_of : ℕ → List ℕ
octets_of w = to_octets 16 w

-- the word of 16 octets
unfoldable pub word_of : List ℕ → ℕ
word_of l = from_octets (take 16 l)

-- the same, most significant octet first
unfoldable pub octets_be : ℕ → List ℕ
octets_be w = reverse (octets_of w)

unfoldable pub word_be : List ℕ → ℕ
word_be l = word_of (reverse l)

-- ---- a string laid over a part of a longer one

-- w fits into s from place at on
unfoldable pub fits_at : List ℕ → ℕ → List ℕ → Bool
fits_at s at w = leb (at + length w) (length s)

-- s with w from place at on; s itself where w does not fit there
unfoldable pub write_at : List ℕ → ℕ → List ℕ → List ℕ
write_at s at w = cond (fits_at s at w) (take at s ++ (w ++ drop (at + length w) s)) s

-- what a write of w into s at place at answers and leaves
pub record Written (s : List ℕ) (at : ℕ) (w : List ℕ) (done : Bool) (left : List ℕ) : Type 0 where
  pub answer : done ≡ fits_at s at w
  pub slice : left ≡ write_at s at w
