-- Inner: words between the code's functions; the archive's contracts, demand 3 and the worked cases do not rest on it.
-- How the code holds the standard's values: a column or a word is one number of four octets, the first lowest; a state
-- or a round key is a list of four of them. Assumes nothing.
use Rattle.std.specs.Prelude.{ℕ, List, [], ◌∷◌, ◌++◌}
use Rattle.std.specs.Int.{w32, to_le_bytes}
use Rattle.std.specs.List.{flat_map}
use Rattle.aes.specs.Aes.{word, xor_word, rot_word, sub_word}

-- the octets of a column or a word
unfoldable pub four : ℕ → List ℕ
four w = to_le_bytes w32 w

-- the octets of a state or a round key
unfoldable pub octets : List ℕ → List ℕ
octets s = flat_map four s

-- the round key after the round key k, word by word: four steps of the key expansion, with the round constant r
unfoldable pub next_key : ℕ → List ℕ → List ℕ
next_key r k =
    let w0 = xor_word (word k 0) (xor_word (sub_word (rot_word (word k 3))) (r ∷ 0 ∷ 0 ∷ 0 ∷ [])) in
    let w1 = xor_word (word k 1) w0 in
    let w2 = xor_word (word k 2) w1 in
    w0 ++ w1 ++ w2 ++ xor_word (word k 3) w2
