-- Inner: words between the code's functions; the archive's contracts, demand 3 and the worked cases do not rest on it.
-- The characters of step lines, by their codes. Assumes nothing.
use Rattle.std.specs.Prelude.{ℕ, List, [], ◌∷◌}

abbrev pub line_feed : ℕ
line_feed = 10

abbrev pub space : ℕ
space = 32

abbrev pub minus : ℕ
minus = 45

-- digits

abbrev pub digit0 : ℕ
digit0 = 48

abbrev pub digit1 : ℕ
digit1 = 49

abbrev pub digit9 : ℕ
digit9 = 57

-- letters

abbrev pub letter_a : ℕ
letter_a = 97

abbrev pub letter_c : ℕ
letter_c = 99

abbrev pub letter_f : ℕ
letter_f = 102

abbrev pub letter_i : ℕ
letter_i = 105

abbrev pub letter_k : ℕ
letter_k = 107

abbrev pub letter_l : ℕ
letter_l = 108

abbrev pub letter_o : ℕ
letter_o = 111

abbrev pub letter_p : ℕ
letter_p = 112

abbrev pub letter_x : ℕ
letter_x = 120

-- words

-- `ended`
abbrev pub ended_word : List ℕ
ended_word = 101 ∷ 110 ∷ 100 ∷ 101 ∷ 100 ∷ []

-- `wants`
abbrev pub wants_word : List ℕ
wants_word = 119 ∷ 97 ∷ 110 ∷ 116 ∷ 115 ∷ []

-- `refused`
abbrev pub refused_word : List ℕ
refused_word = 114 ∷ 101 ∷ 102 ∷ 117 ∷ 115 ∷ 101 ∷ 100 ∷ []

-- `malformed`
abbrev pub malformed_word : List ℕ
malformed_word = 109 ∷ 97 ∷ 108 ∷ 102 ∷ 111 ∷ 114 ∷ 109 ∷ 101 ∷ 100 ∷ []
