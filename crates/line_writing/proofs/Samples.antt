-- Samples of the format. Assumes nothing.
use mathlib.Core.Path.{◌≡◌, refl}
use mathlib.Core.List.{[], ◌∷◌}
use Rattle.line_writing.specs.AnswerLines.{decimal_in, decimal, digits_text, octets_text}

-- `0` and `4096`
zero_text : decimal 0 ≡ 48 ∷ []
unfolding decimal_in decimal
zero_text = refl

count_text : decimal 4096 ≡ 52 ∷ 48 ∷ 57 ∷ 54 ∷ []
unfolding decimal_in decimal
count_text = refl

-- `0fa0`, and `-`
octets_text_lem : octets_text (15 ∷ 160 ∷ []) ≡ 48 ∷ 102 ∷ 97 ∷ 48 ∷ []
unfolding digits_text octets_text
octets_text_lem = refl

no_octets_text : octets_text [] ≡ 45 ∷ []
unfolding octets_text
no_octets_text = refl
