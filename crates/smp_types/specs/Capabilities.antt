-- Believed: the archive's contracts, demand 3 and the worked cases rest on it.
-- I/O capabilities and their codes, Vol 3 Part H, 2.3.2 and 3.5.1. Assumes nothing.
use Rattle.std.specs.Prelude.{ℕ, List, [], ◌∷◌, map, get_or, Result}
use Rattle.octets.specs.Answer.{Answer, refused, accepted, answer_of}
use Rattle.smp_types.specs.declared.capabilities.IoCapabilities.{IoCapabilities}
use Rattle.smp_types.specs.declared.capabilities.IoCapabilities.TheVariants.{DisplayOnly, DisplayYesNo, KeyboardOnly, NoInputNoOutput, KeyboardDisplay}
use Rattle.smp_types.specs.declared.error.InvalidValue.{InvalidValue}

abbrev pub io_code : IoCapabilities → ℕ
io_code DisplayOnly = 0x00
io_code DisplayYesNo = 0x01
io_code KeyboardOnly = 0x02
io_code NoInputNoOutput = 0x03
io_code KeyboardDisplay = 0x04

-- the capabilities in the order of their codes, from 0x00 on
abbrev pub ios : List IoCapabilities
ios = DisplayOnly ∷ DisplayYesNo ∷ KeyboardOnly ∷ NoInputNoOutput ∷ KeyboardDisplay ∷ []

-- the capabilities of a code; a code above 0x04 is refused by 5
abbrev pub io_of : ℕ → Answer IoCapabilities
io_of v = get_or (map accepted ios) v (refused 5)

abbrev pub io_answer : Result IoCapabilities InvalidValue → Answer IoCapabilities
io_answer r = answer_of (λ e. 5) r
