-- Samples of the format. Assumes nothing.
use Rattle.std.specs.Prelude.{Some, None}
use mathlib.Core.Path.{◌≡◌, refl}
use mathlib.Core.List.{[], ◌∷◌}
use Rattle.machine.specs.declared.Event.TheVariants.{LinkEncryptedResult, PassKeyInput}
use mathlib.Core.Bool.{true}
use Rattle.machine.specs.declared.Input.TheVariants as input
use Rattle.line_reading.specs.Lines.{fields, digit_of, octet_of, octets_in, octets_of_length, room_of, input_of, octets_field}

-- `c 12`
two_fields : fields (99 ∷ 32 ∷ 49 ∷ 50 ∷ []) ≡ (99 ∷ []) ∷ (49 ∷ 50 ∷ []) ∷ []
unfolding fields
two_fields = refl

-- `c  1`, with two spaces: an empty field stands between
empty_between : fields (99 ∷ 32 ∷ 32 ∷ 49 ∷ []) ≡ (99 ∷ []) ∷ [] ∷ (49 ∷ []) ∷ []
unfolding fields
empty_between = refl

-- `0fa0`
two_octets : octets_in (48 ∷ 102 ∷ 97 ∷ 48 ∷ []) ≡ Some (15 ∷ 160 ∷ [])
unfolding digit_of octet_of octets_in
two_octets = refl

-- `0F`
upper_case : octets_in (48 ∷ 70 ∷ []) ≡ None
unfolding digit_of octet_of octets_in
upper_case = refl

-- `0fa`
odd_digits : octets_in (48 ∷ 102 ∷ 97 ∷ []) ≡ None
unfolding digit_of octet_of octets_in
odd_digits = refl

-- `-`, and nothing
empty_string : octets_field (45 ∷ []) ≡ Some []
unfolding octets_field
empty_string = refl

no_field : octets_field [] ≡ None
unfolding octets_field
no_field = refl

-- `0096`, `4096`, `4097`, `00096`
leading_zeros : room_of (48 ∷ 48 ∷ 57 ∷ 54 ∷ []) ≡ Some 96
unfolding room_of
leading_zeros = refl

longest_list : room_of (52 ∷ 48 ∷ 57 ∷ 54 ∷ []) ≡ Some 4096
unfolding room_of
longest_list = refl

too_long_list : room_of (52 ∷ 48 ∷ 57 ∷ 55 ∷ []) ≡ None
unfolding room_of
too_long_list = refl

five_digits : room_of (48 ∷ 48 ∷ 48 ∷ 57 ∷ 54 ∷ []) ≡ None
unfolding room_of
five_digits = refl

-- `c0b`, `l1`, `i01000000`
command : input_of (99 ∷ 48 ∷ 98 ∷ []) ≡ Some (input.Command 11)
unfolding digit_of octet_of octets_in octets_of_length input_of
command = refl

link_encrypted_lem : input_of (108 ∷ 49 ∷ []) ≡ Some (input.Event (LinkEncryptedResult true))
unfolding input_of
link_encrypted_lem = refl

pass_key_lem : input_of (105 ∷ 48 ∷ 49 ∷ 48 ∷ 48 ∷ 48 ∷ 48 ∷ 48 ∷ 48 ∷ []) ≡ Some (input.Event (PassKeyInput 1))
unfolding digit_of octet_of octets_in octets_of_length input_of
pass_key_lem = refl
