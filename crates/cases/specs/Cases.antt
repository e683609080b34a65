-- Believed: the worked cases are stated in it.
-- Document 01, "Strictness of the contracts": the table of cases, each by the definition that the contracts cite.
-- Assumes nothing.
use Rattle.std.specs.Prelude.{ℕ, ◌^◌, ◌<◌, ◌≡◌, List, [], ◌∷◌, ◌++◌, replicate}
use Rattle.octets.specs.Answer.{Answer, refused, accepted, and_then}
use Rattle.octets.specs.Octets.{octets_of, word_of}
use Rattle.aes.specs.Gf.{sub_byte}
use Rattle.crypto.specs.declared.crypto.LongTermKey.{LongTermKey}
use Rattle.crypto.specs.Crypto.{masked_of, drawn_nonce}
use Rattle.smp_types.specs.declared.types.Reason.TheVariants.{UnspecifiedReason, Busy}
use Rattle.smp_types.specs.Types.{reason_of, feature_octets, features_of}
use Rattle.util.specs.declared.util.PairingMethod.{PairingMethod}
use Rattle.util.specs.declared.util.PairingMethod.TheVariants.{JustWorks}
use Rattle.util.specs.Method.{CENTRAL_DISPLAYS, BOTH_INPUT, legacy_method}

-- a feature record on the air: no OOB data, MITM protection asked for, no bonding, no keys
abbrev pub record_of : ℕ → ℕ → List ℕ
record_of io size = io ∷ 0x00 ∷ 0x04 ∷ size ∷ 0x00 ∷ 0x00 ∷ []

-- the method for a terminal and a head with these I/O capabilities
unfoldable pub method_for : ℕ → ℕ → Answer PairingMethod
method_for terminal head =
    and_then (features_of (record_of terminal 16)) (λ central.
    and_then (features_of (record_of head 16)) (λ peripheral.
    accepted (legacy_method central peripheral)))

-- a record is read, and written again
unfoldable pub read_and_written : List ℕ → Answer (List ℕ)
read_and_written s = and_then (features_of s) (λ f. accepted (feature_octets f))

-- a key of 16 octets cut to a size, as octets
unfoldable pub cut_to : ℕ → List ℕ → List ℕ
cut_to size key = octets_of (masked_of size (record { 0 = word_of key })).0

pub record Cases : Type 0 where
  -- with MITM at both ends and no OOB data
  pub io_1_1_just_works : method_for 1 1 ≡ accepted JustWorks
  pub io_4_4_terminal_shows : method_for 4 4 ≡ accepted CENTRAL_DISPLAYS
  pub io_2_2_both_type : method_for 2 2 ≡ accepted BOTH_INPUT
  -- key size octets
  pub key_size_6_refused : features_of (record_of 0 6) ≡ refused 5
  pub key_size_17_refused : features_of (record_of 0 17) ≡ refused 5
  pub key_size_7_read : read_and_written (record_of 0 7) ≡ accepted (record_of 0 7)
  pub key_size_16_read : read_and_written (record_of 0 16) ≡ accepted (record_of 0 16)
  -- a key cut to a size
  pub cut_to_7 : cut_to 7 (replicate 16 0xFF) ≡ replicate 7 0xFF ++ replicate 9 0x00
  pub cut_to_16 : (k : LongTermKey) → k.0 < 2 ^ 128 → masked_of 16 k ≡ k
  -- any five octets
  pub five_octets_refused : (a b c d e : ℕ) → features_of (a ∷ b ∷ c ∷ d ∷ e ∷ []) ≡ refused 4
  -- reason octets
  pub reason_10_busy : reason_of 0x10 ≡ Busy
  pub reason_11_unspecified : reason_of 0x11 ≡ UnspecifiedReason
  pub reason_00_unspecified : reason_of 0x00 ≡ UnspecifiedReason
  -- the S-box
  pub sbox_00 : sub_byte 0x00 ≡ 0x63
  pub sbox_53 : sub_byte 0x53 ≡ 0xED
  -- a nonce draw of zeros is 1
  pub nonce_draw_of_zeros : (drawn_nonce (replicate 16 0x00)).0 ≡ 1
