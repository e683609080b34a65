-- Every case of the table holds: one theorem. Assumes nothing.
use mathlib.Core.Path.{refl}
use native.Mathlib.Omega.{arith}
use Rattle.octets.specs.Octets.{octets_of, word_of, word_be}
use Rattle.aes.specs.Gf.{xtime, product, times, squares, inverse, bit, affine_bit, from_bits, affine, sub_byte}
use Rattle.crypto.specs.Crypto.{cut, masked_of, non_zero, drawn_nonce}
use Rattle.crypto.proofs.Cutting.{masked_whole}
use Rattle.smp_types.specs.Types.{features_of}
use Rattle.util.specs.Method.{legacy_method}
use Rattle.cases.specs.Cases.{method_for, read_and_written, cut_to, Cases}

pub cases : Cases
unfolding method_for read_and_written cut_to features_of legacy_method octets_of word_of cut masked_of word_be non_zero drawn_nonce xtime product times squares inverse bit affine_bit from_bits affine sub_byte
cases =
    record {
      io_1_1_just_works = refl;
      io_4_4_terminal_shows = refl;
      io_2_2_both_type = refl;
      key_size_6_refused = refl;
      key_size_17_refused = refl;
      key_size_7_read = refl;
      key_size_16_read = refl;
      cut_to_7 = refl;
      cut_to_16 = λ k l. masked_whole 16 k l (omega arith);
      five_octets_refused = λ a b c d e. refl;
      reason_10_busy = refl;
      reason_11_unspecified = refl;
      reason_00_unspecified = refl;
      sbox_00 = refl;
      sbox_53 = refl;
      nonce_draw_of_zeros = refl;
    }
