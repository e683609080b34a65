-- `aes::cipher` meets its contract. Assumes nothing.
use mathlib.Core.Path.{◌≡◌, refl, sym, ap, ap₂, ◌∙◌}
use mathlib.Core.List.{List}
use Prim.Native.Nat.{ℕ}
use native.Mathlib.Nat.{zero-add}
use native.Mathlib.Numerals.{add-one}
use native.Mathlib.Omega.{arith}
use lib.ListN.{length}
use borrow.Author.Rules.{rules}
use Rattle.std.proofs.lemmas.List.FromFn.{get_or-map-range_with_len}
use Rattle.aes.specs.Gf.{xtime}
use Rattle.aes.specs.Aes.{sub_bytes, shift_rows, add_round_key, power, key_expansion, round_key, full_round, rounds, cipher, aes128}
use Rattle.aes.specs.Columns.{octets, next_key}
use Rattle.aes.proofs.Columns.{octets_length}
use Rattle.aes.proofs.Schedule.{first_round_key, next_round_key}
use Rattle.aes.proofs.cipher.Goals as goal

pub loop-r-init : goal.loop-r-init
unfolding rounds
loop-r-init c =
    let n : length c.args.key ≡ 4 = search rules in
    record { round_key_lem = sym (first_round_key (octets c.args.key) (octets_length c.args.key n)); state = refl }

-- one round more; antt computes the round constants
pub loop-r-preserved : goal.loop-r-preserved
unfolding rounds power xtime
loop-r-preserved c =
    let n : length c.args.key ≡ 4 = search rules in
    let i = c.loop-r.r-index in
    let w = c.loop-r.invariant in
    let next = c.next_key-next.ensures ∙ ap₂ next_key (get_or-map-range_with_len power 0 _ i i 0 c.loop-r-test.true (zero-add i)) w.round_key_lem
    ∙ sym (next_round_key i (octets c.args.key) (omega arith) (octets_length c.args.key n)) in
    rw add-one (record { round_key_lem = next; state = c.full_round-state.ensures ∙ ap₂ full_round w.state next })

pub returns : goal.returns
unfolding power xtime cipher aes128
returns c =
    let n : length c.args.key ≡ 4 = search rules in
    let key = octets c.args.key in
    let nine : c.loop-r.r-index ≡ 9 = omega arith in
    let w = c.loop-r.invariant in
    let start = c.add_round_key-s.ensures ∙ ap (add_round_key (octets c.args.block)) (sym (first_round_key key (octets_length c.args.key n))) in
    let state = w.state ∙ ap₂ (λ (i : ℕ) (s : List ℕ). rounds i (key_expansion key) s) nine start in
    let last = c.next_key.ensures ∙ ap (next_key 54) (w.round_key_lem ∙ ap (λ (i : ℕ). round_key i (key_expansion key)) nine)
    ∙ sym (next_round_key 9 key (omega arith) (octets_length c.args.key n)) in
    c.add_round_key.ensures ∙ ap₂ add_round_key (c.shift_rows.ensures ∙ ap shift_rows (c.sub_bytes.ensures ∙ ap sub_bytes state)) last
