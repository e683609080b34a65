-- `aes::key_expansion` meets its contract. Assumes nothing.
use mathlib.Core.Path.{◌≡◌, refl, sym, ap₂, ◌∙◌}
use mathlib.Core.List.{List, ◌++◌, append-nil, append_assoc}
use Prim.Native.Nat.{ℕ, suc, ◌+◌, ◌-◌, ◌*◌, ◌<◌}
use native.Mathlib.Nat.{zero-add}
use native.Mathlib.Numerals.{add-one}
use native.Mathlib.Omega.{arith}
use borrow.Author.Rules.{rules}
use borrow.Rule.Slice.PartMut.{put_mid}
use lib.ListN.{length, replicate}
use lib.Seq.{take_at, drop_at}
use Rattle.std.proofs.lemmas.List.FromFn.{get_or-map-range_with_len}
use Rattle.octets.proofs.Lists.{drop_replicate}
use Rattle.aes.specs.Gf.{xtime}
use Rattle.aes.specs.Aes.{power, expand, key_expansion, round_key}
use Rattle.aes.specs.Columns.{next_key}
use Rattle.aes.proofs.Schedule.{first_round_key, next_round_key, length_expand, expand_next}
use Rattle.aes.proofs.key_expansion.Goals as goal

-- one round key more is written
written : (n : ℕ) (k w q : List ℕ) → n < 10 → length k ≡ 16 → w ≡ expand (4 * n) k ++ replicate (160 - 16 * n) 0 → q ≡ round_key (suc n) (key_expansion k)
    → put_mid (16 * n + 16) (16 * n + 16 + 16 - (16 * n + 16)) w q ≡ expand (4 * suc n) k ++ replicate (160 - 16 * suc n) 0
written n k w q h s e f =
    let size : 16 * n + 16 + 16 - (16 * n + 16) ≡ 16 = omega arith in
    let m : 160 - 16 * n ≡ 16 + (160 - 16 * suc n) = omega arith in
    let a = length_expand n k s in
    rw (
      e,
      size,
      take_at (expand (4 * n) k) (replicate (160 - 16 * n) 0) (16 * n + 16) a,
      drop_at (expand (4 * n) k) (replicate (160 - 16 * n) 0) (16 * n + 16) a,
      m,
      drop_replicate 16 (160 - 16 * suc n) 0,
      f,
      expand_next n k h s,
    )
    (sym (append_assoc (expand (4 * n) k) _ _))

pub loop-i-init : goal.loop-i-init
unfolding expand
loop-i-init c = record {
  words = rw c.copy_from_slice.ensures.after refl;
  round_key_lem = c.load-k.ensures ∙ sym (first_round_key c.args.key (search rules));
}

-- one round key more; antt computes the round constants
pub loop-i-preserved : goal.loop-i-preserved
unfolding power xtime
loop-i-preserved c =
    let n : length c.args.key ≡ 16 = search rules in
    let i = c.loop-i.i in
    let h : i < 10 = c.loop-i-test.true in
    let next = c.next_key-next.ensures ∙ ap₂ next_key (get_or-map-range_with_len power 0 _ i i 0 c.loop-i-test.true (zero-add i)) c.loop-i.invariant.round_key_lem
    ∙ sym (next_round_key i c.args.key h n) in
    rw add-one
    (record {
      words = written i c.args.key c.loop-i.w _ h n c.loop-i.invariant.words (c.copy_from_slice-in-loop-i.ensures.after ∙ c.store.ensures ∙ next);
      round_key_lem = next;
    })

pub returns : goal.returns
unfolding key_expansion
returns c =
    let e : c.loop-i.i ≡ 10 = omega arith in
    c.loop-i.invariant.words ∙ rw e (append-nil (expand 40 c.args.key))
