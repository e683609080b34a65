-- The key expansion, round by round: each round key follows from the one before. Assumes nothing.
use mathlib.Core.Path.{◌≡◌, refl, sym, ap, ◌∙◌}
use mathlib.Core.Bool.{cond}
use mathlib.Core.List.{List, [], ◌∷◌, ◌++◌, append_assoc, append-nil}
use Prim.Native.Nat.{ℕ, zero, suc, ◌+◌, ◌-◌, ◌*◌, ◌/◌, ◌%◌, ◌≤◌, ◌<◌}
use native.Mathlib.Nat.{zero-add, suc-add}
use native.Mathlib.Omega.{arith}
use lib.Dec.{eqb}
use lib.ListN.{length, take, drop, length-append}
use lib.Seq.{get_or-append-add, take_at, drop_at}
use Rattle.octets.proofs.Lists.{reads_from, whole}
use Rattle.aes.specs.Aes.{word, xor_word, rot_word, sub_word, power, rcon, next_word, expand, key_expansion, round_key}
use Rattle.aes.specs.Columns.{next_key}

-- a word of the second of two lists
word_in_lem : (p x : List ℕ) (i j : ℕ) → 4 * i ≡ length p + 4 * j → word (p ++ x) i ≡ word x j
unfolding word
word_in_lem p x i j e =
    let e1 : 4 * i + 1 ≡ length p + (4 * j + 1) = omega arith in
    let e2 : 4 * i + 2 ≡ length p + (4 * j + 2) = omega arith in
    let e3 : 4 * i + 3 ≡ length p + (4 * j + 3) = omega arith in
    rw (e1, e2, e3, e, get_or-append-add p x (4 * j) 0, get_or-append-add p x (4 * j + 1) 0, get_or-append-add p x (4 * j + 2) 0, get_or-append-add p x (4 * j + 3) 0)

-- x ends in the key of round n and t words more: with one word more
more : ℕ → ℕ → List ℕ → List ℕ
more t n x = x ++ xor_word (word x t) (cond (eqb t 0) (xor_word (sub_word (rot_word (word x (t + 3)))) (power n ∷ 0 ∷ 0 ∷ 0 ∷ [])) (word x (t + 3)))

extended : (n t : ℕ) (p x : List ℕ) → t < 4 → length p ≡ 16 * n → (p ++ x) ++ next_word (4 * n + 4 + t) (p ++ x) ≡ p ++ more t n x
unfolding next_word rcon more
extended n t p x h e =
    let a : (4 * n + 4 + t) % 4 ≡ t = omega arith in
    let b : (4 * n + 4 + t) / 4 - 1 ≡ n = omega arith in
    rw (a, b, word_in_lem p x ((4 * n + 4 + t) - 4) t (omega arith), word_in_lem p x ((4 * n + 4 + t) - 1) (t + 3) (omega arith))
    (append_assoc p x _)

-- four words more are the next round key
written_out : (n : ℕ) (q : List ℕ) → more 3 n (more 2 n (more 1 n (more 0 n (reads_from q 0 0 16)))) ≡ reads_from q 0 0 16 ++ next_key (power n) (reads_from q 0 0 16)
unfolding more word xor_word rot_word sub_word next_key
written_out n q = refl

four_more : (n : ℕ) (q : List ℕ) → length q ≡ 16 → more 3 n (more 2 n (more 1 n (more 0 n q))) ≡ q ++ next_key (power n) q
four_more n q h =
    ap (λ (l : List ℕ). more 3 n (more 2 n (more 1 n (more 0 n l)))) (whole 16 q h) ∙ written_out n q
    ∙ ap (λ (l : List ℕ). l ++ next_key (power n) l) (sym (whole 16 q h))

-- the key of round n, from round to round
key_at : ℕ → List ℕ → List ℕ
key_at zero k = k
key_at (suc n) k = next_key (power n) (key_at n k)

key_size_lem : (n : ℕ) (k : List ℕ) → length k ≡ 16 → length (key_at n k) ≡ 16
unfolding key_at next_key xor_word
key_size_lem zero k h = h
key_size_lem (suc n) k h = refl

one_step : ℕ → List ℕ → List ℕ
one_step i w = w ++ next_word i w

four_steps : (m : ℕ) (k : List ℕ) → expand (suc (suc (suc (suc m)))) k ≡ one_step (m + 4 + 3) (one_step (m + 4 + 2) (one_step (m + 4 + 1) (one_step (m + 4 + 0) (expand m k))))
unfolding expand one_step
four_steps m k =
    let e0 : m + 4 ≡ m + 4 + 0 = omega arith in
    let e1 : suc m + 4 ≡ m + 4 + 1 = omega arith in
    let e2 : suc (suc m) + 4 ≡ m + 4 + 2 = omega arith in
    let e3 : suc (suc (suc m)) + 4 ≡ m + 4 + 3 = omega arith in
    cc

-- after the words of round n the schedule ends in that round's key
record Ends (n : ℕ) (k : List ℕ) : Type 0 where
  before : List ℕ
  size : length before ≡ 16 * n
  parts : expand (4 * n) k ≡ before ++ key_at n k

next_four : (n : ℕ) (k : List ℕ) → length k ≡ 16 → Ends n k → expand (4 * suc n) k ≡ expand (4 * n) k ++ key_at (suc n) k
unfolding key_at one_step
next_four n k h e =
    let p : List ℕ = e.before in
    let q : List ℕ = key_at n k in
    let m : 4 * suc n ≡ suc (suc (suc (suc (4 * n)))) = omega arith in
    ap (λ (i : ℕ). expand i k) m ∙ four_steps (4 * n) k
    ∙ ap (λ (l : List ℕ). one_step (4 * n + 4 + 3) (one_step (4 * n + 4 + 2) (one_step (4 * n + 4 + 1) (one_step (4 * n + 4 + 0) l)))) e.parts
    ∙ ap (λ (l : List ℕ). one_step (4 * n + 4 + 3) (one_step (4 * n + 4 + 2) (one_step (4 * n + 4 + 1) l))) (extended n 0 p q (omega arith) e.size)
    ∙ ap (λ (l : List ℕ). one_step (4 * n + 4 + 3) (one_step (4 * n + 4 + 2) l)) (extended n 1 p (more 0 n q) (omega arith) e.size)
    ∙ ap (λ (l : List ℕ). one_step (4 * n + 4 + 3) l) (extended n 2 p (more 1 n (more 0 n q)) (omega arith) e.size)
    ∙ extended n 3 p (more 2 n (more 1 n (more 0 n q))) (omega arith) e.size
    ∙ ap (λ (l : List ℕ). p ++ l) (four_more n q (key_size_lem n k h))
    ∙ sym (append_assoc p q (next_key (power n) q))
    ∙ ap (λ (l : List ℕ). l ++ next_key (power n) q) (sym e.parts)

ends : (n : ℕ) (k : List ℕ) → length k ≡ 16 → Ends n k
unfolding expand key_at
ends zero k h = record { before = []; size = refl; parts = refl }
ends (suc n) k h =
    let e : Ends n k = ends n k h in
    record {
      before = e.before ++ key_at n k;
      size = simp length-append (omega (arith, e.size, key_size_lem n k h));
      parts = next_four n k h e ∙ ap (λ (l : List ℕ). l ++ key_at (suc n) k) e.parts;
    }

-- the schedule only grows
record Grown (j m : ℕ) (k : List ℕ) : Type 0 where
  rest : List ℕ
  parts : expand (j + m) k ≡ expand m k ++ rest

grown : (j m : ℕ) (k : List ℕ) → Grown j m k
unfolding expand
grown zero m k = record { rest = []; parts = ap (λ (i : ℕ). expand i k) (zero-add m) ∙ sym (append-nil (expand m k)) }
grown (suc j) m k =
    let g : Grown j m k = grown j m k in
    let w : List ℕ = next_word (j + m + 4) (expand (j + m) k) in
    record {
      rest = g.rest ++ w;
      parts =
          ap (λ (h : ℕ). expand h k) (suc-add j m) ∙ ap (λ (h : List ℕ). h ++ w) g.parts
          ∙ append_assoc (expand m k) g.rest w;
    }

-- the standard's key of round n is the one that is made from round to round
round_key_lem : (n : ℕ) (k : List ℕ) → n ≤ 10 → length k ≡ 16 → round_key n (key_expansion k) ≡ key_at n k
unfolding round_key key_expansion
round_key_lem n k b h =
    let e : Ends n k = ends n k h in
    let g : Grown (40 - 4 * n) (4 * n) k = grown (40 - 4 * n) (4 * n) k in
    let i : 40 ≡ (40 - 4 * n) + 4 * n = omega arith in
    ap (λ (j : ℕ). take 16 (drop (16 * n) (expand j k))) i
    ∙ ap (λ (l : List ℕ). take 16 (drop (16 * n) l))
    (g.parts ∙ ap (λ (l : List ℕ). l ++ g.rest) e.parts ∙ append_assoc e.before (key_at n k) g.rest)
    ∙ ap (take 16) (drop_at e.before (key_at n k ++ g.rest) (16 * n) e.size)
    ∙ take_at (key_at n k) g.rest 16 (key_size_lem n k h)

pub first_round_key : (k : List ℕ) → length k ≡ 16 → round_key 0 (key_expansion k) ≡ k
unfolding key_at
first_round_key k h = round_key_lem 0 k (omega arith) h

pub next_round_key : (n : ℕ) (k : List ℕ) → n < 10 → length k ≡ 16 → round_key (suc n) (key_expansion k) ≡ next_key (power n) (round_key n (key_expansion k))
unfolding key_at
next_round_key n k b h = round_key_lem (suc n) k b h ∙ ap (next_key (power n)) (sym (round_key_lem n k (omega arith) h))

-- the schedule up to round n has 16 octets for each round key
pub length_expand : (n : ℕ) (k : List ℕ) → length k ≡ 16 → length (expand (4 * n) k) ≡ 16 * n + 16
length_expand n k h =
    let e : Ends n k = ends n k h in
    rw e.parts (simp length-append (omega (arith, e.size, key_size_lem n k h)))

pub expand_next : (n : ℕ) (k : List ℕ) → n < 10 → length k ≡ 16 → expand (4 * suc n) k ≡ expand (4 * n) k ++ round_key (suc n) (key_expansion k)
expand_next n k b h = next_four n k h (ends n k h) ∙ ap (λ (l : List ℕ). expand (4 * n) k ++ l) (sym (round_key_lem (suc n) k b h))
