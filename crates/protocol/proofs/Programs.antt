-- Laws of programs played on answers, for any calls and any way of reading an answer: a play on more answers goes on
-- where the play before it stopped, and answers left over do not matter. Assumes nothing.
use Prim.Native.Nat.{ℕ, ◌+◌, ◌≤◌}
use mathlib.Core.Path.{◌≡◌, refl, sym, ap, ◌∙◌, subst}
use mathlib.Core.List.{List, [], ◌∷◌, ◌++◌, tail, append_assoc}
use native.Mathlib.Nat.{le_trans}
use native.Mathlib.Omega.{arith}
use lib.ListN.{length, take, drop, take-append-drop}
use lib.Seq.{take-take, drop-append_seam}
use Rattle.protocol.specs.Program.{Prog, ret, ask, Taken, got, wants, refused, Ending, ended, wanting, refusing}
use Rattle.protocol.specs.Program.{Played, on_taken, listing, play}

-- ---- the sizes of calls, added up
abbrev pub total : {C : Type 0} → (C → ℕ) → List C → ℕ
total size [] = 0
total size (c ∷ cs) = size c + total size cs

-- ---- how a play comes out

abbrev IsEnded : {A : Type 0} → Ending A → Type 0
IsEnded (ended a) = Unit {0}
IsEnded wanting = ⊥
IsEnded refusing = ⊥

abbrev pub IsWanting : {A : Type 0} → Ending A → Type 0
IsWanting (ended a) = ⊥
IsWanting wanting = Unit {0}
IsWanting refusing = ⊥

-- P holds of what a play that ended gives
abbrev pub OfEnding : {A : Type 0} → (A → Type 0) → Ending A → Type 0
OfEnding P (ended a) = P a
OfEnding P wanting = Unit {0}
OfEnding P refusing = Unit {0}

is_ended : {A : Type 0} {e : Ending A} {a : A} → e ≡ ended a → IsEnded e
is_ended h = subst IsEnded (sym h) tt

pub is_wanting : {A : Type 0} {e : Ending A} → e ≡ wanting → IsWanting e
is_wanting h = subst IsWanting (sym h) tt

-- ---- where a program stands after one answer

abbrev pub rest_on : {C X A : Type 0} {R : C → Type 0} → Prog C R A → (X → ℕ → Prog C R A) → Taken X → Prog C R A
rest_on p k (got x n) = k x n
rest_on p k wants = p
rest_on p k refused = p

abbrev answered_on : {C X : Type 0} → C → (X → ℕ → List C) → Taken X → List C
answered_on c k (got x n) = c ∷ k x n
answered_on c k wants = []
answered_on c k refused = []

-- a play behind calls that were listed before it
abbrev after : {C A : Type 0} → List C → Played C A → Played C A
after cs x = record { ending = x.ending; calls = cs ++ x.calls; place = x.place }

-- ---- a list without its last element
abbrev but_last : {C : Type 0} → List C → List C
but_last [] = []
but_last (c ∷ []) = []
but_last (c ∷ (d ∷ cs)) = c ∷ but_last (d ∷ cs)

but_last_lem : {C : Type 0} (cs : List C) (c : C) → but_last (cs ++ (c ∷ [])) ≡ cs
but_last_lem [] c = refl
but_last_lem (b ∷ []) c = refl
but_last_lem {C} (b ∷ (d ∷ cs)) c = ap (λ (l : List C). b ∷ l) (but_last_lem (d ∷ cs) c)

module _ {C : Type 0} {R : C → Type 0} {O : Type 0} (read : (c : C) → List O → ℕ → Taken (R c)) where
  -- what is asked of a way of reading answers
  pub record Reads : Type 0 where
    -- more answers behind do not change what was read
    pub keeps : (c : C) (s w : List O) (at : ℕ) (x : R c) (n : ℕ) → read c s at ≡ got x n → read c (s ++ w) at ≡ got x n
    -- nothing behind the answer was looked at
    pub short : (c : C) (s : List O) (at : ℕ) (x : R c) (n : ℕ) → read c s at ≡ got x n → read c (take n s) at ≡ got x n
    -- an answer does not end before its beginning, nor beyond the end of the answers
    pub onward : (c : C) (s : List O) (at : ℕ) (x : R c) (n : ℕ) → read c s at ≡ got x n → at ≤ n
    pub within : (c : C) (s : List O) (at : ℕ) (x : R c) (n : ℕ) → read c s at ≡ got x n → n ≤ length s
    -- an answer is wanted at the end of the answers alone
    pub spent : (c : C) (s : List O) (at : ℕ) → read c s at ≡ wants → at ≡ length s

  -- every answer has the size that its call fixes
  abbrev pub Sized : (C → ℕ) → Type 0
  Sized size = (c : C) (s : List O) (at : ℕ) (x : R c) (n : ℕ) → read c s at ≡ got x n → n ≡ at + size c

  -- an answer that ends by place m is read from any list that is the same up to there
  read_front : Reads → (c : C) (s w : List O) (at : ℕ) (x : R c) (n m : ℕ) → n ≤ m → read c s at ≡ got x n
      → read c (take m s ++ w) at ≡ got x n
  read_front law c s w at x n m l e =
      let behind : List O = drop n (take m s) in
      let split : take m s ≡ take n s ++ behind =
      sym (take-append-drop n (take m s)) ∙ ap (λ (t : List O). t ++ behind) (take-take n m s l) in
      ap (λ (t : List O). read c t at) (ap (λ (t : List O). t ++ w) split ∙ append_assoc (take n s) behind w)
      ∙ law.keeps c (take n s) (behind ++ w) at x n (law.short c s at x n e)

  module _ {A : Type 0} where
    -- what is left of a program that stopped: its result, or the call whose answer is wanted or refused and what follows
    abbrev pub rest : List O → Prog C R A → ℕ → Prog C R A
    rest s (ret a) at = ret a
    rest s (ask c k) at = rest_on (ask c k) (λ x n. rest s (k x) n) (read c s at)

    -- the calls whose answers were read
    abbrev pub answered : List O → Prog C R A → ℕ → List C
    answered s (ret a) at = []
    answered s (ask c k) at = answered_on c (λ x n. answered s (k x) n) (read c s at)

    -- ---- induction along a play
    pub along : (s : List O) (P : Prog C R A → ℕ → Type 0)
        → ((a : A) (at : ℕ) → P (ret a) at)
        → ((c : C) (k : R c → Prog C R A) (at : ℕ) → read c s at ≡ wants → P (ask c k) at)
        → ((c : C) (k : R c → Prog C R A) (at : ℕ) → read c s at ≡ refused → P (ask c k) at)
        → ((c : C) (k : R c → Prog C R A) (at : ℕ) (x : R c) (n : ℕ)
        → read c s at ≡ got x n → P (k x) n → P (ask c k) at)
        → (p : Prog C R A) (at : ℕ) → P p at
    along s P at_end at_wants at_refused at_got (ret a) at = at_end a at
    along s P at_end at_wants at_refused at_got (ask c k) at =
        go (λ x n. along s P at_end at_wants at_refused at_got (k x) n) (read c s at) refl
      where
        go : ((x : R c) (n : ℕ) → P (k x) n) → (z : Taken (R c)) → read c s at ≡ z → P (ask c k) at
        go rec (got x n) e = at_got c k at x n e (rec x n)
        go rec wants e = at_wants c k at e
        go rec refused e = at_refused c k at e

    -- ---- the answered calls are listed, and where the program ended no others

    pub ended_calls : (s : List O) (p : Prog C R A) (at : ℕ) {a : A} → (play read s p at).ending ≡ ended a
        → (play read s p at).calls ≡ answered s p at
    ended_calls s p at {a} =
        along s (λ p at. (play read s p at).ending ≡ ended a → (play read s p at).calls ≡ answered s p at)
        (λ b at h. refl)
        (λ c k at e h. absurd (is_ended (rw e at h)))
        (λ c k at e h. absurd (is_ended (rw e at h)))
        (λ c k at x n e rec h. rw e (ap (λ (l : List C). c ∷ l) (rec (rw e at h))))
        p at

    -- .. where it wants, one more: the call that is left
    pub wanting_calls : (s : List O) (p : Prog C R A) (at : ℕ) → (play read s p at).ending ≡ wanting
        → (c : C) × (k : R c → Prog C R A)
        × ((play read s p at).calls ≡ answered s p at ++ (c ∷ [])) × (rest s p at ≡ ask c k)
    wanting_calls s =
        along s (λ p at. (play read s p at).ending ≡ wanting → (c : C) × (k : R c → Prog C R A)
        × ((play read s p at).calls ≡ answered s p at ++ (c ∷ [])) × (rest s p at ≡ ask c k))
        (λ a at h. absurd (is_wanting h))
        (λ c k at e h. (c, k, rw e, rw e))
        (λ c k at e h. absurd (is_wanting (rw e at h)))
        (λ c k at x n e rec h. let q = rec (rw e at h) in
        (q.0, q.1, rw e (ap (λ (l : List C). c ∷ l) q.2), rw e q.3))

    -- ---- where every answer has the size that its call fixes, the calls give the place

    pub place_answered : (size : C → ℕ) → Sized size → (s : List O) (p : Prog C R A) (at : ℕ)
        → (play read s p at).place ≡ at + total size (answered s p at)
    place_answered size sized s =
        along s (λ p at. (play read s p at).place ≡ at + total size (answered s p at))
        (λ a at. omega arith)
        (λ c k at e. rw e (omega arith))
        (λ c k at e. rw e (omega arith))
        (λ c k at x n e rec. rw e (omega (arith, rec, sized c s at x n e)))

    module _ (size : C → ℕ) (sized : Sized size) (s : List O) (p : Prog C R A) (at : ℕ) where
      pub place_ended : {a : A} → (play read s p at).ending ≡ ended a
          → (play read s p at).place ≡ at + total size (play read s p at).calls
      place_ended h = rw (ended_calls s p at h) (place_answered size sized s p at)

      pub place_wanting : (cs : List C) (c : C) → (play read s p at).ending ≡ wanting
          → (play read s p at).calls ≡ cs ++ (c ∷ []) → (play read s p at).place ≡ at + total size cs
      place_wanting cs c h e =
          let q = wanting_calls s p at h in
          let before = answered s p at in
          let same : before ≡ cs = sym (but_last_lem before q.0) ∙ ap but_last (sym q.2 ∙ e) ∙ but_last_lem cs c in
          place_answered size sized s p at ∙ ap (λ (l : List C). at + total size l) same

    module _ (law : Reads) where
      -- ---- a play only goes on, and stays within the answers

      pub place_onward : (s : List O) (p : Prog C R A) (at : ℕ) → at ≤ (play read s p at).place
      place_onward s =
          along s (λ p at. at ≤ (play read s p at).place)
          (λ a at. omega arith)
          (λ c k at e. rw e (omega arith))
          (λ c k at e. rw e (omega arith))
          (λ c k at x n e rec. rw e (le_trans (law.onward c s at x n e) rec))

      pub place_within : (s : List O) (p : Prog C R A) (at : ℕ) → at ≤ length s → (play read s p at).place ≤ length s
      place_within s =
          along s (λ p at. at ≤ length s → (play read s p at).place ≤ length s)
          (λ a at l. l)
          (λ c k at e l. rw e l)
          (λ c k at e l. rw e l)
          (λ c k at x n e rec l. rw e (rec (law.within c s at x n e)))

      place_spent : (s : List O) (p : Prog C R A) (at : ℕ) → (play read s p at).ending ≡ wanting
          → (play read s p at).place ≡ length s
      place_spent s =
          along s (λ p at. (play read s p at).ending ≡ wanting → (play read s p at).place ≡ length s)
          (λ a at h. absurd (is_wanting h))
          (λ c k at e h. rw e (law.spent c s at e))
          (λ c k at e h. absurd (is_wanting (rw e at h)))
          (λ c k at x n e rec h. rw e (rec (rw e at h)))

      -- a play that wants has read all answers, one for each call but the last
      pub wanting_last : (s : List O) (p : Prog C R A) (at : ℕ) → (play read s p at).ending ≡ wanting
          → (cs : List C) × (c : C) × (k : R c → Prog C R A) × ((play read s p at).calls ≡ cs ++ (c ∷ []))
          × (rest s p at ≡ ask c k) × ((play read s p at).place ≡ length s)
      wanting_last s p at h =
          let q = wanting_calls s p at h in
          (answered s p at, q.0, q.1, q.2, q.3, place_spent s p at h)

      -- ---- answers left over do not matter

      play_front : (s w : List O) (p : Prog C R A) (at m : ℕ) {a : A} → (play read s p at).ending ≡ ended a
          → (play read s p at).place ≤ m → play read (take m s ++ w) p at ≡ play read s p at
      play_front s w p at m {a} =
          along s (λ p at. (play read s p at).ending ≡ ended a → (play read s p at).place ≤ m
          → play read (take m s ++ w) p at ≡ play read s p at)
          (λ b at h l. refl)
          (λ c k at e h l. absurd (is_ended (rw e at h)))
          (λ c k at e h l. absurd (is_ended (rw e at h)))
          (λ c k at x n e rec h l. let l₁ : (play read s (k x) n).place ≤ m = rw e at l in
          rw (read_front law c s w at x n m (le_trans (place_onward s (k x) n) l₁) e, e)
          (ap (listing c) (rec (rw e at h) l₁)))
          p at

      pub play_left_over : (s w : List O) (p : Prog C R A) (at : ℕ) {a : A} → (play read s p at).ending ≡ ended a
          → play read (take (play read s p at).place s ++ w) p at ≡ play read s p at
      play_left_over s w p at h = play_front s w p at (play read s p at).place h (omega arith)

      -- ---- a play on more answers goes on where the play before it stopped

      goes_on : (s w : List O) (p : Prog C R A) (at : ℕ)
          → play read (s ++ w) p at
          ≡ after (answered s p at) (play read (s ++ w) (rest s p at) (play read s p at).place)
      goes_on s w =
          along s (λ p at. play read (s ++ w) p at
          ≡ after (answered s p at) (play read (s ++ w) (rest s p at) (play read s p at).place))
          (λ a at. refl)
          (λ c k at e. rw e)
          (λ c k at e. rw e)
          (λ c k at x n e rec. rw (law.keeps c s w at x n e, e) (ap (listing c) rec))

      -- .. so that the same is left of it
      pub rest_again : (s w : List O) (p : Prog C R A) (at : ℕ)
          → rest (s ++ w) p at ≡ rest (s ++ w) (rest s p at) (play read s p at).place
      rest_again s w =
          along s (λ p at. rest (s ++ w) p at ≡ rest (s ++ w) (rest s p at) (play read s p at).place)
          (λ a at. refl)
          (λ c k at e. rw e)
          (λ c k at e. rw e)
          (λ c k at x n e rec. rw (law.keeps c s w at x n e, e) rec)

      module _ (s w : List O) (p : Prog C R A) (at : ℕ) where
        pub again_ending :
            (play read (s ++ w) p at).ending ≡ (play read (s ++ w) (rest s p at) (play read s p at).place).ending
        again_ending = ap (λ (x : Played C A). x.ending) (goes_on s w p at)

        pub again_place :
            (play read (s ++ w) p at).place ≡ (play read (s ++ w) (rest s p at) (play read s p at).place).place
        again_place = ap (λ (x : Played C A). x.place) (goes_on s w p at)

        pub again_calls :
            (play read (s ++ w) p at).calls
            ≡ answered s p at ++ (play read (s ++ w) (rest s p at) (play read s p at).place).calls
        again_calls = ap (λ (x : Played C A). x.calls) (goes_on s w p at)

        -- it reads no less
        pub again_further : (play read s p at).place ≤ (play read (s ++ w) p at).place
        again_further = rw again_place (place_onward (s ++ w) (rest s p at) (play read s p at).place)

        -- and where an answer was wanted, it lists again what was listed, before what is new
        pub play_again : (play read s p at).ending ≡ wanting
            → (more : List C) × ((play read (s ++ w) p at).calls ≡ (play read s p at).calls ++ more)
        play_again h =
            let q = wanting_calls s p at h in
            let n = (play read s p at).place in
            let new : List C = (on_taken n (λ x j. play read (s ++ w) (q.1 x) j) (read q.0 (s ++ w) n)).calls in (
              new,
              again_calls
                  ∙ ap (λ (z : Prog C R A). answered s p at ++ (play read (s ++ w) z n).calls) q.3
                  ∙ sym (ap (λ (l : List C). l ++ new) q.2 ∙ append_assoc (answered s p at) (q.0 ∷ []) new),
            )

        -- what is new is what the rest lists behind the call that was wanted
        pub again_new : (play read s p at).ending ≡ wanting
            → drop (length (play read s p at).calls) (play read (s ++ w) p at).calls
            ≡ tail (play read (s ++ w) (rest s p at) (play read s p at).place).calls
        again_new h =
            let q = wanting_calls s p at h in
            let n = (play read s p at).place in
            let new : List C = (on_taken n (λ x j. play read (s ++ w) (q.1 x) j) (read q.0 (s ++ w) n)).calls in
            let whole = again_calls
            ∙ ap (λ (z : Prog C R A). answered s p at ++ (play read (s ++ w) z n).calls) q.3
            ∙ sym (append_assoc (answered s p at) (q.0 ∷ []) new) in
            rw (whole, q.2, q.3) (drop-append_seam (answered s p at ++ (q.0 ∷ [])) new)
