-- Replies read from octets keep the laws that Programs.antt asks of a way of reading answers: more octets behind change
-- nothing, and an answer is wanted at the end of the octets alone. Assumes nothing.
use Rattle.std.specs.Prelude.{Option, Some, None}
use Prim.Native.Nat.{ℕ, ◌+◌, ◌≤◌, ◌<◌}
use mathlib.Core.Path.{◌≡◌, refl, sym, ap, ◌∙◌, subst}
use mathlib.Core.Bool.{Bool, true, false, cond, ◌&&◌}
use mathlib.Core.List.{List, ◌∷◌, ◌++◌}
use native.Mathlib.Omega.{arith}
use lib.Dec.{eqb, ltb}
use lib.ListN.{length, get_or, take, drop, length-append, length-drop, get_or-append}
use lib.Seq.{length-take-le, take_all, take-append-le, drop-append-le, drop-append-add, get_or-append_seam, get_or-take}
use borrow.Author.Tests.{ltb-true, eqb-true, lt-ltb, eq-eqb, ne_eqb}
use Rattle.octets.specs.Octets.{from_octets, word_of}
use Rattle.octets.proofs.Lists.{part_part}
use Rattle.crypto.specs.Crypto.{drawn_nonce}
use Rattle.bond.specs.Bond.{flag_of, bond_of}
use Rattle.host_calls.specs.Calls.{kind_of}
use Rattle.host_calls.specs.declared.call.Question.{Question}
use Rattle.host_calls.specs.declared.call.Question.TheVariants as question
use Rattle.host_calls.specs.declared.call.Draw.{Draw}
use Rattle.host_calls.specs.declared.call.Draw.TheVariants as draw
use Rattle.host_calls.specs.declared.call.Call.{Call}
use Rattle.host_calls.specs.declared.call.Call.TheVariants as call
use Rattle.host_answers.specs.Answers.{answer_length, Found, found, wanted, refusal, answer_refusal, on_found, allowed, body_at, answer_at, pass_key_max}
use Rattle.host_answers.specs.Answers.{address_body, pass_key_body, encryption_body, bonded_body, on_present}
use Rattle.host_answers.specs.Answers.{verdict_at, flag_at, irk_at, address_at, nonce_at, pass_key_at, ltk_at, ediv_at, rand_at}
use Rattle.host_answers.specs.Answers.{encryption_at, bonded_at}
use Rattle.protocol.specs.Program.{Taken, got, wants, refused}
use Rattle.protocol.specs.Ops.{Sort, a_verdict, a_flag, an_irk, an_address, a_nonce, a_pass_key, an_ltk, an_ediv, a_rand}
use Rattle.protocol.specs.Ops.{a_bond, an_option_bond, delivery_of, Holds, reply_sort, Reply, reply_found, taken}
use Rattle.protocol.specs.Ops.{answer_size, reply_at}
use Rattle.protocol.proofs.Programs.{Reads}

-- ---- every reply is the meaning of the body at its place

abbrev pub meaning : (sort : Sort) → List ℕ → Found (Holds sort)
meaning a_verdict b = found (delivery_of (get_or b 0 0))
meaning a_flag b = allowed (flag_of (get_or b 0 0)) (λ yes. yes)
meaning an_irk b = found (record { 0 = word_of b })
meaning an_address b = found (address_body b)
meaning a_nonce b = found (drawn_nonce b)
meaning a_pass_key b = pass_key_body (from_octets b)
meaning an_ltk b = found (record { 0 = word_of b })
meaning an_ediv b = found (from_octets b)
meaning a_rand b = found (from_octets b)
meaning a_bond b = encryption_body b
meaning an_option_bond b = bonded_body b

abbrev meant : (c : Call) → List ℕ → ℕ → Found (Reply c)
meant c s at = on_found (answer_at s at c) (meaning (reply_sort c))

verdict_meant : (x : Found (List ℕ))
    → on_found (on_found x (λ b. found (get_or b 0 0))) (λ v. found (delivery_of v)) ≡ on_found x (meaning a_verdict)
verdict_meant (found b) = refl
verdict_meant wanted = refl
verdict_meant (refusal n) = refl

question_meant : (q : Question) (s : List ℕ) (at : ℕ)
    → reply_found (reply_sort (call.Ask q)) (call.Ask q) s at ≡ meant (call.Ask q) s at
unfolding flag_at irk_at address_at
question_meant question.FindBond s at = refl
question_meant question.LocalIrk s at = refl
question_meant question.LocalIdentityAddress s at = refl
question_meant question.BondingFlag s at = refl
question_meant question.OobAvailable s at = refl

draw_meant : (d : Draw) (s : List ℕ) (at : ℕ)
    → reply_found (reply_sort (call.Draw d)) (call.Draw d) s at ≡ meant (call.Draw d) s at
unfolding nonce_at pass_key_at ltk_at ediv_at rand_at
draw_meant draw.Nonce s at = refl
draw_meant draw.PassKey s at = refl
draw_meant draw.LongTermKey s at = refl
draw_meant draw.Ediv s at = refl
draw_meant draw.Rand s at = refl

reply_meant : (c : Call) (s : List ℕ) (at : ℕ) → reply_found (reply_sort c) c s at ≡ meant c s at
unfolding verdict_at encryption_at bonded_at
reply_meant (call.SendPacket p) s at = verdict_meant (answer_at s at (call.SendPacket p))
reply_meant (call.SendConnectionEvent e) s at = verdict_meant (answer_at s at (call.SendConnectionEvent e))
reply_meant (call.Ask q) s at = question_meant q s at
reply_meant (call.Draw d) s at = draw_meant d s at
reply_meant (call.EnableEncryption k l n) s at = refl
reply_meant call.EnableBondedEncryption s at = refl
reply_meant (call.UpdateBondInformation b) s at = verdict_meant (answer_at s at (call.UpdateBondInformation b))

-- ---- the length of a body, by the sort of its reply

abbrev pub sort_length : Sort → ℕ
sort_length a_verdict = 1
sort_length a_flag = 1
sort_length an_irk = 16
sort_length an_address = 8
sort_length a_nonce = 16
sort_length a_pass_key = 4
sort_length an_ltk = 16
sort_length an_ediv = 2
sort_length a_rand = 8
sort_length a_bond = 52
sort_length an_option_bond = 53

pub answer_length_lem : (c : Call) → answer_length c ≡ sort_length (reply_sort c)
answer_length_lem (call.SendPacket p) = refl
answer_length_lem (call.SendConnectionEvent e) = refl
answer_length_lem (call.Ask question.FindBond) = refl
answer_length_lem (call.Ask question.LocalIrk) = refl
answer_length_lem (call.Ask question.LocalIdentityAddress) = refl
answer_length_lem (call.Ask question.BondingFlag) = refl
answer_length_lem (call.Ask question.OobAvailable) = refl
answer_length_lem (call.Draw draw.Nonce) = refl
answer_length_lem (call.Draw draw.PassKey) = refl
answer_length_lem (call.Draw draw.LongTermKey) = refl
answer_length_lem (call.Draw draw.Ediv) = refl
answer_length_lem (call.Draw draw.Rand) = refl
answer_length_lem (call.EnableEncryption k l n) = refl
answer_length_lem call.EnableBondedEncryption = refl
answer_length_lem (call.UpdateBondInformation b) = refl

-- ---- a body that stands there is a reply or forbidden, and never wanted

abbrev IsThere : {X : Type 0} → Found X → Type 0
IsThere (found x) = Unit {0}
IsThere wanted = ⊥
IsThere (refusal k) = Unit {0}

allowed_there : {X Y : Type 0} (o : Option X) (f : X → Y) → IsThere (allowed o f)
allowed_there None f = tt
allowed_there (Some x) f = tt

cond_there : {X : Type 0} (t : Bool) (x y : Found X) → IsThere x → IsThere y → IsThere (cond t x y)
cond_there true x y h k = h
cond_there false x y h k = k

present_there : (b : List ℕ) (o : Option Bool) → IsThere (on_present b o)
present_there b None = tt
present_there b (Some true) = allowed_there (bond_of (take 51 (drop 2 b))) _
present_there b (Some false) = tt

meaning_there : (sort : Sort) (b : List ℕ) → IsThere (meaning sort b)
meaning_there a_verdict b = tt
meaning_there a_flag b = allowed_there (flag_of (get_or b 0 0)) _
meaning_there an_irk b = tt
meaning_there an_address b = tt
meaning_there a_nonce b = tt
meaning_there a_pass_key b = cond_there (ltb pass_key_max (from_octets b)) _ _ tt tt
meaning_there an_ltk b = tt
meaning_there an_ediv b = tt
meaning_there a_rand b = tt
meaning_there a_bond b = cond_there (eqb (get_or b 0 0) 0) _ _ (allowed_there (bond_of (take 51 (drop 1 b))) _) tt
meaning_there an_option_bond b = cond_there (eqb (get_or b 0 0) 0) _ _ (present_there b (flag_of (get_or b 1 0))) tt

-- ---- what the body at a place says

abbrev pub Says : List ℕ → ℕ → ℕ → ℕ → Found (List ℕ) → Type 0
Says s at kind size (found b) = (at + size < length s) × (get_or s at 0 ≡ kind) × (take size (drop (at + 1) s) ≡ b)
Says s at kind size wanted = at ≡ length s
Says s at kind size (refusal k) = Unit {0}

pub body_says : (s : List ℕ) (at kind size : ℕ) → Says s at kind size (body_at s at kind size)
unfolding body_at
body_says s at kind size = go (eqb at (length s)) (ltb (at + size) (length s)) (eqb (get_or s at 0) kind) refl refl refl
  where
    go : (x y z : Bool) → eqb at (length s) ≡ x → ltb (at + size) (length s) ≡ y → eqb (get_or s at 0) kind ≡ z
        → Says s at kind size
        (cond x wanted (cond (y && z) (found (take size (drop (at + 1) s))) (refusal answer_refusal)))
    go true y z p q r = eqb-true at (length s) p
    go false true true p q r = (ltb-true _ _ q, eqb-true _ _ r, refl)
    go false true false p q r = tt
    go false false z p q r = tt

body_stands : (s : List ℕ) (at kind size : ℕ) → at + size < length s → get_or s at 0 ≡ kind
    → body_at s at kind size ≡ found (take size (drop (at + 1) s))
unfolding body_at
body_stands s at kind size l e =
    let inside = ne_eqb at (length s) (λ (q : at ≡ length s). omega arith) in
    rw (inside, lt-ltb (at + size) (length s) l, eq-eqb (get_or s at 0) kind e)

body_at_end : (s : List ℕ) (kind size : ℕ) → body_at s (length s) kind size ≡ wanted
unfolding body_at
body_at_end s kind size = rw (eq-eqb (length s) (length s) refl)

body_keeps : (s w : List ℕ) (at kind size : ℕ) {b : List ℕ} → body_at s at kind size ≡ found b
    → body_at (s ++ w) at kind size ≡ found b
body_keeps s w at kind size {b} e =
    let h = subst (Says s at kind size) e (body_says s at kind size) in
    let room : at + size < length (s ++ w) = omega (arith, h.0, length-append s w) in
    body_stands (s ++ w) at kind size room (get_or-append s w 0 at (omega (arith, h.0)) ∙ h.1)
    ∙ ap found (ap (take size) (drop-append-le (at + 1) s w (omega (arith, h.0)))
    ∙ take-append-le size (drop (at + 1) s) w (omega (arith, h.0, length-drop (at + 1) s)) ∙ h.2)

body_short : (s : List ℕ) (at kind size : ℕ) {b : List ℕ} → body_at s at kind size ≡ found b
    → body_at (take (at + (1 + size)) s) at kind size ≡ found b
body_short s at kind size {b} e =
    let n : ℕ = at + (1 + size) in
    let h = subst (Says s at kind size) e (body_says s at kind size) in
    let room : at + size < length (take n s) = omega (arith, length-take-le n s (omega (arith, h.0))) in
    body_stands (take n s) at kind size room (get_or-take n s at 0 (omega arith) ∙ h.1)
    ∙ ap found (part_part size (at + 1) n s (omega arith) ∙ h.2)

-- ---- from the body to the reply

abbrev IsGot : {X : Type 0} → Taken X → Type 0
IsGot (got x n) = Unit {0}
IsGot wants = ⊥
IsGot refused = ⊥

abbrev IsWanted : {X : Type 0} → Taken X → Type 0
IsWanted (got x n) = ⊥
IsWanted wants = Unit {0}
IsWanted refused = ⊥

got_next : {X : Type 0} (next : ℕ) (z : Found X) {x : X} {n : ℕ} → taken next z ≡ got x n → n ≡ next
got_next next (found y) e = cc
got_next next wanted e = absurd (subst IsGot (sym e) tt)
got_next next (refusal k) e = absurd (subst IsGot (sym e) tt)

got_found : {X : Type 0} (next : ℕ) (z : Found X) {x : X} {n : ℕ} → taken next z ≡ got x n → z ≡ found x
got_found next (found y) e = cc
got_found next wanted e = absurd (subst IsGot (sym e) tt)
got_found next (refusal k) e = absurd (subst IsGot (sym e) tt)

body_got : {X : Type 0} (next : ℕ) (y : Found (List ℕ)) (f : List ℕ → Found X) {x : X} {n : ℕ}
    → taken next (on_found y f) ≡ got x n → (b : List ℕ) × (y ≡ found b)
body_got next (found b) f e = (b, refl)
body_got next wanted f e = absurd (subst IsGot (sym e) tt)
body_got next (refusal k) f e = absurd (subst IsGot (sym e) tt)

not_wanted : {X : Type 0} (next : ℕ) (z : Found X) → IsThere z → taken next z ≡ wants → ⊥
not_wanted next (found y) h e = subst IsWanted (sym e) tt
not_wanted next wanted h e = h
not_wanted next (refusal k) h e = subst IsWanted (sym e) tt

body_wanted : {X : Type 0} (next : ℕ) (y : Found (List ℕ)) (f : List ℕ → Found X) → ((b : List ℕ) → IsThere (f b))
    → taken next (on_found y f) ≡ wants → y ≡ wanted
body_wanted next (found b) f h e = absurd (not_wanted next (f b) (h b) e)
body_wanted next wanted f h e = refl
body_wanted next (refusal k) f h e = absurd (subst IsWanted (sym e) tt)

-- ---- the reply to one call

module _ (c : Call) where
  reply_is : (s : List ℕ) (at : ℕ) → reply_at c s at ≡ taken (at + answer_size c) (meant c s at)
  reply_is s at = ap (taken (at + answer_size c)) (reply_meant c s at)

  -- where the answer's octets are the same, the reply is
  same_reply : (s t : List ℕ) (at : ℕ) → answer_at t at c ≡ answer_at s at c → reply_at c t at ≡ reply_at c s at
  same_reply s t at e =
      reply_is t at
      ∙ ap (λ (y : Found (List ℕ)). taken (at + answer_size c) (on_found y (meaning (reply_sort c)))) e
      ∙ sym (reply_is s at)

  answer_says : (s : List ℕ) (at : ℕ) {y : Found (List ℕ)} → answer_at s at c ≡ y
      → Says s at (kind_of c) (answer_length c) y
  answer_says s at e = subst (Says s at (kind_of c) (answer_length c)) e (body_says s at (kind_of c) (answer_length c))

  module _ (s : List ℕ) (at : ℕ) where
    -- an answer has the size that its call fixes
    pub reply_size : (x : Reply c) (n : ℕ) → reply_at c s at ≡ got x n → n ≡ at + answer_size c
    reply_size x n e = got_next (at + answer_size c) (reply_found (reply_sort c) c s at) e

    reply_body : {x : Reply c} {n : ℕ} → reply_at c s at ≡ got x n → (b : List ℕ) × (answer_at s at c ≡ found b)
    reply_body e = body_got (at + answer_size c) (answer_at s at c) (meaning (reply_sort c)) (sym (reply_is s at) ∙ e)

    -- what was read is what the octets behind the kind mean
    pub reply_means : (x : Reply c) (n : ℕ) → reply_at c s at ≡ got x n
        → (at + answer_length c < length s)
        × (meaning (reply_sort c) (take (answer_length c) (drop (at + 1) s)) ≡ found x)
    reply_means x n e =
        let q = reply_body e in
        let h = answer_says s at q.1 in
        let read = got_found (at + answer_size c) (meant c s at) (sym (reply_is s at) ∙ e) in
        (h.0, ap (meaning (reply_sort c)) h.2 ∙ rw q.1 at read)

    reply_keeps : (w : List ℕ) (x : Reply c) (n : ℕ) → reply_at c s at ≡ got x n → reply_at c (s ++ w) at ≡ got x n
    reply_keeps w x n e =
        let q = reply_body e in
        same_reply s (s ++ w) at (body_keeps s w at (kind_of c) (answer_length c) q.1 ∙ sym q.1) ∙ e

    reply_short : (x : Reply c) (n : ℕ) → reply_at c s at ≡ got x n → reply_at c (take n s) at ≡ got x n
    reply_short x n e =
        let q = reply_body e in
        let same = body_short s at (kind_of c) (answer_length c) q.1 ∙ sym q.1 in
        ap (λ (k : ℕ). reply_at c (take k s) at) (reply_size x n e)
        ∙ same_reply s (take (at + answer_size c) s) at same ∙ e

    reply_within : (x : Reply c) (n : ℕ) → reply_at c s at ≡ got x n → n ≤ length s
    reply_within x n e =
        let h = answer_says s at (reply_body e).1 in
        omega (arith, h.0, reply_size x n e)

    -- an answer is wanted at the end of the answers alone
    pub reply_spent : reply_at c s at ≡ wants → at ≡ length s
    reply_spent e =
        let there = meaning_there (reply_sort c) in
        let wanted = sym (reply_is s at) ∙ e in
        answer_says s at (body_wanted (at + answer_size c) (answer_at s at c) (meaning (reply_sort c)) there wanted)

  -- .. and always there
  pub reply_at_end : (s : List ℕ) → reply_at c s (length s) ≡ wants
  reply_at_end s =
      reply_is s (length s)
      ∙ ap (λ (y : Found (List ℕ)). taken (length s + answer_size c) (on_found y (meaning (reply_sort c))))
      (body_at_end s (kind_of c) (answer_length c))

  -- a body of the right length behind the kind is read as what it means
  pub reply_new : (s b : List ℕ) (x : Reply c) → length b ≡ answer_length c → meaning (reply_sort c) b ≡ found x
      → reply_at c (s ++ (kind_of c ∷ b)) (length s) ≡ got x (length s + answer_size c)
  reply_new s b x l e =
      let t : List ℕ = s ++ (kind_of c ∷ b) in
      let room : length s + answer_length c < length t = omega (arith, length-append s (kind_of c ∷ b)) in
      let body : take (answer_length c) (drop (length s + 1) t) ≡ b =
      ap (take (answer_length c)) (drop-append-add s (kind_of c ∷ b) 1) ∙ take_all (answer_length c) b (omega arith) in
      let stands = body_stands t (length s) (kind_of c) (answer_length c) room (get_or-append_seam s (kind_of c) b 0) in
      let next = length s + answer_size c in
      reply_is t (length s)
      ∙ ap (λ (y : Found (List ℕ)). taken next (on_found y (meaning (reply_sort c)))) (stands ∙ ap found body)
      ∙ ap (taken next) e

-- ---- all of them

pub reads : Reads reply_at
reads =
    record {
      keeps = λ c s w at. reply_keeps c s at w;
      short = λ c s at. reply_short c s at;
      onward = λ c s at x n e. omega (arith, reply_size c s at x n e);
      within = λ c s at. reply_within c s at;
      spent = λ c s at. reply_spent c s at;
    }
