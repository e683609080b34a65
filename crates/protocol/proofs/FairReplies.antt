-- Fair replies as data: what a fair host's octets may say to a call, and that there is always something that they may
-- say. Assumes nothing.
use Rattle.std.specs.Prelude.{Option, Some, Ok, Err}
use Prim.Native.Nat.{ℕ, ◌+◌, ◌<◌}
use mathlib.Core.Path.{◌≡◌, refl, sym, ap, ◌∙◌, subst}
use mathlib.Core.Bool.{Bool, true, false, cond}
use mathlib.Core.List.{List, [], ◌∷◌, ◌++◌, reverse, map}
use native.Mathlib.Omega.{arith}
use borrow.Author.Tests.{eqb-true, le-ltb}
use lib.Dec.{eqb}
use lib.ListN.{length, take, drop, length-append, length-drop}
use lib.Seq.{length-take-le}
use Rattle.octets.specs.Octets.{from_octets, to_octets, octets_of, word_of, word_be}
use Rattle.octets.proofs.Octets.{Octets, octets_append, octets_reverse, octets_drop, octets_take}
use Rattle.octets.proofs.Octets.{length_to, octets_to, from_to, to_from, word_lt, word_back}
use Rattle.crypto.specs.Crypto.{non_zero, drawn_nonce}
use Rattle.crypto.specs.declared.crypto.IdentityResolvingKey.{IdentityResolvingKey}
use Rattle.crypto.specs.declared.crypto.LongTermKey.{LongTermKey}
use Rattle.crypto.specs.declared.crypto.Nonce.{Nonce}
use Rattle.smp_types.specs.declared.types.PassKey.{PassKey}
use Rattle.bond.specs.Bond.{bond_of}
use Rattle.bond.specs.declared.Address.{Address}
use Rattle.bond.specs.declared.BondInformation.{BondInformation}
use Rattle.host_calls.specs.Calls.{kind_of, body_lengths, length_in}
use Rattle.host_calls.specs.declared.call.Call.{Call}
use Rattle.host_calls.proofs.Writing.{body_length_lem}
use Rattle.host_answers.specs.Answers.{answer_length, found, pass_key_max}
use Rattle.machine.specs.declared.Machine.{Machine}
use Rattle.protocol.specs.Program.{ret, ask, got, wanting, play}
use Rattle.protocol.specs.Ops.{delivered, Sort, a_verdict, a_flag, an_irk, an_address, a_nonce, a_pass_key, an_ltk}
use Rattle.protocol.specs.Ops.{an_ediv, a_rand, a_bond, an_option_bond, Holds, reply_sort, Reply, reply_at, answer_size}
use Rattle.protocol.specs.Ops.{Program}
use Rattle.protocol.specs.FairLink.{Shared, AreOctets, FairReply, FairAnswers}
use Rattle.protocol.proofs.Programs.{is_wanting, along}
use Rattle.protocol.proofs.Replies.{meaning, sort_length, answer_length_lem, reply_means, reply_spent, reply_at_end}
use Rattle.protocol.proofs.Replies.{reply_new, reads}

-- ---- what a fair host may say

-- a word, or a number of n octets, that comes back from its octets: what is read of octets is such
abbrev pub ReadBack : ℕ → Type 0
ReadBack w = word_of (octets_of w) ≡ w

abbrev pub NumberBack : ℕ → ℕ → Type 0
NumberBack size n = from_octets (to_octets size n) ≡ n

-- a fair reply of a sort, as data ..
abbrev pub FairData : Sort → Type 0
FairData a_verdict = Unit {0}
FairData a_flag = Bool
FairData an_irk = IdentityResolvingKey
FairData an_address = Address
FairData a_nonce = (n : Nonce) × ReadBack n.0
FairData a_pass_key = Unit {0}
FairData an_ltk = (k : LongTermKey) × ReadBack k.0
FairData an_ediv = (n : ℕ) × NumberBack 2 n
FairData a_rand = (n : ℕ) × NumberBack 8 n
FairData a_bond = BondInformation
FairData an_option_bond = Option BondInformation

-- .. and as a reply
abbrev pub fairly : Shared → (sort : Sort) → FairData sort → Holds sort
fairly shared a_verdict y = delivered
fairly shared a_flag y = y
fairly shared an_irk y = y
fairly shared an_address y = Ok y
fairly shared a_nonce y = y.0
fairly shared a_pass_key y = record { 0 = shared.shown }
fairly shared an_ltk y = y.0
fairly shared an_ediv y = y.0
fairly shared a_rand y = y.0
fairly shared a_bond y = Ok y
fairly shared an_option_bond y = Ok y

-- ---- what is read of octets comes back from its octets

word_read_lem : (b : List ℕ) → Octets b → ReadBack (word_of b)
word_read_lem b o = word_back (word_of b) (word_lt b o)

nonce_read : (b : List ℕ) → Octets b → ReadBack (drawn_nonce b).0
unfolding drawn_nonce non_zero word_be octets_of word_of
nonce_read b o = go (eqb (word_be b) 0)
  where
    go : (zeros : Bool) → ReadBack (cond zeros 1 (word_be b))
    go true = refl
    go false = word_read_lem (reverse b) (octets_reverse b o)

number_read : (n : ℕ) (b : List ℕ) → Octets b → length b ≡ n → NumberBack n (from_octets b)
number_read n b o l = ap from_octets (ap (λ (k : ℕ). to_octets k (from_octets b)) (sym l) ∙ to_from b o)

-- ---- a fair reply is such data

said : {X : Type 0} (P : X → Type 0) {x y : X} → found x ≡ found y → P x → P y
said P {x} {y} e p = let same : x ≡ y = cc in subst P same p

meaning_fair : (shared : Shared) (sort : Sort) (b : List ℕ) (x : Holds sort) → Octets b → length b ≡ sort_length sort
    → meaning sort b ≡ found x → FairReply shared sort x → (y : FairData sort) × (x ≡ fairly shared sort y)
meaning_fair shared a_verdict b x o l e f = (tt, f)
meaning_fair shared a_flag b x o l e f = (x, refl)
meaning_fair shared an_irk b x o l e f = (x, refl)
meaning_fair shared an_address b (Ok a) o l e f = (a, refl)
meaning_fair shared an_address b (Err r) o l e f = absurd f
meaning_fair shared a_nonce b x o l e f = ((x, said (λ y. ReadBack y.0) e (nonce_read b o)), refl)
meaning_fair shared a_pass_key b x o l e f =
    let pass_key : ℕ → PassKey = λ n. record { 0 = n } in
    (tt, ap pass_key f)
meaning_fair shared an_ltk b x o l e f = ((x, said (λ y. ReadBack y.0) e (word_read_lem b o)), refl)
meaning_fair shared an_ediv b x o l e f = ((x, said (NumberBack 2) e (number_read 2 b o l)), refl)
meaning_fair shared a_rand b x o l e f = ((x, said (NumberBack 8) e (number_read 8 b o l)), refl)
meaning_fair shared a_bond b (Ok a) o l e f = (a, refl)
meaning_fair shared a_bond b (Err r) o l e f = absurd f
meaning_fair shared an_option_bond b (Ok a) o l e f = (a, refl)
meaning_fair shared an_option_bond b (Err r) o l e f = absurd f

pub fair_reply : (shared : Shared) (c : Call) (s : List ℕ) (at : ℕ) (x : Reply c) (n : ℕ) → AreOctets s
    → reply_at c s at ≡ got x n → FairReply shared (reply_sort c) x
    → (y : FairData (reply_sort c)) × (x ≡ fairly shared (reply_sort c) y)
fair_reply shared c s at x n o e f =
    let h = reply_means c s at x n e in
    let size = answer_length c in
    let octets = octets_take size (drop (at + 1) s) (octets_drop (at + 1) s o) in
    let long = length-take-le size (drop (at + 1) s) (omega (arith, h.0, length-drop (at + 1) s)) in
    meaning_fair shared (reply_sort c) (take size (drop (at + 1) s)) x octets (long ∙ answer_length_lem c) h.1 f

-- ---- to each call a fair host has an answer

-- a body's number: the passkey that is shown, and zero for all else
abbrev fair_number : Shared → Sort → ℕ
fair_number shared a_verdict = 0
fair_number shared a_flag = 0
fair_number shared an_irk = 0
fair_number shared an_address = 0
fair_number shared a_nonce = 0
fair_number shared a_pass_key = shared.shown
fair_number shared an_ltk = 0
fair_number shared an_ediv = 0
fair_number shared a_rand = 0
fair_number shared a_bond = 0
fair_number shared an_option_bond = 0

abbrev fair_body : Shared → Sort → List ℕ
fair_body shared sort = to_octets (sort_length sort) (fair_number shared sort)

-- behind the kind
abbrev fair_answer : Shared → Call → List ℕ
fair_answer shared c = kind_of c ∷ fair_body shared (reply_sort c)

-- the body means a fair reply
body_fair : (shared : Shared) (sort : Sort)
    → (x : Holds sort) × (meaning sort (fair_body shared sort) ≡ found x) × FairReply shared sort x
unfolding bond_of
body_fair shared a_verdict = (delivered, refl, refl)
body_fair shared a_flag = (false, refl, tt)
body_fair shared an_irk = (_, refl, tt)
body_fair shared an_address = (_, refl, tt)
body_fair shared a_nonce = (_, refl, tt)
body_fair shared a_pass_key =
    let most = shared.shown_most in
    let back : NumberBack 4 shared.shown = from_to 4 shared.shown (omega arith) in
    (record { 0 = shared.shown }, rw (back, le-ltb pass_key_max shared.shown), refl)
body_fair shared an_ltk = (_, refl, tt)
body_fair shared an_ediv = (0, refl, tt)
body_fair shared a_rand = (0, refl, tt)
body_fair shared a_bond = (_, refl, tt)
body_fair shared an_option_bond = (_, refl, tt)

-- .. and is read as that behind any octets
answer_fair : (shared : Shared) (c : Call) (s : List ℕ)
    → (x : Reply c) × (reply_at c (s ++ fair_answer shared c) (length s) ≡ got x (length (s ++ fair_answer shared c)))
    × FairReply shared (reply_sort c) x
answer_fair shared c s =
    let sort = reply_sort c in
    let q = body_fair shared sort in
    let long = length_to (sort_length sort) (fair_number shared sort) ∙ sym (answer_length_lem c) in
    let end : length s + answer_size c ≡ length (s ++ fair_answer shared c) =
    omega (arith, long, length-append s (fair_answer shared c)) in
    (q.0, reply_new c s (fair_body shared sort) q.0 long q.1 ∙ ap (got q.0) end, q.2)

-- the kinds of calls are octets
kind_listed : (l : List (ℕ × ℕ)) (kind : ℕ) {n : ℕ} → AreOctets (map (λ x. x.0) l) → length_in l kind ≡ Some n
    → kind < 256
kind_listed [] kind o e = let z : ◌≡◌ {A = ℕ} 0 1 = cc in omega arith
kind_listed (x ∷ l) kind {n} o e = go (kind_listed l kind o.1) (eqb kind x.0) refl e
  where
    go : (length_in l kind ≡ Some n → kind < 256)
        → (same : Bool) → eqb kind x.0 ≡ same → cond same (Some x.1) (length_in l kind) ≡ Some n → kind < 256
    go rec true p q = omega (arith, eqb-true kind x.0 p, o.0)
    go rec false p q = rec q

kind_octet : (c : Call) → kind_of c < 256
kind_octet c = kind_listed body_lengths (kind_of c) (omega arith) (body_length_lem c)

-- ---- and to an open step one answer more

-- where the answers end, they are fair
fair_at_end : (shared : Shared) (p : Program Machine) (s : List ℕ) → FairAnswers shared p s (length s)
fair_at_end shared (ret m) s = tt
fair_at_end shared (ask c k) s = rw (reply_at_end c s) tt

-- along the play: what was read before is read again, then the answer to the call that wants one
more_at : (shared : Shared) (s : List ℕ) (p : Program Machine) (at : ℕ) → FairAnswers shared p s at
    → (play reply_at s p at).ending ≡ wanting → (c : Call) × FairAnswers shared p (s ++ fair_answer shared c) at
more_at shared s =
    along reply_at s (λ p at. FairAnswers shared p s at → (play reply_at s p at).ending ≡ wanting
    → (c : Call) × FairAnswers shared p (s ++ fair_answer shared c) at)
    (λ m at f h. absurd (is_wanting h))
    (λ c k at e f h. let q = answer_fair shared c s in
    (c, rw (reply_spent c s at e, q.1) (q.2, fair_at_end shared (k q.0) (s ++ fair_answer shared c))))
    (λ c k at e f h. absurd (rw e at f))
    (λ c k at x n e rec f h. let g : FairReply shared (reply_sort c) x × FairAnswers shared (k x) s n = rw e at f in
    let q = rec g.1 (rw e at h) in
    (q.0, rw (reads.keeps c s (fair_answer shared q.0) at x n e) (g.0, q.1)))

pub more_answers : (shared : Shared) (p : Program Machine) (s : List ℕ) → AreOctets s → FairAnswers shared p s 0
    → (play reply_at s p 0).ending ≡ wanting
    → (x : ℕ) × (w : List ℕ) × AreOctets (s ++ (x ∷ w)) × FairAnswers shared p (s ++ (x ∷ w)) 0
more_answers shared p s o f h =
    let q = more_at shared s p 0 f h in
    let c = q.0 in
    let body = octets_to (sort_length (reply_sort c)) (fair_number shared (reply_sort c)) in
    (kind_of c, fair_body shared (reply_sort c), octets_append s (fair_answer shared c) o (kind_octet c, body), q.1)
