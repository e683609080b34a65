-- Laws of reading a call list: what the encoder wrote reads back, and what reads is those kinds and bodies laid end to
-- end. Assumes nothing.
use borrow.Author.Rules.{rules}
use mathlib.Core.Path.{◌≡◌, refl, sym, ap, ◌∙◌}
use Rattle.std.specs.Prelude.{Option, Some, None, Result, Ok, Err, IsErr}
use mathlib.Core.List.{List, [], ◌∷◌, ◌++◌, append_assoc, append-nil}
use Prim.Native.Nat.{ℕ, zero, suc, ◌+◌, ◌-◌, ◌≤◌, ◌<◌, zero-le, suc-le-suc}
use native.Mathlib.Nat.{add-zero, add-suc, suc-add}
use native.Mathlib.Omega.{arith}
use lib.ListN.{length, take, drop, length-append, length-drop, take-append-drop}
use lib.Seq.{length-take-le, drop-append_seam}
use Rattle.octets.specs.Answer.{Answer, refused, accepted, and_then}
use Rattle.host_calls.specs.Calls.{kind_of, body_of, call_octets, calls_octets, body_length}
use Rattle.host_call_list.specs.CallList.{begins, calls_from, calls_of, call_in, call_at_of, size_of, checked_of, count_of, list_answer}
use Rattle.host_calls.specs.declared.call.Call.{Call}
use Rattle.host_call_list.specs.declared.CallRecord.{CallRecord}
use Rattle.host_call_list.specs.declared.InvalidList.{InvalidList}
use Rattle.host_calls.proofs.Writing.{body_length_lem}

-- ---- a body is passed over, or it is cut

pub passed : (n at : ℕ) (l : List ℕ) → n ≤ length l → calls_from at n l ≡ calls_from (at + n) 0 (drop n l)
unfolding calls_from
passed zero at l h = ap (λ (k : ℕ). calls_from k 0 l) (sym (add-zero at))
passed (suc n) at [] h = absurd (omega arith)
passed (suc n) at (x ∷ l) h = passed n (suc at) l (omega arith) ∙ ap (λ (k : ℕ). calls_from k 0 (drop n l)) (suc-add at n ∙ sym (add-suc at n))

pub cut_body : (n at : ℕ) (l : List ℕ) → length l < n → calls_from at n l ≡ refused 6
unfolding calls_from
cut_body zero at l h = absurd (omega arith)
cut_body (suc n) at [] h = refl
cut_body (suc n) at (x ∷ l) h = cut_body n (suc at) l (omega arith)

-- ---- what the encoder wrote reads back

-- the records of calls written one after another from place at on
abbrev pub records_from : ℕ → List Call → List CallRecord
records_from at [] = []
records_from at (c ∷ l) = record { kind = kind_of c; body = suc at } ∷ records_from (at + length (call_octets c)) l

read_from : (cs : List Call) (at : ℕ) → calls_from at 0 (calls_octets cs) ≡ accepted (records_from at cs)
unfolding calls_from calls_octets call_octets
read_from [] at = refl
read_from (c ∷ cs) at =
    let body = body_of c in
    let rest = calls_octets cs in
    let size : at + suc (length body) ≡ suc at + length body = omega arith in
    let behind : calls_from (suc at) (length body) (body ++ rest) ≡ accepted (records_from (at + suc (length body)) cs) =
    passed (length body) (suc at) (body ++ rest) (rw length-append (omega arith))
    ∙ ap (calls_from (suc at + length body) 0) (drop-append_seam body rest)
    ∙ rw size (read_from cs (suc at + length body)) in
    rw (body_length_lem c, behind)

pub read_back : (cs : List Call) → calls_of (calls_octets cs) ≡ accepted (records_from 0 cs)
unfolding calls_of
read_back cs = read_from cs 0

-- ---- what reads is those kinds and bodies laid end to end

-- a body that was passed over is whole
body_whole : (n at : ℕ) (l : List ℕ) {rs : List CallRecord} → calls_from at n l ≡ accepted rs → n ≤ length l
unfolding calls_from
body_whole zero at l e = zero-le
body_whole (suc n) at [] e = cc
body_whole (suc n) at (x ∷ l) e = suc-le-suc (body_whole n (suc at) l e)

-- a call of kind k and the rest that was read behind it
behind : (k at : ℕ) (x : Option ℕ) (l : List ℕ) (r : CallRecord) (rs : List CallRecord) → body_length k ≡ x
    → begins k (suc at) x (λ size. calls_from (suc at) size l) ≡ accepted (r ∷ rs)
    → (r ≡ record { kind = k; body = suc at }) × (calls_from (suc at) (size_of x) l ≡ accepted rs)
behind k at None l r rs p e = cc
behind k at (Some n) l r rs p e = onto (calls_from (suc at) n l) e
  where
    onto : (y : Answer (List CallRecord)) → and_then y (λ calls. accepted (record { kind = k; body = suc at } ∷ calls)) ≡ accepted (r ∷ rs)
        → (r ≡ record { kind = k; body = suc at }) × (y ≡ accepted rs)
    onto (refused m) e = cc
    onto (accepted calls) e = (cc, cc)

nothing_begins : (k at : ℕ) (x : Option ℕ) (l : List ℕ) → begins k (suc at) x (λ size. calls_from (suc at) size l) ≡ accepted [] → ⊥
nothing_begins k at None l e = cc
nothing_begins k at (Some n) l e = onto (calls_from (suc at) n l) e
  where
    onto : (y : Answer (List CallRecord)) → and_then y (λ calls. accepted (record { kind = k; body = suc at } ∷ calls)) ≡ accepted [] → ⊥
    onto (refused m) e = cc
    onto (accepted calls) e = cc

-- the kinds of calls, each with its body in l
abbrev pub end_to_end : List ℕ → List CallRecord → List ℕ
end_to_end l [] = []
end_to_end l (c ∷ calls) = c.kind ∷ (take (size_of (body_length c.kind)) (drop c.body l) ++ end_to_end l calls)

laid_from : (rs : List CallRecord) (pre l : List ℕ) → calls_from (length pre) 0 l ≡ accepted rs → l ≡ end_to_end (pre ++ l) rs
unfolding calls_from
laid_from [] pre [] e = refl
laid_from (r ∷ rs) pre [] e = cc
laid_from [] pre (k ∷ l) e = absurd (nothing_begins k (length pre) (body_length k) l e)
laid_from (r ∷ rs) pre (k ∷ l) e =
    let at = length pre in
    let n = size_of (body_length k) in
    let q = behind k at (body_length k) l r rs refl e in
    let room : n ≤ length l = body_whole n (suc at) l q.1 in
    let front : List ℕ = pre ++ (k ∷ take n l) in
    let place : suc at + n ≡ length front = sym (length-append pre (k ∷ take n l) ∙ ap (λ (m : ℕ). at + suc m) (length-take-le n l room) ∙ add-suc at n ∙ sym (suc-add at n)) in
    let same : front ++ drop n l ≡ pre ++ (k ∷ l) = append_assoc pre (k ∷ take n l) (drop n l) ∙ ap (λ (t : List ℕ). pre ++ (k ∷ t)) (take-append-drop n l) in
    let tail : calls_from (length front) 0 (drop n l) ≡ accepted rs = rw place at (sym (passed n (suc at) l room) ∙ q.1) in
    let rest : drop n l ≡ end_to_end (pre ++ (k ∷ l)) rs = laid_from rs front (drop n l) tail ∙ ap (λ (t : List ℕ). end_to_end t rs) same in
    let here : drop (suc at) (pre ++ (k ∷ l)) ≡ l = past pre k l in
    sym (take_append_drop_cons k n l) ∙ rw (q.0, here, ← rest)
  where
    past : (pre : List ℕ) (k : ℕ) (l : List ℕ) → drop (suc (length pre)) (pre ++ (k ∷ l)) ≡ l
    past [] k l = refl
    past (x ∷ pre) k l = past pre k l

    take_append_drop_cons : (k n : ℕ) (l : List ℕ) → k ∷ (take n l ++ drop n l) ≡ k ∷ l
    take_append_drop_cons k n l = ap (λ (t : List ℕ). k ∷ t) (take-append-drop n l)

pub laid_out : (l : List ℕ) (rs : List CallRecord) → calls_of l ≡ accepted rs → l ≡ end_to_end l rs
unfolding calls_of
laid_out l rs e = laid_from rs [] l e

-- ---- a loop over the calls of a list

-- the calls before the rest are done, and the one at an index is known if it is one of them
pub record Seen (l rest : List ℕ) (index count : ℕ) (call : Option CallRecord) : Type 0 where
  pub done : List CallRecord
  pub few : count + length rest ≤ length l
  pub number : count ≡ length done
  pub follows : calls_of l ≡ and_then (calls_from (length l - length rest) 0 rest) (λ more. accepted (done ++ more))
  pub here : call ≡ call_in done index

pub seen_none : (l : List ℕ) (index : ℕ) → Seen l l index 0 None
unfolding calls_of
seen_none l index =
    let start : length l - length l ≡ 0 = omega arith in
    record { done = []; few = omega arith; number = refl; follows = rw start (same (calls_from 0 0 l)); here = refl }
  where
    same : (x : Answer (List CallRecord)) → x ≡ and_then x (λ more. accepted more)
    same (refused n) = refl
    same (accepted a) = refl

-- the list is at its end
pub seen_all : {l : List ℕ} {index count : ℕ} {call : Option CallRecord} → Seen l [] index count call → accepted (count, call) ≡ checked_of l index
unfolding calls_from checked_of
seen_all w =
    let all : calls_of _ ≡ accepted w.done = w.follows ∙ rw append-nil in
    rw (all, w.number, w.here)

-- one more call behind those that are done
call_last : (done : List CallRecord) (r : CallRecord) (i : ℕ) → i ≡ length done → Some r ≡ call_in (done ++ (r ∷ [])) i
call_last [] r i e = rw e
call_last (x ∷ done) r zero e = absurd (omega arith)
call_last (x ∷ done) r (suc i) e = call_last done r i (omega arith)

call_before : (done : List CallRecord) (r : CallRecord) (i : ℕ) → (i ≡ length done → ⊥) → call_in done i ≡ call_in (done ++ (r ∷ [])) i
call_before [] r zero n = absurd (n refl)
call_before [] r (suc i) n = refl
call_before (x ∷ done) r zero n = refl
call_before (x ∷ done) r (suc i) n = call_before done r i (λ e. n (ap suc e))

-- a call begins
call_begins : (at : ℕ) (k : ℕ) (tail : List ℕ) → calls_from at 0 (k ∷ tail) ≡ begins k (suc at) (body_length k) (λ size. calls_from (suc at) size tail)
unfolding calls_from
call_begins at k tail = refl

module _ {l tail : List ℕ} {k index count : ℕ} {call : Option CallRecord} (w : Seen l (k ∷ tail) index count call) where
  begun : calls_of l
      ≡ and_then (begins k (length l - length tail) (body_length k) (λ size. calls_from (length l - length tail) size tail)) (λ more. accepted (w.done ++ more))
  begun =
      let few = w.few in
      let place : suc (length l - suc (length tail)) ≡ length l - length tail = omega arith in
      w.follows ∙ rw (call_begins (length l - suc (length tail)) k tail, place)

  -- its kind is unknown
  pub seen_unknown : body_length k ≡ None → refused 6 ≡ checked_of l index
  unfolding checked_of
  seen_unknown e = let all : calls_of l ≡ refused 6 = begun ∙ rw e in rw all

  -- its body is cut
  pub seen_cut : {size : ℕ} → body_length k ≡ Some size → length tail < size → refused 6 ≡ checked_of l index
  unfolding checked_of
  seen_cut {size} e h = let all : calls_of l ≡ refused 6 = begun ∙ rw (e, cut_body size (length l - length tail) tail h) in rw all

  -- it is whole
  regroup : (r : CallRecord) (x : Answer (List CallRecord))
      → and_then (and_then x (λ calls. accepted (r ∷ calls))) (λ more. accepted (w.done ++ more)) ≡ and_then x (λ more. accepted ((w.done ++ (r ∷ [])) ++ more))
  regroup r (refused n) = refl
  regroup r (accepted a) = ap accepted (sym (append_assoc w.done (r ∷ []) a))

  seen_more : {size : ℕ} {next : Option CallRecord} → body_length k ≡ Some size → size ≤ length tail
      → next ≡ call_in (w.done ++ (record { kind = k; body = length l - length tail } ∷ [])) index → Seen l (drop size tail) index (count + 1) next
  seen_more {size} e h r =
      let few = w.few in
      let number = w.number in
      let here : CallRecord = record { kind = k; body = length l - length tail } in
      let left : length (drop size tail) + size ≡ length tail = rw length-drop (omega arith) in
      let next : length l - length tail + size ≡ length l - length (drop size tail) = omega arith in
      let whole : calls_from (length l - length tail) size tail ≡ calls_from (length l - length (drop size tail)) 0 (drop size tail) =
      passed size (length l - length tail) tail h ∙ ap (λ (n : ℕ). calls_from n 0 (drop size tail)) next in
      record {
        done = w.done ++ (here ∷ []);
        few = omega arith;
        number = rw length-append (omega arith);
        follows = begun ∙ rw (e, whole) (regroup here (calls_from (length l - length (drop size tail)) 0 (drop size tail)));
        here = r;
      }

  -- it is the one at the index, or another
  pub seen_here : {size : ℕ} → body_length k ≡ Some size → size ≤ length tail → count ≡ index
      → Seen l (drop size tail) index (count + 1) (Some (record { kind = k; body = length l - length tail }))
  seen_here e h n = seen_more e h (call_last w.done _ index (sym n ∙ w.number))

  pub seen_other : {size : ℕ} → body_length k ≡ Some size → size ≤ length tail → (count ≡ index → ⊥) → Seen l (drop size tail) index (count + 1) call
  seen_other e h n = seen_more e h (w.here ∙ call_before w.done _ index (λ m. n (w.number ∙ sym m)))

-- ---- what a checked list says

pub invalid : {A : Type 0} (r : Result A InvalidList) → IsErr r → list_answer r ≡ refused 6
invalid (Ok a) h = search rules
invalid (Err e) h = refl

pub count_lem : (l : List ℕ) → count_of l ≡ and_then (checked_of l 0) (λ (p : ℕ × Option CallRecord). accepted p.0)
unfolding count_of checked_of
count_lem l = go (calls_of l)
  where
    go : (x : Answer (List CallRecord)) → and_then x (λ calls. accepted (length calls)) ≡ and_then (and_then {B = ℕ × Option CallRecord} x (λ calls. accepted (length calls, call_in calls 0))) (λ (p : ℕ × Option CallRecord). accepted p.0)
    go (refused n) = refl
    go (accepted calls) = refl

pub call_at_lem : (l : List ℕ) (i : ℕ) → call_at_of l i ≡ and_then (checked_of l i) (λ (p : ℕ × Option CallRecord). accepted p.1)
unfolding call_at_of checked_of
call_at_lem l i = go (calls_of l)
  where
    go : (x : Answer (List CallRecord)) → and_then x (λ calls. accepted (call_in calls i)) ≡ and_then (and_then {B = ℕ × Option CallRecord} x (λ calls. accepted (length calls, call_in calls i))) (λ (p : ℕ × Option CallRecord). accepted p.1)
    go (refused n) = refl
    go (accepted calls) = refl
