-- Believed: the archive's contracts and demand 3 rest on it.
-- Answers as document 01 has them ("Paired or failed", "What is turned back"): records with the call's kind and a body
-- of a fixed length, read at a place. Assumes nothing.
use Rattle.std.specs.Prelude.{ℕ, ◌+◌, Bool, true, false, cond, ◌&&◌, List, eqb, ltb, length, get_or, take, drop, Option, Some, None, Result, Ok, Err}
use Rattle.octets.specs.Octets.{from_octets, word_of}
use Rattle.crypto.specs.Crypto.{drawn_nonce}
use Rattle.crypto.specs.declared.crypto.IdentityResolvingKey.{IdentityResolvingKey}
use Rattle.crypto.specs.declared.crypto.LongTermKey.{LongTermKey}
use Rattle.crypto.specs.declared.crypto.Nonce.{Nonce}
use Rattle.smp_types.specs.declared.types.PassKey.{PassKey}
use Rattle.bond.specs.Bond.{address_of, verdict_error, flag_of, bond_of}
use Rattle.bond.specs.declared.Address.{Address}
use Rattle.bond.specs.declared.Error.{Error}
use Rattle.bond.specs.declared.BondInformation.{BondInformation}
use Rattle.host_calls.specs.Calls.{kind_of, encryption_kind}
use Rattle.host_calls.specs.declared.call.Question.{Question}
use Rattle.host_calls.specs.declared.call.Question.TheVariants as question
use Rattle.host_calls.specs.declared.call.Draw.{Draw}
use Rattle.host_calls.specs.declared.call.Draw.TheVariants as draw
use Rattle.host_calls.specs.declared.call.Call.{Call}
use Rattle.host_calls.specs.declared.call.Call.TheVariants as call
use Rattle.host_answers.specs.declared.Stop.{Stop}
use Rattle.host_answers.specs.declared.Stop.TheVariants.{Wanted, Refused}

-- ---- the length of the answer to each call

abbrev pub question_answer : Question → ℕ
question_answer question.FindBond = 1
question_answer question.LocalIrk = 16
question_answer question.LocalIdentityAddress = 8
question_answer question.BondingFlag = 1
question_answer question.OobAvailable = 1

abbrev pub draw_answer : Draw → ℕ
draw_answer draw.Nonce = 16
draw_answer draw.PassKey = 4
draw_answer draw.LongTermKey = 16
draw_answer draw.Ediv = 2
draw_answer draw.Rand = 8

abbrev pub verdict_length : ℕ
verdict_length = 1

-- verdict and bond
abbrev pub encryption_length : ℕ
encryption_length = 52

-- packets, events and updates are answered by a verdict; 0x3A by verdict and bond, 0x3B by verdict, present and bond
abbrev pub answer_length : Call → ℕ
answer_length (call.SendPacket p) = verdict_length
answer_length (call.SendConnectionEvent e) = verdict_length
answer_length (call.Ask q) = question_answer q
answer_length (call.Draw d) = draw_answer d
answer_length (call.EnableEncryption k l n) = encryption_length
answer_length call.EnableBondedEncryption = 53
answer_length (call.UpdateBondInformation b) = verdict_length

-- ---- what stands at a place

-- an answer that was found; or the answers end there, and the step wants one; or the step is refused by a number
pub data Found (A : Type 0) : Type 0 where
  found : A → Found A
  wanted : Found A
  refusal : ℕ → Found A

abbrev pub on_found : {A B : Type 0} → Found A → (A → Found B) → Found B
on_found (found a) f = f a
on_found wanted f = wanted
on_found (refusal n) f = refusal n

-- "What is turned back": 3 when an answer reached has another kind, a cut body or a forbidden value
abbrev pub answer_refusal : ℕ
answer_refusal = 3

-- a forbidden value is refused
abbrev pub allowed : {A B : Type 0} → Option A → (A → B) → Found B
allowed None f = refusal answer_refusal
allowed (Some a) f = found (f a)

-- the body of the record at a place: wanted where the answers end exactly there, refused where the kind is another or
-- the body is cut
unfoldable pub body_at : List ℕ → ℕ → ℕ → ℕ → Found (List ℕ)
body_at s at kind size =
    cond (eqb at (length s)) wanted
    (cond (ltb (at + size) (length s) && eqb (get_or s at 0) kind) (found (take size (drop (at + 1) s)))
    (refusal answer_refusal))

-- the answer to a call
abbrev pub answer_at : List ℕ → ℕ → Call → Found (List ℕ)
answer_at s at c = body_at s at (kind_of c) (answer_length c)

-- ---- the answers, each from its body

-- a verdict: 0 done, 1 out of memory, others a host error with that octet
unfoldable pub verdict_at : List ℕ → ℕ → ℕ → Found ℕ
verdict_at s at kind = on_found (body_at s at kind verdict_length) (λ b. found (get_or b 0 0))

-- a yes/no octet is 0 or 1
unfoldable pub flag_at : List ℕ → ℕ → ℕ → Found Bool
flag_at s at kind = on_found (body_at s at kind 1) (λ b. allowed (flag_of (get_or b 0 0)) (λ yes. yes))

unfoldable pub irk_at : List ℕ → ℕ → Found IdentityResolvingKey
irk_at s at = on_found (answer_at s at (call.Ask question.LocalIrk)) (λ b. found (record { 0 = word_of b }))

-- verdict, then the address, ignored after a verdict other than 0
abbrev pub address_body : List ℕ → Result Address Error
address_body b = cond (eqb (get_or b 0 0) 0) (Ok (address_of (take 7 (drop 1 b)))) (Err (verdict_error (get_or b 0 0)))

unfoldable pub address_at : List ℕ → ℕ → Found (Result Address Error)
address_at s at = on_found (answer_at s at (call.Ask question.LocalIdentityAddress)) (λ b. found (address_body b))

-- most significant octet first; 0 becomes 1
unfoldable pub nonce_at : List ℕ → ℕ → Found Nonce
nonce_at s at = on_found (answer_at s at (call.Draw draw.Nonce)) (λ b. found (drawn_nonce b))

-- a drawn passkey is at most 999,999
abbrev pub pass_key_max : ℕ
pass_key_max = 999999

abbrev pub pass_key_body : ℕ → Found PassKey
pass_key_body n = cond (ltb pass_key_max n) (refusal answer_refusal) (found (record { 0 = n }))

unfoldable pub pass_key_at : List ℕ → ℕ → Found PassKey
pass_key_at s at = on_found (answer_at s at (call.Draw draw.PassKey)) (λ b. pass_key_body (from_octets b))

unfoldable pub ltk_at : List ℕ → ℕ → Found LongTermKey
ltk_at s at = on_found (answer_at s at (call.Draw draw.LongTermKey)) (λ b. found (record { 0 = word_of b }))

unfoldable pub ediv_at : List ℕ → ℕ → Found ℕ
ediv_at s at = on_found (answer_at s at (call.Draw draw.Ediv)) (λ b. found (from_octets b))

unfoldable pub rand_at : List ℕ → ℕ → Found ℕ
rand_at s at = on_found (answer_at s at (call.Draw draw.Rand)) (λ b. found (from_octets b))

-- verdict, then the bond, ignored after a verdict other than 0
abbrev pub encryption_body : List ℕ → Found (Result BondInformation Error)
encryption_body b = cond (eqb (get_or b 0 0) 0) (allowed (bond_of (take 51 (drop 1 b))) Ok) (found (Err (verdict_error (get_or b 0 0))))

unfoldable pub encryption_at : List ℕ → ℕ → Found (Result BondInformation Error)
encryption_at s at = on_found (body_at s at encryption_kind encryption_length) encryption_body

-- verdict, then present 0/1, ignored after a verdict other than 0, then the bond, ignored where absent
abbrev pub present_body : List ℕ → Bool → Found (Result (Option BondInformation) Error)
present_body b true = allowed (bond_of (take 51 (drop 2 b))) (λ bond. Ok (Some bond))
present_body b false = found (Ok None)

abbrev pub on_present : List ℕ → Option Bool → Found (Result (Option BondInformation) Error)
on_present b None = refusal answer_refusal
on_present b (Some p) = present_body b p

abbrev pub bonded_body : List ℕ → Found (Result (Option BondInformation) Error)
bonded_body b = cond (eqb (get_or b 0 0) 0) (on_present b (flag_of (get_or b 1 0))) (found (Err (verdict_error (get_or b 0 0))))

unfoldable pub bonded_at : List ℕ → ℕ → Found (Result (Option BondInformation) Error)
bonded_at s at = on_found (answer_at s at call.EnableBondedEncryption) bonded_body

-- ---- what the code gives

-- why there is no answer: the step wants one, or it is refused by 3
abbrev pub stop_found : {A : Type 0} → Stop → Found A
stop_found Wanted = wanted
stop_found Refused = refusal answer_refusal

-- an answer, or why there is none
abbrev pub found_of : {A : Type 0} → Result A Stop → Found A
found_of (Ok a) = found a
found_of (Err e) = stop_found e
