-- Believed: the archive's contracts and demand 3 rest on it.
-- The host as a handler sees it: PairingOps and the generator of pairing/mod.rs, as calls and their replies. What a
-- verdict means, and which octets are forbidden, is said here, where an answer is read, and not in the handlers. Assumes
-- nothing.
use Rattle.std.specs.Prelude.{ℕ, ◌+◌, Bool, cond, List, eqb, Option, Result}
use Rattle.crypto.specs.declared.crypto.IdentityResolvingKey.{IdentityResolvingKey}
use Rattle.crypto.specs.declared.crypto.LongTermKey.{LongTermKey}
use Rattle.crypto.specs.declared.crypto.Nonce.{Nonce}
use Rattle.smp_types.specs.declared.types.PassKey.{PassKey}
use Rattle.bond.specs.Bond.{verdict_error}
use Rattle.bond.specs.declared.Error.{Error}
use Rattle.host_calls.specs.Calls.{kind_of}
use Rattle.host_calls.specs.declared.call.Question.{Question}
use Rattle.host_calls.specs.declared.call.Question.TheVariants as question
use Rattle.host_calls.specs.declared.call.Draw.{Draw}
use Rattle.host_calls.specs.declared.call.Draw.TheVariants as draw
use Rattle.host_calls.specs.declared.call.Call.{Call}
use Rattle.host_calls.specs.declared.call.Call.TheVariants as call
use Rattle.host_answers.specs.Answers.{answer_length, Found, found, wanted, refusal, on_found, verdict_at, flag_at, irk_at, address_at, nonce_at, pass_key_at, ltk_at, ediv_at, rand_at, encryption_at, bonded_at}
use Rattle.protocol.specs.Program.{Prog, Taken, got, wants, refused}
use Rattle.bond.specs.declared.Address.{Address}
use Rattle.bond.specs.declared.BondInformation.{BondInformation}

-- ---- replies

-- what a verdict says of a packet, an event or an update of the bond
pub data Delivery : Type 0 where
  delivered : Delivery
  undelivered : Error → Delivery

abbrev pub delivery_of : ℕ → Delivery
delivery_of verdict = cond (eqb verdict 0) delivered (undelivered (verdict_error verdict))

-- the sorts of reply, one for each way of reading an answer
pub data Sort : Type 0 where
  a_verdict a_flag an_irk an_address a_nonce a_pass_key an_ltk an_ediv a_rand a_bond an_option_bond : Sort

abbrev pub Holds : Sort → Type 0
Holds a_verdict = Delivery
Holds a_flag = Bool
Holds an_irk = IdentityResolvingKey
Holds an_address = Result Address Error
Holds a_nonce = Nonce
Holds a_pass_key = PassKey
Holds an_ltk = LongTermKey
Holds an_ediv = ℕ
Holds a_rand = ℕ
Holds a_bond = Result BondInformation Error
Holds an_option_bond = Result (Option BondInformation) Error

abbrev pub question_reply : Question → Sort
question_reply question.FindBond = a_flag
question_reply question.LocalIrk = an_irk
question_reply question.LocalIdentityAddress = an_address
question_reply question.BondingFlag = a_flag
question_reply question.OobAvailable = a_flag

abbrev pub draw_reply : Draw → Sort
draw_reply draw.Nonce = a_nonce
draw_reply draw.PassKey = a_pass_key
draw_reply draw.LongTermKey = an_ltk
draw_reply draw.Ediv = an_ediv
draw_reply draw.Rand = a_rand

abbrev pub reply_sort : Call → Sort
reply_sort (call.SendPacket p) = a_verdict
reply_sort (call.SendConnectionEvent e) = a_verdict
reply_sort (call.Ask q) = question_reply q
reply_sort (call.Draw d) = draw_reply d
reply_sort (call.EnableEncryption k l n) = a_bond
reply_sort call.EnableBondedEncryption = an_option_bond
reply_sort (call.UpdateBondInformation b) = a_verdict

abbrev pub Reply : Call → Type 0
Reply c = Holds (reply_sort c)

-- ---- the reply to a call, read at a place of the answers

abbrev pub delivery_at : List ℕ → ℕ → ℕ → Found Delivery
delivery_at s at kind = on_found (verdict_at s at kind) (λ v. found (delivery_of v))

abbrev pub reply_found : (sort : Sort) → Call → List ℕ → ℕ → Found (Holds sort)
reply_found a_verdict c s at = delivery_at s at (kind_of c)
reply_found a_flag c s at = flag_at s at (kind_of c)
reply_found an_irk c s at = irk_at s at
reply_found an_address c s at = address_at s at
reply_found a_nonce c s at = nonce_at s at
reply_found a_pass_key c s at = pass_key_at s at
reply_found an_ltk c s at = ltk_at s at
reply_found an_ediv c s at = ediv_at s at
reply_found a_rand c s at = rand_at s at
reply_found a_bond c s at = encryption_at s at
reply_found an_option_bond c s at = bonded_at s at

-- with the place behind it
abbrev pub taken : {X : Type 0} → ℕ → Found X → Taken X
taken next (found x) = got x next
taken next wanted = wants
taken next (refusal n) = refused

-- an answer has one octet of kind, then a body of the length that the call fixes
abbrev pub answer_size : Call → ℕ
answer_size c = 1 + answer_length c

abbrev pub reply_at : (c : Call) → List ℕ → ℕ → Taken (Reply c)
reply_at c s at = taken (at + answer_size c) (reply_found (reply_sort c) c s at)

-- ---- programs of these calls

abbrev pub Program : Type 0 → Type 0
Program A = Prog Call Reply A
