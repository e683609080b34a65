-- Believed: the archive's contracts rest on it.
-- Document 01's operations on octet strings and numbers: what each gives back, and what it leaves behind its references.
-- A refusal writes nothing. Assumes nothing.
use Rattle.std.specs.Prelude.{ℕ, cond, List, [], ◌∷◌, eqb, length, Option, Some, None, Result, Ok, Err}
use Rattle.octets.specs.Answer.{Answer, refused, accepted, and_then, answer_of}
use Rattle.octets.specs.Octets.{octets_of, word_of}
use Rattle.smp_types.specs.Capabilities.{io_of}
use Rattle.smp_types.specs.declared.codec.Error.{Error}
use Rattle.smp_types.specs.declared.codec.Error.TheVariants as codec
use Rattle.smp_types.specs.Types.{oob_of, feature_octets, features_with, features_of}
use Rattle.crypto.specs.Crypto.{c1_of, s1_of}
use Rattle.bond.specs.Bond.{bd_addr_octets, address_of, address_type}
use Rattle.bond.specs.declared.Address.{Address}
use Rattle.host_calls.specs.Calls.{body_length}
use Rattle.host_call_list.specs.CallList.{size_of, count_of, call_at_of}
use Rattle.host_call_list.specs.declared.CallRecord.{CallRecord}
use Rattle.c_values.specs.declared.Call.{Call}
use Rattle.c_values.specs.declared.OctetsError.{OctetsError}
use Rattle.c_values.specs.declared.OctetsError.TheVariants as error

-- ---- the version of the static library: an octet each for major, minor and patch

abbrev pub version : ℕ
version = 0x000200

-- ---- how an operation came out. 4 to 6 are document 01's refusals

abbrev pub done : ℕ
done = 0

-- a slice has another length
abbrev pub wrong_length : ℕ
wrong_length = 29

-- the list has no call at this index
abbrev pub no_call : ℕ
no_call = 30

-- ---- operations that write octets: the number given back, and what stands behind the reference

pub record Wrote : Type 0 where
  pub number : ℕ
  pub out : List ℕ

abbrev pub wrote : ℕ → List ℕ → Wrote
wrote n out = record { number = n; out = out }

-- the octets are written over a slice of their length
abbrev pub writes : List ℕ → Answer (List ℕ) → Wrote
writes out (refused n) = wrote n out
writes out (accepted l) = cond (eqb (length out) (length l)) (wrote done l) (wrote wrong_length out)

unfoldable pub of_length : ℕ → List ℕ → Answer (List ℕ)
of_length n s = cond (eqb (length s) n) (accepted s) (refused wrong_length)

-- kind and six octets
unfoldable pub address_in : List ℕ → Answer Address
address_in s = and_then (of_length 7 s) (λ l. accepted (address_of l))

unfoldable pub word_in : List ℕ → Answer ℕ
word_in s = and_then (of_length 16 s) (λ l. accepted (word_of l))

-- ---- features

unfoldable pub read_features_on : List ℕ → List ℕ → Wrote
read_features_on payload out = writes out (and_then (features_of payload) (λ f. accepted (feature_octets f)))

-- of any key size: writing a record always succeeds
unfoldable pub write_features_on : ℕ → ℕ → ℕ → ℕ → ℕ → ℕ → List ℕ → Wrote
write_features_on io oob auth_req key_size initiator_keys responder_keys out =
    let s = io ∷ oob ∷ auth_req ∷ key_size ∷ initiator_keys ∷ responder_keys ∷ [] in
    writes out
    (and_then (io_of io) (λ i.
    and_then (oob_of oob) (λ o.
    accepted (feature_octets (features_with s i o key_size)))))

-- ---- the confirm value and the short-term key

unfoldable pub c1_on : List ℕ → List ℕ → List ℕ → List ℕ → List ℕ → List ℕ → List ℕ → Wrote
c1_on k r preq pres initiator responder out =
    writes out
    (and_then (word_in k) (λ key.
    and_then (word_in r) (λ nonce.
    and_then (of_length 7 preq) (λ q.
    and_then (of_length 7 pres) (λ p.
    and_then (address_in initiator) (λ i.
    and_then (address_in responder) (λ a.
    accepted (octets_of
    (c1_of key (record { 0 = nonce }) q p (address_type i) (bd_addr_octets i.addr) (address_type a) (bd_addr_octets a.addr)).0))))))))

unfoldable pub s1_on : List ℕ → List ℕ → List ℕ → List ℕ → Wrote
s1_on k srand mrand out =
    writes out
    (and_then (word_in k) (λ key.
    and_then (word_in srand) (λ s.
    and_then (word_in mrand) (λ m.
    accepted (octets_of (s1_of key (record { 0 = s }) (record { 0 = m })).0)))))

-- ---- reading a call list

pub record Counted : Type 0 where
  pub number : ℕ
  pub count : ℕ

abbrev pub counted : ℕ → ℕ → Counted
counted n count = record { number = n; count = count }

abbrev pub count_left : ℕ → Answer ℕ → Counted
count_left given (refused n) = counted n given
count_left given (accepted n) = counted done n

unfoldable pub count_on : List ℕ → ℕ → Counted
count_on list given = count_left given (count_of list)

pub record CallLeft : Type 0 where
  pub number : ℕ
  pub kind : ℕ
  pub body : ℕ
  pub size : ℕ

abbrev pub call_left : ℕ → ℕ → ℕ → ℕ → CallLeft
call_left n kind body size = record { number = n; kind = kind; body = body; size = size }

-- kind, place and size of the body of the call at an index, where there is one
abbrev pub call_found : ℕ → ℕ → ℕ → Answer (Option CallRecord) → CallLeft
call_found kind body size (refused n) = call_left n kind body size
call_found kind body size (accepted None) = call_left no_call kind body size
call_found kind body size (accepted (Some c)) = call_left done c.kind c.body (size_of (body_length c.kind))

unfoldable pub call_on : List ℕ → ℕ → ℕ → ℕ → ℕ → CallLeft
call_on list index kind body size = call_found kind body size (call_at_of list index)

-- ---- what the code gives

-- the number of each error
abbrev pub error_number : OctetsError → ℕ
error_number error.InsufficientSpace = 4
error_number error.InvalidValue = 5
error_number error.InvalidList = 6
error_number error.WrongLength = wrong_length
error_number error.NoCall = no_call

-- the error that a failed reading of features becomes
abbrev pub codec_error : Error → OctetsError
codec_error codec.InsufficientSpace = error.InsufficientSpace
codec_error codec.InvalidValue = error.InvalidValue

-- the number by which a result is told: 0, or that of its error
abbrev pub number_of : {A E : Type 0} → (E → ℕ) → Result A E → ℕ
number_of number (Ok a) = done
number_of number (Err e) = number e

abbrev pub octets_number : {A : Type 0} → Result A OctetsError → ℕ
octets_number r = number_of error_number r

abbrev pub octets_answer : {A : Type 0} → Result A OctetsError → Answer A
octets_answer r = answer_of error_number r

-- what a call that was given leaves behind the references; a refusal leaves them
abbrev pub call_given : ℕ → ℕ → ℕ → Answer Call → CallLeft
call_given kind body size (refused n) = call_left n kind body size
call_given kind body size (accepted c) = call_left done c.kind c.body c.size
