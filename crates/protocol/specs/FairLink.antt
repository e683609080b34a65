-- Believed: demand 3 is stated in it, and the archive's contracts rest on it.
-- The fair link, document 01's section "The fair link of demand 3", up to the word "run"; what is claimed of runs stands
-- in FairRuns. The order is the section's, but that a word stands before it is used. The terminal is the central, the
-- head the peripheral. Assumes nothing.
use Rattle.std.specs.Prelude.{ℕ, zero, suc, ◌≤◌, ◌<◌, ◌≡◌, Bool, true, false, cond, not, ◌&&◌, ◌||◌, List, [], ◌∷◌, ◌++◌, eqb, length, drop, replicate, Option, Some, None, Result, Ok, Err}
use Rattle.smp_types.specs.Types.{command_code, default_features, feature_octets, least_key_size, largest_key_size}
use Rattle.smp_types.specs.declared.types.Command.TheVariants as command
use Rattle.smp_types.specs.declared.types.KeyDistributionFlags.{KeyDistributionFlags}
use Rattle.smp_types.specs.declared.types.PairingFeatures.{PairingFeatures}
use Rattle.util.specs.declared.util.PairingMethod.{PairingMethod}
use Rattle.util.specs.declared.util.PairingMethod.TheVariants as method
use Rattle.util.specs.declared.util.PassKeyEntryAction.TheVariants as action
use Rattle.bond.specs.declared.Address.{Address}
use Rattle.host_calls.specs.Calls.{packet_command, packet_body, kind_of, longest}
use Rattle.host_calls.specs.declared.call.Call.{Call}
use Rattle.host_calls.specs.declared.call.Call.TheVariants as call
use Rattle.host_answers.specs.Answers.{pass_key_max}
use Rattle.machine.specs.Machine.{new_machine, lesc_switch}
use Rattle.machine.specs.declared.Event.TheVariants as event
use Rattle.machine.specs.declared.Input.{Input}
use Rattle.machine.specs.declared.Input.TheVariants as input
use Rattle.machine.specs.declared.Machine.{Machine}
use Rattle.machine.specs.declared.PairingData.{PairingData}
use Rattle.machine.specs.declared.Role.{Role}
use Rattle.machine.specs.declared.Role.TheVariants.{Central, Peripheral}
use Rattle.protocol.specs.Outcome.{StepOutcome}
use Rattle.protocol.specs.Outcome as outcome
use Rattle.protocol.specs.Program.{ret, ask, Taken, got, wants, refused}
use Rattle.protocol.specs.Ops.{delivered, Sort, a_verdict, a_flag, an_irk, an_address, a_nonce, a_pass_key, an_ltk, an_ediv, a_rand, a_bond, an_option_bond, Holds, reply_sort, reply_at, Program}
use Rattle.protocol.specs.Handlers.{names_encryption_key, names_identity_key}
use Rattle.protocol.specs.Step.{handle_input_by_role, play_of, Step, step}
use Rattle.bond.specs.declared.Error.{Error}
use Rattle.bond.specs.declared.BondInformation.{BondInformation}

-- ---- Fresh

-- records and addresses are free: the terminal's record, which is the one in its request, the head's, both addresses
pub record Start : Type 0 where
  pub request : PairingFeatures
  pub head_features : PairingFeatures
  pub terminal_address : Address
  pub head_address : Address

-- no bond; all else is as the Rust's constructor sets it
abbrev pub fresh_data : Address → Address → PairingFeatures → PairingData
fresh_data local peer features =
    record {
      local_address = local;
      peer_address = peer;
      local_features = features;
      peer_features = default_features;
      pairing_method = method.JustWorks;
      bond_information = None;
    }

-- the terminal waits for the response to its request
unfoldable pub fresh_terminal : Start → Machine
fresh_terminal s = lesc_switch (fresh_data s.terminal_address s.head_address s.request)

-- the head waits for the request; addresses match crosswise
unfoldable pub fresh_head : Start → Machine
fresh_head s = new_machine (fresh_data s.head_address s.terminal_address s.head_features)

-- every octet is below 256
abbrev pub AreOctets : List ℕ → Type 0
AreOctets [] = Unit {0}
AreOctets (x ∷ l) = (x < 256) × AreOctets l

-- of the keys 0x01 and 0x02, the first flags name none that the second lack
pub record NamesNoMore (flags others : KeyDistributionFlags) : Type 0 where
  pub encryption : names_encryption_key flags ≡ true → names_encryption_key others ≡ true
  pub identity : names_identity_key flags ≡ true → names_identity_key others ≡ true

-- key sizes are 7 to 16; the head's starting flags name no initiator key that the request lacks
pub record FairStart (s : Start) : Type 0 where
  pub request_octets : AreOctets (feature_octets s.request)
  pub head_octets : AreOctets (feature_octets s.head_features)
  pub request_size_least : least_key_size ≤ s.request.maximum_encryption_key_size
  pub request_size_largest : s.request.maximum_encryption_key_size ≤ largest_key_size
  pub head_size_least : least_key_size ≤ s.head_features.maximum_encryption_key_size
  pub head_size_largest : s.head_features.maximum_encryption_key_size ≤ largest_key_size
  pub head_flags : NamesNoMore s.head_features.initiator_key_distribution s.request.initiator_key_distribution

-- ---- what both ends' people and hosts share

-- OOB data is equal at both ends. Passkeys typed are equal to each other and to any shown or drawn to be shown, before
-- or after: one number in a run. Where the method has an end show it, that is `shown`, at most 999,999, else `typed`,
-- which is free. (There are two, since a start does not fix the method: the head's host may say that OOB data is there.)
pub record Shared : Type 0 where
  pub oob : ℕ
  pub shown : ℕ
  pub typed : ℕ
  pub shown_most : shown ≤ pass_key_max

-- whether the method has an end show the passkey
abbrev pub shows : PairingMethod → Bool
shows method.JustWorks = false
shows method.NumericComparison = false
shows (method.PassKeyEntry action.Display p) = true
shows (method.PassKeyEntry action.Input action.Display) = true
shows (method.PassKeyEntry action.Input action.Input) = false
shows method.OutOfBand = false

-- the passkey typed at an end, by the method that its machine holds
abbrev pub pass_key_typed : Shared → Machine → ℕ
pass_key_typed shared m = cond (shows m.pairing_data.pairing_method) shared.shown shared.typed

-- all verdicts are 0, and a passkey that is drawn is the one shown; all other answers are free
abbrev pub address_given : Result Address Error → Type 0
address_given (Ok a) = Unit {0}
address_given (Err e) = ⊥

abbrev pub bond_given : Result BondInformation Error → Type 0
bond_given (Ok b) = Unit {0}
bond_given (Err e) = ⊥

abbrev pub option_bond_given : Result (Option BondInformation) Error → Type 0
option_bond_given (Ok b) = Unit {0}
option_bond_given (Err e) = ⊥

abbrev pub FairReply : Shared → (sort : Sort) → Holds sort → Type 0
FairReply shared a_verdict x = x ≡ delivered
FairReply shared a_flag x = Unit {0}
FairReply shared an_irk x = Unit {0}
FairReply shared an_address x = address_given x
FairReply shared a_nonce x = Unit {0}
FairReply shared a_pass_key x = x.0 ≡ shared.shown
FairReply shared an_ltk x = Unit {0}
FairReply shared an_ediv x = Unit {0}
FairReply shared a_rand x = Unit {0}
FairReply shared a_bond x = bond_given x
FairReply shared an_option_bond x = option_bond_given x

-- no host answer meets the condition of refusal 3
abbrev pub FairTaken : Shared → (sort : Sort) → (Holds sort → ℕ → Type 0) → Taken (Holds sort) → Type 0
FairTaken shared sort next (got x n) = FairReply shared sort x × next x n
FairTaken shared sort next wants = Unit {0}
FairTaken shared sort next refused = ⊥

-- the answers to a step, each that is reached
abbrev pub FairAnswers : Shared → Program Machine → List ℕ → ℕ → Type 0
FairAnswers shared (ret m) s at = Unit {0}
FairAnswers shared (ask c k) s at = FairTaken shared (reply_sort c) (λ x n. FairAnswers shared (k x) s n) (reply_at c s at)

-- ---- The link

pub record QueuedPacket : Type 0 where
  pub code : ℕ
  pub payload : List ℕ

-- the events that may be due: a typed passkey, the OOB data, the report that encryption is on
pub data Due : Type 0 where
  pass_key oob_data encryption_on : Due

-- what an end gets as an input: a packet or an event; no other input occurs
pub data Given : Type 0 where
  a_packet : QueuedPacket → Given
  an_event : Due → Given

abbrev pub input_of : Shared → Machine → Given → Input
input_of shared m (a_packet p) = input.Command p.code
input_of shared m (an_event pass_key) = input.Event (event.PassKeyInput (pass_key_typed shared m))
input_of shared m (an_event oob_data) = input.Event (event.OobDataReceived shared.oob)
input_of shared m (an_event encryption_on) = input.Event (event.LinkEncryptedResult true)

abbrev pub payload_of : Given → List ℕ
payload_of (a_packet p) = p.payload
payload_of (an_event e) = []

-- an open step: its input, and the host answers that it has had
pub record OpenStep : Type 0 where
  pub given : Given
  pub answers : List ℕ

-- each end has its machine, the packets queued to it, the events due, and its open step, if any. Beside them stand the
-- calls that it has listed so far, and whether it has had its OOB data
pub record End : Type 0 where
  pub machine : Machine
  pub queue : List QueuedPacket
  pub due : List Due
  pub open_step : Option OpenStep
  pub calls : List Call
  pub had_oob : Bool

pub record Link : Type 0 where
  pub terminal : End
  pub head : End

abbrev pub end_of : Role → Link → End
end_of Central L = L.terminal
end_of Peripheral L = L.head

abbrev pub other : Role → Role
other Central = Peripheral
other Peripheral = Central

-- the link of an end and the other end
abbrev pub link_of : Role → End → End → Link
link_of Central this that = record { terminal = this; head = that }
link_of Peripheral this that = record { terminal = that; head = this }

abbrev pub fresh_end : Machine → List QueuedPacket → End
fresh_end m queue = record { machine = m; queue = queue; due = []; open_step = None; calls = []; had_oob = false }

abbrev pub request_of : Start → QueuedPacket
request_of s = record { code = command_code command.PairingRequest; payload = feature_octets s.request }

-- at the start only the request is queued, to the head
unfoldable pub fresh_link : Start → Link
fresh_link s = record { terminal = fresh_end (fresh_terminal s) []; head = fresh_end (fresh_head s) (request_of s ∷ []) }

-- ---- What a call does, when it is first listed

-- what each call gives, in their order
abbrev pub of_all : {X : Type 0} → (Call → List X) → List Call → List X
of_all f [] = []
of_all f (c ∷ cs) = f c ++ of_all f cs

-- a packet joins the other end's queue
abbrev pub sent_by : Call → List QueuedPacket
sent_by (call.SendPacket p) = record { code = command_code (packet_command p); payload = packet_body p } ∷ []
sent_by (call.SendConnectionEvent e) = []
sent_by (call.Ask q) = []
sent_by (call.Draw d) = []
sent_by (call.EnableEncryption k l n) = []
sent_by call.EnableBondedEncryption = []
sent_by (call.UpdateBondInformation b) = []

-- whether a call of this kind is among those listed
abbrev pub has_listed : ℕ → List Call → Bool
has_listed kind [] = false
has_listed kind (c ∷ cs) = eqb (kind_of c) kind || has_listed kind cs

-- the first call of this kind makes this event due
abbrev pub first_makes : ℕ → Due → List Call → Call → List Due
first_makes kind e before c = cond (eqb (kind_of c) kind && not (has_listed kind before)) (e ∷ []) []

-- an end's first 0x23 makes the typed passkey due there, its first 0x25 the OOB data, its first 0x3A the report
abbrev pub made_due_by : List Call → Call → List Due
made_due_by before c =
    first_makes 0x23 pass_key before c
    ++ (first_makes 0x25 oob_data before c
    ++ first_makes 0x3A encryption_on before c)

abbrev pub made_due_by_all : List Call → List Call → List Due
made_due_by_all before [] = []
made_due_by_all before (c ∷ cs) = made_due_by before c ++ made_due_by_all (before ++ (c ∷ [])) cs

-- ---- A step of an end, by the definition of a step. Its list is long enough for any, and codes are those of packets that
-- were sent, so that none is refused by 1 or 2; that none is refused at all is claimed in FairRuns

abbrev pub machine_at : Role → Link → Machine
machine_at r L = (end_of r L).machine

unfoldable pub step_at : Shared → Role → Link → Given → List ℕ → Step
step_at shared r L g answers =
    step r (machine_at r L) (input_of shared (machine_at r L) g) (payload_of g) answers (replicate longest 0)

-- the calls that it lists, also where it wants: those whose octets stand on its list
unfoldable pub calls_at : Shared → Role → Link → Given → List ℕ → List Call
calls_at shared r L g answers = (play_of r (machine_at r L) (input_of shared (machine_at r L) g) (payload_of g) answers).calls

-- any host answers or none, so long as those that the step reaches are fair; what is left over is free
pub record FairHost (shared : Shared) (r : Role) (L : Link) (g : Given) (answers : List ℕ) : Type 0 where
  pub octets : AreOctets answers
  pub fair : FairAnswers shared (handle_input_by_role r (machine_at r L) (input_of shared (machine_at r L) g) (payload_of g)) answers 0

-- a step that wants is open, with its input and answers
abbrev pub open_after : StepOutcome → Given → List ℕ → Option OpenStep
open_after outcome.ended g answers = None
open_after outcome.wants g answers = Some (record { given = g; answers = answers })
open_after (outcome.refused n) g answers = None

abbrev pub had_oob_after : Given → Bool → Bool
had_oob_after (a_packet p) had = had
had_oob_after (an_event pass_key) had = had
had_oob_after (an_event oob_data) had = true
had_oob_after (an_event encryption_on) had = had

-- an end after its step, with the packets and events that are left, and the calls that are new. The machine is the one
-- that the step gives back: where it ends, the one for that end's next input; where it wants, the one that it had
abbrev pub end_after : Shared → Role → Link → Given → List ℕ → List QueuedPacket → List Due → List Call → End
end_after shared r L g answers queue due new =
    record {
      machine = (step_at shared r L g answers).machine;
      queue = queue;
      due = due ++ made_due_by_all (end_of r L).calls new;
      open_step = open_after (step_at shared r L g answers).outcome g answers;
      calls = (end_of r L).calls ++ new;
      had_oob = had_oob_after g (end_of r L).had_oob;
    }

-- the other end: what is sent joins its queue. Nothing else changes a machine
abbrev pub receives : List Call → End → End
receives new e =
    record {
      machine = e.machine;
      queue = e.queue ++ of_all sent_by new;
      due = e.due;
      open_step = e.open_step;
      calls = e.calls;
      had_oob = e.had_oob;
    }

abbrev pub link_after : Shared → Role → Link → Given → List ℕ → List QueuedPacket → List Due → List Call → Link
link_after shared r L g answers queue due new =
    link_of r (end_after shared r L g answers queue due new) (receives new (end_of (other r) L))

-- ---- A move, of two kinds: an input, or an open step run again

pub data MoveKind : Type 0 where
  an_input a_re_run : MoveKind

abbrev pub is_report : Due → Bool
is_report pass_key = false
is_report oob_data = false
is_report encryption_on = true

-- an end whose report is due gets no packet as input
abbrev pub report_due : List Due → Bool
report_due [] = false
report_due (e ∷ l) = is_report e || report_due l

-- the head gets its OOB data before the terminal does
abbrev pub MayTake : Link → Role → Due → Type 0
MayTake L Central pass_key = Unit {0}
MayTake L Central oob_data = L.head.had_oob ≡ true
MayTake L Central encryption_on = Unit {0}
MayTake L Peripheral e = Unit {0}

-- a move of either end, from a link to the next. All that is asked of it stands in its case: otherwise any is allowed at
-- any time
pub data Move (shared : Shared) (L : Link) : MoveKind → Link → Type 0 where
  -- an end with no open step gets its oldest queued packet, which leaves the queue
  take_packet :
      (r : Role) (p : QueuedPacket) (queue : List QueuedPacket) (answers : List ℕ) →
      (end_of r L).open_step ≡ None → (end_of r L).queue ≡ p ∷ queue → report_due (end_of r L).due ≡ false →
      FairHost shared r L (a_packet p) answers →
      Move shared L an_input
      (link_after shared r L (a_packet p) answers queue (end_of r L).due (calls_at shared r L (a_packet p) answers))
  -- .. or an event due there, which is due no more
  take_event :
      (r : Role) (e : Due) (earlier later : List Due) (answers : List ℕ) →
      (end_of r L).open_step ≡ None → (end_of r L).due ≡ earlier ++ (e ∷ later) → MayTake L r e →
      FairHost shared r L (an_event e) answers →
      Move shared L an_input
      (link_after shared r L (an_event e) answers (end_of r L).queue (earlier ++ later)
      (calls_at shared r L (an_event e) answers))
  -- an open step is run again on the machine and input it had, its host answers kept and at least one added; a call
  -- counts once, when first listed
  run_again :
      (r : Role) (g : Given) (kept : List ℕ) (x : ℕ) (added : List ℕ) →
      (end_of r L).open_step ≡ Some (record { given = g; answers = kept }) →
      FairHost shared r L g (kept ++ (x ∷ added)) →
      Move shared L a_re_run
      (link_after shared r L g (kept ++ (x ∷ added)) (end_of r L).queue (end_of r L).due
      (drop (length (calls_at shared r L g kept)) (calls_at shared r L g (kept ++ (x ∷ added)))))

-- the outcome of its step
abbrev pub outcome_of : {shared : Shared} {L L₁ : Link} {k : MoveKind} → Move shared L k L₁ → StepOutcome
outcome_of {shared} {L} (take_packet r p queue answers o q d f) = (step_at shared r L (a_packet p) answers).outcome
outcome_of {shared} {L} (take_event r e earlier later answers o q d f) =
    (step_at shared r L (an_event e) answers).outcome
outcome_of {shared} {L} (run_again r g kept x added o f) = (step_at shared r L g (kept ++ (x ∷ added))).outcome

-- ---- Lists of moves, and runs

-- inputs count moves of the first kind
abbrev pub count_input : MoveKind → ℕ → ℕ
count_input an_input n = suc n
count_input a_re_run n = n

-- a list of allowed moves: how many they are, and how many of them are inputs
pub data Moves (shared : Shared) : Link → ℕ → ℕ → Link → Type 0 where
  no_move : {L : Link} → Moves shared L zero zero L
  move :
      {L L₁ L₂ : Link} {k : MoveKind} {moves inputs : ℕ} →
      Move shared L k L₁ → Moves shared L₁ moves inputs L₂ → Moves shared L (suc moves) (count_input k inputs) L₂

-- a run is a list of allowed moves after which none is allowed
pub record Run (shared : Shared) (L : Link) (moves inputs : ℕ) (L₁ : Link) : Type 0 where
  pub all : Moves shared L moves inputs L₁
  pub over : (k : MoveKind) (L₂ : Link) → Move shared L₁ k L₂ → ⊥

-- nothing is queued, due or open
pub record Idle (e : End) : Type 0 where
  pub none_queued : e.queue ≡ []
  pub none_due : e.due ≡ []
  pub none_open : e.open_step ≡ None
