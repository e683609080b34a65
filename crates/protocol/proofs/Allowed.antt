-- What the fair link allows, so that nothing is true of fair runs for want of them: there are fair starts at the ends of
-- every range, any passkeys and OOB data, hosts that answer nothing, free answers, packets that come while a passkey is
-- typed or OOB data is due, and events that are taken as soon as they are due. Assumes nothing.
use Rattle.std.specs.Prelude.{Option, None, Ok}
use mathlib.Core.Path.{◌≡◌, refl}
use mathlib.Core.Bool.{Bool, true}
use mathlib.Core.List.{List, [], ◌∷◌}
use Prim.Native.Nat.{ℕ, ◌≤◌}
use lib.Dec.{lit≤}
use native.Mathlib.Omega.{arith}
use Rattle.crypto.specs.declared.crypto.IdentityResolvingKey.{IdentityResolvingKey}
use Rattle.crypto.specs.declared.crypto.LongTermKey.{LongTermKey}
use Rattle.crypto.specs.declared.crypto.Nonce.{Nonce}
use Rattle.smp_types.specs.Types.{features_with, least_key_size, largest_key_size}
use Rattle.smp_types.specs.declared.capabilities.IoCapabilities.TheVariants.{KeyboardOnly, KeyboardDisplay}
use Rattle.smp_types.specs.declared.types.UseOutOfBand.TheVariants.{NotPresent, Present}
use Rattle.util.specs.Method.{BOTH_INPUT}
use Rattle.bond.specs.declared.Address.{Address}
use Rattle.bond.specs.declared.BondInformation.{BondInformation}
use Rattle.host_answers.specs.Answers.{pass_key_max}
use Rattle.machine.specs.declared.Event.TheVariants as event
use Rattle.machine.specs.declared.Input.TheVariants as input
use Rattle.machine.specs.declared.Machine.{Machine}
use Rattle.machine.specs.declared.Role.{Role}
use Rattle.machine.specs.declared.Role.TheVariants.{Central, Peripheral}
use Rattle.protocol.specs.Program.{ret, ask}
use Rattle.protocol.specs.Ops.{delivered, a_verdict, a_flag, an_irk, an_address, a_nonce, a_pass_key, an_ltk, an_ediv, a_rand, a_bond, an_option_bond, Program}
use Rattle.protocol.specs.Step.{handle_input_by_role}
use Rattle.protocol.specs.FairLink.{Start, FairStart, Shared, FairReply, FairAnswers, QueuedPacket, Due, pass_key, oob_data, encryption_on, Given, a_packet, an_event, input_of, payload_of, Link, end_of, machine_at, FairHost, an_input, MayTake, Move, take_packet, take_event}
use Rattle.protocol.proofs.Replies.{reply_at_end}

-- ---- starts

-- records that name every key, with these key sizes
abbrev full_start : (request_size head_size : ℕ) → Address → Address → Start
full_start request_size head_size a b =
    record {
      request = features_with (4 ∷ 1 ∷ 0xFF ∷ request_size ∷ 0xFF ∷ 0xFF ∷ []) KeyboardDisplay Present request_size;
      head_features = features_with (2 ∷ 0 ∷ 0xFF ∷ head_size ∷ 0xFF ∷ 0xFF ∷ []) KeyboardOnly NotPresent head_size;
      terminal_address = a;
      head_address = b;
    }

-- each size may be any from 7 to 16
fair_of_sizes :
    (request_size head_size : ℕ) (a b : Address) → least_key_size ≤ request_size → request_size ≤ largest_key_size →
    least_key_size ≤ head_size → head_size ≤ largest_key_size → FairStart (full_start request_size head_size a b)
fair_of_sizes request_size head_size a b l h l₁ h₁ =
    record {
      request_octets = (lit≤ tt, (lit≤ tt, (lit≤ tt, (omega arith, (lit≤ tt, (lit≤ tt, tt))))));
      head_octets = (lit≤ tt, (lit≤ tt, (lit≤ tt, (omega arith, (lit≤ tt, (lit≤ tt, tt))))));
      request_size_least = l;
      request_size_largest = h;
      head_size_least = l₁;
      head_size_largest = h₁;
      head_flags = record { encryption = λ h. refl; identity = λ h. refl };
    }

-- the smallest size at the terminal and the largest at the head ..
pub full_start_lem : (a b : Address) → FairStart (full_start 7 16 a b)
full_start_lem a b = fair_of_sizes 7 16 a b (lit≤ tt) (lit≤ tt) (lit≤ tt) (lit≤ tt)

-- .. and exchanged
pub exchanged_start : (a b : Address) → FairStart (full_start 16 7 a b)
exchanged_start a b = fair_of_sizes 16 7 a b (lit≤ tt) (lit≤ tt) (lit≤ tt) (lit≤ tt)

-- ---- passkeys and OOB data

-- whatever is typed or received, and whatever may be shown
abbrev pub any_shared : (oob : ℕ) (shown typed : ℕ) → shown ≤ pass_key_max → Shared
any_shared oob shown typed most = record { oob = oob; shown = shown; typed = typed; shown_most = most }

-- OOB data is the shared, at either end
pub oob_data_shared :
    (shared : Shared) (m : Machine) → input_of shared m (an_event oob_data) ≡ input.Event (event.OobDataReceived shared.oob)
oob_data_shared shared m = refl

-- where both type, what is typed is free: any number
pub typed_where_both_type :
    (shared : Shared) (m : Machine) → m.pairing_data.pairing_method ≡ BOTH_INPUT →
    input_of shared m (an_event pass_key) ≡ input.Event (event.PassKeyInput shared.typed)
typed_where_both_type shared m e = rw e refl

-- ---- hosts

none_fair : (shared : Shared) (p : Program Machine) → FairAnswers shared p [] 0
none_fair shared (ret m) = tt
none_fair shared (ask c k) = rw (reply_at_end c []) tt

-- a host may answer nothing yet, whatever the input
pub no_answers : (shared : Shared) (r : Role) (L : Link) (g : Given) → FairHost shared r L g []
no_answers shared r L g =
    record {
      octets = tt;
      fair = none_fair shared (handle_input_by_role r (machine_at r L) (input_of shared (machine_at r L) g) (payload_of g));
    }

-- verdicts are 0, and a passkey drawn is the one shown
pub verdict_zero : (shared : Shared) → FairReply shared a_verdict delivered
verdict_zero shared = refl

pub passkey_shown : (shared : Shared) → FairReply shared a_pass_key (record { 0 = shared.shown })
passkey_shown shared = refl

-- every other answer is free
pub record Free (shared : Shared) : Type 0 where
  pub flag : (x : Bool) → FairReply shared a_flag x
  pub irk : (x : IdentityResolvingKey) → FairReply shared an_irk x
  pub address : (x : Address) → FairReply shared an_address (Ok x)
  pub nonce : (x : Nonce) → FairReply shared a_nonce x
  pub ltk : (x : LongTermKey) → FairReply shared an_ltk x
  pub ediv : (x : ℕ) → FairReply shared an_ediv x
  pub rand : (x : ℕ) → FairReply shared a_rand x
  pub bond : (x : BondInformation) → FairReply shared a_bond (Ok x)
  pub option_bond : (x : Option BondInformation) → FairReply shared an_option_bond (Ok x)

pub free : (shared : Shared) → Free shared
free shared =
    record {
      flag = λ x. tt;
      irk = λ x. tt;
      address = λ x. tt;
      nonce = λ x. tt;
      ltk = λ x. tt;
      ediv = λ x. tt;
      rand = λ x. tt;
      bond = λ x. tt;
      option_bond = λ x. tt;
    }

-- ---- moves

module _ (shared : Shared) (r : Role) (L : Link) where
  -- a packet may come while a passkey is typed, or OOB data is due
  pub packet_while_typing :
      (p : QueuedPacket) (queue : List QueuedPacket) →
      (end_of r L).open_step ≡ None → (end_of r L).queue ≡ p ∷ queue → (end_of r L).due ≡ pass_key ∷ [] →
      (L₁ : Link) × Move shared L an_input L₁
  packet_while_typing p queue o q d =
      (_, take_packet r p queue [] o q (rw d refl) (no_answers shared r L (a_packet p)))

  pub packet_before_oob :
      (p : QueuedPacket) (queue : List QueuedPacket) →
      (end_of r L).open_step ≡ None → (end_of r L).queue ≡ p ∷ queue → (end_of r L).due ≡ oob_data ∷ [] →
      (L₁ : Link) × Move shared L an_input L₁
  packet_before_oob p queue o q d =
      (_, take_packet r p queue [] o q (rw d refl) (no_answers shared r L (a_packet p)))

-- an event that is due may be taken, but for the terminal's OOB data before the head has had its own
may_take :
    (L : Link) (r : Role) (e : Due) → (r ≡ Central → e ≡ oob_data → L.head.had_oob ≡ true) → MayTake L r e
may_take L Central pass_key h = tt
may_take L Central oob_data h = h refl refl
may_take L Central encryption_on h = tt
may_take L Peripheral e h = tt

pub event_taken :
    (shared : Shared) (r : Role) (L : Link) (e : Due) → (end_of r L).open_step ≡ None → (end_of r L).due ≡ e ∷ [] →
    (r ≡ Central → e ≡ oob_data → L.head.had_oob ≡ true) → (L₁ : Link) × Move shared L an_input L₁
event_taken shared r L e o d h =
    (_, take_event r e [] [] [] o d (may_take L r e h) (no_answers shared r L (an_event e)))
