-- Pairing as an exchange of two ends, the terminal its opener, and the protocol that both follow from a fair start: the
-- packets in their order, each with the data behind it, and how each end stands at the end. Assumes nothing.
use Rattle.std.specs.Prelude.{Option, Some, None}
use Prim.Native.Nat.{ℕ, zero, suc, ◌+◌, ◌*◌, ◌≤◌}
use mathlib.Core.Path.{◌≡◌, refl, sym, ◌∙◌}
use mathlib.Core.Bool.{Bool, true, false, cond, not, ◌&&◌, ◌||◌, true≢false}
use mathlib.Core.List.{List, [], ◌∷◌, ◌++◌}
use native.Mathlib.Omega.{arith}
use lib.Dec.{eqb}
use Rattle.crypto.specs.Crypto.{masked_of, c1_of, s1_of}
use Rattle.crypto.specs.declared.crypto.Confirm.{Confirm}
use Rattle.crypto.specs.declared.crypto.IdentityResolvingKey.{IdentityResolvingKey}
use Rattle.crypto.specs.declared.crypto.LongTermKey.{LongTermKey}
use Rattle.crypto.specs.declared.crypto.Nonce.{Nonce}
use Rattle.smp_types.specs.Types.{command_code, feature_octets, least_key_size, largest_key_size}
use Rattle.smp_types.specs.declared.types.Command.TheVariants as command
use Rattle.smp_types.specs.declared.types.PairingFeatures.{PairingFeatures}
use Rattle.util.specs.Method.{legacy_method, security_level}
use Rattle.util.specs.declared.util.PairingMethod.{PairingMethod}
use Rattle.util.specs.declared.util.PairingMethod.TheVariants as method
use Rattle.bond.specs.Bond.{bd_addr_octets}
use Rattle.bond.specs.declared.Address.{Address}
use Rattle.bond.specs.declared.BondInformation.{BondInformation}
use Rattle.host_calls.specs.Calls.{packet_command, packet_body, kind_of}
use Rattle.host_calls.specs.declared.call.Call.{Call}
use Rattle.host_calls.specs.declared.call.Packet.{Packet}
use Rattle.host_calls.specs.declared.call.Packet.TheVariants as packet
use Rattle.machine.specs.declared.Machine.{Machine}
use Rattle.machine.specs.declared.Phase.TheVariants as phase
use Rattle.machine.specs.declared.Role.{Role}
use Rattle.machine.specs.declared.Role.TheVariants.{Central, Peripheral}
use Rattle.protocol.specs.Ops.{a_nonce, an_ltk, an_ediv, a_rand, reply_sort, Reply, reply_at}
use Rattle.protocol.specs.Handlers.{command_octets, names_encryption_key, names_identity_key, pass_key_tk, addr_type_flag}
use Rattle.protocol.specs.Step.{handle_input_by_role}
use Rattle.protocol.specs.FairLink.{Start, AreOctets, Shared, shows, FairAnswers, QueuedPacket, Due, pass_key, oob_data, encryption_on, Given, a_packet, an_event, input_of, payload_of, request_of, sent_by, has_listed, report_due}
use Rattle.protocol.specs.FairRuns.{types_as, entries, both_bond, count_named, keys_named, keys, response_in, responses_in, ltk_in, ltks_in, Identification, ediv_rand_in, ediv_rands_in, display_in, displays_in, Encryption, encryption_in, encryptions_in, excepted, HeadEnds, negotiated, HoldsKeys, SameBonds, shown_at}
use Rattle.protocol.proofs.Exchange.{Party, opener, replier, System, Local, Protocol, Follows, Program}
use Rattle.protocol.proofs.FairReplies.{FairData, fairly}

-- ---- the system

abbrev pub role_of : Party → Role
role_of opener = Central
role_of replier = Peripheral

-- what the claim and the link read of an end's calls: whether 0x23, 0x25 and 0x3A are among them, the encryptions that
-- were called for, the responses and keys that were sent, the passkeys that were shown
pub record Summary : Type 0 where
  pub typing : Bool
  pub oob : Bool
  pub report : Bool
  pub encryptions : List Encryption
  pub responses : List PairingFeatures
  pub ltks : List LongTermKey
  pub identifications : List Identification
  pub displays : List ℕ

abbrev pub summary : List Call → Summary
summary cs =
    record {
      typing = has_listed 0x23 cs;
      oob = has_listed 0x25 cs;
      report = has_listed 0x3A cs;
      encryptions = encryptions_in cs;
      responses = responses_in cs;
      ltks = ltks_in cs;
      identifications = ediv_rands_in cs;
      displays = displays_in cs;
    }

-- with what is new behind it: by clauses on that, so that it computes where the list is not known
abbrev pub with_new : {X : Type 0} → List X → List X → List X
with_new l [] = l
with_new l (x ∷ new) = l ++ (x ∷ new)

-- .. with one call more
abbrev pub listed : Call → Summary → Summary
listed c x =
    record {
      typing = eqb (kind_of c) 0x23 || x.typing;
      oob = eqb (kind_of c) 0x25 || x.oob;
      report = eqb (kind_of c) 0x3A || x.report;
      encryptions = with_new x.encryptions (encryption_in c);
      responses = with_new x.responses (response_in c);
      ltks = with_new x.ltks (ltk_in c);
      identifications = with_new x.identifications (ediv_rand_in c);
      displays = with_new x.displays (display_in c);
    }

abbrev pub first_raises : ℕ → Due → (before : Bool) → Call → List Due
first_raises kind e before c = cond (eqb (kind_of c) kind && not before) (e ∷ []) []

abbrev pub raised_by : Summary → Call → List Due
raised_by x c =
    first_raises 0x23 pass_key x.typing c
    ++ (first_raises 0x25 oob_data x.oob c
    ++ first_raises 0x3A encryption_on x.report c)

abbrev pub first_of : List QueuedPacket → Option QueuedPacket
first_of [] = None
first_of (p ∷ l) = Some p

abbrev pub is_oob : Due → Bool
is_oob pass_key = false
is_oob oob_data = true
is_oob encryption_on = false

-- the terminal's OOB data is held back until the head has had its own
abbrev pub held_back : Party → Due → Bool
held_back opener e = is_oob e
held_back replier e = false

-- .. which then releases it
abbrev pub releases : Party → Due → Bool
releases opener e = false
releases replier e = is_oob e

abbrev pub pairing : Shared → System
pairing shared =
    record {
      Machine = Machine;
      Call = Call;
      Reply = Reply;
      Octet = ℕ;
      read = reply_at;
      Packet = QueuedPacket;
      Event = Due;
      Input = Given;
      packet = a_packet;
      event = an_event;
      step = λ r m g. handle_input_by_role (role_of r) m (input_of shared m g) (payload_of g);
      Log = Summary;
      write = listed;
      sent = λ c. first_of (sent_by c);
      raised = raised_by;
      urgent = report_due;
      gated = held_back;
      signals = releases;
      Fair = λ c. FairData (reply_sort c);
      fairly = λ c. fairly shared (reply_sort c);
      Host = λ p s. AreOctets s × FairAnswers shared p s 0;
    }

-- d calls and inputs more, beside these: by clauses, so that it computes where d is not known
abbrev pub plus : ℕ → ℕ → ℕ
plus zero d = d
plus (suc n) d = suc (plus n d)

-- ---- counts

abbrev pub terminal_entries : PairingMethod → ℕ
terminal_entries method.JustWorks = 0
terminal_entries method.NumericComparison = 0
terminal_entries (method.PassKeyEntry central peripheral) = types_as central
terminal_entries method.OutOfBand = 1

abbrev pub head_entries : PairingMethod → ℕ
head_entries method.JustWorks = 0
head_entries method.NumericComparison = 0
head_entries (method.PassKeyEntry central peripheral) = types_as peripheral
head_entries method.OutOfBand = 1

entries_of_both : (x : PairingMethod) → terminal_entries x + head_entries x ≡ entries x
entries_of_both method.JustWorks = refl
entries_of_both method.NumericComparison = refl
entries_of_both (method.PassKeyEntry central peripheral) = refl
entries_of_both method.OutOfBand = refl

-- the keys of one side that are named in the answer, if both bond
abbrev pub keys_of : Bool → (encryption identity : Bool) → ℕ
keys_of both encryption identity = cond both (count_named encryption + count_named identity) 0

keys_of_both :
    (answer : PairingFeatures) (both : Bool) →
    keys_of both (names_encryption_key answer.responder_key_distribution)
    (names_identity_key answer.responder_key_distribution)
    + keys_of both (names_encryption_key answer.initiator_key_distribution)
    (names_identity_key answer.initiator_key_distribution)
    ≡ cond both (keys_named answer) 0
keys_of_both answer true = omega arith
keys_of_both answer false = refl

-- ---- answers

-- an answer to the request: of the initiator's keys it names those of the request, and its key size is allowed
pub record Answer (s : Start) : Type 0 where
  pub features : PairingFeatures
  pub encryption :
      names_encryption_key features.initiator_key_distribution
      ≡ names_encryption_key s.request.initiator_key_distribution
  pub identity :
      names_identity_key features.initiator_key_distribution
      ≡ names_identity_key s.request.initiator_key_distribution
  pub size_least : least_key_size ≤ features.maximum_encryption_key_size
  pub size_largest : features.maximum_encryption_key_size ≤ largest_key_size

-- the responder's keys, as it sent them
pub record SentKeys : Type 0 where
  pub ltk : LongTermKey
  pub identification : Identification

abbrev pub sent_keys : LongTermKey → (ediv rand : ℕ) → SentKeys
sent_keys ltk ediv rand = record { ltk = ltk; identification = record { ediv = ediv; rand = rand } }

abbrev pub AreSent : Option SentKeys → Type 0
AreSent None = ⊥
AreSent (Some x) = Unit {0}

-- .. in the packets of an end that sent these or none
abbrev pub sent_ltks : Option SentKeys → List LongTermKey
sent_ltks None = []
sent_ltks (Some x) = x.ltk ∷ []

abbrev pub sent_identifications : Option SentKeys → List Identification
sent_identifications None = []
sent_identifications (Some x) = x.identification ∷ []

abbrev pub queued : Packet → QueuedPacket
queued p = record { code = command_code (packet_command p); payload = packet_body p }

-- ---- what request and answer fix

module _ (s : Start) (a : Answer s) where
  abbrev pub request : PairingFeatures
  request = s.request

  abbrev pub answer : PairingFeatures
  answer = a.features

  abbrev pub chosen : PairingMethod
  chosen = legacy_method request answer

  abbrev pub both : Bool
  both = both_bond request answer

  -- the inputs of each end: a response or a request, a Confirm, a Random and the report, entries, and two for each key
  abbrev pub inputs_of_terminal : ℕ
  inputs_of_terminal =
      4 + (terminal_entries chosen + 2 * keys_of both
      (names_encryption_key answer.responder_key_distribution)
      (names_identity_key answer.responder_key_distribution))

  abbrev pub inputs_of_head : ℕ
  inputs_of_head =
      4 + (head_entries chosen + 2 * keys_of both
      (names_encryption_key answer.initiator_key_distribution)
      (names_identity_key answer.initiator_key_distribution))

  abbrev pub size : ℕ
  size = negotiated request answer

  abbrev pub preq : List ℕ
  preq = command_octets command.PairingRequest (feature_octets request)

  abbrev pub pres : List ℕ
  pres = command_octets command.PairingResponse (feature_octets answer)

  -- a bond has the responder's LTK, cut, EDIV and Rand, if they were sent
  abbrev pub KeepsKeys : Option SentKeys → LongTermKey → (ediv rand : ℕ) → Type 0
  KeepsKeys None ltk ediv rand = Unit {0}
  KeepsKeys (Some x) ltk ediv rand =
      (ltk ≡ masked_of size x.ltk) × (ediv ≡ x.identification.ediv) × (rand ≡ x.identification.rand)

  abbrev pub Keeps : Option SentKeys → BondInformation → Type 0
  Keeps x b = KeepsKeys x b.ltk b.ediv b.rand

  -- .. and a machine has such a bond
  abbrev pub Stored : Option SentKeys → Machine → Type 0
  Stored x m = (b : BondInformation) × (m.pairing_data.bond_information ≡ Some b) × Keeps x b

  -- they are sent where the claim speaks of them
  abbrev pub SentIfClaimed : Option SentKeys → Type 0
  SentIfClaimed x = both ≡ true → names_encryption_key answer.responder_key_distribution ≡ true → AreSent x

-- ---- what the passkeys and OOB data fix

module _ (shared : Shared) where
  -- what an end has listed for its method: whether 0x23 and 0x25, and the passkeys that it showed, which the method fixes
  pub record Entry (r : Role) (way : PairingMethod) : Type 0 where
    pub typing : Bool
    pub oob : Bool
    pub displays : List ℕ
    pub as_shown : displays ≡ shown_at r way shared.shown

  module _ {r : Role} {way : PairingMethod} where
    -- nothing, PassKeyInput or OobRequest, where the method has it show no passkey
    abbrev pub no_entry : [] ≡ shown_at r way shared.shown → Entry r way
    no_entry e = record { typing = false; oob = false; displays = []; as_shown = e }

    abbrev pub typed_entry : [] ≡ shown_at r way shared.shown → Entry r way
    typed_entry e = record { typing = true; oob = false; displays = []; as_shown = e }

    abbrev pub oob_entry : [] ≡ shown_at r way shared.shown → Entry r way
    oob_entry e = record { typing = false; oob = true; displays = []; as_shown = e }

    -- PassKeyDisplay, where it has
    abbrev pub shown_entry : shared.shown ∷ [] ≡ shown_at r way shared.shown → Entry r way
    shown_entry e = record { typing = false; oob = false; displays = shared.shown ∷ []; as_shown = e }

  -- before the method is chosen
  abbrev pub unchosen : (r : Role) → Entry r method.JustWorks
  unchosen r = no_entry refl

  -- an end's own state: what was listed, what is due, and the inputs that it got
  abbrev pub having :
      {r : Role} {way : PairingMethod} → Entry r way → (report : Bool) → List Encryption → List PairingFeatures → Option SentKeys → List Due → ℕ →
      Local (pairing shared)
  having entry report es rs keys due n =
      record {
        log =
            record {
              typing = entry.typing;
              oob = entry.oob;
              report = report;
              encryptions = es;
              responses = rs;
              ltks = sent_ltks keys;
              identifications = sent_identifications keys;
              displays = entry.displays;
            };
        due = due;
        inputs = n;
      }

  -- the temporary key of a method
  abbrev pub tk_of : PairingMethod → ℕ
  tk_of method.JustWorks = 0
  tk_of method.NumericComparison = 0
  tk_of (method.PassKeyEntry central peripheral) =
      pass_key_tk (cond (shows (method.PassKeyEntry central peripheral)) shared.shown shared.typed)
  tk_of method.OutOfBand = shared.oob

-- ---- the protocol, and its goal

module _ (shared : Shared) (s : Start) where
  -- the goal: what the claim says of the end of a run, by what each end has to itself
  pub record Agreed (m : Machine) (l : Local (pairing shared)) (m₁ : Machine) (l₁ : Local (pairing shared)) : Type 0
    where
      pub answer : PairingFeatures
      pub answered : l₁.log.responses ≡ answer ∷ []
      pub counted :
          l.inputs + l₁.inputs ≡ 8 + entries (legacy_method s.request answer) + 2 * keys s.request answer
      pub encryption : Encryption
      pub terminal_encrypts : l.log.encryptions ≡ encryption ∷ []
      pub head_encrypts : l₁.log.encryptions ≡ encryption ∷ []
      pub terminal_ends : m.phase ≡ phase.Success
      pub head_ends : HeadEnds (excepted s.request answer) m₁
      pub same_bonds :
          both_bond s.request answer ≡ true → names_encryption_key answer.responder_key_distribution ≡ true →
          SameBonds (negotiated s.request answer) l₁.log.ltks l₁.log.identifications m m₁
      pub terminal_displays : l.log.displays ≡ shown_at Central (legacy_method s.request answer) shared.shown
      pub head_displays : l₁.log.displays ≡ shown_at Peripheral (legacy_method s.request answer) shared.shown

  abbrev pub PairingProtocol : Type 1
  PairingProtocol = Protocol (pairing shared) Agreed

  abbrev pub sends : Party → (D : Type 0) → (D → Packet) → (D → PairingProtocol) → PairingProtocol
  sends r D p K = Protocol.message r D (λ a. queued (p a)) K

  abbrev pub TerminalFollows : ℕ → PairingProtocol → Local (pairing shared) → Program (pairing shared) → Type 1
  TerminalFollows d g l p = Follows (pairing shared) Agreed d opener g l p

  abbrev pub HeadFollows : ℕ → PairingProtocol → Local (pairing shared) → Program (pairing shared) → Type 1
  HeadFollows d g l p = Follows (pairing shared) Agreed d replier g l p

  -- .. once an answer is sent
  module _ (a : Answer s) where
    -- c1 and the encryption that is called for, as both ends should compute them
    abbrev pub confirm_of : Nonce → Confirm
    confirm_of r =
        c1_of (tk_of shared (chosen s a)) r (preq s a) (pres s a)
        (addr_type_flag s.terminal_address) (bd_addr_octets s.terminal_address.addr)
        (addr_type_flag s.head_address) (bd_addr_octets s.head_address.addr)

    abbrev pub encryption_of : (mrand srand : Nonce) → Encryption
    encryption_of mrand srand =
        record {
          key = masked_of (size s a) (s1_of (tk_of shared (chosen s a)) srand mrand);
          level =
              security_level (chosen s a);
        }

    -- how each end stands at last
    pub record TerminalDone (e : Encryption) (x : Option SentKeys) (m : Machine) (l : Local (pairing shared)) : Type 0
      where
        pub encrypts : l.log.encryptions ≡ e ∷ []
        pub inputs : l.inputs ≡ inputs_of_terminal s a
        pub ends : m.phase ≡ phase.Success
        pub stored : Stored s a x m
        pub displays : l.log.displays ≡ shown_at Central (chosen s a) shared.shown

    pub record HeadDone (e : Encryption) (x : Option SentKeys) (m : Machine) (l : Local (pairing shared)) : Type 0 where
      pub responds : l.log.responses ≡ a.features ∷ []
      pub encrypts : l.log.encryptions ≡ e ∷ []
      pub inputs : l.inputs ≡ inputs_of_head s a
      pub ends : HeadEnds (excepted s.request a.features) m
      pub stored : Stored s a x m
      pub sent_ltk : l.log.ltks ≡ sent_ltks x
      pub sent_identification : l.log.identifications ≡ sent_identifications x
      pub displays : l.log.displays ≡ shown_at Peripheral (chosen s a) shared.shown

    abbrev pub Done : Encryption → Option SentKeys → Party → Machine → Local (pairing shared) → Type 0
    Done e x opener m l = TerminalDone e x m l
    Done e x replier m l = HeadDone e x m l

    holds_keys :
        (x : SentKeys) (m : Machine) → Stored s a (Some x) m → HoldsKeys (size s a) x.ltk x.identification m
    holds_keys x m t =
        record { bond = t.0; has = t.1; cut = t.2.0; same_ediv = t.2.1; same_rand = t.2.2 }

    same_bonds_lem :
        (x : Option SentKeys) (m m₁ : Machine) (ltks : List LongTermKey) (identifications : List Identification) →
        AreSent x → Stored s a x m → Stored s a x m₁ → ltks ≡ sent_ltks x →
        identifications ≡ sent_identifications x → SameBonds (size s a) ltks identifications m m₁
    same_bonds_lem None m m₁ ltks identifications h t u p q = absurd h
    same_bonds_lem (Some x) m m₁ ltks identifications h t u p q =
        record {
          ltk = x.ltk;
          identification = x.identification;
          ltk_sent = p;
          identification_sent = q;
          terminal_holds = holds_keys x m t;
          head_holds = holds_keys x m₁ u;
        }

    pub agreed :
        (e : Encryption) (x : Option SentKeys) → SentIfClaimed s a x →
        (m : Machine) (l : Local (pairing shared)) (m₁ : Machine) (l₁ : Local (pairing shared)) →
        Done e x opener m l → Done e x replier m₁ l₁ → Agreed m l m₁ l₁
    agreed e x due m l m₁ l₁ t h =
        record {
          answer = a.features;
          answered = h.responds;
          counted =
              omega (arith, t.inputs, h.inputs, entries_of_both (chosen s a), keys_of_both a.features (both s a));
          encryption = e;
          terminal_encrypts = t.encrypts;
          head_encrypts = h.encrypts;
          terminal_ends = t.ends;
          head_ends = h.ends;
          same_bonds = λ p q. same_bonds_lem x m m₁ _ _ (due p q) t.stored h.stored h.sent_ltk h.sent_identification;
          terminal_displays = t.displays;
          head_displays = h.displays;
        }

    abbrev pub ending : (e : Encryption) (x : Option SentKeys) → SentIfClaimed s a x → PairingProtocol
    ending e x due = Protocol.finish (Done e x) (agreed e x due)

    -- keys of one end, where they are named: LTK, then EDIV and Rand; IRK, then address
    abbrev pub encryption_key : Party → (SentKeys → PairingProtocol) → PairingProtocol
    encryption_key r K =
        sends r (FairData an_ltk) (λ k. packet.EncryptionInformation k.0)
        (λ k. sends r (FairData an_ediv × FairData a_rand) (λ x. packet.CentralIdentification x.0.0 x.1.0)
        (λ x. K (sent_keys k.0 x.0.0 x.1.0)))

    abbrev pub identity_key : Party → Bool → PairingProtocol → PairingProtocol
    identity_key r true g =
        sends r IdentityResolvingKey packet.IdentityInformation
        (λ k. sends r Address packet.IdentityAddressInformation (λ x. g))
    identity_key r false g = g

    -- the terminal's keys, as the request names them
    abbrev pub terminal_encryption : Bool → PairingProtocol → PairingProtocol
    terminal_encryption true g = encryption_key opener (λ x. g)
    terminal_encryption false g = g

    abbrev pub terminal_keys : (e : Encryption) (x : Option SentKeys) → SentIfClaimed s a x → PairingProtocol
    terminal_keys e x due =
        terminal_encryption (names_encryption_key s.request.initiator_key_distribution)
        (identity_key opener (names_identity_key s.request.initiator_key_distribution)
        (ending e x due))

    -- the head's keys before them, as the answer names them
    abbrev pub head_identity : (e : Encryption) (x : Option SentKeys) → SentIfClaimed s a x → PairingProtocol
    head_identity e x due =
        identity_key replier (names_identity_key a.features.responder_key_distribution) (terminal_keys e x due)

    abbrev pub head_keys :
        Encryption → (named : Bool) → names_encryption_key a.features.responder_key_distribution ≡ named →
        PairingProtocol
    head_keys e true p = encryption_key replier (λ x. head_identity e (Some x) (λ b q. tt))
    head_keys e false p = head_identity e None (λ b q. absurd (true≢false (sym q ∙ p)))

    -- keys where both bond
    abbrev pub after_srand : Encryption → (bond : Bool) → both s a ≡ bond → PairingProtocol
    after_srand e true p = head_keys e (names_encryption_key a.features.responder_key_distribution) refl
    after_srand e false p = ending e None (λ q r. absurd (true≢false (sym q ∙ p)))

    -- Mconfirm, Sconfirm, Mrand, Srand
    abbrev pub after_mrand : (mrand srand : Nonce) → PairingProtocol
    after_mrand mrand srand =
        sends replier (Unit {0}) (λ u. packet.PairingRandom srand)
        (λ u. after_srand (encryption_of mrand srand) (both s a) refl)

    abbrev pub after_sconfirm : (mrand srand : Nonce) → PairingProtocol
    after_sconfirm mrand srand =
        sends opener (Unit {0}) (λ u. packet.PairingRandom mrand) (λ u. after_mrand mrand srand)

    abbrev pub after_mconfirm : FairData a_nonce → PairingProtocol
    after_mconfirm mrand =
        sends replier (FairData a_nonce) (λ x. packet.PairingConfirm (confirm_of x.0))
        (λ x. after_sconfirm mrand.0 x.0)

    abbrev pub confirms : PairingProtocol
    confirms = sends opener (FairData a_nonce) (λ x. packet.PairingConfirm (confirm_of x.0)) after_mconfirm

    -- by the method: the head has its OOB data before the terminal
    abbrev pub after_response : PairingMethod → PairingProtocol
    after_response method.JustWorks = confirms
    after_response method.NumericComparison = confirms
    after_response (method.PassKeyEntry central peripheral) = confirms
    after_response method.OutOfBand =
        Protocol.signal replier (FairData a_nonce) (λ x. queued (packet.PairingConfirm (confirm_of x.0))) after_mconfirm

  -- the request, and the response
  abbrev pub after_request : PairingProtocol
  after_request =
      sends replier (Answer s) (λ a. packet.PairingResponse a.features) (λ a. after_response a (chosen s a))

  abbrev pub whole_exchange : PairingProtocol
  whole_exchange = Protocol.message opener (Unit {0}) (λ u. request_of s) (λ u. after_request)
