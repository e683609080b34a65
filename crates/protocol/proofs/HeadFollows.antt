-- The head does what the protocol of pairing says, from a fair start. Its stages stand last first, as each leads to one
-- above it. Before a stage n inputs were got; its calls and inputs are counted, and d are to spare. Assumes nothing.
use Rattle.std.specs.Prelude.{Option, Some, None}
use Prim.Native.Nat.{ℕ, suc, ◌+◌, ◌*◌}
use mathlib.Core.Path.{◌≡◌, refl, subst}
use mathlib.Core.Bool.{Bool, true, false, cond, and_comm}
use mathlib.Core.List.{List, [], ◌∷◌}
use native.Mathlib.Omega.{arith}
use lib.ListN.{length}
use Rattle.octets.specs.Octets.{octets_of, word_of}
use Rattle.octets.proofs.Octets.{same_number}
use Rattle.crypto.specs.declared.crypto.Nonce.{Nonce}
use Rattle.crypto.proofs.Bounds.{c1_back}
use Rattle.util.specs.declared.util.PairingMethod.{PairingMethod}
use Rattle.util.specs.declared.util.PairingMethod.TheVariants as method
use Rattle.util.specs.declared.util.PassKeyEntryAction.TheVariants as action
use Rattle.util.proofs.Choice.{never_numeric}
use Rattle.bond.specs.declared.Address.{Address}
use Rattle.bond.specs.declared.BondInformation.{BondInformation}
use Rattle.host_calls.specs.declared.call.Packet.TheVariants as packet
use Rattle.host_calls.specs.declared.call.Question.TheVariants as question
use Rattle.machine.specs.Machine.{no_confirm_data, new_machine, want_bonding, wishes}
use Rattle.machine.specs.declared.ConfirmPhaseData.{ConfirmPhaseData}
use Rattle.machine.specs.declared.Machine.{Machine}
use Rattle.machine.specs.declared.PairingData.{PairingData}
use Rattle.machine.specs.declared.Phase.TheVariants as phase
use Rattle.machine.specs.declared.Role.TheVariants.{Peripheral}
use Rattle.protocol.specs.Program.{ret, bind}
use Rattle.protocol.specs.Ops.{a_nonce}
use Rattle.protocol.specs.Handlers.{Handler, ◌>>=◌, ◌>>◌, asked, send_packet, word_in, names_encryption_key}
use Rattle.protocol.specs.Handlers.{names_identity_key, enters, confirm_data, with_nonce, pass_key_tk, with_peer_address}
use Rattle.protocol.specs.Handlers.{with_keys, with_irk, with_identity_address, negotiated_key_size, enter_bonded, enter}
use Rattle.protocol.specs.Handlers.{entered, send_encryption_key, send_identity_key, enable_encryption}
use Rattle.protocol.specs.Handlers.{store_confirm_bytes, handle_encryption_information}
use Rattle.protocol.specs.Handlers.{handle_identity_information}
use Rattle.protocol.specs.LegacyPeripheral.{confirm_value, await_identity_or_succeed, await_keys, send_all_keys}
use Rattle.protocol.specs.LegacyPeripheral.{send_keys_or_await_identity, handle_link_encrypted_success}
use Rattle.protocol.specs.LegacyPeripheral.{send_sconfirm, answer_confirm, handle_peer_confirm}
use Rattle.protocol.specs.LegacyPeripheral.{handle_pass_key_input, bond_lost, identity_offered, response_features}
use Rattle.protocol.specs.LegacyPeripheral.{begin_method, handle_pairing_request, handle_pairing_random}
use Rattle.protocol.specs.LegacyPeripheral.{handle_central_identification}
use Rattle.protocol.specs.LegacyPeripheral.{handle_identity_address_information, transition, handle_input}
use Rattle.protocol.specs.Step.{play_of, step}
use Rattle.protocol.specs.FairLink.{Start, FairStart, fresh_head, Shared, shows, Due, pass_key, encryption_on}
use Rattle.protocol.specs.FairRuns.{count_named, shown_at, Encryption, on_identity_information, WaitsForIdentityKey, excepted}
use Rattle.protocol.proofs.Exchange.{opener, replier, Local, quiet, says, takes, urgently, owing, either}
use Rattle.protocol.proofs.Exchange.{signalling, finished}
use Rattle.protocol.proofs.Payloads.{some_word, word_in_lem, features_in_lem, identification_in_lem, address_in_lem}
use Rattle.protocol.proofs.Payloads.{encryption_named_lem, identity_named_lem}
use Rattle.protocol.proofs.FairReplies.{FairData}
use Rattle.protocol.proofs.Pairing.{pairing, plus, head_entries, inputs_of_head, Answer, SentKeys, sent_keys, HeadFollows}
use Rattle.protocol.proofs.Pairing.{Entry, no_entry, typed_entry, oob_entry, shown_entry, unchosen, having}
use Rattle.protocol.proofs.Pairing.{tk_of, chosen, both, preq, pres, confirm_of, Keeps, SentIfClaimed, HeadDone}
use Rattle.protocol.proofs.Pairing.{ending, identity_key, terminal_encryption, terminal_keys, head_keys, after_srand}
use Rattle.protocol.proofs.Pairing.{after_sconfirm, after_mconfirm, confirms, after_response, after_request}
use Rattle.protocol.proofs.Pairing.{whole_exchange}

-- ---- the excepted case

-- 16 octets are a word
word_of_16 : (payload : List ℕ) → length payload ≡ 16 → word_in payload ≡ Some (word_of payload)
unfolding word_in
word_of_16 payload long = rw long

-- a head that awaits an IRK reads one of 16 octets, and its bond then has it
waits_for_identity :
    (d : PairingData) (b : BondInformation) → d.bond_information ≡ Some b →
    WaitsForIdentityKey (enters phase.WaitingIdentitityInformation no_confirm_data d)
unfolding step play_of handle_input transition handle_identity_information enter with_irk
waits_for_identity d b e =
    record {
      pending = refl;
      reads = λ payload long. rw (on_identity_information, word_of_16 payload long, e) (refl, (_, refl, refl));
    }

-- ---- once an answer is sent

module _ (shared : Shared) (s : Start) (a : Answer s) where
  -- the head's data, with a bond or none
  abbrev head_data : Option BondInformation → PairingData
  head_data bond =
      record {
        local_address = s.head_address;
        peer_address = s.terminal_address;
        local_features = a.features;
        peer_features = s.request;
        pairing_method = chosen s a;
        bond_information = bond;
      }

  -- the keys that the head awaits
  abbrev keys_awaited : (encryption : Bool) → ℕ
  keys_awaited encryption =
      count_named encryption + count_named (names_identity_key s.request.initiator_key_distribution)

  -- the handler that sends all keys, from the identity key on, and from its beginning
  abbrev from_identity : PairingData → (named : Bool) → Handler Machine
  from_identity d named = do
    send_identity_key d named
    await_keys d (names_encryption_key s.request.initiator_key_distribution)

  abbrev from_encryption : PairingData → (named : Bool) → Handler Machine
  from_encryption d named = do
    d₁ ← send_encryption_key d (λ ltk ediv rand. with_keys ltk ediv rand d) named
    from_identity d₁ (names_identity_key a.features.responder_key_distribution)

  -- ---- once encryption is called for

  module _ (e : Encryption) (entry : Entry shared Peripheral (chosen s a)) where
    -- .. the head has sent keys of its own, or none
    abbrev encrypted_with : Option SentKeys → List Due → ℕ → Local (pairing shared)
    encrypted_with keys due n = having shared entry true (e ∷ []) (a.features ∷ []) keys due n

    abbrev encrypted : List Due → ℕ → Local (pairing shared)
    encrypted due n = encrypted_with None due n

    module _ (ends : excepted s.request a.features ≡ false) where
      module _ (x : Option SentKeys) (due : SentIfClaimed s a x) where
        -- Success is entered, whichever address the peer has by now
        enters_success :
            (d n : ℕ) (peer : Address) (b : BondInformation) → Keeps s a x b → n ≡ inputs_of_head s a →
            HeadFollows shared s (plus 3 d) (ending shared s a e x due) (encrypted_with x [] n)
            (enter (enters phase.Success no_confirm_data (with_peer_address peer (head_data (Some b)))))
        unfolding enter
        enters_success d n peer b k all = go (want_bonding m.pairing_data)
          where
            m : Machine
            m = enters phase.Success no_confirm_data (with_peer_address peer (head_data (Some b)))

            done : HeadDone shared s a e x m (encrypted_with x [] n)
            done =
                record {
                  responds = refl;
                  encrypts = refl;
                  inputs = all;
                  ends = rw ends;
                  stored = (b, refl, k);
                  sent_ltk = refl;
                  sent_identification = refl;
                  displays = entry.as_shown;
                }

            go : (bonds : Bool) →
                HeadFollows shared s (plus 3 d) (ending shared s a e x due) (encrypted_with x [] n) (enter_bonded m b bonds)
            go true = quiet refl λ u. quiet refl λ v. finished done
            go false = quiet refl λ u. finished done

        -- the terminal's identity key is awaited, where it is named
        awaits_identity :
            (d n : ℕ) (b : BondInformation) → Keeps s a x b →
            (named : Bool) → n + 2 * count_named named ≡ inputs_of_head s a →
            HeadFollows shared s (plus 5 d) (identity_key shared s a opener named (ending shared s a e x due))
            (encrypted_with x [] n) (bind (await_identity_or_succeed (head_data (Some b)) named) entered)
        unfolding await_identity_or_succeed enter handle_input transition handle_identity_information with_irk
            handle_identity_address_information with_identity_address
        awaits_identity d n b k true all =
            takes λ irk. rw (some_word irk.0)
            (takes λ address. rw (address_in_lem address)
            (enters_success d (suc (suc n)) _ _ k (omega arith)))
        awaits_identity d n b k false all = enters_success (plus 2 d) n _ b k (omega arith)

        -- .. and before it the encryption key
        awaits_keys :
            (d n : ℕ) (b : BondInformation) → Keeps s a x b →
            (named : Bool) → n + 2 * keys_awaited named ≡ inputs_of_head s a →
            HeadFollows shared s (plus 7 d)
            (terminal_encryption shared s a named
            (identity_key shared s a opener (names_identity_key s.request.initiator_key_distribution)
            (ending shared s a e x due)))
            (encrypted_with x [] n) (bind (await_keys (head_data (Some b)) named) entered)
        unfolding await_keys enter handle_input transition handle_encryption_information
            handle_central_identification
        awaits_keys d n b k true all =
            takes λ ltk. rw (some_word ltk.0.0)
            (takes λ y. rw (identification_in_lem y.0.0 y.1.0 y.0.1 y.1.1)
            (awaits_identity d (suc (suc n)) b k _ (omega arith)))
        awaits_keys d n b k false all = awaits_identity (plus 2 d) n b k _ (omega arith)

        -- before them the head's identity key is sent, where it is named
        sends_identity :
            (d n : ℕ) (b : BondInformation) → Keeps s a x b →
            n + 2 * keys_awaited (names_encryption_key s.request.initiator_key_distribution) ≡ inputs_of_head s a →
            (named : Bool) →
            HeadFollows shared s (plus 11 d) (identity_key shared s a replier named (terminal_keys shared s a e x due))
            (encrypted_with x [] n) (bind (from_identity (head_data (Some b)) named) entered)
        unfolding send_identity_key
        sends_identity d n b k all true =
            quiet refl λ irk. says irk refl λ u. quiet refl λ address. says address refl λ v. awaits_keys d n b k _ all
        sends_identity d n b k all false = awaits_keys (plus 4 d) n b k _ all

      -- .. and first of all its encryption key
      sends_keys :
          (d n : ℕ) (b : BondInformation) →
          n + 2 * keys_awaited (names_encryption_key s.request.initiator_key_distribution) ≡ inputs_of_head s a →
          (named : Bool) (p : names_encryption_key a.features.responder_key_distribution ≡ named) →
          HeadFollows shared s (plus 16 d) (head_keys shared s a e named p) (encrypted [] n)
          (bind (from_encryption (head_data (Some b)) named) entered)
      unfolding send_encryption_key with_keys negotiated_key_size
      sends_keys d n b all true p =
          quiet refl λ ltk. quiet refl λ ediv. quiet refl λ rand. says ltk refl λ u. says (ediv, rand) refl λ v.
          sends_identity (Some (sent_keys ltk.0 ediv.0 rand.0)) _ d n _ (refl, refl, refl) all _
      sends_keys d n b all false p = sends_identity None _ (plus 5 d) n b tt all _

    -- where not both bond no key is sent: where the request names the terminal's identity key, the head waits for it
    sends_none :
        (d n : ℕ) (b : BondInformation) (due : SentIfClaimed s a None) → both s a ≡ false → n ≡ inputs_of_head s a →
        (named : Bool) → names_identity_key s.request.initiator_key_distribution ≡ named →
        HeadFollows shared s (plus 3 d) (ending shared s a e None due) (encrypted [] n)
        (bind (await_identity_or_succeed (head_data (Some b)) named) entered)
    unfolding await_identity_or_succeed enter
    sends_none d n b due p all true q =
        finished
        (record {
          responds = refl;
          encrypts = refl;
          inputs = all;
          ends = rw (p, q) (waits_for_identity (head_data (Some b)) b refl);
          stored = (b, refl, tt);
          sent_ltk = refl;
          sent_identification = refl;
          displays = entry.as_shown;
        })
    sends_none d n b due p all false q = enters_success (rw (p, q)) None due d n _ b tt all

    -- the link is encrypted: the keys, where both bond
    sends_what_is_due :
        (d n : ℕ) (b : BondInformation) → n ≡ 4 + head_entries (chosen s a) →
        (bonds : Bool) (p : both s a ≡ bonds) →
        HeadFollows shared s (plus 16 d) (after_srand shared s a e bonds p) (encrypted [] n)
        (bind (send_keys_or_await_identity (head_data (Some b)) bonds) entered)
    unfolding send_keys_or_await_identity send_all_keys
    sends_what_is_due d n b all true p =
        sends_keys (rw p) d n b (rw (p, a.encryption, a.identity) (omega arith)) _ refl
    sends_what_is_due d n b all false p = sends_none (plus 13 d) n b _ p (rw p (omega arith)) _ refl

    -- the report that it is encrypted comes before any packet
    takes_report :
        (d n : ℕ) (b : BondInformation) → n ≡ 3 + head_entries (chosen s a) →
        HeadFollows shared s (plus 17 d) (after_srand shared s a e (both s a) refl)
        (encrypted (encryption_on ∷ []) n)
        (ret (enters phase.WaitingLinkEncrypted no_confirm_data (head_data (Some b))))
    unfolding handle_input transition handle_link_encrypted_success want_bonding
    takes_report d n b all =
        urgently refl refl refl
        (subst
        (λ bonds. HeadFollows shared s (plus 16 d) (after_srand shared s a e (both s a) refl)
        (encrypted [] (suc n)) (bind (send_keys_or_await_identity (head_data (Some b)) bonds) entered))
        (and_comm (wishes s.request) (wishes a.features))
        (sends_what_is_due d (suc n) b (omega arith) _ refl))

  -- ---- before that: confirm values and nonces

  abbrev unencrypted : {way : PairingMethod} → Entry shared Peripheral way → List Due → ℕ → Local (pairing shared)
  unencrypted entry due n = having shared entry false [] (a.features ∷ []) None due n

  -- the confirm data with a temporary key
  abbrev keyed : ℕ → ConfirmPhaseData
  keyed tk = confirm_data tk (preq s a) (pres s a)

  -- c1 as the head computes it is c1 as the protocol has it
  confirm_value_lem :
      (srand r : Nonce) →
      confirm_value (with_nonce (keyed (tk_of shared (chosen s a))) srand) (head_data None) r
      ≡ confirm_of shared s a r
  unfolding confirm_value
  confirm_value_lem srand r = refl

  -- Mrand agrees with Mconfirm: Srand goes out, and encryption is called for
  takes_mrand :
      (d n : ℕ) (entry : Entry shared Peripheral (chosen s a)) (mrand : FairData a_nonce) (srand : Nonce) →
      n ≡ 2 + head_entries (chosen s a) →
      HeadFollows shared s (plus 20 d) (after_sconfirm shared s a mrand.0 srand) (unencrypted entry [] n)
      (ret (enters (phase.WaitingPairingRandom (confirm_of shared s a mrand.0))
      (with_nonce (keyed (tk_of shared (chosen s a))) srand) (head_data None)))
  unfolding handle_input transition handle_pairing_random enable_encryption negotiated_key_size enter
  takes_mrand d n entry mrand srand all =
      takes λ u. rw (word_in_lem mrand.0.0 mrand.1, confirm_value_lem srand mrand.0, same_number)
      (says tt refl λ v. quiet refl λ b. takes_report _ entry d (suc n) b (omega arith))

  -- Sconfirm goes out, where the temporary key is the method's
  sends_sconfirm :
      (d n : ℕ) (entry : Entry shared Peripheral (chosen s a)) (mrand : FairData a_nonce) (tk : ℕ) →
      n ≡ 2 + head_entries (chosen s a) → tk_of shared (chosen s a) ≡ tk →
      HeadFollows shared s (plus 22 d) (after_mconfirm shared s a mrand) (unencrypted entry [] n)
      (bind (answer_confirm (keyed tk) (head_data None) (confirm_of shared s a mrand.0)) entered)
  unfolding send_sconfirm confirm_value enter
  sends_sconfirm d n entry mrand tk all e =
      subst
      (λ t. HeadFollows shared s (plus 22 d) (after_mconfirm shared s a mrand) (unencrypted entry [] n)
      (bind (answer_confirm (keyed t) (head_data None) (confirm_of shared s a mrand.0)) entered))
      e
      (quiet refl λ srand. says srand refl λ u. takes_mrand d n entry mrand srand.0 all)

  -- a confirm value is read as it was sent
  confirm_in_lem : (r : Nonce) → word_in (octets_of (confirm_of shared s a r).0) ≡ Some (confirm_of shared s a r).0
  confirm_in_lem r = word_in_lem (confirm_of shared s a r).0 (c1_back _ r _ _ _ _ _ _)

  -- Mconfirm is answered at once, where the temporary key is there
  takes_mconfirm :
      (d n : ℕ) (entry : Entry shared Peripheral (chosen s a)) (tk : ℕ) → n ≡ 1 + head_entries (chosen s a) →
      tk_of shared (chosen s a) ≡ tk →
      HeadFollows shared s (plus 23 d) (confirms shared s a) (unencrypted entry [] n)
      (ret (enters phase.WaitingPairingConfirm (keyed tk) (head_data None)))
  unfolding handle_input transition handle_peer_confirm
  takes_mconfirm d n entry tk all e =
      takes λ mrand. rw (confirm_in_lem mrand.0) (sends_sconfirm d (suc n) entry mrand tk (omega arith) e)

  -- the passkey is typed, before Mconfirm comes or after
  takes_passkey :
      (d : ℕ) (none-shown : [] ≡ shown_at Peripheral (chosen s a) shared.shown) → head_entries (chosen s a) ≡ 1 →
      tk_of shared (chosen s a) ≡ pass_key_tk (cond (shows (chosen s a)) shared.shown shared.typed) →
      HeadFollows shared s (plus 24 d) (confirms shared s a) (unencrypted {way = chosen s a} (typed_entry shared none-shown) (pass_key ∷ []) 1)
      (ret (enters (phase.WaitingPassKeyInput None) (keyed 0) (head_data None)))
  unfolding handle_input transition handle_pass_key_input store_confirm_bytes enter
  takes_passkey d none-shown one e =
      either refl refl refl (takes_mconfirm d 2 (typed_entry shared none-shown) _ (omega arith) e)
      (λ mrand. rw (confirm_in_lem mrand.0)
      (owing refl refl refl (sends_sconfirm d 3 (typed_entry shared none-shown) mrand _ (omega arith) e)))

  -- the method begins
  begins_method :
      (d : ℕ) (m : PairingMethod) → chosen s a ≡ m →
      HeadFollows shared s (plus 25 d) (after_response shared s a m) (unencrypted (unchosen shared Peripheral) [] 1)
      (bind (begin_method (preq s a) (pres s a) (head_data None) m) entered)
  unfolding begin_method enter handle_input transition
  begins_method d method.JustWorks e = takes_mconfirm (plus 2 d) 1 (no_entry shared (rw e)) _ (rw e) (rw e)
  begins_method d method.NumericComparison e = absurd (never_numeric s.request a.features e)
  begins_method d (method.PassKeyEntry action.Display action.Display) e =
      quiet refl λ u. quiet refl λ v. takes_mconfirm d 1 (shown_entry shared (rw e)) _ (rw e) (rw e)
  begins_method d (method.PassKeyEntry action.Input action.Display) e =
      quiet refl λ u. quiet refl λ v. takes_mconfirm d 1 (shown_entry shared (rw e)) _ (rw e) (rw e)
  begins_method d (method.PassKeyEntry central action.Input) e = quiet refl λ u. takes_passkey d (rw e) (rw e) (rw e)
  begins_method d method.OutOfBand e =
      quiet refl λ u. signalling refl refl refl (takes_mconfirm d 2 (oob_entry shared (rw e)) _ (rw e) (rw e))

-- ---- the request, and the answer to it

module _ (shared : Shared) (s : Start) (fair : FairStart s) where
  -- the head's answer, by what its host says
  answer_by : (offered bonding available : Bool) → Answer s
  unfolding response_features
  answer_by offered bonding available =
      record {
        features = response_features s.head_features s.request offered bonding available;
        encryption = encryption_named_lem _ _ fair.head_flags.encryption;
        identity = identity_named_lem _ _ fair.head_flags.identity;
        size_least = fair.head_size_least;
        size_largest = fair.head_size_largest;
      }

  -- the request's handler, once it is known whether the identity key is offered ..
  abbrev from_offered : (offered : Bool) → Handler Machine
  from_offered offered = do
    bonding ← asked question.BondingFlag
    available ← asked question.OobAvailable
    let a = answer_by offered bonding available
    send_packet (head_data shared s a None) (packet.PairingResponse a.features)
    begin_method (preq s a) (pres s a) (head_data shared s a None) (chosen s a)

  -- .. before that, where the request names that key or not ..
  abbrev from_named : (named : Bool) → Handler Machine
  from_named named = do
    offered ← identity_offered named
    from_offered offered

  -- .. and before that, where there was a bond or none
  abbrev from_found : (named found : Bool) → Handler Machine
  from_found named found = do
    bond_lost found
    from_named named

  abbrev requested : Local (pairing shared)
  requested = having shared (unchosen shared Peripheral) false [] [] None [] 1

  -- the response is sent
  sends_response :
      (d : ℕ) (offered : Bool) →
      HeadFollows shared s (plus 28 d) (after_request shared s) requested (bind (from_offered offered) entered)
  sends_response d offered =
      quiet refl λ bonding. quiet refl λ available. says (answer_by offered bonding available) refl λ u.
      begins_method shared s (answer_by offered bonding available) d _ refl

  -- the host's IRK is asked for, where the identity key is named
  asks_irk :
      (d : ℕ) (named : Bool) →
      HeadFollows shared s (plus 29 d) (after_request shared s) requested (bind (from_named named) entered)
  asks_irk d true = quiet refl λ irk. sends_response d _
  asks_irk d false = sends_response (suc d) false

  -- the host is told of a bond that is lost, where there was one
  tells_bond_lost :
      (d : ℕ) (named found : Bool) →
      HeadFollows shared s (plus 30 d) (after_request shared s) requested (bind (from_found named found) entered)
  tells_bond_lost d named true = quiet refl λ u. asks_irk d named
  tells_bond_lost d named false = asks_irk (suc d) named

-- the head follows the whole exchange, in fewer than 32 calls and inputs
pub head_follows :
    (shared : Shared) (s : Start) (d : ℕ) → FairStart s →
    HeadFollows shared s (plus 32 d) (whole_exchange shared s)
    (having shared (unchosen shared Peripheral) false [] [] None [] 0)
    (ret (fresh_head s))
unfolding fresh_head new_machine handle_input transition handle_pairing_request answer_by
head_follows shared s d fair =
    let named = names_identity_key s.request.responder_key_distribution in
    takes λ u. rw (features_in_lem s.request fair.request_size_least fair.request_size_largest)
    (quiet refl λ found. tells_bond_lost shared s fair d named found)
