-- The terminal does what the protocol of pairing says, from its request on. Its stages stand last first, as each leads
-- to one above it. Before a stage n inputs were got; its calls and inputs are counted, and d are to spare. Assumes
-- nothing.
use Rattle.octets.proofs.Octets.{same_number}
use Rattle.std.specs.Prelude.{Option, Some, None}
use Prim.Native.Nat.{ℕ, suc, ◌+◌, ◌*◌}
use mathlib.Core.Path.{◌≡◌, refl}
use mathlib.Core.Bool.{Bool, true, false}
use mathlib.Core.List.{[], ◌∷◌}
use native.Mathlib.Omega.{arith}
use Rattle.crypto.specs.declared.crypto.Nonce.{Nonce}
use Rattle.crypto.proofs.Bounds.{c1_back}
use Rattle.util.specs.declared.util.PairingMethod.{PairingMethod}
use Rattle.util.specs.declared.util.PairingMethod.TheVariants as method
use Rattle.util.specs.declared.util.PassKeyEntryAction.TheVariants as action
use Rattle.util.proofs.Choice.{never_numeric}
use Rattle.bond.specs.declared.Address.{Address}
use Rattle.bond.specs.declared.BondInformation.{BondInformation}
use Rattle.machine.specs.Machine.{want_bonding, no_confirm_data, lesc_switch}
use Rattle.machine.specs.declared.ConfirmPhaseData.{ConfirmPhaseData}
use Rattle.machine.specs.declared.Machine.{Machine}
use Rattle.machine.specs.declared.PairingData.{PairingData}
use Rattle.machine.specs.declared.Phase.TheVariants as phase
use Rattle.machine.specs.declared.Role.TheVariants.{Central}
use Rattle.protocol.specs.Program.{ret, bind}
use Rattle.protocol.specs.Ops.{a_nonce}
use Rattle.protocol.specs.Handlers.{Handler, ◌>>=◌, ◌>>◌, give, names_encryption_key, names_identity_key, enters}
use Rattle.protocol.specs.Handlers.{confirm_data, with_nonce, smaller, negotiated_key_size, with_keys, with_irk}
use Rattle.protocol.specs.Handlers.{with_identity_address, enter_bonded, enter, entered, send_encryption_key}
use Rattle.protocol.specs.Handlers.{send_identity_key, enable_encryption, handle_encryption_information}
use Rattle.protocol.specs.Handlers.{handle_identity_information}
use Rattle.protocol.specs.LegacyCentral.{confirm_value, send_all_keys, await_identity_or_send, await_keys}
use Rattle.protocol.specs.LegacyCentral.{await_keys_or_succeed, handle_link_encrypted_success, send_mconfirm}
use Rattle.protocol.specs.LegacyCentral.{send_mrand, handle_peer_confirm, handle_pass_key_input}
use Rattle.protocol.specs.LegacyCentral.{begin_confirm, begin_method, handle_pairing_response}
use Rattle.protocol.specs.LegacyCentral.{handle_pairing_random, handle_central_identification}
use Rattle.protocol.specs.LegacyCentral.{handle_identity_address_information, transition, handle_input}
use Rattle.protocol.specs.FairLink.{Start, Shared, encryption_on, fresh_terminal}
use Rattle.protocol.specs.FairRuns.{count_named, Encryption}
use Rattle.protocol.proofs.Exchange.{opener, replier, Local}
use Rattle.protocol.proofs.Exchange.{quiet, says, takes, urgently, owing, behind, finished}
use Rattle.protocol.proofs.FairReplies.{FairData}
use Rattle.protocol.proofs.Payloads.{some_word, word_in_lem, features_in_lem, identification_in_lem, address_in_lem}
use Rattle.protocol.proofs.Payloads.{smaller_swapped}
use Rattle.protocol.proofs.Pairing.{pairing, plus, terminal_entries, inputs_of_terminal, Answer, SentKeys, TerminalFollows}
use Rattle.protocol.proofs.Pairing.{sent_keys, Entry, no_entry, typed_entry, oob_entry, shown_entry, unchosen, having, tk_of, chosen, both, size, preq, pres, confirm_of, encryption_of}
use Rattle.protocol.proofs.Pairing.{Keeps, SentIfClaimed, ending, identity_key, terminal_encryption, terminal_keys, head_keys}
use Rattle.protocol.proofs.Pairing.{after_srand, after_mrand, after_mconfirm, confirms, after_response, after_request}

-- ---- words

-- `send_all_keys`, of the keys that are named
abbrev sending_identity : PairingData → (identity : Bool) → Handler Machine
sending_identity p identity = do
  send_identity_key p identity
  give (enters phase.Success no_confirm_data p)

abbrev sending_keys : PairingData → (encryption identity : Bool) → Handler Machine
sending_keys p encryption identity = do
  p₁ ← send_encryption_key p (λ ltk ediv rand. p) encryption
  sending_identity p₁ identity

-- .. which are those that the peer's record names for the initiator
sends_named :
    (p : PairingData) →
    send_all_keys p
    ≡ sending_keys p (names_encryption_key p.peer_features.initiator_key_distribution)
    (names_identity_key p.peer_features.initiator_key_distribution)
unfolding send_all_keys
sends_named p = refl

module _ (shared : Shared) (s : Start) (a : Answer s) where
  -- the head's keys that the answer names
  abbrev encryption_named : Bool
  encryption_named = names_encryption_key a.features.responder_key_distribution

  abbrev identity_named : Bool
  identity_named = names_identity_key a.features.responder_key_distribution

  -- the terminal's inputs that its user or OOB gives it
  abbrev own_entries : ℕ
  own_entries = terminal_entries (chosen s a)

  -- its temporary key, and its data once the answer is there
  abbrev tk : ℕ
  tk = tk_of shared (chosen s a)

  abbrev keyed : Nonce → ConfirmPhaseData
  keyed mrand = with_nonce (confirm_data tk (preq s a) (pres s a)) mrand

  abbrev answered_by : Address → Option BondInformation → PairingData
  answered_by peer bond =
      record {
        local_address = s.terminal_address;
        peer_address = peer;
        local_features = s.request;
        peer_features = a.features;
        pairing_method = chosen s a;
        bond_information = bond;
      }

  abbrev unbonded : PairingData
  unbonded = answered_by s.head_address None

  abbrev bonded : BondInformation → PairingData
  bonded b = answered_by s.head_address (Some b)

  -- the key size, as the terminal computes it
  same_size :
      smaller a.features.maximum_encryption_key_size s.request.maximum_encryption_key_size ≡ size s a
  same_size = smaller_swapped a.features.maximum_encryption_key_size s.request.maximum_encryption_key_size

  -- ---- the stages with encryption on
  module _ (entry : Entry shared Central (chosen s a)) (e : Encryption) where
    -- .. the terminal has sent keys of its own, or none yet
    abbrev encrypted_with : Option SentKeys → ℕ → Local (pairing shared)
    encrypted_with keys n = having shared entry true (e ∷ []) [] keys [] n

    abbrev encrypted : ℕ → Local (pairing shared)
    encrypted n = encrypted_with None n

    -- .. and no input to come
    module _
        (x : Option SentKeys) (due : SentIfClaimed s a x) (n : ℕ) (all : n ≡ inputs_of_terminal s a)
        (peer : Address) (b : BondInformation) (k : Keeps s a x b) where
      abbrev at_last : PairingData
      at_last = answered_by peer (Some b)

      abbrev success : Machine
      success = enters phase.Success no_confirm_data at_last

      -- all is done
      stays :
          (d : ℕ) (keys : Option SentKeys) →
          TerminalFollows shared s (plus 1 d) (ending shared s a e x due) (encrypted_with keys n) (ret success)
      stays d keys =
          finished
          (record { encrypts = refl; inputs = all; ends = refl; stored = (b, refl, k); displays = entry.as_shown })

      -- Success is entered
      succeeds :
          (d : ℕ) (keys : Option SentKeys) →
          TerminalFollows shared s (plus 3 d) (ending shared s a e x due) (encrypted_with keys n) (enter success)
      unfolding enter
      succeeds d keys = go (want_bonding at_last)
        where
          go : (bonds : Bool) →
              TerminalFollows shared s (plus 3 d) (ending shared s a e x due) (encrypted_with keys n)
              (enter_bonded success b bonds)
          go true = quiet refl λ u. quiet refl λ v. stays d keys
          go false = quiet refl λ u. stays (plus 1 d) keys

      -- the terminal's identity key is sent, where it is named
      sends_identity :
          (d : ℕ) (keys : Option SentKeys) (identity : Bool) →
          TerminalFollows shared s (plus 7 d) (identity_key shared s a opener identity (ending shared s a e x due))
          (encrypted_with keys n) (bind (sending_identity at_last identity) entered)
      unfolding send_identity_key
      sends_identity d keys true =
          quiet refl λ irk. says irk refl λ u. quiet refl λ address. says address refl λ v. succeeds d keys
      sends_identity d keys false = succeeds (plus 4 d) keys

      -- .. and before it the encryption key
      sends_keys :
          (d : ℕ) (encryption identity : Bool) →
          TerminalFollows shared s (plus 12 d)
          (terminal_encryption shared s a encryption (identity_key shared s a opener identity (ending shared s a e x due)))
          (encrypted n) (bind (sending_keys at_last encryption identity) entered)
      unfolding send_encryption_key
      sends_keys d true identity =
          quiet refl λ ltk. quiet refl λ ediv. quiet refl λ rand. says ltk refl λ u. says (ediv, rand) refl λ v.
          sends_identity d (Some (sent_keys ltk.0 ediv.0 rand.0)) identity
      sends_keys d false identity = sends_identity (plus 5 d) None identity

      -- the answer, which the terminal reads for this, names them as the request does
      sends_all_keys :
          (d : ℕ) →
          TerminalFollows shared s (plus 12 d) (terminal_keys shared s a e x due) (encrypted n)
          (bind (send_all_keys at_last) entered)
      sends_all_keys d = rw (sends_named at_last, a.encryption, a.identity) (sends_keys d _ _)

    -- the head's identity key is taken before them, where it is named
    takes_identity :
        (d n : ℕ) (x : Option SentKeys) (due : SentIfClaimed s a x) (b : BondInformation) →
        both s a ≡ true → Keeps s a x b → (identity : Bool) → n + 2 * count_named identity ≡ inputs_of_terminal s a →
        TerminalFollows shared s (plus 14 d) (identity_key shared s a replier identity (terminal_keys shared s a e x due))
        (encrypted n) (bind (await_identity_or_send (bonded b) identity) entered)
    unfolding await_identity_or_send enter handle_input transition handle_identity_information with_irk
        handle_identity_address_information with_identity_address want_bonding
    takes_identity d n x due b p k true all =
        takes λ irk. rw (some_word irk.0) (takes λ address. rw (address_in_lem address, p)
        (sends_all_keys x due (suc (suc n)) (omega arith) _ _ k d))
    takes_identity d n x due b p k false all = sends_all_keys x due n (omega arith) _ b k (plus 2 d)

    -- .. and before it the encryption key
    takes_keys :
        (d n : ℕ) (b : BondInformation) → both s a ≡ true → n ≡ 4 + own_entries →
        (encryption : Bool) (q : encryption_named ≡ encryption) →
        TerminalFollows shared s (plus 16 d) (head_keys shared s a e encryption q) (encrypted n)
        (bind (await_keys (bonded b) encryption) entered)
    unfolding await_keys enter handle_input transition handle_encryption_information
        handle_central_identification with_keys negotiated_key_size
    takes_keys d n b p c true q =
        takes λ ltk. rw (word_in_lem ltk.0.0 ltk.1) (takes λ x.
        rw (identification_in_lem x.0.0 x.1.0 x.0.1 x.1.1, same_size)
        (takes_identity d (suc (suc n)) _ _ _ p (refl, refl, refl) identity_named (rw (p, q) (omega arith))))
    takes_keys d n b p c false q =
        takes_identity (plus 2 d) n None _ b p tt identity_named (rw (p, q) (omega arith))

    -- keys are exchanged where both bond
    takes_keys_or_succeeds :
        (d n : ℕ) (b : BondInformation) → n ≡ 4 + own_entries → (bonds : Bool) (p : both s a ≡ bonds) →
        TerminalFollows shared s (plus 16 d) (after_srand shared s a e bonds p) (encrypted n)
        (bind (await_keys_or_succeed (bonded b) bonds) entered)
    takes_keys_or_succeeds d n b c true p = takes_keys d n b p c encryption_named refl
    takes_keys_or_succeeds d n b c false p = succeeds None _ n (rw p (omega arith)) _ b tt (plus 13 d) None

    -- the report that encryption is on
    takes_report :
        (d n : ℕ) (b : BondInformation) → n ≡ 3 + own_entries →
        TerminalFollows shared s (plus 17 d) (after_srand shared s a e (both s a) refl)
        (having shared entry true (e ∷ []) [] None (encryption_on ∷ []) n)
        (ret (enters phase.WaitingLinkEncrypted no_confirm_data (bonded b)))
    unfolding handle_input transition handle_link_encrypted_success want_bonding
    takes_report d n b c =
        urgently refl refl refl (takes_keys_or_succeeds d (suc n) b (omega arith) (both s a) refl)

  -- ---- the stages before
  module _ (entry : Entry shared Central (chosen s a)) where
    abbrev unencrypted : ℕ → Local (pairing shared)
    unencrypted n = having shared entry false [] [] None [] n

    -- c1 as the terminal computes it is c1 as the protocol has it
    confirm_value_lem : (mrand r : Nonce) → confirm_value (keyed mrand) unbonded r ≡ confirm_of shared s a r
    unfolding confirm_value
    confirm_value_lem mrand r = refl

    -- Srand agrees with Sconfirm, and encryption is called for
    takes_srand :
        (d n : ℕ) (mrand : Nonce) (srand : FairData a_nonce) → n ≡ 2 + own_entries →
        TerminalFollows shared s (plus 19 d) (after_mrand shared s a mrand srand.0) (unencrypted n)
        (ret (enters (phase.WaitingPairingRandom (confirm_of shared s a srand.0)) (keyed mrand) unbonded))
    unfolding handle_input transition handle_pairing_random enable_encryption negotiated_key_size enter
    takes_srand d n mrand srand c =
        takes λ u. rw (word_in_lem srand.0.0 srand.1, confirm_value_lem mrand srand.0, same_number, same_size)
        (quiet refl λ b.
        takes_report entry (encryption_of shared s a mrand srand.0) d (suc n) b (omega arith))

    -- Sconfirm is answered by Mrand
    takes_sconfirm :
        (d n : ℕ) (mrand : FairData a_nonce) → n ≡ 1 + own_entries →
        TerminalFollows shared s (plus 21 d) (after_mconfirm shared s a mrand) (unencrypted n)
        (ret (enters phase.WaitingPairingConfirm (keyed mrand.0) unbonded))
    unfolding handle_input transition handle_peer_confirm send_mrand enter
    takes_sconfirm d n mrand c =
        takes λ srand. rw (word_in_lem (confirm_of shared s a srand.0).0 (c1_back _ _ _ _ _ _ _ _))
        (says tt refl λ u. takes_srand d (suc n) mrand.0 srand (omega arith))

    -- Mconfirm is sent, of a temporary key that is the method's
    sends_mconfirm :
        (d n : ℕ) (t : ℕ) → t ≡ tk → n ≡ 1 + own_entries →
        TerminalFollows shared s (plus 23 d) (confirms shared s a) (unencrypted n)
        (bind (begin_confirm (preq s a) (pres s a) unbonded t) entered)
    unfolding begin_confirm send_mconfirm confirm_value enter
    sends_mconfirm d n t e c = rw e (quiet refl λ mrand. says mrand refl λ u. takes_sconfirm d n mrand c)

  -- the method that was chosen begins: passkey and OOB data are entries
  begins_method :
      (d : ℕ) (way : PairingMethod) → chosen s a ≡ way →
      TerminalFollows shared s (plus 25 d) (after_response shared s a way)
      (having shared (unchosen shared Central) false [] [] None [] 1)
      (bind (begin_method (preq s a) (pres s a) unbonded way) entered)
  unfolding begin_method enter handle_input transition handle_pass_key_input begin_confirm
  begins_method d method.JustWorks e = sends_mconfirm (no_entry shared (rw e)) (plus 2 d) 1 _ (rw e) (rw e)
  begins_method d method.NumericComparison e = absurd (never_numeric s.request a.features e)
  begins_method d (method.PassKeyEntry action.Display peripheral) e =
      quiet refl λ u. quiet refl λ v. sends_mconfirm (shown_entry shared (rw e)) d 1 _ (rw e) (rw e)
  begins_method d (method.PassKeyEntry action.Input peripheral) e =
      quiet refl λ u. owing refl refl refl (sends_mconfirm (typed_entry shared (rw e)) d 2 _ (rw e) (rw e))
  begins_method d method.OutOfBand e =
      quiet refl λ u. behind refl refl (sends_mconfirm (oob_entry shared (rw e)) d 2 _ (rw e) (rw e))

-- ---- from the request on, with the response first
pub terminal_follows :
    (shared : Shared) (s : Start) (d : ℕ) →
    TerminalFollows shared s (plus 26 d) (after_request shared s)
    (having shared (unchosen shared Central) false [] [] None [] 0)
    (ret (fresh_terminal s))
unfolding fresh_terminal lesc_switch handle_input transition handle_pairing_response
terminal_follows shared s d =
    takes λ a. rw (features_in_lem a.features a.size_least a.size_largest)
    (begins_method shared s a d (chosen s a) refl)
