-- Bounds of the parts that both roles have, and of entering a state. Assumes nothing.
use Rattle.std.specs.Prelude.{Option, Some, None}
use Prim.Native.Nat.{ℕ, ◌≤◌}
use mathlib.Core.Bool.{Bool, true, false, cond}
use mathlib.Core.Path.{refl, ap}
use mathlib.Core.List.{List}
use lib.Dec.{eqb, lit≤}
use lib.ListN.{length}
use native.Mathlib.Omega.{arith}
use Rattle.octets.specs.Octets.{octets_of}
use Rattle.crypto.specs.declared.crypto.LongTermKey.{LongTermKey}
use Rattle.smp_types.specs.Types.{command_code}
use Rattle.smp_types.specs.declared.types.Command.{Command}
use Rattle.smp_types.specs.declared.types.Command.TheVariants as command
use Rattle.bond.specs.Bond.{bd_addr_octets, address_octets, bond_octets}
use Rattle.bond.specs.declared.BondInformation.{BondInformation}
use Rattle.bond.specs.declared.Error.{Error}
use Rattle.bond.specs.declared.Error.TheVariants.{InvalidValue}
use Rattle.host_calls.specs.Calls.{call_octets}
use Rattle.host_calls.specs.declared.call.Call.{Call}
use Rattle.host_calls.specs.declared.call.Call.TheVariants as call
use Rattle.host_calls.specs.declared.call.ConnectionEvent.TheVariants as notice
use Rattle.host_calls.proofs.Writing.{call_short}
use Rattle.machine.specs.Machine.{want_bonding}
use Rattle.machine.specs.declared.ConfirmPhaseData.{ConfirmPhaseData}
use Rattle.machine.specs.declared.Event.TheVariants as event
use Rattle.machine.specs.declared.Input.{Input}
use Rattle.machine.specs.declared.Input.TheVariants as input
use Rattle.machine.specs.declared.Machine.{Machine}
use Rattle.machine.specs.declared.PairingData.{PairingData}
use Rattle.machine.specs.declared.Phase.{Phase}
use Rattle.machine.specs.declared.Phase.TheVariants as phase
use Rattle.machine.specs.declared.Role.{Role}
use Rattle.machine.proofs.Canonical.{Canonical}
use Rattle.protocol.specs.Program.{bind}
use Rattle.protocol.specs.Ops.{Reply}
use Rattle.protocol.specs.Handlers.{Try, ok, err, Handler, word_in, on_command, on_link_encrypted, on_pass_key_input, on_pass_key_cancel, on_oob_data, on_receiving_keys, other_input, enter_bonded, enter_success, enter_phase, enter, entered, store_confirm_bytes, send_encryption_key, send_identity_key, enable_encryption, handle_encryption_information, handle_identity_information}
use Rattle.protocol.proofs.Bounds.{Fails, EndsIn, failure_bind, Within, Breaks, Keeps, Anything, OfResult, Broken, within_bind, keeps_more, either_keeps, or_fail_then, delivered_then, delivered_last, address_then, bond_then}

-- no call, so any bounds
pub store_confirm_bytes_keeps :
    (r : Role) (n o : ℕ) (c : ConfirmPhaseData) (d : PairingData) (payload : List ℕ) →
    Keeps (Canonical r) n o (store_confirm_bytes c d payload)
unfolding store_confirm_bytes
store_confirm_bytes_keeps r n o c d payload =
    or_fail_then _ _ n o d InvalidValue (word_in payload) (λ w. record { of_role = tt; kept = refl })

-- three draws, then the LTK in 17 octets and EDIV and Rand in 11
pub send_encryption_key_keeps :
    (d : PairingData) (kept : LongTermKey → ℕ → ℕ → PairingData) (agreed : Bool) →
    Keeps Anything 5 31 (send_encryption_key d kept agreed)
unfolding send_encryption_key call_octets octets_of
send_encryption_key_keeps d kept true = (
  lit≤ tt,
  lit≤ tt,
  tt,
  λ ltk. (
    lit≤ tt,
    lit≤ tt,
    tt,
    λ ediv. (
      lit≤ tt,
      lit≤ tt,
      tt,
      λ rand. (
        lit≤ tt,
        lit≤ tt,
        λ e. (d, refl),
        delivered_then _ _ _ _ d
            (lit≤ tt, lit≤ tt, λ e. (d, refl), delivered_then _ _ _ _ d tt),
      ),
    ),
  ),
)
send_encryption_key_keeps d kept false = tt

-- the IRK asked and sent in 17 octets, the address asked and sent in 8
pub send_identity_key_keeps : (d : PairingData) (agreed : Bool) → Keeps Anything 4 27 (send_identity_key d agreed)
unfolding send_identity_key call_octets octets_of bd_addr_octets
send_identity_key_keeps d true = (
  lit≤ tt,
  lit≤ tt,
  tt,
  λ irk. (
    lit≤ tt,
    lit≤ tt,
    λ e. (d, refl),
    delivered_then _ _ _ _ d (
      lit≤ tt,
      lit≤ tt,
      tt,
      address_then _ _ _ _ d (λ a.
          (lit≤ tt, lit≤ tt, λ e. (d, refl), delivered_last _ _ d)),
    ),
  ),
)
send_identity_key_keeps d false = tt

-- one call of 19 octets
pub enable_encryption_keeps :
    (r : Role) (d : PairingData) (stk : LongTermKey) → Keeps (Canonical r) 1 19 (enable_encryption d stk)
unfolding enable_encryption call_octets octets_of
enable_encryption_keeps r d stk =
    (lit≤ tt, lit≤ tt, tt, bond_then _ _ _ _ d (λ b. record { of_role = tt; kept = refl }))

-- no call
pub encryption_information_keeps :
    (r : Role) (n o : ℕ) (d : PairingData) (payload : List ℕ) →
    Keeps (Canonical r) n o (handle_encryption_information d payload)
unfolding handle_encryption_information
encryption_information_keeps r n o d payload =
    or_fail_then _ _ n o d InvalidValue (word_in payload) (λ w. record { of_role = tt; kept = refl })

pub identity_information_keeps :
    (r : Role) (n o : ℕ) (d : PairingData) (payload : List ℕ) →
    Keeps (Canonical r) n o (handle_identity_information d payload)
unfolding handle_identity_information
identity_information_keeps r n o d payload =
    or_fail_then _ _ n o d InvalidValue (word_in payload) (λ w. record { of_role = tt; kept = refl })

-- ---- inputs

-- a canonical machine is left canonical
abbrev pub Stays : Role → Machine → Machine → Type 0
Stays r m m₁ = Canonical r m → Canonical r m₁

-- the bounds of a transition, from those of one of its handlers
pub keeps_by :
    (r : Role) (m : Machine) (p : Handler Machine) (n o : ℕ) → n ≤ 9 → o ≤ 58 → Keeps (Canonical r) n o p →
    Keeps (Stays r m) 9 58 p
keeps_by r m p n o h g w = keeps_more (Canonical r) (Stays r m) p n o 9 58 (λ m₁ c b. c) h g w

-- an input that the state does not await
pub other_input_keeps :
    (r : Role) (m : Machine) (payload : List ℕ) (i : Input) → Keeps (Stays r m) 9 58 (other_input m payload i)
unfolding other_input
other_input_keeps r m payload (input.Command code) =
    either_keeps _ 9 58 (eqb code (command_code command.KeypressNotification)) _ _ (λ h. h)
    (either_keeps _ 9 58 (eqb code (command_code command.PairingFailed)) _ _ tt tt)
other_input_keeps r m payload (input.Event (event.LinkEncryptedResult b)) = tt
other_input_keeps r m payload (input.Event event.PassKeyConfirm) = λ h. h
other_input_keeps r m payload (input.Event event.PassKeyCancel) = λ h. h
other_input_keeps r m payload (input.Event (event.PassKeyInput n)) = λ h. h
other_input_keeps r m payload (input.Event (event.OobDataReceived w)) = tt

-- the bounds of a transition
abbrev pub TransitionKeeps : Role → Machine → Handler Machine → Type 0
TransitionKeeps r m p = Keeps (Stays r m) 9 58 p

-- what holds of both ways on an input holds of the choice between them
module _ {A : Type 0} (P : A → Type 0) where
  pub on_command_lem : (c : Command) (i : Input) (p q : A) → P p → P q → P (on_command c i p q)
  on_command_lem c (input.Command code) p q h g = either (eqb code (command_code c))
    where
      either : (b : Bool) → P (cond b p q)
      either true = h
      either false = g
  on_command_lem c (input.Event e) p q h g = g

  pub on_link_encrypted_lem :
      (i : Input) (p : Bool → A) (q : A) → ((b : Bool) → P (p b)) → P q → P (on_link_encrypted i p q)
  on_link_encrypted_lem (input.Command code) p q h g = g
  on_link_encrypted_lem (input.Event (event.LinkEncryptedResult b)) p q h g = h b
  on_link_encrypted_lem (input.Event event.PassKeyConfirm) p q h g = g
  on_link_encrypted_lem (input.Event event.PassKeyCancel) p q h g = g
  on_link_encrypted_lem (input.Event (event.PassKeyInput n)) p q h g = g
  on_link_encrypted_lem (input.Event (event.OobDataReceived w)) p q h g = g

  pub on_pass_key_input_lem : (i : Input) (p : ℕ → A) (q : A) → ((n : ℕ) → P (p n)) → P q → P (on_pass_key_input i p q)
  on_pass_key_input_lem (input.Command code) p q h g = g
  on_pass_key_input_lem (input.Event (event.LinkEncryptedResult b)) p q h g = g
  on_pass_key_input_lem (input.Event event.PassKeyConfirm) p q h g = g
  on_pass_key_input_lem (input.Event event.PassKeyCancel) p q h g = g
  on_pass_key_input_lem (input.Event (event.PassKeyInput n)) p q h g = h n
  on_pass_key_input_lem (input.Event (event.OobDataReceived w)) p q h g = g

  pub on_pass_key_cancel_lem : (i : Input) (p q : A) → P p → P q → P (on_pass_key_cancel i p q)
  on_pass_key_cancel_lem (input.Command code) p q h g = g
  on_pass_key_cancel_lem (input.Event (event.LinkEncryptedResult b)) p q h g = g
  on_pass_key_cancel_lem (input.Event event.PassKeyConfirm) p q h g = g
  on_pass_key_cancel_lem (input.Event event.PassKeyCancel) p q h g = h
  on_pass_key_cancel_lem (input.Event (event.PassKeyInput n)) p q h g = g
  on_pass_key_cancel_lem (input.Event (event.OobDataReceived w)) p q h g = g

  pub on_oob_data_lem : (i : Input) (p : ℕ → A) (q : A) → ((w : ℕ) → P (p w)) → P q → P (on_oob_data i p q)
  on_oob_data_lem (input.Command code) p q h g = g
  on_oob_data_lem (input.Event (event.LinkEncryptedResult b)) p q h g = g
  on_oob_data_lem (input.Event event.PassKeyConfirm) p q h g = g
  on_oob_data_lem (input.Event event.PassKeyCancel) p q h g = g
  on_oob_data_lem (input.Event (event.PassKeyInput n)) p q h g = g
  on_oob_data_lem (input.Event (event.OobDataReceived w)) p q h g = h w

  pub on_receiving_keys_lem : (n : ℕ) (i : Input) (p q r : A) → P p → P q → P r → P (on_receiving_keys n i p q r)
  on_receiving_keys_lem n i p q r h g k = first (eqb n 0) (eqb n 1)
    where
      first :
          (b c : Bool) →
          P (cond b (on_command command.EncryptionInformation i p r)
          (cond c (on_command command.CentralIdentification i q r) r))
      first true c = on_command_lem command.EncryptionInformation i p r h k
      first false true = on_command_lem command.CentralIdentification i q r g k
      first false false = k

-- ---- entering a state

short : (e : Error) → length (call_octets (call.SendConnectionEvent (notice.PairingFailed e))) ≤ 106
short e = let h = call_short (call.SendConnectionEvent (notice.PairingFailed e)) refl in omega arith

-- at most the bond in 52 octets and PairingComplete in 54; a failure in 3
pub enter_within : (P : Machine → Type 0) (m : Machine) → P m → Within Broken P 2 106 (enter m)
unfolding enter call_octets octets_of bd_addr_octets address_octets bond_octets
enter_within P m h = at m.phase
  where
    bonded : (b : BondInformation) (wanted : Bool) → Within Broken P 2 106 (enter_bonded m b wanted)
    bonded b true = (lit≤ tt, lit≤ tt, λ x y. refl, λ x. (lit≤ tt, lit≤ tt, λ y z. refl, λ y. h))
    bonded b false = (lit≤ tt, lit≤ tt, λ x y. refl, λ x. h)

    success : (b : Option BondInformation) → Within Broken P 2 106 (enter_success m b)
    success (Some b) = bonded b (want_bonding m.pairing_data)
    success None = h

    at : (p : Phase) → Within Broken P 2 106 (enter_phase m p)
    at (phase.Error e) = (lit≤ tt, short e, λ x y. refl, λ x. h)
    at phase.Success = success m.pairing_data.bond_information
    at phase.WaitingPairingRequest = h
    at phase.WaitingPairingResponse = h
    at (phase.WaitingPassKeyInput b) = h
    at phase.WaitingOobData = h
    at phase.WaitingPairingConfirm = h
    at (phase.WaitingPairingRandom c) = h
    at phase.WaitingLinkEncrypted = h
    at phase.WaitingIdentitityInformation = h
    at phase.WaitingIdentitityAddressInformation = h
    at (phase.ReceivingKeys n k) = h

-- what fails a handler ends the step
breaks_entered :
    (c : Call) (k : Reply c → Handler Machine) → Breaks c k → Broken c (λ x. bind (k x) entered)
unfolding enter
breaks_entered =
    failure_bind Fails EndsIn entered (λ k b e. ((b e).0, ap (λ (q : Handler Machine). bind q entered) (b e).1))

-- a transition, and then the state that it gives is entered
pub entered_within :
    (r : Role) (m : Machine) (p : Handler Machine) → Keeps (Stays r m) 9 58 p →
    Within Broken (Stays r m) 11 164 (bind p entered)
entered_within r m p w =
    within_bind Breaks Broken (OfResult (Stays r m)) (Stays r m) p entered 11 164 9 58 breaks_entered
    (lit≤ tt) (lit≤ tt) w rest
  where
    rest : (x : Try Machine) → OfResult (Stays r m) x → Within Broken (Stays r m) 2 106 (entered x)
    rest (ok m₁) h = enter_within (Stays r m) m₁ h
    rest (err d e) h = enter_within (Stays r m) _ (λ b. record { of_role = tt; kept = refl })
