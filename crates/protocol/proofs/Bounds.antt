-- Bounds of programs of host calls: how many calls, of how many octets together, and what a failure to deliver does; with
-- the rules that carry them from the parts of a handler to the whole. Assumes nothing.
use Rattle.std.specs.Prelude.{Option, Some, None, Result, Ok, Err}
use Prim.Native.Nat.{ℕ, ◌-◌, ◌≤◌}
use mathlib.Core.Bool.{Bool, true, false, cond}
use mathlib.Core.Path.{◌≡◌, ap}
use mathlib.Core.List.{List, []}
use native.Mathlib.Omega.{arith}
use lib.ListN.{length, length-append}
use Rattle.bond.specs.declared.Address.{Address}
use Rattle.bond.specs.declared.BondInformation.{BondInformation}
use Rattle.bond.specs.declared.Error.{Error}
use Rattle.host_calls.specs.Calls.{call_octets, calls_octets}
use Rattle.host_calls.specs.declared.call.Call.{Call}
use Rattle.host_calls.specs.declared.call.Call.TheVariants as call
use Rattle.host_calls.specs.declared.call.ConnectionEvent.{ConnectionEvent}
use Rattle.host_calls.specs.declared.call.ConnectionEvent.TheVariants as notice
use Rattle.machine.specs.Machine.{no_confirm_data}
use Rattle.machine.specs.declared.Machine.{Machine}
use Rattle.machine.specs.declared.Phase.TheVariants as phase
use Rattle.machine.specs.declared.PairingData.{PairingData}
use Rattle.protocol.specs.Program.{ret, ask, bind, Taken, got, wants, refused, Ending, ended, wanting, refusing, Played, on_taken, listing, play}
use Rattle.protocol.specs.Ops.{Delivery, delivered, undelivered, Reply, reply_at, Program}
use Rattle.protocol.specs.Handlers.{enters, Try, ok, err, Handler, on_try, or_fail, on_delivery, on_address, on_bond, on_option_bond}
use Rattle.protocol.proofs.Programs.{OfEnding}

-- ---- bounds of a program

-- what is asked of a call and of the program behind it
abbrev pub OfCalls : Type 0 → Type 1
OfCalls A = (c : Call) → (Reply c → Program A) → Type 0

-- at most n calls, of at most o octets together; B holds of each of them, and P of what the program gives
abbrev pub Within : {A : Type 0} → OfCalls A → (A → Type 0) → ℕ → ℕ → Program A → Type 0
Within B P n o (ret a) = P a
Within B P n o (ask c k) =
    (1 ≤ n) × (length (call_octets c) ≤ o) × B c k
    × ((x : Reply c) → Within B P (n - 1) (o - length (call_octets c)) (k x))

-- wider bounds, and less said of what it gives
pub within_more :
    {A : Type 0} (B : OfCalls A) (P Q : A → Type 0) (p : Program A) (n o n' o' : ℕ) → ((a : A) → P a → Q a) →
    n ≤ n' → o ≤ o' → Within B P n o p → Within B Q n' o' p
within_more B P Q (ret a) n o n' o' f h g w = f a w
within_more B P Q (ask c k) n o n' o' f h g w =
    let size = length (call_octets c) in (
      omega (arith, w.0),
      omega (arith, w.1),
      w.2,
      λ x. within_more B P Q (k x) (n - 1) (o - size) (n' - 1) (o' - size) f (omega arith) (omega arith) (w.3 x),
    )

-- one program after another: what the first does not need is left to the second
pub within_bind :
    {A C : Type 0} (B : OfCalls A) (D : OfCalls C) (P : A → Type 0) (Q : C → Type 0)
    (p : Program A) (f : A → Program C) (n o n₁ o₁ : ℕ) →
    ((c : Call) (k : Reply c → Program A) → B c k → D c (λ x. bind (k x) f)) →
    n₁ ≤ n → o₁ ≤ o → Within B P n₁ o₁ p → ((a : A) → P a → Within D Q (n - n₁) (o - o₁) (f a)) →
    Within D Q n o (bind p f)
within_bind B D P Q (ret a) f n o n₁ o₁ b h g w v =
    within_more D Q Q (f a) (n - n₁) (o - o₁) n o (λ c q. q) (omega arith) (omega arith) (v a w)
within_bind B D P Q (ask c k) f n o n₁ o₁ b h g w v =
    let size = length (call_octets c) in (
      omega (arith, w.0),
      omega (arith, w.1),
      b c k w.2,
      λ x. within_bind B D P Q (k x) f (n - 1) (o - size) (n₁ - 1) (o₁ - size) b (omega arith) (omega arith) (w.3 x)
          (λ a h₁. within_more D Q Q (f a) (n - n₁) (o - o₁) (n - 1 - (n₁ - 1)) (o - size - (o₁ - size)) (λ c₁ q. q)
          (omega (arith, w.0)) (omega (arith, w.1)) (v a h₁)),
    )

-- ---- what a failure to deliver does

-- whether it is delivered does not matter
abbrev pub Alike : {A : Type 0} → (Delivery → Program A) → Type 0
Alike k = (x y : Delivery) → k x ≡ k y

-- F holds of packets, and of the events that the pairing needs; of BondLost, PairingFailed, PairingComplete and a bond
-- update a failure does not matter
abbrev pub OnEvent : {A : Type 0} → ((Delivery → Program A) → Type 0) → ConnectionEvent → (Delivery → Program A) → Type 0
OnEvent F (notice.PairingFailed e) k = Alike k
OnEvent F (notice.PairingComplete l b) k = Alike k
OnEvent F (notice.PassKeyDisplay n) k = F k
OnEvent F notice.PassKeyInput k = F k
OnEvent F notice.BondLost k = Alike k
OnEvent F notice.OobRequest k = F k

abbrev pub OnFailure : {A : Type 0} → ((Delivery → Program A) → Type 0) → OfCalls A
OnFailure F (call.SendPacket p) k = F k
OnFailure F (call.SendConnectionEvent e) k = OnEvent F e k
OnFailure F (call.Ask q) k = Unit {0}
OnFailure F (call.Draw d) k = Unit {0}
OnFailure F (call.EnableEncryption w l n) k = Unit {0}
OnFailure F call.EnableBondedEncryption k = Unit {0}
OnFailure F (call.UpdateBondInformation b) k = Alike k

-- .. and what follows it: F of the first program is G of the whole
module _
    {A C : Type 0} (F : (Delivery → Program A) → Type 0) (G : (Delivery → Program C) → Type 0) (f : A → Program C)
    (then : (k : Delivery → Program A) → F k → G (λ x. bind (k x) f)) where
  alike_bind : (k : Delivery → Program A) → Alike k → Alike (λ x. bind (k x) f)
  alike_bind k b = λ x y. ap (λ (q : Program A). bind q f) (b x y)

  event_bind : (e : ConnectionEvent) (k : Delivery → Program A) → OnEvent F e k → OnEvent G e (λ x. bind (k x) f)
  event_bind (notice.PairingFailed e) k b = alike_bind k b
  event_bind (notice.PairingComplete l o) k b = alike_bind k b
  event_bind (notice.PassKeyDisplay n) k b = then k b
  event_bind notice.PassKeyInput k b = then k b
  event_bind notice.BondLost k b = alike_bind k b
  event_bind notice.OobRequest k b = then k b

  pub failure_bind :
      (c : Call) (k : Reply c → Program A) → OnFailure F c k → OnFailure G c (λ x. bind (k x) f)
  failure_bind (call.SendPacket p) k b = then k b
  failure_bind (call.SendConnectionEvent e) k b = event_bind e k b
  failure_bind (call.Ask q) k b = tt
  failure_bind (call.Draw d) k b = tt
  failure_bind (call.EnableEncryption w l n) k b = tt
  failure_bind call.EnableBondedEncryption k b = tt
  failure_bind (call.UpdateBondInformation w) k b = alike_bind k b

-- ---- bounds of a handler

-- an undelivered one fails the handler at once, with its error
abbrev pub Fails : {A : Type 0} → (Delivery → Handler A) → Type 0
Fails k = (e : Error) → (d : PairingData) × (k (undelivered e) ≡ ret (err d e))

abbrev pub Breaks : {A : Type 0} → OfCalls (Try A)
Breaks c k = OnFailure Fails c k

-- P holds of a result; nothing is asked of a failure
abbrev pub OfResult : {A : Type 0} → (A → Type 0) → Try A → Type 0
OfResult P (ok a) = P a
OfResult P (err d e) = Unit {0}

-- at most n calls of at most o octets, of which an undelivered packet fails the handler; P holds of its result
abbrev pub Keeps : {A : Type 0} → (A → Type 0) → ℕ → ℕ → Handler A → Type 0
Keeps P n o p = Within Breaks (OfResult P) n o p

-- nothing is said of the result
abbrev pub Anything : {A : Type 0} → A → Type 0
Anything a = Unit {0}

breaks_then :
    {A C : Type 0} (f : A → Handler C) (c : Call) (k : Reply c → Handler A) → Breaks c k →
    Breaks c (λ x. bind (k x) (on_try f))
breaks_then f =
    failure_bind Fails Fails (on_try f) (λ k b e. ((b e).0, ap (λ (q : Handler _). bind q (on_try f)) (b e).1))

result_more : {A : Type 0} (P Q : A → Type 0) → ((a : A) → P a → Q a) → (x : Try A) → OfResult P x → OfResult Q x
result_more P Q f (ok a) h = f a h
result_more P Q f (err d e) h = tt

pub keeps_more :
    {A : Type 0} (P Q : A → Type 0) (p : Handler A) (n o n' o' : ℕ) → ((a : A) → P a → Q a) → n ≤ n' → o ≤ o' →
    Keeps P n o p → Keeps Q n' o' p
keeps_more P Q p n o n' o' f h g w =
    within_more Breaks (OfResult P) (OfResult Q) p n o n' o' (result_more P Q f) h g w

-- the rest of a handler behind its first part
pub keeps_then :
    {A C : Type 0} (p : Handler A) (f : A → Handler C) (P : A → Type 0) (Q : C → Type 0) (n o n₁ o₁ : ℕ) →
    n₁ ≤ n → o₁ ≤ o → Keeps P n₁ o₁ p → ((a : A) → P a → Keeps Q (n - n₁) (o - o₁) (f a)) →
    Keeps Q n o (bind p (on_try f))
keeps_then p f P Q n o n₁ o₁ h g w v =
    within_bind Breaks Breaks (OfResult P) (OfResult Q) p (on_try f) n o n₁ o₁ (breaks_then f) h g w (λ x. rest x)
  where
    rest : (x : Try _) → OfResult P x → Keeps Q (n - n₁) (o - o₁) (on_try f x)
    rest (ok a) h₁ = v a h₁
    rest (err d e) h₁ = tt

-- .. behind what may not be there
pub or_fail_then :
    {A C : Type 0} (P : C → Type 0) (f : A → Handler C) (n o : ℕ) (d : PairingData) (e : Error) (x : Option A) →
    ((a : A) → Keeps P n o (f a)) → Keeps P n o (bind (or_fail d e x) (on_try f))
or_fail_then P f n o d e None v = tt
or_fail_then P f n o d e (Some a) v = v a

-- .. behind a packet or an event that has to be delivered
pub delivered_then :
    {C : Type 0} (P : C → Type 0) (f : Unit {0} → Handler C) (n o : ℕ) (d : PairingData) → Keeps P n o (f tt) →
    (x : Delivery) → Keeps P n o (bind (on_delivery d x) (on_try f))
delivered_then P f n o d v delivered = v
delivered_then P f n o d v (undelivered e) = tt

pub delivered_last : (n o : ℕ) (d : PairingData) (x : Delivery) → Keeps Anything n o (on_delivery d x)
delivered_last n o d delivered = tt
delivered_last n o d (undelivered e) = tt

-- .. behind an address or a bond that the host has to give
pub address_then :
    {C : Type 0} (P : C → Type 0) (f : Address → Handler C) (n o : ℕ) (d : PairingData) →
    ((a : Address) → Keeps P n o (f a)) → (x : Result Address Error) → Keeps P n o (bind (on_address d x) (on_try f))
address_then P f n o d v (Ok a) = v a
address_then P f n o d v (Err e) = tt

pub bond_then :
    {C : Type 0} (P : C → Type 0) (f : BondInformation → Handler C) (n o : ℕ) (d : PairingData) →
    ((b : BondInformation) → Keeps P n o (f b)) → (x : Result BondInformation Error) → Keeps P n o (bind (on_bond d x) (on_try f))
bond_then P f n o d v (Ok b) = v b
bond_then P f n o d v (Err e) = tt

pub option_bond_then :
    {C : Type 0} (P : C → Type 0) (f : Option BondInformation → Handler C) (n o : ℕ) (d : PairingData) →
    ((b : Option BondInformation) → Keeps P n o (f b)) → (x : Result (Option BondInformation) Error) → Keeps P n o (bind (on_option_bond d x) (on_try f))
option_bond_then P f n o d v (Ok b) = v b
option_bond_then P f n o d v (Err e) = tt

-- one of two handlers
pub either_keeps :
    {A : Type 0} (P : A → Type 0) (n o : ℕ) (b : Bool) (p q : Handler A) → Keeps P n o p → Keeps P n o q →
    Keeps P n o (cond b p q)
either_keeps P n o true p q h g = h
either_keeps P n o false p q h g = g

-- ---- bounds of a step

-- the error of an undelivered one goes out in PairingFailed, which is the step's last call, and the machine stands in
-- Error with the pairing data as they are by then
abbrev pub EndsIn : (Delivery → Program Machine) → Type 0
EndsIn k =
    (e : Error) →
    (d : PairingData)
    × (k (undelivered e)
    ≡ ask (call.SendConnectionEvent (notice.PairingFailed e)) (λ r. ret (enters (phase.Error e) no_confirm_data d)))

abbrev pub Broken : OfCalls Machine
Broken c k = OnFailure EndsIn c k

-- .. of every call of a step
abbrev pub FailsOnce : Program Machine → Type 0
FailsOnce (ret m) = Unit {0}
FailsOnce (ask c k) = Broken c k × ((x : Reply c) → FailsOnce (k x))

pub within_fails : (P : Machine → Type 0) (p : Program Machine) (n o : ℕ) → Within Broken P n o p → FailsOnce p
within_fails P (ret m) n o w = tt
within_fails P (ask c k) n o w =
    (w.2, λ x. within_fails P (k x) (n - 1) (o - length (call_octets c)) (w.3 x))

-- ---- bounds of a play

pub record PlaysWithin {A : Type 0} (P : A → Type 0) (n o : ℕ) (x : Played Call A) : Type 0 where
  pub most : length x.calls ≤ n
  pub size : length (calls_octets x.calls) ≤ o
  pub gives : OfEnding P x.ending

none_listed : {A : Type 0} (P : A → Type 0) (n o at : ℕ) (x : Ending A) → OfEnding P x →
    PlaysWithin P n o (record { ending = x; calls = []; place = at })
unfolding calls_octets
none_listed P n o at x h = record { most = omega arith; size = omega arith; gives = h }

one_listed :
    {A : Type 0} (P : A → Type 0) (n o : ℕ) (c : Call) (x : Played Call A) → 1 ≤ n → length (call_octets c) ≤ o →
    PlaysWithin P (n - 1) (o - length (call_octets c)) x → PlaysWithin P n o (listing c x)
unfolding calls_octets
one_listed P n o c x h g w =
    record {
      most = omega (arith, w.most);
      size = rw length-append (omega (arith, w.size));
      gives = w.gives;
    }

taken_within :
    {X A : Type 0} (P : A → Type 0) (n o at : ℕ) (f : X → ℕ → Played Call A) →
    ((x : X) (i : ℕ) → PlaysWithin P n o (f x i)) → (t : Taken X) → PlaysWithin P n o (on_taken at f t)
taken_within P n o at f h (got x i) = h x i
taken_within P n o at f h wants = none_listed P n o at wanting tt
taken_within P n o at f h refused = none_listed P n o at refusing tt

-- on any answers, from any place on
pub plays_within :
    {A : Type 0} (B : OfCalls A) (P : A → Type 0) (s : List ℕ) (p : Program A) (n o at : ℕ) → Within B P n o p →
    PlaysWithin P n o (play reply_at s p at)
plays_within B P s (ret a) n o at w = none_listed P n o at (ended a) w
plays_within B P s (ask c k) n o at w =
    let size = length (call_octets c) in
    one_listed P n o c _ w.0 w.1
    (taken_within P (n - 1) (o - size) at (λ x i. play reply_at s (k x) i)
    (λ x i. plays_within B P s (k x) (n - 1) (o - size) i (w.3 x)) (reply_at c s at))
