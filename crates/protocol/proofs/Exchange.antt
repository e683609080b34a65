-- Two ends that exchange packets over a link, each by programs of host calls: protocols, what it is for an end to follow
-- one, the rules by which that is shown, and what is on its way between two ends that follow the same. Nothing here, or
-- in InStep, knows who the ends are or what they say. Assumes nothing.
use Rattle.std.specs.Prelude.{Option, Some, None}
use Prim.Native.Nat.{ℕ, zero, suc}
use mathlib.Core.Path.{◌≡◌, refl, sym, subst}
use mathlib.Core.Bool.{Bool, true, false}
use mathlib.Core.List.{List, [], ◌∷◌, ◌++◌}
use mathlib.Core.Logic.{◌⊎◌, inl, inr}
use Rattle.protocol.specs.Program.{Prog, ret, ask, Taken, got, wants, refused, ended, wanting}
use Rattle.protocol.specs.Program.{play}
use Rattle.protocol.proofs.Programs.{Reads, rest, along}

-- ---- words

-- the opener's packet is the first on the link
pub data Party : Type 0 where
  opener replier : Party

abbrev pub other : Party → Party
other opener = replier
other replier = opener

-- the two are the same end
abbrev pub Is : Party → Party → Type 0
Is opener opener = Unit {0}
Is opener replier = ⊥
Is replier opener = ⊥
Is replier replier = Unit {0}

pub record System : Type 1 where
  -- machines; host calls, their replies, and how a reply is read from the octets of answers at a place
  pub Machine : Type 0
  pub Call : Type 0
  pub Reply : Call → Type 0
  pub Octet : Type 0
  pub read : (c : Call) → List Octet → ℕ → Taken (Reply c)
  -- an end gets packets and events, and each is a step of its machine
  pub Packet : Type 0
  pub Event : Type 0
  pub Input : Type 0
  pub packet : Packet → Input
  pub event : Event → Input
  pub step : Party → Machine → Input → Prog Call Reply Machine
  -- what is kept of an end's calls, the packet that a call sends, and the events that it makes due behind those kept
  pub Log : Type 0
  pub write : Call → Log → Log
  pub sent : Call → Option Packet
  pub raised : Log → Call → List Event
  -- whether the events due go before any packet; events that are taken only behind a signal of the other end, and that
  -- are such a signal
  pub urgent : List Event → Bool
  pub gated : Party → Event → Bool
  pub signals : Party → Event → Bool
  -- the fair replies to a call, as data and as replies; the answers of a fair host to a program
  pub Fair : Call → Type 0
  pub fairly : (c : Call) → Fair c → Reply c
  pub Host : Prog Call Reply Machine → List Octet → Type 0

-- a statement in Type 1 that does not hold
pub data Never : Type 1 where

abbrev pub never {ℓ} : {X : Type ℓ} → Never → X
never n = elim n [ ]

abbrev pub optional : {X : Type 0} → Option X → List X
optional None = []
optional (Some x) = x ∷ []

abbrev pub Empty {ℓ} : {X : Type ℓ} → List X → Type 0
Empty [] = Unit {0}
Empty (x ∷ v) = ⊥

abbrev pub plus_one : Bool → ℕ → ℕ
plus_one true n = suc n
plus_one false n = n

pub itself : (r : Party) → Is r r
itself opener = tt
itself replier = tt

pub other_other : (r : Party) → other (other r) ≡ r
other_other opener = refl
other_other replier = refl

-- no end is both
pub apart : (r s : Party) → Is r s → Is (other r) s → ⊥
apart opener opener h k = k
apart opener replier h k = h
apart replier opener h k = h
apart replier replier h k = k

pub not_other : (r : Party) → Is (other r) r → ⊥
not_other r h = apart r r (itself r) h

pub apart_back : (r s : Party) → Is r s → Is r (other s) → ⊥
apart_back opener opener h k = k
apart_back opener replier h k = h
apart_back replier opener h k = h
apart_back replier replier h k = k

module _ (S : System) where
  open S use {Machine, Call, Reply, Octet, read, Packet, Event, Input, packet, event, step}
  open S use {Log, write, sent, raised, urgent, gated, signals, Fair, fairly, Host}

  abbrev pub Program : Type 0
  Program = Prog Call Reply Machine

  -- what an end has to itself: what is kept of its calls, the events due, and how many inputs it got
  pub record Local : Type 0 where
    pub log : Log
    pub due : List Event
    pub inputs : ℕ

  abbrev pub locally : Log → List Event → ℕ → Local
  locally log v n = record { log = log; due = v; inputs = n }

  abbrev pub note : Call → Local → Local
  note c l = record { log = write c l.log; due = l.due ++ raised l.log c; inputs = l.inputs }

  abbrev pub note_all : List Call → Local → Local
  note_all [] l = l
  note_all (c ∷ cs) l = note_all cs (note c l)

  -- one input more; these events are left
  abbrev pub counted : Local → List Event → Local
  counted l v = record { log = l.log; due = v; inputs = suc l.inputs }

  -- what is on its way to an end
  pub data Item : Type 0 where
    a_packet : Packet → Item
    a_signal : Item

  abbrev pub sent_item : Option Packet → Option Item
  sent_item None = None
  sent_item (Some p) = Some (a_packet p)

  abbrev pub signal_item : Bool → Option Item
  signal_item true = Some a_signal
  signal_item false = None

  -- ---- what is on its way is what the link holds, of which it keeps the order of packets alone

  abbrev pub Held : List Item → List Packet → (unused : ℕ) → Type 0
  Held [] [] zero = Unit {0}
  Held [] [] (suc n) = ⊥
  Held [] (p ∷ w) n = ⊥
  Held (a_packet p ∷ q) [] n = ⊥
  Held (a_packet p ∷ q) (p₁ ∷ w) n = (p ≡ p₁) × Held q w n
  Held (a_signal ∷ q) w zero = ⊥
  Held (a_signal ∷ q) w (suc n) = Held q w n

  pub held_sent :
      (o : Option Packet) (q : List Item) (w : List Packet) (n : ℕ) → Held q w n →
      Held (q ++ optional (sent_item o)) (w ++ optional o) n
  held_sent None [] [] zero h = h
  held_sent (Some p) [] [] zero h = (refl, h)
  held_sent o [] [] (suc n) h = absurd h
  held_sent o [] (p ∷ w) n h = absurd h
  held_sent o (a_packet p ∷ q) [] n h = absurd h
  held_sent o (a_packet p ∷ q) (p₁ ∷ w) n h = (h.0, held_sent o q w n h.1)
  held_sent o (a_signal ∷ q) w zero h = absurd h
  held_sent o (a_signal ∷ q) w (suc n) h = held_sent o q w n h

  pub held_signal :
      (b : Bool) (q : List Item) (w : List Packet) (n : ℕ) → Held q w n →
      Held (q ++ optional (signal_item b)) w (plus_one b n)
  held_signal true [] [] zero h = h
  held_signal false [] [] zero h = h
  held_signal b [] [] (suc n) h = absurd h
  held_signal b [] (p ∷ w) n h = absurd h
  held_signal b (a_packet p ∷ q) [] n h = absurd h
  held_signal b (a_packet p ∷ q) (p₁ ∷ w) n h = (h.0, held_signal b q w n h.1)
  held_signal b (a_signal ∷ q) w zero h = absurd h
  held_signal true (a_signal ∷ q) w (suc n) h = held_signal true q w n h
  held_signal false (a_signal ∷ q) w (suc n) h = held_signal false q w n h

  pub held_nothing : (q : List Item) → Held q [] 0 → Empty q
  held_nothing [] h = tt
  held_nothing (a_packet p ∷ q) h = h
  held_nothing (a_signal ∷ q) h = h

  -- ---- a program on fair answers

  -- each answer that is read is a fair reply
  abbrev pub FairOn : (c : Call) → (Reply c → ℕ → Type 0) → Taken (Reply c) → Type 0
  FairOn c F (got x n) = ((y : Fair c) × (x ≡ fairly c y)) × F x n
  FairOn c F wants = Unit {0}
  FairOn c F refused = ⊥

  abbrev pub FairOf : List Octet → Program → ℕ → Type 0
  FairOf s (ret m) at = Unit {0}
  FairOf s (ask c k) at = FairOn c (λ x n. FairOf s (k x) n) (read c s at)

  -- what is asked of the reading of answers, and of hosts: a fair host's answers are fair
  pub record Hosts : Type 0 where
    pub reads : Reads read
    pub fair : (p : Program) (s : List Octet) → Host p s → FairOf s p 0

  -- a program on fair answers ends, or wants
  abbrev pub Stopped : List Octet → Program → ℕ → Type 0
  Stopped s p at =
      ((m : Machine) × ((play read s p at).ending ≡ ended m) × (rest read s p at ≡ ret m))
      ⊎ ((c : Call) × (k : Reply c → Program) × ((play read s p at).ending ≡ wanting) × (rest read s p at ≡ ask c k))

  pub stops : (s : List Octet) (p : Program) (at : ℕ) → FairOf s p at → Stopped s p at
  stops s =
      along read s (λ p at. FairOf s p at → Stopped s p at)
      (λ m at f. inl (m, refl, refl))
      (λ c k at e f. inr (c, k, rw e refl, rw e refl))
      (λ c k at e f. absurd (rw e at f))
      (λ c k at x n e rec f. rw e (rec (rw e at f).1))

  -- what is left of it is fair on more answers
  pub fair_again :
      Reads read → (s w : List Octet) (p : Program) (at : ℕ) → FairOf (s ++ w) p at →
      FairOf (s ++ w) (rest read s p at) (play read s p at).place
  fair_again law s w =
      along read s (λ p at. FairOf (s ++ w) p at → FairOf (s ++ w) (rest read s p at) (play read s p at).place)
      (λ m at f. tt)
      (λ c k at e f. rw e f)
      (λ c k at e f. rw e f)
      (λ c k at x n e rec f. rw e (rec (rw (law.keeps c s w at x n e) at f).1))

  module _ (Goal : Machine → Local → Machine → Local → Type 0) where
    -- ---- protocols, and what it is for an end to follow one

    -- a packet of one end, made from data of some type, and what comes then; a signal of one end, and then a packet of
    -- the other; at last, what holds of each end, from which the goal follows
    pub data Protocol : Type 1 where
      message : Party → (D : Type 0) → (D → Packet) → (D → Protocol) → Protocol
      signal : Party → (D : Type 0) → (D → Packet) → (D → Protocol) → Protocol
      finish :
          (F : Party → Machine → Local → Type 0) →
          ((m : Machine) (l : Local) (m₁ : Machine) (l₁ : Local) → F opener m l → F replier m₁ l₁ → Goal m l m₁ l₁) →
          Protocol

    -- an end puts something, or nothing, on its way: the protocol has it there, and X holds of what comes then
    abbrev pub Emits : Party → Option Item → Protocol → (Protocol → Type 1) → Type 1
    Emits r None g X = X g
    Emits r (Some (a_packet p)) (message s D pk K) X = (o : Is r s) × (a : D) × (p ≡ pk a) × X (K a)
    Emits r (Some (a_packet p)) (signal s D pk K) X = Never
    Emits r (Some (a_packet p)) (finish F j) X = Never
    Emits r (Some a_signal) (message s D pk K) X = Never
    Emits r (Some a_signal) (signal s D pk K) X = (o : Is r s) × X (message (other s) D pk K)
    Emits r (Some a_signal) (finish F j) X = Never

    -- a packet of the other end, where the protocol has one
    abbrev pub Packets : (Protocol → Local → Program → Type 1) → Party → Protocol → Local → Machine → Type 1
    Packets X r (message s D pk K) l m =
        Is (other r) s → (a : D) → X (K a) (counted l l.due) (step r m (packet (pk a)))
    Packets X r (signal s D pk K) l m = Unit {1}
    Packets X r (finish F j) l m = Unit {1}

    -- an end with nothing due waits for a packet of the other, or has finished
    abbrev pub Awaits : (Protocol → Local → Program → Type 1) → Party → Protocol → Local → Machine → Type 1
    Awaits X r (message s D pk K) l m = Is (other r) s × Packets X r (message s D pk K) l m
    Awaits X r (signal s D pk K) l m = Never
    Awaits X r (finish F j) l m = F r m l × Unit {1}

    -- an event behind a signal of the other end: there the protocol has that signal next
    abbrev pub Behind : Party → Protocol → (Protocol → Type 1) → Type 1
    Behind r (message s D pk K) X = Never
    Behind r (signal s D pk K) X = Is (other r) s × X (message (other s) D pk K)
    Behind r (finish F j) X = Never

    abbrev pub Takes : (is_gated is_signal : Bool) → Party → Protocol → (Protocol → Type 1) → Type 1
    Takes true b r g X = Behind r g X
    Takes false b r g X = Emits r (signal_item b) g X

    -- an event that is gated is behind a signal
    pub gated_behind :
        (r : Party) (ε : Event) (g : Protocol) (X : Protocol → Type 1) → gated r ε ≡ true →
        Takes (gated r ε) (signals r ε) r g X → Behind r g X
    gated_behind r ε g X u h = subst (λ b. Takes b (signals r ε) r g X) u h

    abbrev pub Unless : Bool → Type 1 → Type 1
    Unless true X = Unit {1}
    Unless false X = X

    -- an end that is in no step: any input that it may get leads on. At most one event is due
    abbrev pub Idle : (Protocol → Local → Program → Type 1) → Party → Protocol → Local → Machine → List Event → Type 1
    Idle X r g l m [] = Awaits X r g l m
    Idle X r g l m (e ∷ []) =
        Takes (gated r e) (signals r e) r g (λ g₁. X g₁ (counted l []) (step r m (event e)))
        × Unless (urgent (e ∷ [])) (Packets X r g l m)
    Idle X r g l m (e ∷ (e₁ ∷ v)) = Never

    -- in fewer than d calls and inputs of its own, whatever comes, the end does what the protocol says; the calls of the
    -- program are yet to be listed
    unfoldable pub Fits : ℕ → Party → Protocol → Local → Program → Type 1
    Fits zero r g l p = Never
    Fits (suc d) r g l (ret m) = Idle (λ g₁ l₁ p. Fits d r g₁ l₁ p) r g l m l.due
    Fits (suc d) r g l (ask c k) =
        Emits r (sent_item (sent c)) g (λ g₁. (x : Fair c) → Fits d r g₁ (note c l) (k (fairly c x)))

    -- the same, as a type that is compared by its arguments alone
    pub record Follows (d : ℕ) (r : Party) (g : Protocol) (l : Local) (p : Program) : Type 1 where
      pub fits : Fits d r g l p

    -- ---- two ends in step

    -- what is on its way from one end, item by item, leads the protocol on to where Y holds
    abbrev pub Along : Party → List Item → Protocol → (Protocol → Type 1) → Type 1
    Along r [] g Y = Y g
    Along r (i ∷ q) g Y = Emits r (Some i) g (λ g₁. Along r q g₁ Y)

    -- the end r is at g, what is on its way to it leads the other on from there, and nothing is on its way back
    abbrev pub Lags : Party → (to from : List Item) → (X Y : Protocol → Type 1) → Type 1
    Lags r to from X Y = (g : Protocol) × Empty from × X g × Along (other r) to g Y

    -- one of the two ends lags behind the other, or neither
    abbrev pub Sync : Party → (to from : List Item) → (X Y : Protocol → Type 1) → Type 1
    Sync r to from X Y = Lags r to from X Y ⊎ Lags (other r) from to Y X

    -- the same, seen from the other end
    pub turn :
        (r : Party) (to from : List Item) (X Y : Protocol → Type 1) → Sync r to from X Y → Sync (other r) from to Y X
    turn opener to from X Y (inl h) = inr h
    turn opener to from X Y (inr h) = inl h
    turn replier to from X Y (inl h) = inr h
    turn replier to from X Y (inr h) = inl h

    -- what holds of where the protocol is led, and that there is such a place
    emits_map :
        (r : Party) (o : Option Item) (g : Protocol) {X Y : Protocol → Type 1} → ((g₁ : Protocol) → X g₁ → Y g₁) →
        Emits r o g X → Emits r o g Y
    emits_map r None g f h = f g h
    emits_map r (Some (a_packet p)) (message s D pk K) f h = (h.0, h.1, h.2, f (K h.1) h.3)
    emits_map r (Some (a_packet p)) (signal s D pk K) f h = h
    emits_map r (Some (a_packet p)) (finish F j) f h = h
    emits_map r (Some a_signal) (message s D pk K) f h = h
    emits_map r (Some a_signal) (signal s D pk K) f h = (h.0, f (message (other s) D pk K) h.1)
    emits_map r (Some a_signal) (finish F j) f h = h

    emits_end :
        (r : Party) (o : Option Item) (g : Protocol) (X : Protocol → Type 1) → Emits r o g X → (g₁ : Protocol) × X g₁
    emits_end r None g X h = (g, h)
    emits_end r (Some (a_packet p)) (message s D pk K) X h = (K h.1, h.3)
    emits_end r (Some (a_packet p)) (signal s D pk K) X h = never h
    emits_end r (Some (a_packet p)) (finish F j) X h = never h
    emits_end r (Some a_signal) (message s D pk K) X h = never h
    emits_end r (Some a_signal) (signal s D pk K) X h = (message (other s) D pk K, h.1)
    emits_end r (Some a_signal) (finish F j) X h = never h

    along_map :
        (r : Party) (q : List Item) (g : Protocol) {X Y : Protocol → Type 1} → ((g₁ : Protocol) → X g₁ → Y g₁) →
        Along r q g X → Along r q g Y
    along_map r [] g f h = f g h
    along_map r (i ∷ q) g f h = emits_map r (Some i) g (λ g₁. along_map r q g₁ f) h

    along_end :
        (r : Party) (q : List Item) (g : Protocol) (X : Protocol → Type 1) → Along r q g X → (g₁ : Protocol) × X g₁
    along_end r [] g X h = (g, h)
    along_end r (i ∷ q) g X h =
        let z = emits_end r (Some i) g (λ g₁. Along r q g₁ X) h in
        along_end r q z.0 X z.1

    -- what an end emits joins what is on its way
    along_emit :
        (r : Party) (o : Option Item) (q : List Item) (g : Protocol) (X : Protocol → Type 1) →
        Along r q g (λ g₁. Emits r o g₁ X) → Along r (q ++ optional o) g X
    along_emit r None [] g X h = h
    along_emit r (Some i) [] g X h = h
    along_emit r o (i ∷ q) g X h = emits_map r (Some i) g (λ g₁. along_emit r o q g₁ X) h

    -- where one end has something next, the other has not
    not_both :
        (r : Party) (i i₁ : Item) (g : Protocol) (X Y : Protocol → Type 1) →
        Emits r (Some i) g X → Emits (other r) (Some i₁) g Y → ⊥
    not_both r (a_packet p) (a_packet p₁) (message s D pk K) X Y h k = apart r s h.0 k.0
    not_both r (a_packet p) a_signal (message s D pk K) X Y h k = never k
    not_both r a_signal i₁ (message s D pk K) X Y h k = never h
    not_both r (a_packet p) i₁ (signal s D pk K) X Y h k = never h
    not_both r a_signal (a_packet p) (signal s D pk K) X Y h k = never k
    not_both r a_signal a_signal (signal s D pk K) X Y h k = apart r s h.0 k.0
    not_both r (a_packet p) i₁ (finish F j) X Y h k = never h
    not_both r a_signal i₁ (finish F j) X Y h k = never h

    -- the end r goes on, and emits nothing
    pub onward :
        (r : Party) (to from : List Item) {X X₁ Y : Protocol → Type 1} → ((g : Protocol) → X g → X₁ g) →
        Sync r to from X Y → Sync r to from X₁ Y
    onward r to from f (inl h) = inl (h.0, h.1, f h.0 h.2, h.3)
    onward r to from f (inr h) = inr (h.0, h.1, h.2, along_map (other (other r)) from h.0 f h.3)

    -- the end r is at some place of the protocol
    pub somewhere :
        (r : Party) (to from : List Item) (X Y : Protocol → Type 1) → Sync r to from X Y → (g : Protocol) × X g
    somewhere r to from X Y (inl h) = (h.0, h.2)
    somewhere r to from X Y (inr h) = along_end (other (other r)) from h.0 X h.3

    -- the end r emits
    pub emit :
        (r : Party) (o : Option Item) (to from : List Item) (X Y : Protocol → Type 1) →
        Sync r to from (λ g. Emits r o g X) Y → Sync r to (from ++ optional o) X Y
    emit r None to [] X Y (inl h) = inl h
    emit r o to (i ∷ from) X Y (inl h) = absurd h.1
    emit r (Some i) [] [] X Y (inl h) = inr (h.0, tt, h.3, subst (λ (p : Party). Emits p (Some i) h.0 X) (sym (other_other r)) h.2)
    emit r (Some i) (i₁ ∷ to) [] X Y (inl h) =
        absurd (not_both r i i₁ h.0 X (λ g. Along (other r) to g Y) h.2 h.3)
    emit r o to from X Y (inr h) =
        inr (h.0, h.1, h.2, rw other_other (along_emit r o from h.0 X (rw other_other at h.3)))

-- ---- the rules by which an end is shown to follow a protocol

module _ {S : System} {Goal : S.Machine → Local S → S.Machine → Local S → Type 0} where
  open S use {Machine, Call, Reply, Packet, Event, packet, event, step}
  open S use {Log, sent, urgent, gated, signals, Fair, fairly}

  -- a call that sends nothing
  pub quiet :
      {d : ℕ} {r : Party} {g : Protocol S Goal} {l : Local S} {c : Call} {k : Reply c → Program S} →
      sent c ≡ None → ((x : Fair c) → Follows S Goal d r g (note S c l) (k (fairly c x))) →
      Follows S Goal (suc d) r g l (ask c k)
  unfolding Fits
  quiet e h = record { fits = rw e (λ x. (h x).fits) }

  -- a packet, by the end whose turn it is
  pub says :
      {d : ℕ} {r : Party} {D : Type 0} {pk : D → Packet} {K : D → Protocol S Goal} {l : Local S} {c : Call}
      {k : Reply c → Program S} (a : D) →
      sent c ≡ Some (pk a) → ((x : Fair c) → Follows S Goal d r (K a) (note S c l) (k (fairly c x))) →
      Follows S Goal (suc d) r (Protocol.message r D pk K) l (ask c k)
  unfolding Fits
  says {r = r} a e h = record { fits = rw e (itself r, a, refl, λ x. (h x).fits) }

  -- nothing is due, and a packet of the other end is awaited
  pub takes :
      {d : ℕ} {r : Party} {D : Type 0} {pk : D → Packet} {K : D → Protocol S Goal} {l : Log} {n : ℕ} {m : Machine} →
      ((a : D) → Follows S Goal d r (K a) (locally S l [] (suc n)) (step r m (packet (pk a)))) →
      Follows S Goal (suc d) r (Protocol.message (other r) D pk K) (locally S l [] n) (ret m)
  unfolding Fits
  takes {r = r} h = record { fits = (itself (other r), λ o a. (h a).fits) }

  -- an event that goes before any packet
  pub urgently :
      {d : ℕ} {r : Party} {g : Protocol S Goal} {l : Log} {e : Event} {n : ℕ} {m : Machine} →
      gated r e ≡ false → signals r e ≡ false → urgent (e ∷ []) ≡ true →
      Follows S Goal d r g (locally S l [] (suc n)) (step r m (event e)) →
      Follows S Goal (suc d) r g (locally S l (e ∷ []) n) (ret m)
  unfolding Fits
  urgently a b c h = record { fits = rw (a, b, c) (h.fits, tt) }

  -- an event of the end whose turn it is
  pub owing :
      {d : ℕ} {r : Party} {D : Type 0} {pk : D → Packet} {K : D → Protocol S Goal} {l : Log} {e : Event} {n : ℕ}
      {m : Machine} →
      gated r e ≡ false → signals r e ≡ false → urgent (e ∷ []) ≡ false →
      Follows S Goal d r (Protocol.message r D pk K) (locally S l [] (suc n)) (step r m (event e)) →
      Follows S Goal (suc d) r (Protocol.message r D pk K) (locally S l (e ∷ []) n) (ret m)
  unfolding Fits
  owing {r = r} a b c h = record { fits = rw (a, b, c) (h.fits, λ o. absurd (not_other r o)) }

  -- an event, or a packet of the other end before it
  pub either :
      {d : ℕ} {r : Party} {D : Type 0} {pk : D → Packet} {K : D → Protocol S Goal} {l : Log} {e : Event} {n : ℕ}
      {m : Machine} →
      gated r e ≡ false → signals r e ≡ false → urgent (e ∷ []) ≡ false →
      Follows S Goal d r (Protocol.message (other r) D pk K) (locally S l [] (suc n)) (step r m (event e)) →
      ((a : D) → Follows S Goal d r (K a) (locally S l (e ∷ []) (suc n)) (step r m (packet (pk a)))) →
      Follows S Goal (suc d) r (Protocol.message (other r) D pk K) (locally S l (e ∷ []) n) (ret m)
  unfolding Fits
  either a b c h k = record { fits = rw (a, b, c) (h.fits, λ o x. (k x).fits) }

  -- an event by which the end signals
  pub signalling :
      {d : ℕ} {r : Party} {D : Type 0} {pk : D → Packet} {K : D → Protocol S Goal} {l : Log} {e : Event} {n : ℕ}
      {m : Machine} →
      gated r e ≡ false → signals r e ≡ true → urgent (e ∷ []) ≡ false →
      Follows S Goal d r (Protocol.message (other r) D pk K) (locally S l [] (suc n)) (step r m (event e)) →
      Follows S Goal (suc d) r (Protocol.signal r D pk K) (locally S l (e ∷ []) n) (ret m)
  unfolding Fits
  signalling {r = r} a b c h = record { fits = rw (a, b, c) ((itself r, h.fits), tt) }

  -- an event behind a signal of the other end
  pub behind :
      {d : ℕ} {r : Party} {D : Type 0} {pk : D → Packet} {K : D → Protocol S Goal} {l : Log} {e : Event} {n : ℕ}
      {m : Machine} →
      gated r e ≡ true → urgent (e ∷ []) ≡ false →
      Follows S Goal d r (Protocol.message (other (other r)) D pk K) (locally S l [] (suc n)) (step r m (event e)) →
      Follows S Goal (suc d) r (Protocol.signal (other r) D pk K) (locally S l (e ∷ []) n) (ret m)
  unfolding Fits
  behind {r = r} a c h = record { fits = rw (a, c) ((itself (other r), h.fits), tt) }

  -- the end
  pub finished :
      {d : ℕ} {r : Party} {F : Party → Machine → Local S → Type 0}
      {j : (m : Machine) (l : Local S) (m₁ : Machine) (l₁ : Local S) → F opener m l → F replier m₁ l₁ → Goal m l m₁ l₁}
      {l : Log} {n : ℕ} {m : Machine} →
      F r m (locally S l [] n) → Follows S Goal (suc d) r (Protocol.finish F j) (locally S l [] n) (ret m)
  unfolding Fits
  finished h = record { fits = (h, tt) }
