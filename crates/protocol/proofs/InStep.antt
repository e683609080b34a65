-- Two ends that follow one protocol are in step: each kind of move keeps them so and leaves the end that moved less to
-- do, and one of them can move until both stand where the protocol finishes. Assumes nothing.
use Prim.Native.Nat.{ℕ, zero, suc, ◌<◌}
use mathlib.Core.Path.{◌≡◌, refl, sym, ap, ◌∙◌, subst, subst₂}
use mathlib.Core.Bool.{Bool, true, false}
use mathlib.Core.List.{List, [], ◌∷◌, ◌++◌, tail}
use mathlib.Core.Logic.{◌⊎◌, inl, inr}
use native.Mathlib.Omega.{arith}
use lib.ListN.{length, drop, length-append}
use Rattle.protocol.specs.Program.{ret, ask, Taken, got, wants, refused, Ending, ended, wanting, refusing}
use Rattle.protocol.specs.Program.{on_taken, play}
use Rattle.protocol.proofs.Programs.{Reads, rest_on, rest, wanting_last, rest_again, again_new}
use Rattle.protocol.proofs.Exchange as exchange
use Rattle.protocol.proofs.Exchange.{Party, opener, replier, other, Is, System, Never, never, optional, Empty}
use Rattle.protocol.proofs.Exchange.{plus_one, not_other, apart_back, a_packet, a_signal, message, signal, finish, sent_item}
use Rattle.protocol.proofs.Exchange.{signal_item, Emits, Awaits, Takes, Unless, Follows, FairOn, Hosts, Stopped}
use Rattle.protocol.proofs.Exchange.{stops, fair_again, turn, onward, somewhere, emit, held_sent, held_signal}
use Rattle.protocol.proofs.Exchange.{held_nothing, gated_behind}

module _ (S : System) (Goal : S.Machine → exchange.Local S → S.Machine → exchange.Local S → Type 0) where
  open S use {Machine, Call, Reply, Octet, read, Packet, Event, Input, packet, event, step}
  open S use {Log, sent, urgent, gated, signals, Fair, fairly, Host}

  -- ---- the words of Exchange, of this system and goal

  abbrev pub Program : Type 0
  Program = exchange.Program S

  abbrev pub Local : Type 0
  Local = exchange.Local S

  abbrev pub Protocol : Type 1
  Protocol = exchange.Protocol S Goal

  abbrev pub Item : Type 0
  Item = exchange.Item S

  abbrev pub locally : Log → List Event → ℕ → Local
  locally = exchange.locally S

  abbrev pub note : Call → Local → Local
  note = exchange.note S

  abbrev pub note_all : List Call → Local → Local
  note_all = exchange.note_all S

  abbrev pub counted : Local → List Event → Local
  counted = exchange.counted S

  abbrev pub Packets : (Protocol → Local → Program → Type 1) → Party → Protocol → Local → Machine → Type 1
  Packets = exchange.Packets S Goal

  abbrev pub Behind : Party → Protocol → (Protocol → Type 1) → Type 1
  Behind = exchange.Behind S Goal

  abbrev pub Idle : (Protocol → Local → Program → Type 1) → Party → Protocol → Local → Machine → List Event → Type 1
  Idle = exchange.Idle S Goal

  abbrev pub Fits : ℕ → Party → Protocol → Local → Program → Type 1
  Fits = exchange.Fits S Goal

  abbrev pub FairOf : List Octet → Program → ℕ → Type 0
  FairOf = exchange.FairOf S

  abbrev pub Along : Party → List Item → Protocol → (Protocol → Type 1) → Type 1
  Along = exchange.Along S Goal

  abbrev pub Lags : Party → (to from : List Item) → (X Y : Protocol → Type 1) → Type 1
  Lags = exchange.Lags S Goal

  abbrev pub Sync : Party → (to from : List Item) → (X Y : Protocol → Type 1) → Type 1
  Sync = exchange.Sync S Goal

  abbrev pub Held : List Item → List Packet → (unused : ℕ) → Type 0
  Held = exchange.Held S

  -- ---- packets and signals arrive

  -- the oldest packet is the first item that is on its way, and leads the end r on
  deliver :
      (r : Party) (X : Protocol → Local → Program → Type 1) (l : Local) (m : Machine) (p : Packet) (w : List Packet)
      (n : ℕ) (to from : List Item) (Y : Protocol → Type 1) →
      Held to (p ∷ w) n → Sync r to from (λ g. Packets X r g l m) Y →
      (q : List Item) × Held q w n × Sync r q from (λ g. X g (counted l l.due) (step r m (packet p))) Y
  deliver r X l m p w n [] from Y k s = absurd k
  deliver r X l m p w n (i ∷ to) from Y k (inr h) = absurd h.1
  deliver r X l m p w n (a_packet p₁ ∷ to) from Y k (inl h) = (to, k.1, inl (go h.0 h.2 h.3))
    where
      go :
          (g : Protocol) → Packets X r g l m → Along (other r) (a_packet p₁ ∷ to) g Y →
          Lags r to from (λ g. X g (counted l l.due) (step r m (packet p))) Y
      go (message s D pk K) t a =
          let same : pk a.1 ≡ p = sym a.2 ∙ k.0 in
          let taken = subst (λ z. X (K a.1) (counted l l.due) (step r m (packet z))) same (t a.0 a.1) in
          (K a.1, h.1, taken, a.3)
      go (signal s D pk K) t a = never a
      go (finish F j) t a = never a
  deliver r X l m p w zero (a_signal ∷ to) from Y k (inl h) = absurd k
  deliver r X l m p w (suc n) (a_signal ∷ to) from Y k (inl h) = absurd (go h.0 h.3)
    where
      -- behind a signal comes a packet of the other end
      behind_it :
          (s : Party) (D : Type 0) (pk : D → Packet) (K : D → Protocol) (q : List Item) → Is (other r) s →
          Along (other r) q (message (other s) D pk K) Y → Held q (p ∷ w) n → ⊥
      behind_it s D pk K [] o a k = k
      behind_it s D pk K (a_packet p₁ ∷ q) o a k = apart_back (other r) s o a.0
      behind_it s D pk K (a_signal ∷ q) o a k = never a

      go : (g : Protocol) → Along (other r) (a_signal ∷ to) g Y → ⊥
      go (message s D pk K) a = never a
      go (signal s D pk K) a = behind_it s D pk K to a.0 a.1 k
      go (finish F j) a = never a

  -- a signal is taken by the event behind it
  use_signal :
      (r : Party) (X Y : Protocol → Type 1) (w : List Packet) (n : ℕ) (to from : List Item) →
      Held to w (suc n) → Sync r to from (λ g. Behind r g X) Y → (q : List Item) × Held q w n × Sync r q from X Y
  use_signal r X Y [] n [] from k s = absurd k
  use_signal r X Y (p ∷ w) n [] from k s = absurd k
  use_signal r X Y w n (i ∷ to) from k (inr h) = absurd h.1
  use_signal r X Y w n (a_packet p ∷ to) from k (inl h) = absurd (go h.0 h.2 h.3)
    where
      go : (g : Protocol) → Behind r g X → Along (other r) (a_packet p ∷ to) g Y → ⊥
      go (message s D pk K) b a = never b
      go (signal s D pk K) b a = never a
      go (finish F j) b a = never a
  use_signal r X Y w n (a_signal ∷ to) from k (inl h) = (to, k, inl (go h.0 h.2 h.3))
    where
      go : (g : Protocol) → Behind r g X → Along (other r) (a_signal ∷ to) g Y → Lags r to from X Y
      go (message s D pk K) b a = never b
      go (signal s D pk K) b a = (message (other s) D pk K, h.1, b.1, a.1)
      go (finish F j) b a = never a

  -- ---- a step of one end

  -- the packets that calls send join a queue
  abbrev pub send_all : List Call → List Packet → List Packet
  send_all [] w = w
  send_all (c ∷ cs) w = send_all cs (w ++ optional (sent c))

  -- the end stands where its program is: at rest, or at a call that is listed and wants its reply
  abbrev Stands : ℕ → Party → Protocol → Local → Program → Type 1
  Stands d r g l (ret m) = Idle (λ g₁ l₁ p. Fits d r g₁ l₁ p) r g l m l.due
  Stands d r g l (ask c k) = (x : Fair c) → Fits d r g l (k (fairly c x))

  -- what a program comes to: less is left to do, and what it sent is on its way
  abbrev Comes : ℕ → Party → Program → List Call → Local → (to : List Item) → List Packet → ℕ → (Protocol → Type 1) →
      Type 1
  Comes d r p cs l to w n Y =
      (d₁ : ℕ) × (d₁ < d) × (from : List Item) × Held from (send_all cs w) n
      × Sync r to from (λ g. Stands d₁ r g (note_all cs l) p) Y

  runs :
      (d : ℕ) (r : Party) (s : List Octet) (p : Program) (at : ℕ) (l : Local) (to from : List Item) (w : List Packet)
      (n : ℕ) (Y : Protocol → Type 1) →
      FairOf s p at → Held from w n → Sync r to from (λ g. Fits d r g l p) Y →
      Comes d r (rest read s p at) (play read s p at).calls l to w n Y
  unfolding exchange.Fits
  runs zero r s p at l to from w n Y f k h = never (somewhere S Goal r to from (λ g. Never) Y h).1
  runs (suc d) r s (ret m) at l to from w n Y f k h = (d, omega arith, from, k, h)
  runs (suc d) r s (ask c k) at l to from w n Y f held h = go (λ x j. runs d r s (k x) j) (read c s at) f
    where
      from₁ : List Item
      from₁ = from ++ optional (sent_item S (sent c))

      held₁ : Held from₁ (w ++ optional (sent c)) n
      held₁ = held_sent S (sent c) from w n held

      asked : Sync r to from₁ (λ g. (x : Fair c) → Fits d r g (note c l) (k (fairly c x))) Y
      asked = emit S Goal r (sent_item S (sent c)) to from
          (λ g. (x : Fair c) → Fits d r g (note c l) (k (fairly c x))) Y h

      go :
          ((x : Reply c) (j : ℕ) (l : Local) (to from : List Item) (w : List Packet) (n : ℕ) (Y : Protocol → Type 1) →
          FairOf s (k x) j → Held from w n → Sync r to from (λ g. Fits d r g l (k x)) Y →
          Comes d r (rest read s (k x) j) (play read s (k x) j).calls l to w n Y) →
          (z : Taken (Reply c)) → FairOn S c (λ x j. FairOf s (k x) j) z →
          Comes (suc d) r (rest_on (ask c k) (λ x j. rest read s (k x) j) z)
          (c ∷ (on_taken at (λ x j. play read s (k x) j) z).calls) l to w n Y
      go rec (got x j) f =
          let given : Sync r to from₁ (λ g. Fits d r g (note c l) (k x)) Y =
          onward S Goal r to from₁ (λ g h. rw f.0.1 (h f.0.0)) asked in
          let z = rec x j (note c l) to from₁ (w ++ optional (sent c)) n Y f.1 held₁ given in
          (z.0, omega (arith, z.1), z.2, z.3, z.4)
      go rec wants f = (d, omega arith, from₁, held₁, asked)
      go rec refused f = absurd f

  -- an open program that is given more answers
  runs_on :
      Reads read → (d : ℕ) (r : Party) (s : List Octet) (c : Call) (k : Reply c → Program) (at : ℕ) (l : Local)
      (to from : List Item) (w : List Packet) (n : ℕ) (Y : Protocol → Type 1) →
      at < length s → FairOf s (ask c k) at → Held from w n → Sync r to from (λ g. Stands d r g l (ask c k)) Y →
      Comes d r (rest read s (ask c k) at) (tail (play read s (ask c k) at).calls) l to w n Y
  runs_on law d r s c k at l to from w n Y b f held h = go (read c s at) refl f
    where
      go :
          (z : Taken (Reply c)) → read c s at ≡ z → FairOn S c (λ x j. FairOf s (k x) j) z →
          Comes d r (rest_on (ask c k) (λ x j. rest read s (k x) j) z)
          (on_taken at (λ x j. play read s (k x) j) z).calls l to w n Y
      go (got x j) e f =
          runs d r s (k x) j l to from w n Y f.1 held (onward S Goal r to from (λ g h. rw f.0.1 (h f.0.0)) h)
      go wants e f = absurd (omega (arith, law.spent c s at e))
      go refused e f = absurd f

  -- an end is in no step, or in an open one: its machine and input, and the answers that it has had
  pub data Act : Type 0 where
    idle : Machine → Act
    busy : Machine → Input → List Octet → Act

  -- the act that a step leaves
  abbrev pub act_after : Machine → Input → List Octet → Ending Machine → Act
  act_after m i s (ended m₁) = idle m₁
  act_after m i s wanting = busy m i s
  act_after m i s refusing = idle m

  -- one end as the link has it: its act, its own state, the packets queued to it, and the other end's signals not used
  pub record Side : Type 0 where
    pub act : Act
    pub state : Local
    pub queue : List Packet
    pub unused : ℕ

  abbrev pub side : Act → Local → List Packet → ℕ → Side
  side a l w n = record { act = a; state = l; queue = w; unused = n }

  -- what another end's calls and signal do to it
  abbrev pub receives : List Call → Bool → Side → Side
  receives cs b y = side y.act y.state (send_all cs y.queue) (plus_one b y.unused)

  abbrev Holds : ℕ → Party → Protocol → Local → Act → Type 1
  Holds d r g l (idle m) = Idle (λ g₁ l₁ p. Fits d r g₁ l₁ p) r g l m l.due
  Holds d r g l (busy m i s) =
      Host (step r m i) s × ((play read s (step r m i) 0).ending ≡ wanting)
      × Stands d r g l (rest read s (step r m i) 0)

  abbrev Standing : ℕ → Party → Side → Protocol → Type 1
  Standing d r x g = Holds d r g x.state x.act

  -- both ends, in step: with fewer than d and e moves of their own to go
  abbrev pub InStep : Party → (d e : ℕ) → (x y : Side) → Type 1
  InStep r d e x y =
      (to : List Item) × (from : List Item) × Held to x.queue x.unused × Held from y.queue y.unused
      × Sync r to from (Standing d r x) (Standing e (other r) y)

  pub in_step_turned : (r : Party) (d e : ℕ) (x y : Side) → InStep r d e x y → InStep (other r) e d y x
  in_step_turned opener d e x y z = (z.1, z.0, z.3, z.2, turn S Goal opener z.0 z.1 _ _ z.4)
  in_step_turned replier d e x y z = (z.1, z.0, z.3, z.2, turn S Goal replier z.0 z.1 _ _ z.4)

  holds_after :
      (d : ℕ) (r : Party) (g : Protocol) (l : Local) (m : Machine) (i : Input) (s : List Octet) →
      Host (step r m i) s → Stopped S s (step r m i) 0 →
      Stands d r g l (rest read s (step r m i) 0) →
      Holds d r g l (act_after m i s (play read s (step r m i) 0).ending)
  holds_after d r g l m i s host (inl z) h =
      subst (λ e. Holds d r g l (act_after m i s e)) (sym z.1) (subst (λ p. Stands d r g l p) z.2 h)
  holds_after d r g l m i s host (inr z) h =
      subst (λ e. Holds d r g l (act_after m i s e)) (sym z.2) (host, z.2, h)

  -- the calls of a step
  abbrev pub calls_of : Party → Machine → Input → List Octet → List Call
  calls_of r m i s = (play read s (step r m i) 0).calls

  -- an end after a step of its own, with what is left of its events, packets and signals, and the new calls
  abbrev pub side_after : Party → Machine → Input → List Octet → List Call → Local → List Packet → ℕ → Side
  side_after r m i s cs l w n = side (act_after m i s (play read s (step r m i) 0).ending) (note_all cs l) w n

  abbrev pub Kept : Party → (d e : ℕ) → (x y : Side) → Type 1
  Kept r d e x y = (d₁ : ℕ) × (d₁ < d) × InStep r d₁ e x y

  -- the end of a move of r, by what its program comes to
  closes :
      Hosts S → (r : Party) (d e : ℕ) (m : Machine) (i : Input) (s : List Octet) (cs : List Call) (l : Local)
      (w : List Packet) (n : ℕ) (y : Side) (b : Bool) (to : List Item) →
      Host (step r m i) s → Held to w n →
      Comes d r (rest read s (step r m i) 0) cs l to y.queue (plus_one b y.unused) (Standing e (other r) y) →
      Kept r d e (side_after r m i s cs l w n) (receives cs b y)
  closes H r d e m i s cs l w n y b to host held z =
      let stop = stops S s (step r m i) 0 (H.fair (step r m i) s host) in
      let after = side_after r m i s cs l w n in
      let stands = onward S Goal r to z.2 {X₁ = Standing z.0 r after}
      (λ g h. holds_after z.0 r g (note_all cs l) m i s host stop h) z.4 in
      (z.0, z.1, (to, z.2, held, z.3, stands))

  -- ---- each kind of move keeps the ends in step, and leaves the end that moved less to do

  idle_packets :
      (X : Protocol → Local → Program → Type 1) (r : Party) (g : Protocol) (l : Local) (m : Machine)
      (v : List Event) →
      urgent v ≡ false → Idle X r g l m v → Packets X r g l m
  idle_packets X r (message s D pk K) l m [] u h = h.1
  idle_packets X r (signal s D pk K) l m [] u h = never h
  idle_packets X r (finish F j) l m [] u h = tt
  idle_packets X r g l m (e ∷ []) u h = subst (λ b. Unless S Goal b (Packets X r g l m)) u h.1
  idle_packets X r g l m (e ∷ (e₁ ∷ v)) u h = never h

  idle_event :
      (X : Protocol → Local → Program → Type 1) (r : Party) (g : Protocol) (l : Local) (m : Machine) (v : List Event)
      (e : Event) (earlier later : List Event) → v ≡ earlier ++ (e ∷ later) → Idle X r g l m v →
      Takes S Goal (gated r e) (signals r e) r g (λ g₁. X g₁ (counted l (earlier ++ later)) (step r m (event e)))
  idle_event X r g l m v e [] [] q h = (subst (λ v. Idle X r g l m v) q h).0
  idle_event X r g l m v e [] (e₁ ∷ later) q h = never (subst (λ v. Idle X r g l m v) q h)
  idle_event X r g l m v e (e₁ ∷ []) later q h = never (subst (λ v. Idle X r g l m v) q h)
  idle_event X r g l m v e (e₁ ∷ (e₂ ∷ earlier)) later q h = never (subst (λ v. Idle X r g l m v) q h)

  module _ (H : Hosts S) (r : Party) (d e : ℕ) (m : Machine) (l : Local) (w : List Packet) (s : List Octet)
      (y : Side)
    where
      abbrev There : Protocol → Type 1
      There = Standing e (other r) y

      -- the oldest packet
      pub packet_kept :
          (n : ℕ) (p : Packet) → urgent l.due ≡ false → Host (step r m (packet p)) s →
          InStep r d e (side (idle m) l (p ∷ w) n) y →
          Kept r d e (side_after r m (packet p) s (calls_of r m (packet p) s) (counted l l.due) w n)
          (receives (calls_of r m (packet p) s) false y)
      packet_kept n p u host z =
          let l₁ = counted l l.due in
          let got = deliver r (Fits d r) l m p w n z.0 z.1 There z.2
          (onward S Goal r z.0 z.1 (λ g h. idle_packets (Fits d r) r g l m l.due u h) z.4) in
          closes H r d e m (packet p) s (calls_of r m (packet p) s) l₁ w n y false got.0 host got.1
          (runs d r s (step r m (packet p)) 0 l₁ got.0 z.1 y.queue y.unused There
          (H.fair (step r m (packet p)) s host) z.3 got.2)

      module _ (ε : Event) (earlier later : List Event) where
        abbrev taken : List Call
        taken = calls_of r m (event ε) s

        -- an event, and the signal that it may be
        pub event_kept :
            (n : ℕ) → l.due ≡ earlier ++ (ε ∷ later) → gated r ε ≡ false → Host (step r m (event ε)) s →
            InStep r d e (side (idle m) l w n) y →
            Kept r d e (side_after r m (event ε) s taken (counted l (earlier ++ later)) w n)
            (receives taken (signals r ε) y)
        event_kept n q u host z =
            let l₁ = counted l (earlier ++ later) in
            let p = step r m (event ε) in
            let b = signals r ε in
            let due = onward S Goal r z.0 z.1
            {X₁ = λ g. Emits S Goal r (signal_item S b) g (λ g₁. Fits d r g₁ l₁ p)} (λ g h.
            subst (λ x. Takes S Goal x b r g (λ g₁. Fits d r g₁ l₁ p)) u
            (idle_event (Fits d r) r g l m l.due ε earlier later q h)) z.4 in
            closes H r d e m (event ε) s taken l₁ w n y b z.0 host z.2
            (runs d r s p 0 l₁ z.0 (z.1 ++ optional (signal_item S b)) y.queue (plus_one b y.unused) There
            (H.fair p s host) (held_signal S b z.1 y.queue y.unused z.3)
            (emit S Goal r (signal_item S b) z.0 z.1 (λ g. Fits d r g l₁ p) There due))

        -- an event behind a signal of the other end
        pub behind_kept :
            (n : ℕ) → l.due ≡ earlier ++ (ε ∷ later) → gated r ε ≡ true → Host (step r m (event ε)) s →
            InStep r d e (side (idle m) l w (suc n)) y →
            Kept r d e (side_after r m (event ε) s taken (counted l (earlier ++ later)) w n) (receives taken false y)
        behind_kept n q u host z =
            let l₁ = counted l (earlier ++ later) in
            let p = step r m (event ε) in
            let due = onward S Goal r z.0 z.1 {X₁ = λ g. Behind r g (λ g₁. Fits d r g₁ l₁ p)} (λ g h.
            gated_behind S Goal r ε g (λ g₁. Fits d r g₁ l₁ p) u
            (idle_event (Fits d r) r g l m l.due ε earlier later q h)) z.4 in
            let used = use_signal r (λ g. Fits d r g l₁ p) There w n z.0 z.1 z.2 due in
            closes H r d e m (event ε) s taken l₁ w n y false used.0 host used.1
            (runs d r s p 0 l₁ used.0 z.1 y.queue y.unused There (H.fair p s host) z.3 used.2)

      -- an open step that is run again, on more answers
      pub again_kept :
          (n : ℕ) (i : Input) (x : Octet) (s₁ : List Octet) → Host (step r m i) (s ++ (x ∷ s₁)) →
          InStep r d e (side (busy m i s) l w n) y →
          let new = drop (length (calls_of r m i s)) (calls_of r m i (s ++ (x ∷ s₁))) in
          Kept r d e (side_after r m i (s ++ (x ∷ s₁)) new l w n) (receives new false y)
      again_kept n i x s₁ host z =
          let p = step r m i in
          let s₂ = s ++ (x ∷ s₁) in
          let new = drop (length (calls_of r m i s)) (calls_of r m i s₂) in
          let held = (somewhere S Goal r z.0 z.1 (λ g. Holds d r g l (busy m i s)) There z.4).1 in
          let q = wanting_last read H.reads s p 0 held.1 in
          let at = (play read s p 0).place in
          let f = subst (λ t. FairOf s₂ t at) q.4 (fair_again S H.reads s (x ∷ s₁) p 0 (H.fair p s₂ host))
          in
          let longer : at < length s₂ = omega (arith, q.5, length-append s (x ∷ s₁)) in
          let stands = onward S Goal r z.0 z.1 {X₁ = λ g. Stands d r g l (ask q.1 q.2)} (λ g h.
          subst (λ t. Stands d r g l t) q.4 h.2) z.4 in
          let on = runs_on H.reads d r s₂ q.1 q.2 at l z.0 z.1 y.queue y.unused There longer f
          z.3 stands in
          let left = rest_again read H.reads s (x ∷ s₁) p 0 ∙ ap (λ t. rest read s₂ t at) q.4 in
          let listed = again_new read H.reads s (x ∷ s₁) p 0 held.1
          ∙ ap (λ t. tail (play read s₂ t at).calls) q.4 in
          closes H r d e m i s₂ new l w n y false z.0 host z.2
          (subst₂ (λ t cs. Comes d r t cs l z.0 y.queue y.unused There) (sym left) (sym listed) on)

  -- ---- some move is allowed, or the protocol has finished

  -- a move that an end may make; with no answers yet, or with one more
  pub data Can (r : Party) (x : Side) : Type 0 where
    packet_can :
        (m : Machine) (p : Packet) (w : List Packet) → x.act ≡ idle m → x.queue ≡ p ∷ w → x.state.due ≡ [] →
        Can r x
    event_can :
        (m : Machine) (ε : Event) → x.act ≡ idle m → x.state.due ≡ ε ∷ [] → gated r ε ≡ false → Can r x
    behind_can :
        (m : Machine) (ε : Event) (n : ℕ) → x.act ≡ idle m → x.state.due ≡ ε ∷ [] → gated r ε ≡ true →
        x.unused ≡ suc n → Can r x
    again_can :
        (m : Machine) (i : Input) (s : List Octet) → x.act ≡ busy m i s → Host (step r m i) s →
        (play read s (step r m i) 0).ending ≡ wanting → Can r x

  -- an event that is due waits for a signal
  abbrev Waits : Party → List Event → Type 0
  Waits r [] = Unit {0}
  Waits r (ε ∷ v) = gated r ε ≡ true

  -- nothing to do: no open step, no packet, no signal, and what is due waits for one
  pub record Rests (r : Party) (x : Side) : Type 0 where
    pub machine : Machine
    pub is_idle : x.act ≡ idle machine
    pub no_packet : x.queue ≡ []
    pub no_sign : x.unused ≡ 0
    pub waits : Waits r x.state.due

  -- a packet is queued, and an event waits for a signal: no protocol has such a place
  no_packet_lem :
      (r : Party) (X : Protocol → Local → Program → Type 1) (l : Local) (m : Machine) (ε : Event) (p : Packet)
      (w : List Packet) (to from : List Item) (Y : Protocol → Type 1) →
      gated r ε ≡ true → Held to (p ∷ w) 0 → Sync r to from (λ g. Idle X r g l m (ε ∷ [])) Y → ⊥
  no_packet_lem r X l m ε p w [] from Y u k s = k
  no_packet_lem r X l m ε p w (a_signal ∷ to) from Y u k s = k
  no_packet_lem r X l m ε p w (a_packet p₁ ∷ to) from Y u k (inr h) = h.1
  no_packet_lem r X l m ε p w (a_packet p₁ ∷ to) from Y u k (inl h) =
      go h.0 (gated_behind S Goal r ε h.0 (λ g. X g (counted l []) (step r m (event ε))) u h.2.0) h.3
    where
      go :
          (g : Protocol) → Behind r g (λ g₁. X g₁ (counted l []) (step r m (event ε))) →
          Along (other r) (a_packet p₁ ∷ to) g Y → ⊥
      go (message s D pk K) b a = never b
      go (signal s D pk K) b a = never a
      go (finish F j) b a = never b

  -- a signal is on its way, and nothing is due: no protocol has such a place
  no_sign_lem :
      (r : Party) (X : Protocol → Local → Program → Type 1) (l : Local) (m : Machine) (n : ℕ) (to from : List Item)
      (Y : Protocol → Type 1) → Held to [] (suc n) → Sync r to from (λ g. Idle X r g l m []) Y → ⊥
  no_sign_lem r X l m n [] from Y k s = k
  no_sign_lem r X l m n (a_packet p ∷ to) from Y k s = k
  no_sign_lem r X l m n (a_signal ∷ to) from Y k (inr h) = h.1
  no_sign_lem r X l m n (a_signal ∷ to) from Y k (inl h) = go h.0 h.2 h.3
    where
      go : (g : Protocol) → Awaits S Goal X r g l m → Along (other r) (a_signal ∷ to) g Y → ⊥
      go (message s D pk K) b a = never a
      go (signal s D pk K) b a = never b
      go (finish F j) b a = never a

  either_bool : (b : Bool) → (b ≡ true) ⊎ (b ≡ false)
  either_bool true = inl refl
  either_bool false = inr refl

  moves :
      (r : Party) (d : ℕ) (a : Act) (log : Log) (v : List Event) (k : ℕ) (w : List Packet) (n : ℕ)
      (to from : List Item)
      (Y : Protocol → Type 1) → Held to w n →
      Sync r to from (λ g. Holds d r g (locally log v k) a) Y →
      Can r (side a (locally log v k) w n) ⊎ Rests r (side a (locally log v k) w n)
  moves r d (busy m i s) log v k w n to from Y held h =
      let z = (somewhere S Goal r to from (λ g. Holds d r g (locally log v k) (busy m i s)) Y h).1 in
      inl (again_can m i s refl z.0 z.1)
  moves r d (idle m) log [] k (p ∷ w) n to from Y held h = inl (packet_can m p w refl refl refl)
  moves r d (idle m) log [] k [] zero to from Y held h =
      inr (record { machine = m; is_idle = refl; no_packet = refl; no_sign = refl; waits = tt })
  moves r d (idle m) log [] k [] (suc n) to from Y held h =
      absurd (no_sign_lem r (Fits d r) (locally log [] k) m n to from Y held h)
  moves r d (idle m) log (ε ∷ []) k w n to from Y held h = go (either_bool (gated r ε)) w n held
    where
      go :
          (gated r ε ≡ true) ⊎ (gated r ε ≡ false) → (w : List Packet) (n : ℕ) → Held to w n →
          Can r (side (idle m) (locally log (ε ∷ []) k) w n) ⊎ Rests r (side (idle m) (locally log (ε ∷ []) k) w n)
      go (inr u) w n z = inl (event_can m ε refl refl u)
      go (inl u) w (suc n) z = inl (behind_can m ε n refl refl u refl)
      go (inl u) (p ∷ w) zero z = absurd (no_packet_lem r (Fits d r) (locally log (ε ∷ []) k) m ε p w to from Y u z h)
      go (inl u) [] zero z =
          inr (record { machine = m; is_idle = refl; no_packet = refl; no_sign = refl; waits = u })
  moves r d (idle m) log (ε ∷ (ε₁ ∷ v)) k w n to from Y held h =
      never (somewhere S Goal r to from (λ g. Never) Y h).1

  can_or_rests :
      (r : Party) (d : ℕ) (x : Side) (to from : List Item) (Y : Protocol → Type 1) → Held to x.queue x.unused →
      Sync r to from (Standing d r x) Y → Can r x ⊎ Rests r x
  can_or_rests r d x to from Y held h =
      moves r d x.act x.state.log x.state.due x.state.inputs x.queue x.unused to from Y held h

  -- an end that rests is not the one whose turn it is, and has nothing due where the protocol finishes
  module _ (d : ℕ) (r : Party) (l : Local) (m : Machine) where
    -- after an event
    abbrev Next : Event → Protocol → Type 1
    Next ε g = Fits d r g (counted l []) (step r m (event ε))

    rests_not_speaks :
        (D : Type 0) (pk : D → Packet) (K : D → Protocol) (v : List Event) → Waits r v →
        Idle (Fits d r) r (message r D pk K) l m v → ⊥
    rests_not_speaks D pk K [] u h = not_other r h.0
    rests_not_speaks D pk K (ε ∷ []) u h =
        never (gated_behind S Goal r ε (message r D pk K) (Next ε) u h.0)
    rests_not_speaks D pk K (ε ∷ (ε₁ ∷ v)) u h = never h

    rests_not_signals :
        (D : Type 0) (pk : D → Packet) (K : D → Protocol) (v : List Event) → Waits r v →
        Idle (Fits d r) r (signal r D pk K) l m v → ⊥
    rests_not_signals D pk K [] u h = never h
    rests_not_signals D pk K (ε ∷ []) u h =
        not_other r (gated_behind S Goal r ε (signal r D pk K) (Next ε) u h.0).0
    rests_not_signals D pk K (ε ∷ (ε₁ ∷ v)) u h = never h

    rests_finished :
        (F : Party → Machine → Local → Type 0)
        (j : (m : Machine) (l : Local) (m₁ : Machine) (l₁ : Local) → F opener m l → F replier m₁ l₁ → Goal m l m₁ l₁)
        (v : List Event) → Waits r v → Idle (Fits d r) r (finish F j) l m v → (v ≡ []) × F r m l
    rests_finished F j [] u h = (refl, h.0)
    rests_finished F j (ε ∷ []) u h =
        never (gated_behind S Goal r ε (finish F j) (Next ε) u h.0)
    rests_finished F j (ε ∷ (ε₁ ∷ v)) u h = never h

  -- what is left where no move is: nothing is queued, due or open, and the goal holds
  pub record Over (x y : Side) : Type 0 where
    pub machine : Machine
    pub machine₁ : Machine
    pub is_idle : x.act ≡ idle machine
    pub is_idle₁ : y.act ≡ idle machine₁
    pub no_packet : x.queue ≡ []
    pub no_packet₁ : y.queue ≡ []
    pub none_due : x.state.due ≡ []
    pub none_due₁ : y.state.due ≡ []
    pub goal : Goal machine x.state machine₁ y.state

  over :
      (d e : ℕ) (g : Protocol) (l l₁ : Local) (m m₁ : Machine) → Waits opener l.due → Waits replier l₁.due →
      Holds d opener g l (idle m) → Holds e replier g l₁ (idle m₁) →
      (l.due ≡ []) × (l₁.due ≡ []) × Goal m l m₁ l₁
  over d e (message opener D pk K) l l₁ m m₁ u u₁ h h₁ = absurd (rests_not_speaks d opener l m D pk K l.due u h)
  over d e (message replier D pk K) l l₁ m m₁ u u₁ h h₁ =
      absurd (rests_not_speaks e replier l₁ m₁ D pk K l₁.due u₁ h₁)
  over d e (signal opener D pk K) l l₁ m m₁ u u₁ h h₁ = absurd (rests_not_signals d opener l m D pk K l.due u h)
  over d e (signal replier D pk K) l l₁ m m₁ u u₁ h h₁ =
      absurd (rests_not_signals e replier l₁ m₁ D pk K l₁.due u₁ h₁)
  over d e (finish F j) l l₁ m m₁ u u₁ h h₁ =
      let t = rests_finished d opener l m F j l.due u h in
      let t₁ = rests_finished e replier l₁ m₁ F j l₁.due u₁ h₁ in
      (t.0, t₁.0, j m l m₁ l₁ t.1 t₁.1)

  -- both ends rest: nothing is on its way, so that they are at one place of the protocol
  meet :
      (to from : List Item) (X Y : Protocol → Type 1) → Empty to → Empty from → Sync opener to from X Y →
      (g : Protocol) × X g × Y g
  meet [] [] X Y a b (inl h) = (h.0, h.2, h.3)
  meet [] [] X Y a b (inr h) = (h.0, h.3, h.2)
  meet (i ∷ to) from X Y a b s = absurd a
  meet [] (i ∷ from) X Y a b s = absurd b

  -- the theorem: of two ends in step, one can move, or all is over
  pub progress : (d e : ℕ) (x y : Side) → InStep opener d e x y → (Can opener x ⊎ Can replier y) ⊎ Over x y
  progress d e x y z =
      go (can_or_rests opener d x z.0 z.1 (Standing e replier y) z.2 z.4)
      (can_or_rests replier e y z.1 z.0 (Standing d opener x) z.3
      (turn S Goal opener z.0 z.1 (Standing d opener x) (Standing e replier y) z.4))
    where
      go : Can opener x ⊎ Rests opener x → Can replier y ⊎ Rests replier y → (Can opener x ⊎ Can replier y) ⊎ Over x y
      go (inl c) b = inl (inl c)
      go (inr a) (inl c) = inl (inr c)
      go (inr a) (inr b) =
          let none-to = held_nothing S z.0 (subst₂ (Held z.0) a.no_packet a.no_sign z.2) in
          let none_from = held_nothing S z.1 (subst₂ (Held z.1) b.no_packet b.no_sign z.3) in
          let at = meet z.0 z.1 (Standing d opener x) (Standing e replier y) none-to none_from z.4 in
          let end = over d e at.0 x.state y.state a.machine b.machine a.waits b.waits
          (subst (λ c. Holds d opener at.0 x.state c) a.is_idle at.1)
          (subst (λ c. Holds e replier at.0 y.state c) b.is_idle at.2) in
          inr (record {
            machine = a.machine;
            machine₁ = b.machine;
            is_idle = a.is_idle;
            is_idle₁ = b.is_idle;
            no_packet = a.no_packet;
            no_packet₁ = b.no_packet;
            none_due = end.0;
            none_due₁ = end.1;
            goal = end.2;
          })

  -- a start: the opener's first packet is on its way
  pub start :
      {d e : ℕ} {D : Type 0} {pk : D → Packet} {K : D → Protocol} {l l₁ : Local} {m m₁ : Machine} (a : D) →
      Follows S Goal (suc d) opener (K a) l (ret m) →
      Follows S Goal (suc e) replier (message opener D pk K) l₁ (ret m₁) →
      InStep opener d e (side (idle m) l [] 0) (side (idle m₁) l₁ (pk a ∷ []) 0)
  unfolding exchange.Fits
  start {D = D} {pk = pk} {K = K} a t h =
      ([], a_packet (pk a) ∷ [], tt, (refl, tt), inr (message opener D pk K, tt, h.fits, (tt, a, refl, t.fits)))
