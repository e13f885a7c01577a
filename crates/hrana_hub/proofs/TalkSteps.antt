-- What one event says of the stream of a number, and how its talk goes on.
use Rattle.std.proofs.Common.{◌≡◌, ◌≢◌, ◌≤◌, ◌<◌, ◌+◌, ◌⊎◌, ℕ, Bool, true, false, List, [], Option, None, Some, is_some, refl, sym, ap, ◌∙◌, subst, arith, inl, inr, append-nil}
use Rattle.hrana_value.specs.declared.StreamNo.{StreamNo}
use Rattle.http_wire.specs.declared.outs.Outs.{Outs}
use Rattle.engine_core.specs.Draws.{Draw}
use Rattle.engine_core.specs.declared.entries.Entry.{Entry}
use Rattle.hrana_hub.specs.declared.events.Event.{Event}
use Rattle.hrana_hub.specs.declared.events.Event.TheVariants.{Exchange, Lost, Poll}
use Rattle.hrana_hub.specs.declared.sessions.Session.{Session}
use Rattle.hrana_hub.specs.Maps.{at}
use Rattle.hrana_hub.specs.State.{Conn, Stream, State}
use Rattle.hrana_hub.specs.Arrivals.{nothing, fresh, waiting}
use Rattle.hrana_hub.specs.Polled.{reply_in, is_over as closes, polled, streams_left, dropped}
use Rattle.hrana_hub.specs.Moments.{after as left_by}
use Rattle.hrana_hub.specs.Step.{ExchangeLost, LostAt}
use Rattle.hrana_hub.specs.Talks.{Talk, no_talk, then, answers_in, PassesBy, Says, polls, passes, HasTold}
use Rattle.hrana_hub.proofs.Changes.{Change, rests, comes, marks, joins, asks_for, polls as polls_own, falls as falls_own, touches, loses, expires, ends}
use Rattle.hrana_hub.proofs.Counted.{Counts}
use Rattle.hrana_hub.proofs.EntryLemmas.{at_put_other, at_without_other}
use Rattle.hrana_hub.proofs.IdLists.{lead_at}
use Rattle.hrana_hub.proofs.Left.{left_cases, after_cases}
use Rattle.hrana_hub.proofs.Listed.{put_cases, placed_cases, without_cases, let_go_cases}
use Rattle.hrana_hub.proofs.MapLemmas.{none_some, some_one}
use Rattle.hrana_hub.proofs.Standing.{Kept}
use Rattle.hrana_hub.proofs.Talking.{Owns, none_front, then_none}
use Rattle.hrana_hub.proofs.Touching.{arrives, polled as polls_session, lost}

-- ---- what stands at a number

no_session : (o : Option Session) → is_some o ≡ false → o ≡ None
no_session None e = refl
no_session (Some w) e = absurd (cc)

-- the number was none yet, or that of a stream of a connection
abbrev pub WasNone : State → ℕ → Type 0
WasNone s n = (s.opened < n) ⊎ ((x : Stream) × (at n s.streams ≡ Some x) × (x.session ≡ None))

-- what stands at the number stood there before, or is a stream of a connection
abbrev pub Lets : ℕ → State → State → Type 0
Lets n s new = (y : Stream) → at n new.streams ≡ Some y → (at n s.streams ≡ Some y) ⊎ ((y.session ≡ None) × WasNone s n)

pub lets_same : (n : ℕ) (s new : State) → at n new.streams ≡ at n s.streams → Lets n s new
lets_same n s new same y e = inl (sym same ∙ e)

-- what is kept of the talk of a number
pub record Follows (shared : Bool) (had : ℕ → ℕ) (n : ℕ) (t : Talk) (s : State) : Type 0 where
  pub fresh : s.opened < n → t ≡ no_talk
  pub front : HasTold shared had t
  pub own : (x : Stream) → at n s.streams ≡ Some x → Owns shared had x.session t x

module _ (shared : Bool) (had : ℕ → ℕ) (n : ℕ) (t : Talk) (s : State) (h : Follows shared had n t s) where
  none_owned : WasNone s n → (y : Stream) → y.session ≡ None → Owns shared had y.session t y
  none_owned (inl more) y none = subst (λ o. Owns shared had o t y) (sym none) (ap (λ (u : Talk). u.accepted) (h.fresh more), ap (λ (u : Talk). u.answers) (h.fresh more))
  none_owned (inr was) y none = subst (λ o. Owns shared had o t y) (sym none) (subst (λ o. Owns shared had o t was.0) was.2 (h.own was.0 was.1))

  lets_follow : (new : State) → s.opened ≤ new.opened → Lets n s new → Follows shared had n t new
  lets_follow new opened lets = record {
    fresh = λ l. h.fresh (omega (arith, l, opened));
    front = h.front;
    own = λ y e. elim (lets y e) [ inl same ↦ h.own y same | inr none ↦ none_owned none.1 y none.0 ];
  }

-- how the talk goes on with the event
pub record Goes' (token : Option (List ℕ)) (shared : Bool) (had : ℕ → ℕ) (n : ℕ) (t : Talk) (s : State) (event : Event) (draws : List Draw) (added : List Entry) (out : Outs) (new : State) : Type 0 where
  pub now : Talk
  pub says : Says token n draws added out s event now
  pub follows : Follows shared had n (then t now) new

module _ (token : Option (List ℕ)) (shared : Bool) (had : ℕ → ℕ) (n : ℕ) (t : Talk) (s : State) (h : Follows shared had n t s) (draws : List Draw) (added : List Entry) (out : Outs) (new : State) where
  abbrev On : Event → Type 0
  On event = Goes' token shared had n t s event draws added out new

  pub passing : (event : Event) → PassesBy token s draws n event → s.opened ≤ new.opened → Lets n s new → On event
  passing event may opened lets = record { now = no_talk; says = passes event may; follows = subst (λ u. Follows shared had n u new) (sym (then_none t)) (lets_follow shared had n t s h new opened lets) }

  -- ---- events that are neither polls nor exchanges

  abbrev Aside : Event → Type 0
  Aside (Exchange c ask) = ⊥
  Aside (Lost c) = ⊥
  Aside (Poll stream) = ⊥
  Aside event = Unit {0}

  expired_lets : (moment : ℕ) (x z : Stream) → at n s.streams ≡ Some x → left_by moment x ≡ Some z → (x ≡ z) ⊎ ((z.session ≡ None) × WasNone s n)
  expired_lets moment x z known = after_cases (λ o. o ≡ Some z → (x ≡ z) ⊎ ((z.session ≡ None) × WasNone s n)) moment x
      (λ due e. inl (some_one e))
      (λ due own e. (let none = no_session x.session own in inr (ap (λ (y : Stream). y.session) (sym (some_one e)) ∙ none, inr (x, known, none))))
      (λ due is e. absurd (none_some e))

  change_lets : (kept : Kept s) (counts : Counts s) {event : Event} → Aside event → Change shared s added out new event → (s.opened ≤ new.opened) × Lets n s new
  change_lets kept counts aside (rests event none silent left) = (omega (arith, ap (λ (u : State). u.opened) left), lets_same n s new (ap (λ (u : State). at n u.streams) left))
  change_lets kept counts aside (comes c closing none unknown few left) = (omega (arith, ap (λ (u : State). u.opened) left), lets_same n s new (ap (λ (u : State). at n u.streams) left))
  change_lets kept counts aside (marks event c k k' none silent o marked left) = (omega (arith, ap (λ (u : State). u.opened) left), lets_same n s new (ap (λ (u : State). at n u.streams) left))
  change_lets kept counts aside (joins c text k id none o unnamed few left) = (
    omega (arith, ap (λ (u : State). u.opened) left),
    λ y e. elim (placed_cases (s.opened + 1) n (fresh s.now c (s.opened + 1)) y s.streams (ap (λ (u : State). at n u.streams) (sym left) ∙ e)) [
      | inl own ↦ inr (ap (λ (z : Stream). z.session) own.1, inl (omega (arith, own.0)))
      | inr other ↦ inl other.1
    ],
  )
  change_lets kept counts aside (asks_for c text k stream m x id what w none o few named known served left) =
      (let free = no_session x.session ((lead_at _ stream m k.ids (counts.conn c k o.known).leads named).named x known).own in (
        omega (arith, ap (λ (u : State). u.opened) left),
        λ y e. elim (put_cases m n x (waiting id what x) y s.streams known (ap (λ (u : State). at n u.streams) (sym left) ∙ e)) [
          | inl own ↦ inr (ap (λ (z : Stream). z.session) own.1 ∙ free, inr (x, ap (λ j. at j s.streams) own.0 ∙ known, free))
          | inr other ↦ inl other.1
        ],
      ))
  change_lets kept counts aside (polls_own stream x k known own waits o p) = absurd aside
  change_lets kept counts aside (falls_own stream x k known own o p) = absurd aside
  change_lets kept counts aside (touches e m (arrives c ask none next) silent opened touch) = absurd aside
  change_lets kept counts aside (touches e m (polls_session stream x by entry result task here known p one next) silent opened touch) = absurd aside
  change_lets kept counts aside (touches e m (lost c ended next) silent opened touch) = absurd aside
  change_lets kept counts aside (loses c k known ended left) = absurd aside
  change_lets kept counts aside (expires moment ended left) = (
    omega (arith, ap (λ (u : State). u.opened) left),
    λ y e. (let was = left_cases (left_by moment) n y s.streams kept.streams_rise (ap (λ (u : State). at n u.streams) (sym left) ∙ e) in
        elim (expired_lets moment was.0 y was.1 was.2) [ inl same ↦ inl (was.1 ∙ ap Some same) | inr none ↦ inr none ]),
  )
  change_lets kept counts aside (ends ended left) = (omega (arith, ap (λ (u : State). u.opened) left), λ y e. absurd (none_some (ap (λ (u : State). at n u.streams) (sym left) ∙ e)))

  -- ---- losses

  lost_exchange : (kept : Kept s) (c : ℕ) (o : Option ℕ) → ExchangeLost s c o added out new → On (Lost c)
  lost_exchange kept c None g = passing (Lost c) tt (omega (arith, ap (λ (u : State). u.opened) g.left)) (lets_same n s new (ap (λ (u : State). at n u.streams) g.left))
  lost_exchange kept c (Some m) g = passing (Lost c) tt (omega (arith, ap (λ (u : State). u.opened) g.2)) (λ y e. inl (without_cases m n y s.streams kept.streams_rise (ap (λ (u : State). at n u.streams) (sym g.2) ∙ e)).1)

  pub lost_goes : (kept : Kept s) (c : ℕ) (o : Option Conn) → LostAt s c o added out new → On (Lost c)
  lost_goes kept c None g = lost_exchange kept c (at c s.exchanges) g
  lost_goes kept c (Some k) g = passing (Lost c) tt (omega (arith, ap (λ (u : State). u.opened) g.2)) (λ y e. inl (let_go_cases k.streams n y s.streams kept.streams_rise (ap (λ (u : State). at n u.streams) (sym g.2) ∙ e)).1)

  -- ---- polls of other streams

  left_other : (over : Bool) (m : ℕ) (x y : Stream) → Kept s → at m s.streams ≡ Some x → n ≢ m → at n (streams_left over m y s.streams) ≡ at n s.streams
  left_other true m x y kept known other = at_without_other m n s.streams kept.streams_rise other
  left_other false m x y kept known other = at_put_other m n x y s.streams known other

  poll_apart : (kept : Kept s) {event : Event} (stream : StreamNo) → event ≡ Poll stream → stream.0 ≢ n → Change shared s added out new event → (s.opened ≤ new.opened) × (at n new.streams ≡ at n s.streams)
  poll_apart kept stream is other (rests event none silent left) = (omega (arith, ap (λ (u : State). u.opened) left), ap (λ (u : State). at n u.streams) left)
  poll_apart kept stream is other (comes c closing none unknown few left) = absurd (cc)
  poll_apart kept stream is other (marks event c k k' none silent o marked left) = (omega (arith, ap (λ (u : State). u.opened) left), ap (λ (u : State). at n u.streams) left)
  poll_apart kept stream is other (joins c text k id none o unnamed few left) = absurd (cc)
  poll_apart kept stream is other (asks_for c text k number m x id what w none o few named known served left) = absurd (cc)
  poll_apart kept stream is other (polls_own own x k known free waits o p) = (let same : own.0 ≡ stream.0 = own_number own stream is in
      (omega (arith, ap (λ (u : State). u.opened) p.left), ap (λ (u : State). at n u.streams) p.left ∙ left_other (closes (reply_in p.result) p.task) own.0 x (polled s.now (reply_in p.result) p.task x) kept known (λ e. other (sym same ∙ sym e))))
    where
      own_number : (a b : StreamNo) → ◌≡◌ {A = Event} (Poll a) (Poll b) → a.0 ≡ b.0
      own_number a b e = cc
  poll_apart kept stream is other (falls_own own x k known free o p) = (let same : own.0 ≡ stream.0 = own_number own stream is in
      (omega (arith, ap (λ (u : State). u.opened) p.left), ap (λ (u : State). at n u.streams) p.left ∙ at_put_other own.0 n x (dropped p.task x) s.streams known (λ e. other (sym same ∙ sym e))))
    where
      own_number : (a b : StreamNo) → ◌≡◌ {A = Event} (Poll a) (Poll b) → a.0 ≡ b.0
      own_number a b e = cc
  poll_apart kept stream is other (touches e m (arrives c ask none next) silent opened touch) = absurd (cc)
  poll_apart kept stream is other (touches e m (lost c ended next) silent opened touch) = absurd (cc)
  poll_apart kept stream is other (touches e m (polls_session own x by entry result task here known p one next) silent opened touch) = (let same : own.0 ≡ stream.0 = own_number own stream is in
      (opened, (touch kept).streams.others n (λ e. other (sym same ∙ sym here ∙ sym e))))
    where
      own_number : (a b : StreamNo) → ◌≡◌ {A = Event} (Poll a) (Poll b) → a.0 ≡ b.0
      own_number a b e = cc
  poll_apart kept stream is other (loses c k known ended left) = absurd (cc)
  poll_apart kept stream is other (expires moment ended left) = absurd (cc)
  poll_apart kept stream is other (ends ended left) = absurd (cc)

  pub poll_passes : (kept : Kept s) (stream : StreamNo) → stream.0 ≢ n → Change shared s added out new (Poll stream) → On (Poll stream)
  poll_passes kept stream other change = (let apart = poll_apart kept stream refl other change in passing (Poll stream) other apart.0 (lets_same n s new apart.1))

  pub aside_goes : (kept : Kept s) (counts : Counts s) (event : Event) → Aside event → PassesBy token s draws n event → Change shared s added out new event → On event
  aside_goes kept counts event aside may change = (let lets = change_lets kept counts aside change in passing event may lets.0 lets.1)

  -- ---- a poll of the stream

  module _ (stream : StreamNo) (own : stream.0 ≡ n) where
    pub polling : (answers : List Outs) → answers_in out out.out ≡ answers → Follows shared had n (then t (record { accepted = []; used = added; answers = answers })) new → On (Poll stream)
    polling answers is f = record {
      now = record { accepted = []; used = added; answers = answers_in out out.out };
      says = polls stream own;
      follows = subst (λ l. Follows shared had n (then t (record { accepted = []; used = added; answers = l })) new) (sym is) f;
    }

    -- nothing came of it
    pub quiet_poll : added ≡ [] → out ≡ nothing → new ≡ s → On (Poll stream)
    quiet_poll none given left = polling [] (ap (λ (o : Outs). answers_in o o.out) given)
        (subst (λ l. Follows shared had n (then t (record { accepted = []; used = l; answers = [] })) new) (sym none) (subst (λ u. Follows shared had n u new) (sym (then_none t)) (subst (λ u. Follows shared had n t u) (sym left) h)))

    -- a stream of a connection has no talk
    pub free_poll : (kept : Kept s) (x : Stream) → at n s.streams ≡ Some x → x.session ≡ None → s.opened ≤ new.opened → ((y : Stream) → at n new.streams ≡ Some y → y.session ≡ None) → answers_in out out.out ≡ [] → On (Poll stream)
    free_poll kept x known none opened frees silent =
        let was = subst (λ o. Owns shared had o t x) none (h.own x known) in
        let u : Talk = then t (record { accepted = []; used = added; answers = [] }) in
        let a : u.accepted ≡ [] = append-nil t.accepted ∙ was.0 in
        let b : u.answers ≡ [] = append-nil t.answers ∙ was.1 in
        polling [] silent (record {
          fresh = λ l. absurd (none_some (sym (kept.above n (omega (arith, l, opened))) ∙ known));
          front = none_front shared had u a b;
          own = λ y e. subst (λ o. Owns shared had o u y) (sym (frees y e)) (a, b);
        })

    module _ (kept : Kept s) (x : Stream) (known : at n s.streams ≡ Some x) where
      -- the stream has become this, and so it is told of it
      pub becomes : (opened : s.opened ≤ new.opened) (y : Stream) → at n new.streams ≡ Some y → (u : Talk) → HasTold shared had u → Owns shared had y.session u y → Follows shared had n u new
      becomes opened y there u front owns = record {
        fresh = λ l. absurd (none_some (sym (kept.above n (omega (arith, l, opened))) ∙ known));
        front = front;
        own = λ z e. subst (λ w. Owns shared had w.session u w) (some_one (sym there ∙ e)) owns;
      }

      -- it is gone
      pub vanishes : (opened : s.opened ≤ new.opened) → at n new.streams ≡ None → (u : Talk) → HasTold shared had u → Follows shared had n u new
      vanishes opened gone u front = record {
        fresh = λ l. absurd (none_some (sym (kept.above n (omega (arith, l, opened))) ∙ known));
        front = front;
        own = λ z e. absurd (none_some (sym gone ∙ e));
      }
