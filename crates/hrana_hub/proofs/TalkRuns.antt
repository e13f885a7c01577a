-- In every run the exchanges of each stream are answered in their order.
use Rattle.std.proofs.Common.{◌≡◌, ◌≢◌, ◌≤◌, ◌+◌, ℕ, ℤ, Bool, true, false, nat_le, List, [], ◌∷◌, length, All, Option, None, Some, MatchBool, refl, sym, ap, ◌∙◌, subst, arith, inl, inr}
use Rattle.std.proofs.lemmas.Bool.{cases_eq, cases_order, leb-true, leb-false, true≢false}
use Rattle.std.proofs.lemmas.List.Elements.{All-head, All-tail}
use Rattle.hrana_value.specs.declared.StreamNo.{StreamNo}
use Rattle.stream_requests.specs.Asks.{ask_kind, AskFits}
use Rattle.stream_requests.specs.Results.{IsPipelineKind}
use Rattle.stream_requests.specs.declared.asks.Ask.{Ask}
use Rattle.stream_requests.specs.declared.asks.Ask.TheVariants as ask
use Rattle.http_wire.specs.declared.asks.HttpAsk.{HttpAsk}
use Rattle.http_wire.specs.declared.outs.HttpAnswer.{HttpAnswer}
use Rattle.http_wire.specs.declared.outs.Outs.{Outs}
use Rattle.pipeline_body.specs.Bodies.{IsBody, NoBytesHaveTwoBodyReadings}
use Rattle.pipeline_body.specs.Exchanges.{EachHasItsResult, AsksOfBodiesFit, IsAsked, route_answer, begins, asked_in, is_over}
use Rattle.pipeline_body.specs.declared.bodies.PipelineBody.{PipelineBody}
use Rattle.pipeline_body.specs.declared.exchange.Asked.{Asked}
use Rattle.pipeline_body.specs.declared.exchange.Asked.TheVariants.{Answered, Pipeline}
use Rattle.engine_core.specs.Draws.{Draw, words, failed}
use Rattle.engine_core.specs.declared.entries.Entry.{Entry}
use Rattle.stream_task.specs.Laws.{TaskMeans, ClosesAlone}
use Rattle.stream_task.specs.Polls.{is_waiting}
use Rattle.hrana_hub.specs.declared.events.Event.{Event}
use Rattle.hrana_hub.specs.declared.events.Event.TheVariants.{Opened, Text, Binary, Exchange, Lost, Moment, Poll, Stop}
use Rattle.hrana_hub.specs.declared.limits.TheConstants.{MAX_SESSIONS}
use Rattle.hrana_hub.specs.declared.sessions.Running.{Running as Runs}
use Rattle.hrana_hub.specs.declared.sessions.Session.{Session}
use Rattle.hrana_hub.specs.declared.sessions.Session.TheVariants.{Resting, Running}
use Rattle.hrana_hub.specs.Maps.{at, put}
use Rattle.hrana_hub.specs.State.{Conn, Stream, State}
use Rattle.hrana_hub.specs.Arrivals.{accepts, nothing}
use Rattle.hrana_hub.specs.Askers.{asks_these}
use Rattle.hrana_hub.specs.Polled.{Polled, PollFell, answer, reply_in, is_over as closes, polled, passed, streams_left, dropped}
use Rattle.hrana_hub.specs.Exchanges.{Awaits, fresh_session, with_session, in_session, next_baton, sessions_in, works_of, starts_if, opens_unless, Does, GoesBy, GoesDrawn, GoesAsked, IsHeard}
use Rattle.hrana_hub.specs.Run.{Run, start, more}
use Rattle.hrana_hub.specs.Step.{ComesOf, Falls, Happens, Goes, Heard, PolledBy, PolledAt, PollFellOn, PollFellBy, PollFellAt, LostAt, ExchangeFell, ExchangeGoes, is_short, counted}
use Rattle.hrana_hub.specs.Stories.{BeganAt, AreVersions}
use Rattle.hrana_hub.specs.Talks.{Talk, no_talk, then, Accepts, IsBy, answers_in, PassesBy, Says, polls, takes, passes, IsTalk, HasTold, AnswersInOrder}
use Rattle.hrana_hub.proofs.BatonRuns.{Held, counted_held, run_held, one_stream, counted_accepts}
use Rattle.hrana_hub.proofs.Changes.{Change, step_changes}
use Rattle.hrana_hub.proofs.Counted.{Counts, counted_counts, run_counts}
use Rattle.hrana_hub.proofs.DeadBatons.{one_body, no_unreadable}
use Rattle.hrana_hub.proofs.EntryLemmas.{at_put, at_put_other, at_without}
use Rattle.hrana_hub.proofs.Kept.{counted_kept, run_kept}
use Rattle.hrana_hub.proofs.MapLemmas.{none_some, some_one, at_placed, at_placed_other}
use Rattle.hrana_hub.proofs.MoveSteps.{either}
use Rattle.hrana_hub.proofs.Moving.{handed}
use Rattle.hrana_hub.proofs.Standing.{Kept}
use Rattle.hrana_hub.proofs.Talking.{Rests, Owns, owns_tells, rests_front, under_tells, tells_front, none_front, begins_under, begins_rests, fresh_rests}
use Rattle.hrana_hub.proofs.TalkPolls.{session_goes, no_memory}
use Rattle.hrana_hub.proofs.TalkSteps.{Follows, Goes', lets_same, passing, quiet_poll, free_poll, aside_goes, lost_goes, poll_passes}

-- ---- what a body asks is work for a stream

abbrev IsFit : Ask → Type 0
IsFit a = IsPipelineKind (ask_kind a) × AskFits a

works_count : (asks : List Ask) → All IsFit asks → length (works_of asks) ≡ length asks
works_count [] fits = refl
works_count (a ∷ asks) fits = one a (All-head IsFit a asks fits) (works_count asks (All-tail IsFit a asks fits))
  where
    one : (a : Ask) → IsFit a → length (works_of asks) ≡ length asks → length (works_of (a ∷ asks)) ≡ length (a ∷ asks)
    one (ask.Execute stmt) h long = omega (arith, long)
    one (ask.Batch batch) h long = omega (arith, long)
    one (ask.Sequence named) h long = omega (arith, long)
    one (ask.Cursor batch) h long = absurd h.0
    one (ask.Fetch count) h long = absurd h.0
    one ask.CloseCursor h long = absurd h.0
    one ask.GetAutocommit h long = omega (arith, long)
    one (ask.StoreSql id sql) h long = omega (arith, long)
    one (ask.CloseSql id) h long = omega (arith, long)
    one ask.Close h long = omega (arith, long)

-- ---- an exchange that comes

module _ (bodies : NoBytesHaveTwoBodyReadings) (each : EachHasItsResult) (fit : AsksOfBodiesFit) (token : Option (List ℕ)) (shared : Bool) (had : ℕ → ℕ) (n : ℕ) (t : Talk) (s : State) (h : Follows shared had n t s) (draws : List Draw) (added : List Entry) (out : Outs) (new : State)
    (kept : Kept s) (held : Held s) (c : ℕ) (ask : HttpAsk) where
  abbrev Came : Type 0
  Came = Goes' token shared had n t s (Exchange c ask) draws added out new

  -- it is accepted for no stream of this number
  abbrev Refused : Type 0
  Refused = PassesBy token s draws n (Exchange c ask)

  -- nothing changes
  rested : Refused → new ≡ s → Came
  rested refused left = passing token shared had n t s h draws added out new (Exchange c ask) refused (omega (arith, ap (λ (u : State). u.opened) left)) (lets_same n s new (ap (λ (u : State). at n u.streams) left))

  taken : (body : PipelineBody) → Accepts token s ask draws n body → (answers : List Outs) → answers_in out out.out ≡ answers → Follows shared had n (then t (record { accepted = record { conn = c; asks = body.asks; close = ask.close } ∷ []; used = []; answers = answers })) new → Came
  taken body accepts answers there f = record {
    now = record { accepted = record { conn = c; asks = body.asks; close = ask.close } ∷ []; used = []; answers = answers_in out out.out };
    says = takes c ask body accepts;
    follows = subst (λ l. Follows shared had n (then t (record { accepted = record { conn = c; asks = body.asks; close = ask.close } ∷ []; used = []; answers = l })) new) (sym there) f;
  }

  -- where a stream of exchanges waits for it, in the state or where it has come
  module _ (body : PipelineBody) (drawn : List ℕ) (m : ℕ) (x : Stream) (u : State) (known : at m u.streams ≡ Some x) (opened : s.opened ≤ u.opened) (given : m ≤ u.opened) (others : (k : ℕ) → k ≢ m → at k u.streams ≡ at k s.streams)
      (is_body : IsBody ask.body body) (accepts : Accepts token s ask draws m body) where
    abbrev e : Runs
    e = record { conn = c; words = drawn; close = ask.close; exchange = begins body.asks }

    by_other : n ≢ m → Refused
    by_other other body' a = other (one_stream s held body.baton n m (subst (λ (b : PipelineBody). IsBy s n b.baton) (one_body bodies ask.body body' body a.asked.1 is_body) a.by) accepts.by)

    -- the streams but this are as before
    apart : (y : Stream) → n ≢ m → new.streams ≡ put m y u.streams → u.opened ≤ new.opened → Came
    apart y other ss later = passing token shared had n t s h draws added out new (Exchange c ask) (by_other other) (omega (arith, opened, later)) (lets_same n s new same)
      where
        same : at n new.streams ≡ at n s.streams
        same = ap (λ fs. at n fs) ss ∙ at_put_other m n x y u.streams known other ∙ others n other

    module _ (own : n ≡ m) (rests : Rests shared had t x) where
      here : Accepts token s ask draws n body
      here = subst (λ k. Accepts token s ask draws k body) (sym own) accepts

      stands : (y : Stream) → new.streams ≡ put m y u.streams → at n new.streams ≡ Some y
      stands y ss = ap (λ fs. at n fs) ss ∙ ap (λ k. at k (put m y u.streams)) own ∙ at_put m x y u.streams known

      followed : (y : Stream) → new.streams ≡ put m y u.streams → u.opened ≤ new.opened → (v : Talk) → HasTold shared had v → Owns shared had y.session v y → Follows shared had n v new
      followed y ss later v front owns = record {
        fresh = λ l. absurd (omega (arith, l, own, given, later));
        front = front;
        own = λ z f. subst (λ w. Owns shared had w.session v w) (some_one (sym (stands y ss) ∙ f)) owns;
      }

      -- it is answered at once
      over_here : is_over e.exchange ≡ true → Does (starts_if true m x (asked_in body.asks) e u) out new → Came
      over_here over d =
          let y : Stream = in_session (handed drawn u.issued u.now) (passed u.now x) in
          let ss : new.streams ≡ put m y u.streams = ap (λ (v : State). v.streams) d.left in
          let now = begins_rests shared had each t x y e c body.asks ask.close (Some (next_baton drawn u)) out rests refl refl refl over d.given refl refl in
          taken body here (out ∷ []) (ap (λ (o : Outs). answers_in out o.out) d.given)
          (followed y ss (omega (arith, ap (λ (v : State). v.opened) d.left)) _ (rests_front shared had _ y now) now)

      -- it runs
      runs_here : Does (starts_if false m x (asked_in body.asks) e u) out new → Came
      runs_here d =
          let y : Stream = in_session (Running e) (asks_these (works_of (asked_in body.asks)) x) in
          let ss : new.streams ≡ put m y u.streams = ap (λ (v : State). v.streams) d.left in
          let now = begins_under shared had t x y e c body.asks ask.close rests refl refl refl (works_count (asked_in body.asks) (fit ask.body body is_body)) refl refl in
          taken body here [] (ap (λ (o : Outs). answers_in out o.out) d.given)
          (followed y ss (omega (arith, ap (λ (v : State). v.opened) d.left)) _ (tells_front shared had _ y (under_tells shared had _ y e refl now)) now)

      starts_here : (over : Bool) → is_over e.exchange ≡ over → Does (starts_if over m x (asked_in body.asks) e u) out new → Came
      starts_here true over d = over_here over d
      starts_here false over d = runs_here d

    starts_apart : (over : Bool) → n ≢ m → Does (starts_if over m x (asked_in body.asks) e u) out new → Came
    starts_apart true other d = apart (in_session (handed drawn u.issued u.now) (passed u.now x)) other (ap (λ (v : State). v.streams) d.left) (omega (arith, ap (λ (v : State). v.opened) d.left))
    starts_apart false other d = apart (in_session (Running e) (asks_these (works_of (asked_in body.asks)) x)) other (ap (λ (v : State). v.streams) d.left) (omega (arith, ap (λ (v : State). v.opened) d.left))

    starts : (n ≡ m → Rests shared had t x) → Does (starts_if (is_over e.exchange) m x (asked_in body.asks) e u) out new → Came
    starts rests d = elim (cases_eq n m) [ inl own ↦ starts_here own (rests own) (is_over e.exchange) refl d | inr other ↦ starts_apart (is_over e.exchange) other d ]

  module _ (body : PipelineBody) (drawn : List ℕ) (is_asked : IsAsked (accepts token ask.bearer) ask (Pipeline body)) (routed : route_answer ask ≡ None) (one : draws ≡ words drawn ∷ []) where
    accepted_by : (m : ℕ) → IsBy s m body.baton → Accepts token s ask draws m body
    accepted_by m by = record { routed = routed; asked = is_asked; drawn = drawn; one = one; by = by }

    -- no other body than this is read
    for_none : ((m : ℕ) → IsBy s m body.baton → ⊥) → Refused
    for_none none body' a = none n (subst (λ (b : PipelineBody). IsBy s n b.baton) (one_body bodies ask.body body' body a.asked.1 is_asked.1) a.by)

    opens : (full : Bool) → nat_le MAX_SESSIONS (sessions_in s.streams) ≡ full → body.baton ≡ None → Does (opens_unless full (asked_in body.asks) (record { conn = c; words = drawn; close = ask.close; exchange = begins body.asks }) s) out new → Came
    opens true are none d = rested (for_none (λ m by. (let free = subst (IsBy s m) none by in let many = leb-true MAX_SESSIONS (sessions_in s.streams) are in omega (arith, free.1, many)))) d.left
    opens false are none d =
        let m = s.opened + 1 in
        let x = fresh_session s.now c m in
        starts body drawn m x (with_session c s) (at_placed m x s.streams) (omega arith) (omega arith) (λ k other. at_placed_other m k x s.streams other) is_asked.1 (accepted_by m (subst (IsBy s m) (sym none) (refl, leb-false MAX_SESSIONS (sessions_in s.streams) are)))
        (λ own. subst (λ v. Rests shared had v x) (sym (h.fresh (omega (arith, own)))) (fresh_rests shared had x refl refl)) d

    resting : (m : ℕ) (x : Stream) (text : List ℕ) (w : Awaits s text m x) → n ≡ m → Rests shared had t x
    resting m x text w own = subst (λ o. Owns shared had o t x) w.rests (h.own x (ap (λ k. at k s.streams) own ∙ w.known))

    by_baton : (baton : Option (List ℕ)) → body.baton ≡ baton → GoesBy baton (asked_in body.asks) (record { conn = c; words = drawn; close = ask.close; exchange = begins body.asks }) s out new → Came
    by_baton None is d = opens (nat_le MAX_SESSIONS (sessions_in s.streams)) refl is d
    by_baton (Some text) is (inl g) = starts body drawn g.stream g.x s g.awaits.known (omega arith) (given g.stream g.x g.awaits.known) (λ k other. refl) is_asked.1 (accepted_by g.stream (subst (IsBy s g.stream) (sym is) (g.x, g.awaits)))
        (resting g.stream g.x text g.awaits) g.does
      where
        given : (m : ℕ) (x : Stream) → at m s.streams ≡ Some x → m ≤ s.opened
        given m x e = elim (cases_order m s.opened) [
          | inl same ↦ omega (arith, same)
          | inr order ↦ elim order [ inl less ↦ omega (arith, less) | inr beyond ↦ absurd (none_some (sym (kept.above m beyond) ∙ e)) ]
        ]
    by_baton (Some text) is (inr dead) = rested (for_none (λ m by. (let live = subst (IsBy s m) is by in dead.none m live.0 live.1))) dead.does.left

  by_draw : (draw : Draw) (body : PipelineBody) → IsAsked (accepts token ask.bearer) ask (Pipeline body) → route_answer ask ≡ None → draws ≡ draw ∷ [] → GoesDrawn draw body c ask.close s out new → Came
  by_draw failed body is_asked routed one d = rested (λ other a. (let no : failed ∷ [] ≡ words a.drawn ∷ [] = sym one ∙ a.one in absurd (cc))) d.left
  by_draw (words drawn) body is_asked routed one g = by_baton body drawn is_asked routed one body.baton refl g

  by_asked : (a : Asked) → IsAsked (accepts token ask.bearer) ask a → route_answer ask ≡ None → GoesAsked a c ask.close s draws out new → Came
  by_asked (Answered reply) (inl is_asked) routed g = rested (λ other a. absurd (true≢false (sym a.asked.0 ∙ is_asked.0))) g.1.left
  by_asked (Answered reply) (inr is_asked) routed g = rested (λ other a. no_unreadable bodies ask.body other a.asked.1 is_asked.1) g.1.left
  by_asked (Pipeline body) is_asked routed g = by_draw g.0 body is_asked routed g.1 g.2

  exchange_goes : (o : Option HttpAnswer) → route_answer ask ≡ o → ExchangeGoes o token s c ask draws out new → Came
  exchange_goes (Some reply) routed g = rested (λ other a. none_some (sym a.routed ∙ routed)) g.1.left
  exchange_goes None routed g = either (is_short out) (λ (f : ExchangeFell s c ask draws out new). rested (λ other a. (let no : [] ≡ words a.drawn ∷ [] = sym f.0 ∙ a.one in absurd (cc))) f.2) (λ (k : IsHeard token s c ask draws out new). by_asked k.asked k.is_asked routed k.goes) g

-- ---- a poll

module _ (law : TaskMeans) (each : EachHasItsResult) (token : Option (List ℕ)) (shared : Bool) (had : ℕ → ℕ) (n : ℕ) (t : Talk) (s : State) (h : Follows shared had n t s) (draws : List Draw) (added : List Entry) (out : Outs) (new : State) (kept : Kept s)
    (stream : StreamNo) (own : stream.0 ≡ n) (began : All (BeganAt had s.version) added) where
  abbrev Went : Type 0
  Went = Goes' token shared had n t s (Poll stream) draws added out new

  quiet_goes : (g : Goes (record { given = nothing; state = s }) added out new) → Went
  quiet_goes g = quiet_poll token shared had n t s h draws added out new stream own g.none g.given g.left

  silent : (conn : ℕ) (ids : List ℤ) (o : _) → out ≡ answer conn ids o → answers_in out out.out ≡ []
  silent conn ids None e = ap (λ (w : Outs). answers_in out w.out) e
  silent conn ids (Some reply) e = ap (λ (w : Outs). answers_in out w.out) e

  module _ (x : Stream) (known : at n s.streams ≡ Some x) where
    there : at stream.0 s.streams ≡ Some x
    there = ap (λ k. at k s.streams) own ∙ known

    left_free : (over : Bool) (y : Stream) → y.session ≡ None → (z : Stream) → at n (streams_left over stream.0 y s.streams) ≡ Some z → z.session ≡ None
    left_free true y none z e = absurd (none_some (sym (at_without stream.0 s.streams kept.streams_rise) ∙ ap (λ k. at k (streams_left true stream.0 y s.streams)) own ∙ e))
    left_free false y none z e = ap (λ (w : Stream). w.session) (sym (some_one (sym (at_put stream.0 x y s.streams there) ∙ ap (λ k. at k (put stream.0 y s.streams)) own ∙ e))) ∙ none

    polled_goes : (k : Conn) → x.session ≡ None → Polled shared s stream.0 x.conn x k added out new → Went
    polled_goes k none p = free_poll token shared had n t s h draws added out new stream own kept x known none (omega (arith, ap (λ (u : State). u.opened) p.left))
        (λ z e. left_free (closes (reply_in p.result) p.task) (polled s.now (reply_in p.result) p.task x) none z (ap (λ (u : State). at n u.streams) (sym p.left) ∙ e)) (silent x.conn x.waits (reply_in p.result) p.given)

    fell_goes : (k : Conn) → x.session ≡ None → PollFell shared s stream.0 x.conn x k added out new → Went
    fell_goes k none p = free_poll token shared had n t s h draws added out new stream own kept x known none (omega (arith, ap (λ (u : State). u.opened) p.left))
        (λ z e. left_free false (dropped p.task x) none z (ap (λ (u : State). at n u.streams) (sym p.left) ∙ e)) (ap (λ (w : Outs). answers_in out w.out) p.given)

    heard_goes : (o : Option Conn) → x.session ≡ None → Heard s o (λ k. Polled shared s stream.0 x.conn x k added out new) added out new → Went
    heard_goes None none g = quiet_goes g
    heard_goes (Some k) none g = either k.closing quiet_goes (polled_goes k none) g

    by_session : (o : Option Session) → x.session ≡ o → is_waiting x.task.asks ≡ true → PolledBy o shared s stream.0 x added out new → Went
    by_session None is waits g = heard_goes (at x.conn s.conns) is g
    by_session (Some (Resting baton)) is waits g = quiet_goes g
    by_session (Some (Running e)) is waits g = session_goes law each token shared had n t s h draws added out new stream own kept x known e is waits began g

    fell_on : (o : Option Conn) → x.session ≡ None → PollFellOn shared s stream.0 x o added out new → Went
    fell_on None none g = absurd g
    fell_on (Some k) none g = fell_goes k none g.1

    fell_by : (o : Option Session) → x.session ≡ o → PollFellBy o shared s stream.0 x added out new → Went
    fell_by None is g = fell_on (at x.conn s.conns) is g
    fell_by (Some (Resting baton)) is g = absurd g
    fell_by (Some (Running e)) is g = no_memory law each token shared had n t s h draws added out new stream own kept x known e is g

    waiting_goes : (waits : Bool) → is_waiting x.task.asks ≡ waits → MatchBool waits (PolledBy x.session shared s stream.0 x added out new) (Goes (record { given = nothing; state = s }) added out new) → Went
    waiting_goes true waits g = by_session x.session refl waits g
    waiting_goes false waits g = quiet_goes g

  poll_at : (o : Option Stream) → at n s.streams ≡ o → PolledAt shared s stream.0 o added out new → Went
  poll_at None e g = quiet_goes g
  poll_at (Some x) e g = waiting_goes x e (is_waiting x.task.asks) refl g

  fell_at : (o : Option Stream) → at n s.streams ≡ o → PollFellAt shared s stream.0 o added out new → Went
  fell_at None e g = absurd g
  fell_at (Some x) e g = fell_by x e x.session refl g.1

  own_goes : MatchBool (is_short out) (PollFellAt shared s stream.0 (at stream.0 s.streams) added out new) (PolledAt shared s stream.0 (at stream.0 s.streams) added out new) → Went
  own_goes g = (let same : at n s.streams ≡ at stream.0 s.streams = ap (λ k. at k s.streams) (sym own) in either (is_short out) (fell_at (at stream.0 s.streams) same) (poll_at (at stream.0 s.streams) same) g)

-- ---- every event

module _ (law : TaskMeans) (bodies : NoBytesHaveTwoBodyReadings) (each : EachHasItsResult) (fit : AsksOfBodiesFit) (token : Option (List ℕ)) (shared : Bool) (had : ℕ → ℕ) (n : ℕ) (t : Talk) (s : State) (h : Follows shared had n t s) (draws : List Draw) (added : List Entry) (out : Outs) (new : State)
    (kept : Kept s) (held : Held s) (counts : Counts s) (began : All (BeganAt had s.version) added) where
  abbrev Goes'' : Event → Type 0
  Goes'' event = Goes' token shared had n t s event draws added out new

  -- want of memory, and not, of a loss
  lost_either : (c : ℕ) (short : Bool) → MatchBool short (Falls shared s (Lost c) added out new) (Happens token shared s (Lost c) added out new) → LostAt s c (at c s.conns) added out new
  lost_either c true g = absurd g
  lost_either c false g = g

  event_goes : (event : Event) → Change shared s added out new event → ComesOf token shared s event draws added out new → Goes'' event
  event_goes (Exchange c ask) change g = exchange_goes bodies each fit token shared had n t s h draws added out new kept held c ask (route_answer ask) refl g.1
  event_goes (Opened c) change g = aside_goes token shared had n t s h draws added out new kept counts (Opened c) tt tt change
  event_goes (Text c text) change g = aside_goes token shared had n t s h draws added out new kept counts (Text c text) tt tt change
  event_goes (Binary c) change g = aside_goes token shared had n t s h draws added out new kept counts (Binary c) tt tt change
  event_goes (Lost c) change g = lost_goes token shared had n t s h draws added out new kept c (at c s.conns) (lost_either c (is_short out) g.1)
  event_goes (Moment moment) change g = aside_goes token shared had n t s h draws added out new kept counts (Moment moment) tt tt change
  event_goes Stop change g = aside_goes token shared had n t s h draws added out new kept counts Stop tt tt change
  event_goes (Poll stream) change g = elim (cases_eq stream.0 n) [
    | inl own ↦ own_goes law each token shared had n t s h draws added out new kept stream own began g.1
    | inr other ↦ poll_passes token shared had n t s h draws added out new kept stream other change
  ]

-- ---- every run

counted_follows : (shared : Bool) (had : ℕ → ℕ) (n : ℕ) (t : Talk) (s : State) → Follows shared had n t s → Follows shared had n t (counted s)
counted_follows shared had n t s h = record { fresh = h.fresh; front = h.front; own = h.own }

-- that the event was counted makes no odds
uncounted_by : (s : State) (n : ℕ) (baton : Option (List ℕ)) → IsBy (counted s) n baton → IsBy s n baton
uncounted_by s n None h = h
uncounted_by s n (Some text) h = (h.0, record { baton = h.1.baton; known = h.1.known; rests = h.1.rests; text_is = h.1.text_is; young = h.1.young })

uncounted : (token : Option (List ℕ)) (s : State) (ask : HttpAsk) (draws : List Draw) (n : ℕ) (body : PipelineBody) → Accepts token (counted s) ask draws n body → Accepts token s ask draws n body
uncounted token s ask draws n body a = record { routed = a.routed; asked = a.asked; drawn = a.drawn; one = a.one; by = uncounted_by s n body.baton a.by }

counted_passes : (token : Option (List ℕ)) (s : State) (draws : List Draw) (n : ℕ) (event : Event) → PassesBy token (counted s) draws n event → PassesBy token s draws n event
counted_passes token s draws n (Opened c) h = h
counted_passes token s draws n (Text c text) h = h
counted_passes token s draws n (Binary c) h = h
counted_passes token s draws n (Exchange c ask) h = λ body a. h body (counted_accepts token s ask draws n body a)
counted_passes token s draws n (Lost c) h = h
counted_passes token s draws n (Moment moment) h = h
counted_passes token s draws n (Poll stream) h = h
counted_passes token s draws n Stop h = h

counted_says : {event : Event} {u : Talk} (token : Option (List ℕ)) (n : ℕ) (draws : List Draw) (added : List Entry) (out : Outs) (s : State) → Says token n draws added out (counted s) event u → Says token n draws added out s event u
counted_says token n draws added out s (polls stream own) = polls stream own
counted_says token n draws added out s (takes c ask body a) = takes c ask body (uncounted token s ask draws n body a)
counted_says token n draws added out s (passes event may) = passes event (counted_passes token s draws n event may)

module _ (law : TaskMeans) (bodies : NoBytesHaveTwoBodyReadings) (each : EachHasItsResult) (fit : AsksOfBodiesFit) (closes_alone : ClosesAlone) where
  record HasFollowed {token : Option (List ℕ)} {shared : Bool} {events : List Event} {drawn : List (List Draw)} {entries : List (List Entry)} {outs : List Outs} {s : State} (n : ℕ) (had : ℕ → ℕ) (run : Run token shared events drawn entries outs s) : Type 0 where
    talk : Talk
    is_talk : IsTalk n run talk
    follows : Follows shared had n talk s

  run_talks : {token : Option (List ℕ)} {shared : Bool} {events : List Event} {drawn : List (List Draw)} {entries : List (List Entry)} {outs : List Outs} {s : State} (run : Run token shared events drawn entries outs s) (had : ℕ → ℕ) → AreVersions had run → (n : ℕ) → HasFollowed n had run
  run_talks {shared} start had versions n = record { talk = no_talk; is_talk = refl; follows = record { fresh = λ l. refl; front = none_front shared had no_talk refl refl; own = λ x e. absurd (none_some e) } }
  run_talks {token} {shared} (more {s = before} run event draws added out new fits_now step) had versions n =
      let was = run_talks run had versions.0 n in
      let goes = event_goes law bodies each fit token shared had n was.talk (counted before) (counted_follows shared had n was.talk before was.follows) draws added out new (counted_kept before (run_kept run)) (counted_held before (run_held run)) (counted_counts before (run_counts closes_alone run)) versions.1 event
      (step_changes token shared before event draws added out new fits_now step) step in
      record { talk = then was.talk goes.now; is_talk = (was.talk, goes.now, was.is_talk, counted_says token n draws added out before goes.says, refl); follows = goes.follows }

  pub answers_in_order : AnswersInOrder
  answers_in_order token shared events drawn entries outs s run had versions n =
      let h = run_talks run had versions n in
      record { talk = h.talk; is_talk = h.is_talk; in_order = record { whole = λ x e on. owns_tells shared had x.session h.talk x refl on (h.follows.own x e); front = h.follows.front } }
