-- Each event is counted, and only `Stop` stops.
use Rattle.std.proofs.Common.{◌≡◌, ◌+◌, ℕ, Bool, true, false, cond, List, length, Option, None, Some, Result, Ok, Err, refl, sym, ap, subst, inl, inr}
use Rattle.std.specs.Prelude.{MatchBool, nat_lt, nat_le, ℤ}
use Rattle.hrana_value.specs.declared.failures.Decline.{Decline}
use Rattle.stream_requests.specs.declared.asks.Ask.{Ask}
use Rattle.stream_requests.specs.declared.asks.Ask.TheVariants as ask
use Rattle.stream_task.specs.Checks.{stored_text}
use Rattle.stream_requests.specs.declared.replies.Reply.{Reply}
use Rattle.stream_task.specs.Polls.{is_waiting}
use Rattle.stream_task.specs.Session.{is_shut}
use Rattle.ws_messages.specs.declared.messages.ClientMsg.{ClientMsg}
use Rattle.ws_messages.specs.declared.messages.ClientMsg.TheVariants.{Hello, Request}
use Rattle.ws_messages.specs.declared.messages.MsgFail.{MsgFail}
use Rattle.ws_messages.specs.declared.messages.MsgFail.TheVariants.{Declined}
use Rattle.ws_messages.specs.declared.messages.WsRequest.{WsRequest}
use Rattle.ws_messages.specs.declared.messages.WsRequest.TheVariants as request
use Rattle.http_wire.specs.declared.limits.TheConstants.{MAX_BODY_BYTES}
use Rattle.http_wire.specs.declared.asks.HttpAsk.{HttpAsk}
use Rattle.http_wire.specs.declared.outs.HttpAnswer.{HttpAnswer}
use Rattle.http_wire.specs.declared.outs.Outs.{Outs}
use Rattle.pipeline_body.specs.Exchanges.{route_answer, is_over, begins, asked_in}
use Rattle.pipeline_body.specs.declared.bodies.PipelineBody.{PipelineBody}
use Rattle.pipeline_body.specs.declared.exchange.Asked.{Asked}
use Rattle.pipeline_body.specs.declared.exchange.Asked.TheVariants.{Answered, Pipeline}
use Rattle.engine_core.specs.Draws.{Draw, words, failed}
use Rattle.engine_core.specs.declared.entries.Entry.{Entry}
use Rattle.engine_core.specs.declared.entries.Undo.TheVariants as undo
use Rattle.hrana_hub.specs.declared.events.Event.{Event}
use Rattle.hrana_hub.specs.declared.events.Event.TheVariants.{Opened, Text, Binary, Exchange, Lost, Moment, Poll, Stop}
use Rattle.hrana_hub.specs.declared.limits.TheConstants.{MAX_STREAMS, MAX_SESSIONS}
use Rattle.hrana_hub.specs.declared.sessions.Running.{Running as Exchanged}
use Rattle.hrana_hub.specs.declared.sessions.Session.{Session}
use Rattle.hrana_hub.specs.declared.sessions.Session.TheVariants.{Resting, Running}
use Rattle.stream_task.specs.Texts.{is_full}
use Rattle.hrana_hub.specs.Arrivals.{Went, quiet, closing, accepts, on_hello, opens_unless, opens, asks, asks_at, queues, unopened, stores_unless, stores, on_request, on_numbered, on_answer, nothing}
use Rattle.hrana_hub.specs.Exchanges.{starts_if, proceeds_if, concludes, replies_to, with_reply, with_session, fresh_session, sessions_in, opens_unless as session_opens, Does, GoesBy, GoesDrawn, GoesAsked, SessionPolled, SessionFell, IsHeard}
use Rattle.hrana_hub.specs.Maps.{at, id_at}
use Rattle.hrana_hub.specs.Polled.{reply_in, with_entry, with_task}
use Rattle.hrana_hub.specs.Moments.{expiries, at_moment}
use Rattle.hrana_hub.specs.Ended.{all_ends, at_its_end}
use Rattle.hrana_hub.specs.State.{Conn, Stream, State}
use Rattle.hrana_hub.specs.Step.{Goes, ReadText, OpenText, Heard, PolledBy, PolledAt, ExchangeLost, LostAt, Happens, TextFell, PollFellOn, PollFellBy, PollFellAt, Falls, ExchangeFell, ExchangeGoes, is_short, ComesOf, Step}
use Rattle.hrana_hub.specs.Texts.{put_ask}

pub record SameCount (s new : State) : Type 0 where
  pub events : new.events ≡ s.events
  pub stopped : new.stopped ≡ s.stopped

either : {A B C : Type 0} (b : Bool) → (A → C) → (B → C) → MatchBool b A B → C
either true f g h = f h
either false f g h = g h

-- ---- what arrives

hello : (b : Bool) (c : ℕ) (k : Conn) (s : State) → SameCount s (on_hello b c k s).state
hello true c k s = record { events = refl; stopped = refl }
hello false c k s = record { events = refl; stopped = refl }

opened_unless : (b : Bool) (c : ℕ) (k : Conn) (id stream : ℤ) (s : State) → SameCount s (opens_unless b c k id stream s).state
opened_unless true c k id stream s = record { events = refl; stopped = refl }
opened_unless false c k id stream s = record { events = refl; stopped = refl }

opened : (o : Option ℕ) (c : ℕ) (k : Conn) (id stream : ℤ) (s : State) → SameCount s (opens o c k id stream s).state
opened (Some n) c k id stream s = record { events = refl; stopped = refl }
opened None c k id stream s = opened_unless (nat_le MAX_STREAMS (length k.streams)) c k id stream s

not_open : (c : ℕ) (id : ℤ) (what : Ask) (s : State) → SameCount s (unopened c id what s).state
not_open c id ask.Close s = record { events = refl; stopped = refl }
not_open c id what s = record { events = refl; stopped = refl }

queued : (o : Option Ask) (c : ℕ) (k : Conn) (stream : ℤ) (n : ℕ) (x : Stream) (id : ℤ) (s : State) → SameCount s (queues o c k stream n x id s).state
queued None c k stream n x id s = record { events = refl; stopped = refl }
queued (Some what) c k stream n x id s = record { events = refl; stopped = refl }

asked_at : (n : ℕ) (o : Option Stream) (c : ℕ) (k : Conn) (stream id : ℤ) (what : Ask) (s : State) → SameCount s (asks_at n o c k stream id what s).state
asked_at n None c k stream id what s = not_open c id what s
asked_at n (Some x) c k stream id what s = queued (put_ask k.texts what) c k stream n x id s

asked : (o : Option ℕ) (c : ℕ) (k : Conn) (stream id : ℤ) (what : Ask) (s : State) → SameCount s (asks o c k stream id what s).state
asked None c k stream id what s = not_open c id what s
asked (Some n) c k stream id what s = asked_at n (at n s.streams) c k stream id what s

stored_unless : (b : Bool) (c : ℕ) (k : Conn) (id number : ℤ) (sql : List ℕ) (s : State) → SameCount s (stores_unless b c k id number sql s).state
stored_unless true c k id number sql s = record { events = refl; stopped = refl }
stored_unless false c k id number sql s = record { events = refl; stopped = refl }

stored : (o : Option (List ℕ)) (c : ℕ) (k : Conn) (id number : ℤ) (sql : List ℕ) (s : State) → SameCount s (stores o c k id number sql s).state
stored (Some text) c k id number sql s = record { events = refl; stopped = refl }
stored None c k id number sql s = stored_unless (is_full k.texts sql) c k id number sql s

requested : (c : ℕ) (k : Conn) (id : ℤ) (r : WsRequest) (s : State) → SameCount s (on_request c k id r s).state
requested c k id (request.OpenStream stream) s = opened (id_at stream k.ids) c k id stream s
requested c k id (request.OnStream stream what) s = asked (id_at stream k.ids) c k stream id what s
requested c k id (request.StoreSql number sql) s = stored (stored_text number k.texts) c k id number sql s
requested c k id other s = record { events = refl; stopped = refl }

numbered : (c : ℕ) (k : Conn) (id : ℤ) (r : Result WsRequest Decline) (s : State) → SameCount s (on_numbered c k id r s).state
numbered c k id (Ok r) s = requested c k id r s
numbered c k id (Err why) s = record { events = refl; stopped = refl }

greeted : (b : Bool) (c : ℕ) (k : Conn) (went : Went) (s : State) → SameCount s went.state → SameCount s (cond b went (closing c k None 1002 s)).state
greeted true c k went s h = h
greeted false c k went s h = record { events = refl; stopped = refl }

answered : (token : Option (List ℕ)) (c : ℕ) (k : Conn) (r : Result ClientMsg MsgFail) (s : State) → SameCount s (on_answer token c k r s).state
answered token c k (Ok (Hello jwt)) s = hello (accepts token jwt) c k s
answered token c k (Ok (Request id r)) s = greeted k.greeted c k (on_numbered c k id (Ok r) s) s (numbered c k id (Ok r) s)
answered token c k (Err (Declined id why)) s = greeted k.greeted c k (on_numbered c k id (Err why) s) s (numbered c k id (Err why) s)
answered token c k (Err violation) s = record { events = refl; stopped = refl }

-- ---- exchanges

concluded : (b : Bool) (n : ℕ) (x : Stream) (e : Exchanged) (s : State) → SameCount s (concludes b n x e s).state
concluded true n x e s = record { events = refl; stopped = refl }
concluded false n x e s = record { events = refl; stopped = refl }

proceeded : (b : Bool) (n : ℕ) (x : Stream) (e : Exchanged) (s : State) → SameCount s (proceeds_if b n x e s).state
proceeded true n x e s = concluded (is_shut x.task.session.state) n x e s
proceeded false n x e s = record { events = refl; stopped = refl }

replied : (reply : Option Reply) (n : ℕ) (x : Stream) (e : Exchanged) (s : State) → SameCount s (replies_to reply n x e s).state
replied None n x e s = record { events = refl; stopped = refl }
replied (Some reply) n x e s = proceeded (is_over (with_reply reply e).exchange) n x (with_reply reply e) s

started : (b : Bool) (n : ℕ) (x : Stream) (asks : List Ask) (e : Exchanged) (s : State) → SameCount s (starts_if b n x asks e s).state
started true n x asks e s = record { events = refl; stopped = refl }
started false n x asks e s = record { events = refl; stopped = refl }

session_opened : (b : Bool) (asks : List Ask) (e : Exchanged) (s : State) → SameCount s (session_opens b asks e s).state
session_opened true asks e s = record { events = refl; stopped = refl }
session_opened false asks e s = (let n = s.opened + 1 in let h = started (is_over e.exchange) n (fresh_session s.now e.conn n) asks e (with_session e.conn s) in record { events = h.events; stopped = h.stopped })

-- ---- an event

-- the event isn't `Stop`
abbrev pub GoesOn : Event → Type 0
GoesOn Stop = ⊥
GoesOn other = Unit {0}

module _ (token : Option (List ℕ)) (shared : Bool) (s new : State) (added : List Entry) (out : Outs) where
  left_as : (t : State) → SameCount s t → new ≡ t → SameCount s new
  left_as t h e = subst (SameCount s) (sym e) h

  same : SameCount s s
  same = record { events = refl; stopped = refl }

  heard : (o : Option Conn) (Does : Conn → Type 0) → ((k : Conn) → Does k → SameCount s new) → Heard s o Does added out new → SameCount s new
  heard None Does f h = left_as s same h.left
  heard (Some k) Does f h = either k.closing (λ (g : Goes (quiet s) added out new). left_as s same g.left) (f k) h

  texted : (c : ℕ) (k : Conn) (text : List ℕ) → OpenText token s c k text added out new → SameCount s new
  texted c k text h = either (nat_lt MAX_BODY_BYTES (length text))
      (λ (g : Goes (closing c k None 1009 s) added out new). left_as _ (record { events = refl; stopped = refl }) g.left)
      (λ (r : ReadText token s c k text added out new). left_as _ (answered token c k r.answer s) r.goes.left) h

  session_polled : (n : ℕ) (x : Stream) (e : Exchanged) → SessionPolled shared s n x e added out new → SameCount s new
  session_polled n x e p = let h = replied (reply_in p.result) n (with_task p.task x) e (with_entry p.entry s) in left_as _ (record { events = h.events; stopped = h.stopped }) p.left

  polled_by : (session : Option Session) (n : ℕ) (x : Stream) → PolledBy session shared s n x added out new → SameCount s new
  polled_by None n x h = heard (at x.conn s.conns) _ (λ k p. left_as _ (record { events = refl; stopped = refl }) p.left) h
  polled_by (Some (Resting baton)) n x h = left_as s same h.left
  polled_by (Some (Running e)) n x h = session_polled n x e h

  polled : (n : ℕ) (o : Option Stream) → PolledAt shared s n o added out new → SameCount s new
  polled n None h = left_as s same h.left
  polled n (Some x) h = either (is_waiting x.task.asks) (polled_by x.session n x) (λ (g : Goes (quiet s) added out new). left_as s same g.left) h

  exchange_lost : (c : ℕ) (o : Option ℕ) → ExchangeLost s c o added out new → SameCount s new
  exchange_lost c None h = left_as s same h.left
  exchange_lost c (Some n) h = left_as _ (record { events = refl; stopped = refl }) h.2

  lost : (c : ℕ) (o : Option Conn) → LostAt s c o added out new → SameCount s new
  lost c None h = exchange_lost c (at c s.exchanges) h
  lost c (Some k) h = left_as _ (record { events = refl; stopped = refl }) h.2

  -- ---- an exchange

  does : (went : Went) → SameCount s went.state → Does went out new → SameCount s new
  does went h d = left_as went.state h d.left

  goes_by : (baton : Option (List ℕ)) (asks : List Ask) (e : Exchanged) → GoesBy baton asks e s out new → SameCount s new
  goes_by None asks e d = does _ (session_opened (nat_le MAX_SESSIONS (sessions_in s.streams)) asks e s) d
  goes_by (Some text) asks e h = elim h [
    | inl g ↦ does _ (started (is_over e.exchange) g.stream g.x asks e s) g.does
    | inr dead ↦ does _ (record { events = refl; stopped = refl }) dead.does
  ]

  goes_drawn : (draw : Draw) (body : PipelineBody) (c : ℕ) (close : Bool) → GoesDrawn draw body c close s out new → SameCount s new
  goes_drawn failed body c close d = does _ (record { events = refl; stopped = refl }) d
  goes_drawn (words drawn) body c close h = goes_by body.baton (asked_in body.asks) (record { conn = c; words = drawn; close = close; exchange = begins body.asks }) h

  goes_asked : (asked : Asked) (c : ℕ) (close : Bool) (draws : List Draw) → GoesAsked asked c close s draws out new → SameCount s new
  goes_asked (Answered answer) c close draws h = does _ (record { events = refl; stopped = refl }) h.1
  goes_asked (Pipeline body) c close draws h = goes_drawn h.0 body c close h.2

  exchanged : (o : Option HttpAnswer) (token : Option (List ℕ)) (c : ℕ) (ask : HttpAsk) (draws : List Draw) → ExchangeGoes o token s c ask draws out new → SameCount s new
  exchanged (Some answer) token c ask draws h = does _ (record { events = refl; stopped = refl }) h.1
  exchanged None token c ask draws h = either (is_short out) (λ (f : ExchangeFell s c ask draws out new). left_as s same f.2) (λ (g : IsHeard token s c ask draws out new). goes_asked g.asked c ask.close draws g.goes) h

  -- ---- an event that finds memory, or doesn't

  happened : (event : Event) → GoesOn event → Happens token shared s event added out new → SameCount s new
  happened (Opened c) on h = left_as _ (record { events = refl; stopped = refl }) h.left
  happened (Text c text) on h = heard (at c s.conns) _ (λ k. texted c k text) h
  happened (Binary c) on h = heard (at c s.conns) _ (λ k g. left_as _ (record { events = refl; stopped = refl }) g.left) h
  happened (Poll stream) on h = polled stream.0 (at stream.0 s.streams) h
  happened (Lost c) on h = lost c (at c s.conns) h
  happened (Moment moment) on h = either (nat_lt moment s.now) (λ (g : Goes (quiet s) added out new). left_as s same g.left) (λ (g : (added ≡ expiries moment s.streams) × (out ≡ nothing) × (new ≡ at_moment moment s)). left_as _ (record { events = refl; stopped = refl }) g.2) h
  happened (Exchange c ask) on h = absurd h
  happened Stop on h = absurd on

  text_fell : (c : ℕ) (o : Option Conn) (text : List ℕ) → TextFell s c o text added out new → SameCount s new
  text_fell c None text h = absurd h
  text_fell c (Some k) text h = left_as _ (record { events = refl; stopped = refl }) h.4

  poll_fell_on : (n : ℕ) (x : Stream) (o : Option Conn) → PollFellOn shared s n x o added out new → SameCount s new
  poll_fell_on n x None h = absurd h
  poll_fell_on n x (Some k) h = left_as _ (record { events = refl; stopped = refl }) h.1.left

  poll_fell_by : (session : Option Session) (n : ℕ) (x : Stream) → PollFellBy session shared s n x added out new → SameCount s new
  poll_fell_by None n x h = poll_fell_on n x (at x.conn s.conns) h
  poll_fell_by (Some (Resting baton)) n x h = absurd h
  poll_fell_by (Some (Running e)) n x h = (let p : SessionFell shared s n x e added out new = h in left_as _ (record { events = refl; stopped = refl }) p.left)

  poll_fell : (n : ℕ) (o : Option Stream) → PollFellAt shared s n o added out new → SameCount s new
  poll_fell n None h = absurd h
  poll_fell n (Some x) h = poll_fell_by x.session n x h.1

  fell : (event : Event) → Falls shared s event added out new → SameCount s new
  fell (Opened c) h = left_as _ (record { events = refl; stopped = refl }) h.2
  fell (Text c text) h = text_fell c (at c s.conns) text h
  fell (Poll stream) h = poll_fell stream.0 (at stream.0 s.streams) h
  fell other h = absurd h

  either_way : (event : Event) → GoesOn event → MatchBool (is_short out) (Falls shared s event added out new) (Happens token shared s event added out new) → SameCount s new
  either_way event on h = either (is_short out) (fell event) (happened event on) h

  pub came : (event : Event) (draws : List Draw) → GoesOn event → ComesOf token shared s event draws added out new → SameCount s new
  came (Opened c) draws on h = either_way (Opened c) on h.1
  came (Text c text) draws on h = either_way (Text c text) on h.1
  came (Binary c) draws on h = either_way (Binary c) on h.1
  came (Exchange c ask) draws on h = exchanged (route_answer ask) token c ask draws h.1
  came (Lost c) draws on h = either_way (Lost c) on h.1
  came (Moment moment) draws on h = either_way (Moment moment) on h.1
  came (Poll stream) draws on h = either_way (Poll stream) on h.1
  came Stop draws on h = absurd on

  -- each event keeps the count
  pub came_events : (event : Event) (draws : List Draw) → ComesOf token shared s event draws added out new → new.events ≡ s.events
  came_events Stop draws h = stop_events (is_short out) h.1
    where
      stop_events : (b : Bool) → MatchBool b ⊥ ((added ≡ all_ends undo.Stop s.streams) × (out ≡ nothing) × (new ≡ at_its_end s)) → new.events ≡ s.events
      stop_events true h = absurd h
      stop_events false h = ap (λ (t : State). t.events) h.2
  came_events (Opened c) draws h = (came (Opened c) draws tt h).events
  came_events (Text c text) draws h = (came (Text c text) draws tt h).events
  came_events (Binary c) draws h = (came (Binary c) draws tt h).events
  came_events (Exchange c ask) draws h = (came (Exchange c ask) draws tt h).events
  came_events (Lost c) draws h = (came (Lost c) draws tt h).events
  came_events (Moment moment) draws h = (came (Moment moment) draws tt h).events
  came_events (Poll stream) draws h = (came (Poll stream) draws tt h).events

-- `Stop` gives nothing
stop_gives : (b : Bool) (s new : State) (added : List Entry) (out : Outs) (B C : Type 0) → MatchBool b ⊥ (B × (out ≡ nothing) × C) → out ≡ nothing
stop_gives true s new added out B C h = absurd h
stop_gives false s new added out B C h = h.1

stop_is_silent : (token : Option (List ℕ)) (shared : Bool) (s new : State) (draws : List Draw) (added : List Entry) (out : Outs) → Step token shared s Stop draws added out new → out ≡ nothing
stop_is_silent token shared s new draws added out h = stop_gives (is_short out) s new added out _ _ h.1

pub silent_step : (token : Option (List ℕ)) (shared : Bool) (s new : State) (draws : List Draw) (added : List Entry) (out : Outs) → Step token shared s Stop draws added out new → Step token shared s Stop draws added nothing new
silent_step token shared s new draws added out h = subst (λ o. Step token shared s Stop draws added o new) (stop_is_silent token shared s new draws added out h) h
