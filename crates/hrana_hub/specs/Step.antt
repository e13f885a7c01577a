-- One event of the hub: the state before it, the entries that it adds, what it gives, and the state after it. There is no
-- table of turns in it: who writes is read off the streams.
use Rattle.std.specs.Prelude.{◌≡◌, ◌≤◌, ◌+◌, ◌&&◌, ◌||◌, not, ℕ, Bool, true, false, nat_eq, nat_lt, List, [], ◌∷◌, length, Option, None, Some, Result, Ok, Err, MatchBool}
use Rattle.hrana_value.specs.declared.failures.NoMemory.{NoMemory}
use Rattle.ws_messages.specs.Client.{ClientAnswer}
use Rattle.ws_messages.specs.declared.messages.ClientMsg.{ClientMsg}
use Rattle.ws_messages.specs.declared.messages.MsgFail.{MsgFail}
use Rattle.http_wire.specs.declared.outs.Outs.{Outs}
use Rattle.http_wire.specs.declared.limits.TheConstants.{MAX_BODY_BYTES}
use Rattle.http_wire.specs.declared.asks.HttpAsk.{HttpAsk}
use Rattle.http_wire.specs.declared.outs.HttpAnswer.{HttpAnswer}
use Rattle.http_wire.specs.declared.outs.Out.{Out}
use Rattle.http_wire.specs.declared.outs.Out.TheVariants.{Message, Answer}
use Rattle.pipeline_body.specs.Exchanges.{route_answer}
use Rattle.engine_core.specs.Draws.{Draw}
use Rattle.engine_core.specs.declared.entries.Entry.{Entry}
use Rattle.engine_core.specs.declared.entries.Undo.TheVariants as undo
use Rattle.stream_task.specs.Polls.{is_waiting}
use Rattle.hrana_hub.specs.declared.events.Event.{Event}
use Rattle.hrana_hub.specs.declared.events.Event.TheVariants.{Opened, Text, Binary, Exchange, Lost, Moment, Poll, Stop}
use Rattle.hrana_hub.specs.declared.limits.TheConstants.{MAX_CONNECTIONS, MAX_OUTSTANDING, MAX_EVENTS}
use Rattle.hrana_hub.specs.Maps.{at, placed}
use Rattle.hrana_hub.specs.State.{Conn, Stream, State, Seen}
use Rattle.hrana_hub.specs.Arrivals.{Went, quiet, nothing, with_conn, shut, closing, on_answer, IsAfter}
use Rattle.hrana_hub.specs.Polled.{Polled, PollFell}
use Rattle.hrana_hub.specs.Ended.{end_of, ends_of, without_conn, without_lost, all_ends, at_its_end}
use Rattle.hrana_hub.specs.Exchanges.{answering, empty_503, SessionPolled, SessionFell, Does, IsHeard}
use Rattle.hrana_hub.specs.declared.sessions.Session.{Session}
use Rattle.hrana_hub.specs.declared.sessions.Session.TheVariants.{Resting, Running}
use Rattle.hrana_hub.specs.Moments.{expiries, at_moment}

abbrev pub new_conn : Bool → Conn
new_conn closing = record { greeted = false; closing = closing; texts = []; ids = []; streams = []; outstanding = 0 }

abbrev pub with_new_conn : ℕ → Bool → State → State
with_new_conn c closing s = record s { conns = placed c (new_conn closing) s.conns }

-- no entry is added, and it goes so
pub record Goes (went : Went) (added : List Entry) (out : Outs) (new : State) : Type 0 where
  pub none : added ≡ []
  pub given : out ≡ went.given
  pub left : new ≡ went.state

-- ---- texts

-- the text is read, and it goes by what it is
pub record ReadText (token : Option (List ℕ)) (s : State) (c : ℕ) (k : Conn) (text : List ℕ) (added : List Entry) (out : Outs) (new : State) : Type 0 where
  pub answer : Result ClientMsg MsgFail
  pub read : ClientAnswer text answer
  pub goes : Goes (on_answer token c k answer s) added out new

-- a text that is too long isn't read
abbrev pub OpenText : Option (List ℕ) → State → ℕ → Conn → List ℕ → List Entry → Outs → State → Type 0
OpenText token s c k text added out new = MatchBool (nat_lt MAX_BODY_BYTES (length text)) (Goes (closing c k None 1009 s) added out new) (ReadText token s c k text added out new)

-- a connection that is unknown or closing isn't heard
abbrev pub Heard : State → Option Conn → (Conn → Type 0) → List Entry → Outs → State → Type 0
Heard s None Does added out new = Goes (quiet s) added out new
Heard s (Some k) Does added out new = MatchBool k.closing (Goes (quiet s) added out new) (Does k)

-- ---- polls

-- a stream that is unknown, has nothing to do, or is of a connection that isn't heard, isn't polled; nor is one of exchanges none
-- of which runs
abbrev pub PolledBy : Option Session → Bool → State → ℕ → Stream → List Entry → Outs → State → Type 0
PolledBy None shared s n x added out new = Heard s (at x.conn s.conns) (λ k. Polled shared s n x.conn x k added out new) added out new
PolledBy (Some (Resting baton)) shared s n x added out new = Goes (quiet s) added out new
PolledBy (Some (Running e)) shared s n x added out new = SessionPolled shared s n x e added out new

abbrev pub PolledAt : Bool → State → ℕ → Option Stream → List Entry → Outs → State → Type 0
PolledAt shared s n None added out new = Goes (quiet s) added out new
PolledAt shared s n (Some x) added out new = MatchBool (is_waiting x.task.asks) (PolledBy x.session shared s n x added out new) (Goes (quiet s) added out new)

-- ---- ends

-- the stream of the exchange is lost with it
abbrev pub ExchangeLost : State → ℕ → Option ℕ → List Entry → Outs → State → Type 0
ExchangeLost s c None added out new = Goes (quiet s) added out new
ExchangeLost s c (Some n) added out new = (added ≡ end_of undo.Lost (at n s.streams)) × (out ≡ nothing) × (new ≡ without_lost c n s)

abbrev pub LostAt : State → ℕ → Option Conn → List Entry → Outs → State → Type 0
LostAt s c None added out new = ExchangeLost s c (at c s.exchanges) added out new
LostAt s c (Some k) added out new = (added ≡ ends_of undo.Lost k.streams s.streams) × (out ≡ nothing) × (new ≡ without_conn c k s)

-- ---- moments

-- a moment below the last one changes nothing
abbrev pub MomentAt : State → ℕ → List Entry → Outs → State → Type 0
MomentAt s now added out new = MatchBool (nat_lt now s.now) (Goes (quiet s) added out new) ((added ≡ expiries now s.streams) × (out ≡ nothing) × (new ≡ at_moment now s))

-- ---- an event that finds memory

abbrev pub Happens : Option (List ℕ) → Bool → State → Event → List Entry → Outs → State → Type 0
Happens token shared s (Opened c) added out new = Goes (quiet (with_new_conn c false s)) added out new
Happens token shared s (Text c text) added out new = Heard s (at c s.conns) (λ k. OpenText token s c k text added out new) added out new
Happens token shared s (Binary c) added out new = Heard s (at c s.conns) (λ k. Goes (closing c k None 1003 s) added out new) added out new
Happens token shared s (Poll stream) added out new = PolledAt shared s stream.0 (at stream.0 s.streams) added out new
Happens token shared s (Lost c) added out new = LostAt s c (at c s.conns) added out new
Happens token shared s (Moment now) added out new = MomentAt s now added out new
Happens token shared s (Exchange c ask) added out new = ⊥
Happens token shared s Stop added out new = (added ≡ all_ends undo.Stop s.streams) × (out ≡ nothing) × (new ≡ at_its_end s)

-- ---- want of memory closes the connection with 1011, or is an empty answer 503

abbrev pub closes_short : ℕ → Outs
closes_short c = record { conn = c; out = None; close = Some 1011 }

-- nothing changed but the connection, which was heard
abbrev pub TextFell : State → ℕ → Option Conn → List ℕ → List Entry → Outs → State → Type 0
TextFell s c None text added out new = ⊥
TextFell s c (Some k) text added out new = (k.closing ≡ false) × (length text ≤ MAX_BODY_BYTES) × (added ≡ []) × (out ≡ closes_short c) × (new ≡ with_conn c (shut k) s)

abbrev pub PollFellOn : Bool → State → ℕ → Stream → Option Conn → List Entry → Outs → State → Type 0
PollFellOn shared s n x None added out new = ⊥
PollFellOn shared s n x (Some k) added out new = (k.closing ≡ false) × PollFell shared s n x.conn x k added out new

abbrev pub PollFellBy : Option Session → Bool → State → ℕ → Stream → List Entry → Outs → State → Type 0
PollFellBy None shared s n x added out new = PollFellOn shared s n x (at x.conn s.conns) added out new
PollFellBy (Some (Resting baton)) shared s n x added out new = ⊥
PollFellBy (Some (Running e)) shared s n x added out new = SessionFell shared s n x e added out new

abbrev pub PollFellAt : Bool → State → ℕ → Option Stream → List Entry → Outs → State → Type 0
PollFellAt shared s n None added out new = ⊥
PollFellAt shared s n (Some x) added out new = (is_waiting x.task.asks ≡ true) × PollFellBy x.session shared s n x added out new

-- the events that take memory
abbrev pub Falls : Bool → State → Event → List Entry → Outs → State → Type 0
Falls shared s (Opened c) added out new = (added ≡ []) × (out ≡ closes_short c) × (new ≡ with_new_conn c true s)
Falls shared s (Text c text) added out new = TextFell s c (at c s.conns) text added out new
Falls shared s (Poll stream) added out new = PollFellAt shared s stream.0 (at stream.0 s.streams) added out new
Falls shared s other added out new = ⊥

-- ---- the step: whether it met want of memory is read off what it gives

abbrev pub is_1011 : Option ℕ → Bool
is_1011 None = false
is_1011 (Some code) = nat_eq code 1011

abbrev pub is_empty : List ℕ → Bool
is_empty [] = true
is_empty (byte ∷ bytes) = false

abbrev pub is_empty_503 : Option Out → Bool
is_empty_503 None = false
is_empty_503 (Some (Message text)) = false
is_empty_503 (Some (Answer answer)) = nat_eq answer.status 503 && is_empty answer.body

abbrev pub is_short : Outs → Bool
is_short out = is_1011 out.close || is_empty_503 out.out

abbrev pub counted : State → State
counted s = record s { events = s.events + 1 }

-- ---- an exchange

-- nothing is drawn, and nothing changes but that it is answered
abbrev pub ExchangeFell : State → ℕ → HttpAsk → List Draw → Outs → State → Type 0
ExchangeFell s c ask draws out new = (draws ≡ []) × (out ≡ empty_503 c ask.close) × (new ≡ s)

-- by its route alone, or else by whether it found memory
abbrev pub ExchangeGoes : Option HttpAnswer → Option (List ℕ) → State → ℕ → HttpAsk → List Draw → Outs → State → Type 0
ExchangeGoes (Some answer) token s c ask draws out new = (draws ≡ []) × Does (answering c answer s) out new
ExchangeGoes None token s c ask draws out new = MatchBool (is_short out) (ExchangeFell s c ask draws out new) (IsHeard token s c ask draws out new)

abbrev pub ExchangeSteps : Option (List ℕ) → State → ℕ → HttpAsk → List Draw → Outs → State → Type 0
ExchangeSteps token s c ask draws out new = ExchangeGoes (route_answer ask) token s c ask draws out new

-- what comes of an event that was counted, and isn't an exchange
abbrev pub Comes : Option (List ℕ) → Bool → State → Event → List Entry → Outs → State → Type 0
Comes token shared s event added out new = MatchBool (is_short out) (Falls shared s event added out new) (Happens token shared s event added out new)

abbrev pub is_exchange : Event → Bool
is_exchange (Exchange c ask) = true
is_exchange event = false

-- Words are drawn for exchanges alone, and exchanges add no entry.
abbrev pub ComesOf : Option (List ℕ) → Bool → State → Event → List Draw → List Entry → Outs → State → Type 0
ComesOf token shared s (Exchange c ask) draws added out new = (added ≡ []) × ExchangeSteps token s c ask draws out new
ComesOf token shared s event draws added out new = (draws ≡ []) × Comes token shared s event added out new

abbrev pub Step : Option (List ℕ) → Bool → State → Event → List Draw → List Entry → Outs → State → Type 0
Step token shared s event draws added out new = ComesOf token shared (counted s) event draws added out new

-- a text, by whether it found memory
abbrev pub TextSteps : Option (List ℕ) → State → ℕ → List ℕ → Outs → State → Type 0
TextSteps token s c text out new = MatchBool (is_short out) (TextFell s c (at c s.conns) text [] out new) (Heard s (at c s.conns) (λ k. OpenText token s c k text [] out new) [] out new)

abbrev pub BinarySteps : State → ℕ → Outs → State → Type 0
BinarySteps s c out new = Heard s (at c s.conns) (λ k. Goes (closing c k None 1003 s) [] out new) [] out new

-- a poll, by whether it found memory
abbrev pub PollSteps : Bool → State → ℕ → List Entry → Outs → State → Type 0
PollSteps shared s n added out new = MatchBool (is_short out) (PollFellAt shared s n (at n s.streams) added out new) (PolledAt shared s n (at n s.streams) added out new)

-- the text is read, or there was no memory for it
abbrev pub Reads : Option (List ℕ) → ℕ → Conn → List ℕ → Result Outs NoMemory → Seen → Seen → Type 0
Reads token c k text (Ok out) old new = ReadText token old.state c k text [] out new.state × IsAfter new.state old new
Reads token c k text (Err short) old new = IsAfter old.state old new

-- ---- what fits

-- the connection is closing, or may send more
abbrev pub has_room : Conn → Bool
has_room k = k.closing || nat_lt k.outstanding MAX_OUTSTANDING

abbrev pub may_send : Option Conn → Bool
may_send None = false
may_send (Some k) = has_room k

abbrev pub is_unknown : Option Conn → Bool
is_unknown None = true
is_unknown (Some k) = false

abbrev pub is_free : Option ℕ → Bool
is_free None = true
is_free (Some n) = false

-- a connection of this number isn't known, over WebSocket or HTTP
abbrev pub is_new : State → ℕ → Bool
is_new s c = is_unknown (at c s.conns) && is_free (at c s.exchanges)

-- one more connection may be known
abbrev pub may_open : State → ℕ → Bool
may_open s c = nat_lt 0 c && is_new s c && nat_lt (length s.conns + length s.exchanges) MAX_CONNECTIONS

abbrev pub may_come : State → Event → Bool
may_come s (Opened c) = may_open s c
may_come s (Text c text) = may_send (at c s.conns)
may_come s (Binary c) = may_send (at c s.conns)
may_come s (Exchange c ask) = may_open s c
may_come s (Lost c) = true
may_come s (Moment now) = true
may_come s (Poll stream) = true
may_come s Stop = true

-- no event fits after `Stop`, or after so many
abbrev pub fits : State → Event → Bool
fits s event = not s.stopped && nat_lt s.events MAX_EVENTS && may_come s event
