-- What a step does to the state, by the kind of the event.
use Rattle.std.proofs.Common.{◌≡◌, ◌≤◌, ◌<◌, ◌+◌, ◌&&◌, ◌||◌, ℕ, ℤ, Bool, true, false, not, cond, nat_eq, nat_lt, nat_le, List, [], ◌∷◌, ◌++◌, length, Option, None, Some, is_some, Result, Ok, Err, MatchBool, refl, sym, ap, ◌∙◌, subst, arith, inl, inr, filter, int_eq}
use Rattle.std.proofs.lemmas.List.Sums.{length-filter, count_by-le-length}
use Rattle.std.proofs.lemmas.Bool.{ltb-true, ltb-false, leb-false, and_parts, or_cases, false≢true}
use Rattle.hrana_value.specs.declared.StreamNo.{StreamNo}
use Rattle.hrana_stmt.specs.declared.statements.Stmt.{Stmt}
use Rattle.hrana_stmt.specs.declared.statements.SqlRef.{SqlRef}
use Rattle.hrana_batch.specs.declared.batches.Step.{Step as BatchStep}
use Rattle.stream_requests.specs.declared.asks.Ask.{Ask}
use Rattle.stream_requests.specs.declared.asks.Ask.TheVariants as ask
use Rattle.stream_requests.specs.Asks.{ask_kind}
use Rattle.ws_messages.specs.Client.{ClientAnswer, is_message}
use Rattle.ws_messages.specs.Kinds.{IsStreamAsk}
use Rattle.ws_messages.specs.Requests.{IsFormed}
use Rattle.ws_messages.specs.declared.messages.ClientMsg.{ClientMsg}
use Rattle.ws_messages.specs.declared.messages.ClientMsg.TheVariants.{Hello, Request}
use Rattle.ws_messages.specs.declared.messages.MsgFail.{MsgFail}
use Rattle.ws_messages.specs.declared.messages.MsgFail.TheVariants as fail
use Rattle.ws_messages.specs.declared.messages.WsRequest.{WsRequest}
use Rattle.ws_messages.specs.declared.messages.WsRequest.TheVariants as request
use Rattle.http_wire.specs.declared.outs.Outs.{Outs}
use Rattle.http_wire.specs.declared.limits.TheConstants.{MAX_BODY_BYTES}
use Rattle.http_wire.specs.declared.asks.HttpAsk.{HttpAsk}
use Rattle.http_wire.specs.declared.outs.HttpAnswer.{HttpAnswer}
use Rattle.pipeline_body.specs.Exchanges.{route_answer, begins, asked_in}
use Rattle.pipeline_body.specs.declared.bodies.PipelineBody.{PipelineBody}
use Rattle.pipeline_body.specs.declared.exchange.Asked.{Asked}
use Rattle.pipeline_body.specs.declared.exchange.Asked.TheVariants.{Answered, Pipeline}
use Rattle.engine_core.specs.Draws.{Draw, words, failed}
use Rattle.engine_core.specs.declared.entries.Entry.{Entry}
use Rattle.engine_core.specs.declared.entries.Undo.TheVariants as undo
use Rattle.stream_task.specs.Checks.{stored_text}
use Rattle.stream_task.specs.Doing.{work_of}
use Rattle.stream_task.specs.Polls.{is_waiting}
use Rattle.stream_task.specs.declared.texts.StoredText.{StoredText}
use Rattle.stream_task.specs.declared.work.Work.{Work}
use Rattle.hrana_hub.specs.declared.events.Event.{Event}
use Rattle.hrana_hub.specs.declared.events.Event.TheVariants.{Opened, Text, Binary, Exchange, Lost, Moment, Poll, Stop}
use Rattle.hrana_hub.specs.declared.limits.TheConstants.{MAX_CONNECTIONS, MAX_SESSIONS, MAX_STREAMS, MAX_OUTSTANDING, MAX_EVENTS}
use Rattle.stream_task.specs.declared.limits.TheConstants.{MAX_STORED_TEXTS, MAX_STORED_BYTES}
use Rattle.stream_task.specs.Texts.{stored_bytes, is_full, without_text}
use Rattle.hrana_hub.specs.declared.sessions.Running.{Running as Runs}
use Rattle.hrana_hub.specs.declared.sessions.Session.{Session}
use Rattle.hrana_hub.specs.declared.sessions.Session.TheVariants.{Resting, Running}
use Rattle.hrana_hub.specs.Maps.{at, id_at}
use Rattle.hrana_hub.specs.State.{Conn, Stream, State, of_exchanges}
use Rattle.hrana_hub.specs.Texts.{put_text, put_stmt, put_steps, put_ask, as_execute, as_batch, as_sequence}
use Rattle.hrana_hub.specs.Arrivals.{Went, quiet, nothing, accepts, on_hello, greeted, shut, with_texts, with_conn, closing, opens, opens_unless, with_stream, unopened, asks, asks_at, queues, with_request, stores, stores_unless, on_request, on_numbered, if_greeted, on_answer}
use Rattle.hrana_hub.specs.Polled.{Polled, PollFell}
use Rattle.hrana_hub.specs.Ended.{ends_of, without_conn, all_ends, at_its_end}
use Rattle.hrana_hub.specs.Exchanges.{SessionPolled, SessionFell, fresh_session, with_session, sessions_in, starts, opens_unless as session_opens, Does, IsHeard, GoesBy, GoesDrawn, GoesAsked}
use Rattle.hrana_hub.specs.Moments.{expiries, at_moment}
use Rattle.hrana_hub.specs.Step.{Step, ComesOf, Falls, Happens, Goes, ReadText, OpenText, Heard, PolledBy, PolledAt, ExchangeLost, LostAt, MomentAt, TextFell, PollFellAt, PollFellBy, PollFellOn, ExchangeFell, ExchangeGoes, is_short, counted, with_new_conn, has_room, may_send, is_unknown, is_free, is_new, may_open, may_come, fits}
use Rattle.hrana_hub.specs.Stories.{told_by, text_in}
use Rattle.hrana_hub.proofs.Standing.{Kept}
use Rattle.hrana_hub.proofs.Touching.{Adding, arrives, polled, lost, Touches, Stands, stands_known, stands_fresh, starts_silent, starts_touches, session_polled_touches, session_fell_touches, session_polled_silent, lost_touches}

-- ---- the kinds of changes

-- the texts of a connection, by their limits
pub record TextsFit (texts : List StoredText) : Type 0 where
  pub few : length texts ≤ MAX_STORED_TEXTS
  pub short : stored_bytes texts ≤ MAX_STORED_BYTES

-- streams, ids and requests of the connection are as before
pub record IsMarked (k k' : Conn) : Type 0 where
  pub streams : k'.streams ≡ k.streams
  pub ids : k'.ids ≡ k.ids
  pub outstanding : k'.outstanding ≡ k.outstanding
  pub texts : TextsFit k.texts → TextsFit k'.texts

-- a connection that is heard
pub record IsOpen (s : State) (c : ℕ) (k : Conn) : Type 0 where
  pub known : at c s.conns ≡ Some k
  pub heard : k.closing ≡ false

-- what a poll of no stream gives isn't a reply
abbrev pub IsSilent : Event → Outs → Type 0
IsSilent event out = (n : ℕ) → told_by n event out ≡ []

pub data Change (shared : Bool) (s : State) (added : List Entry) (out : Outs) (new : State) : Event → Type 0 where
  rests : (event : Event) → added ≡ [] → IsSilent event out → new ≡ s → Change shared s added out new event
  comes : (c : ℕ) (closing : Bool) → added ≡ [] → at c s.conns ≡ None → length s.conns + length s.exchanges < MAX_CONNECTIONS → new ≡ with_new_conn c closing s → Change shared s added out new (Opened c)
  marks : (event : Event) (c : ℕ) (k k' : Conn) → added ≡ [] → IsSilent event out → IsOpen s c k → IsMarked k k' → new ≡ with_conn c k' s → Change shared s added out new event
  joins : (c : ℕ) (text : List ℕ) (k : Conn) (id : ℤ) → added ≡ [] → IsOpen s c k → id_at id k.ids ≡ None → length k.streams < MAX_STREAMS → new ≡ with_stream c k id s → Change shared s added out new (Text c text)
  asks_for : (c : ℕ) (text : List ℕ) (k : Conn) (stream : ℤ) (n : ℕ) (x : Stream) (id : ℤ) (what : Ask) (w : Work) → added ≡ [] → IsOpen s c k → k.outstanding < MAX_OUTSTANDING → id_at stream k.ids ≡ Some n → at n s.streams ≡ Some x → work_of what ≡ Some w
      → new ≡ with_request c k stream n x id what s → Change shared s added out new (Text c text)
  polls : (stream : StreamNo) (x : Stream) (k : Conn) → at stream.0 s.streams ≡ Some x → of_exchanges x ≡ false → is_waiting x.task.asks ≡ true → IsOpen s x.conn k → Polled shared s stream.0 x.conn x k added out new → Change shared s added out new (Poll stream)
  falls : (stream : StreamNo) (x : Stream) (k : Conn) → at stream.0 s.streams ≡ Some x → of_exchanges x ≡ false → IsOpen s x.conn k → PollFell shared s stream.0 x.conn x k added out new → Change shared s added out new (Poll stream)
  -- an exchange, a poll of its stream, or its loss
  touches : (event : Event) (n : ℕ) → Adding shared s n added new event → IsSilent event out → s.opened ≤ new.opened → (Kept s → Touches shared s n new) → Change shared s added out new event
  loses : (c : ℕ) (k : Conn) → at c s.conns ≡ Some k → added ≡ ends_of undo.Lost k.streams s.streams → new ≡ without_conn c k s → Change shared s added out new (Lost c)
  expires : (moment : ℕ) → added ≡ expiries moment s.streams → new ≡ at_moment moment s → Change shared s added out new (Moment moment)
  ends : added ≡ all_ends undo.Stop s.streams → new ≡ at_its_end s → Change shared s added out new Stop

-- ---- what is silent

silent_texts : (event : Event) (out : Outs) → text_in out.out ≡ [] → IsSilent event out
silent_texts (Opened c) out e n = refl
silent_texts (Text c text) out e n = refl
silent_texts (Binary c) out e n = refl
silent_texts (Exchange c ask) out e n = refl
silent_texts (Lost c) out e n = refl
silent_texts (Moment moment) out e n = refl
silent_texts Stop out e n = refl
silent_texts (Poll stream) out e n = ap (λ l. cond (nat_eq stream.0 n) l []) e ∙ by (nat_eq stream.0 n)
  where
    by : (b : Bool) → ◌≡◌ {A = List (List ℕ)} (cond b [] []) []
    by true = refl
    by false = refl

silent_as : (event : Event) (out : Outs) → out ≡ nothing → IsSilent event out
silent_as event out e = silent_texts event out (ap (λ (o : Outs). text_in o.out) e)

stays : (shared : Bool) (s : State) (added : List Entry) (out : Outs) (new : State) (event : Event) → Goes (quiet s) added out new → Change shared s added out new event
stays shared s added out new event g = rests event g.none (silent_as event out g.given) g.left

-- ---- marks

shut_marked : (k : Conn) → IsMarked k (shut k)
shut_marked k = record { streams = refl; ids = refl; outstanding = refl; texts = λ h. h }

greeted_marked : (k : Conn) → IsMarked k (greeted k)
greeted_marked k = record { streams = refl; ids = refl; outstanding = refl; texts = λ h. h }

bytes_more : (texts : List StoredText) (text : StoredText) → stored_bytes (texts ++ text ∷ []) ≡ stored_bytes texts + length text.sql
bytes_more [] text = omega arith
bytes_more (t ∷ texts) text = omega (arith, bytes_more texts text)

length_more : {A : Type 0} (xs : List A) (x : A) → length (xs ++ x ∷ []) ≡ length xs + 1
length_more [] x = omega arith
length_more (y ∷ xs) x = omega (arith, length_more xs x)

texts_more : (texts : List StoredText) (text : StoredText) → is_full texts text.sql ≡ false → TextsFit texts → TextsFit (texts ++ text ∷ [])
texts_more texts text e h = by (nat_le MAX_STORED_TEXTS (length texts)) (nat_lt MAX_STORED_BYTES (stored_bytes texts + length text.sql)) refl refl e
  where
    by : (a b : Bool) → nat_le MAX_STORED_TEXTS (length texts) ≡ a → nat_lt MAX_STORED_BYTES (stored_bytes texts + length text.sql) ≡ b → (a || b) ≡ false → TextsFit (texts ++ text ∷ [])
    by true b f g o = absurd (cc)
    by false true f g o = absurd (cc)
    by false false f g o = record { few = (let below = leb-false MAX_STORED_TEXTS (length texts) f in let more = length_more texts text in omega (arith, below, more)); short = (let below = ltb-false MAX_STORED_BYTES (stored_bytes texts + length text.sql) g in let more = bytes_more texts text in omega (arith, below, more)) }

pub filter_few : {A : Type 0} (p : A → Bool) (xs : List A) → length (filter p xs) ≤ length xs
filter_few p xs = omega (arith, length-filter p xs, count_by-le-length p xs)

filter_short : (p : StoredText → Bool) (texts : List StoredText) → stored_bytes (filter p texts) ≤ stored_bytes texts
filter_short p [] = omega arith
filter_short p (t ∷ texts) = by (p t) (filter_short p texts)
  where
    by : (b : Bool) → stored_bytes (filter p texts) ≤ stored_bytes texts → stored_bytes (cond b (t ∷ filter p texts) (filter p texts)) ≤ stored_bytes (t ∷ texts)
    by true l = omega (arith, l)
    by false l = omega (arith, l)

without_texts : (id : ℤ) (texts : List StoredText) → TextsFit texts → TextsFit (without_text id texts)
without_texts id texts h = (let p : StoredText → Bool = λ text. not (int_eq text.id id) in record { few = omega (arith, filter_few p texts, h.few); short = omega (arith, filter_short p texts, h.short) })

-- ---- the texts that a request names

some_one : {A : Type 0} {x y : A} → ◌≡◌ {A = Option A} (Some x) (Some y) → x ≡ y
some_one e = cc

-- it is one that a stream can be asked so far
abbrev IsServed : Ask → Type 0
IsServed what = (w : Work) × (work_of what ≡ Some w)

execute_served : (stmt : Option Stmt) (put : Ask) → as_execute stmt ≡ Some put → IsServed put
execute_served None put e = absurd (cc)
execute_served (Some stmt) put e = subst IsServed (some_one e) (_, refl)

batch_served : (steps : Option (List BatchStep)) (put : Ask) → as_batch steps ≡ Some put → IsServed put
batch_served None put e = absurd (cc)
batch_served (Some steps) put e = subst IsServed (some_one e) (_, refl)

sequence_served : (named : Option SqlRef) (put : Ask) → as_sequence named ≡ Some put → IsServed put
sequence_served None put e = absurd (cc)
sequence_served (Some named) put e = subst IsServed (some_one e) (_, refl)

put_served : (texts : List StoredText) (what put : Ask) → IsStreamAsk (ask_kind what) → put_ask texts what ≡ Some put → IsServed put
put_served texts (ask.Execute stmt) put may e = execute_served (put_stmt texts stmt) put e
put_served texts (ask.Batch batch) put may e = batch_served (put_steps texts batch.steps) put e
put_served texts (ask.Sequence named) put may e = sequence_served (put_text texts named) put e
put_served texts (ask.Cursor batch) put may e = absurd may
put_served texts (ask.Fetch count) put may e = absurd may
put_served texts ask.CloseCursor put may e = absurd may
put_served texts ask.GetAutocommit put may e = subst IsServed (some_one e) (_, refl)
put_served texts (ask.StoreSql number sql) put may e = absurd may
put_served texts (ask.CloseSql number) put may e = absurd may
put_served texts ask.Close put may e = subst IsServed (some_one e) (_, refl)

-- ---- a text of a connection that is heard and has room

module _ (shared : Bool) (s : State) (c : ℕ) (text : List ℕ) (k : Conn) (heard : IsOpen s c k) (few : k.outstanding < MAX_OUTSTANDING) where
  abbrev Leads : State → Type 0
  Leads t = (added : List Entry) (out : Outs) (new : State) → added ≡ [] → new ≡ t → Change shared s added out new (Text c text)

  same_leads : Leads s
  same_leads added out new none left = rests (Text c text) none (λ n. refl) left

  mark_leads : (k' : Conn) → IsMarked k k' → Leads (with_conn c k' s)
  mark_leads k' marked added out new none left = marks (Text c text) c k k' none (λ n. refl) heard marked left

  as_leads : (t u : State) → u ≡ t → Leads t → Leads u
  as_leads t u e l = subst (λ v. Leads v) (sym e) l

  hello_leads : (accepted : Bool) → Leads (on_hello accepted c k s).state
  hello_leads true = mark_leads (greeted k) (greeted_marked k)
  hello_leads false = mark_leads (shut k) (shut_marked k)

  join_leads : (o : Option ℕ) (id stream : ℤ) → id_at stream k.ids ≡ o → Leads (opens o c k id stream s).state
  join_leads (Some n) id stream e = same_leads
  join_leads None id stream e = by (nat_le MAX_STREAMS (length k.streams)) refl
    where
      by : (full : Bool) → nat_le MAX_STREAMS (length k.streams) ≡ full → Leads (opens_unless full c k id stream s).state
      by true f = same_leads
      by false f = λ added out new none left. joins c text k stream none heard e (leb-false MAX_STREAMS (length k.streams) f) left

  unopened_leads : (id : ℤ) (what : Ask) → Leads (unopened c id what s).state
  unopened_leads id (ask.Execute stmt) = same_leads
  unopened_leads id (ask.Batch batch) = same_leads
  unopened_leads id (ask.Sequence named) = same_leads
  unopened_leads id (ask.Cursor batch) = same_leads
  unopened_leads id (ask.Fetch count) = same_leads
  unopened_leads id ask.CloseCursor = same_leads
  unopened_leads id ask.GetAutocommit = same_leads
  unopened_leads id (ask.StoreSql number sql) = same_leads
  unopened_leads id (ask.CloseSql number) = same_leads
  unopened_leads id ask.Close = same_leads

  queue_leads : (put : Option Ask) (stream : ℤ) (n : ℕ) (x : Stream) (id : ℤ) (what : Ask) → id_at stream k.ids ≡ Some n → at n s.streams ≡ Some x → IsStreamAsk (ask_kind what) → put_ask k.texts what ≡ put → Leads (queues put c k stream n x id s).state
  queue_leads None stream n x id what named there may e = same_leads
  queue_leads (Some put) stream n x id what named there may e = (let w = put_served k.texts what put may e in λ added out new none left. asks_for c text k stream n x id put w.0 none heard few named there w.1 left)

  ask_at_leads : (n : ℕ) (o : Option Stream) (stream id : ℤ) (what : Ask) → id_at stream k.ids ≡ Some n → at n s.streams ≡ o → IsStreamAsk (ask_kind what) → Leads (asks_at n o c k stream id what s).state
  ask_at_leads n None stream id what named there may = unopened_leads id what
  ask_at_leads n (Some x) stream id what named there may = queue_leads (put_ask k.texts what) stream n x id what named there may refl

  ask_leads : (o : Option ℕ) (stream id : ℤ) (what : Ask) → id_at stream k.ids ≡ o → IsStreamAsk (ask_kind what) → Leads (asks o c k stream id what s).state
  ask_leads None stream id what named may = unopened_leads id what
  ask_leads (Some n) stream id what named may = ask_at_leads n (at n s.streams) stream id what named refl may

  store_leads : (o : Option (List ℕ)) (id number : ℤ) (sql : List ℕ) → Leads (stores o c k id number sql s).state
  store_leads (Some old) id number sql = same_leads
  store_leads None id number sql = by (is_full k.texts sql) refl
    where
      by : (full : Bool) → is_full k.texts sql ≡ full → Leads (stores_unless full c k id number sql s).state
      by true f = same_leads
      by false f = mark_leads _ (record { streams = refl; ids = refl; outstanding = refl; texts = texts_more k.texts (record { id = number; sql = sql }) f })

  request_leads : (id : ℤ) (asked : WsRequest) → IsFormed asked → Leads (on_request c k id asked s).state
  request_leads id (request.OpenStream stream) may = join_leads (id_at stream k.ids) id stream refl
  request_leads id (request.OnStream stream what) may = ask_leads (id_at stream k.ids) stream id what refl may
  request_leads id (request.OpenCursor stream cursor batch) may = same_leads
  request_leads id (request.CloseCursor cursor) may = same_leads
  request_leads id (request.FetchCursor cursor count) may = same_leads
  request_leads id (request.StoreSql number sql) may = store_leads (stored_text number k.texts) id number sql
  request_leads id (request.CloseSql number) may = mark_leads (with_texts (without_text number k.texts) k) (record { streams = refl; ids = refl; outstanding = refl; texts = without_texts number k.texts })

  greeted_leads : (went : Went) → Leads went.state → Leads (if_greeted c k went s).state
  greeted_leads went l = by k.greeted
    where
      by : (b : Bool) → Leads (cond b went (closing c k None 1002 s)).state
      by true = l
      by false = mark_leads (shut k) (shut_marked k)

  -- what stands in a message that the text may be
  abbrev IsGood : Result ClientMsg MsgFail → Type 0
  IsGood (Ok (Request id asked)) = IsFormed asked
  IsGood answer = Unit {0}

  good : (answer : Result ClientMsg MsgFail) → ClientAnswer text answer → IsGood answer
  good (Ok (Hello jwt)) is = tt
  good (Ok (Request id asked)) (is_message m is) = is.2.2.formed
  good (Err why) is = tt

  answer_leads : (token : Option (List ℕ)) (answer : Result ClientMsg MsgFail) → IsGood answer → Leads (on_answer token c k answer s).state
  answer_leads token (Ok (Hello jwt)) may = hello_leads (accepts token jwt)
  answer_leads token (Ok (Request id asked)) may = greeted_leads (on_numbered c k id (Ok asked) s) (request_leads id asked may)
  answer_leads token (Err (fail.Declined id why)) may = greeted_leads (on_numbered c k id (Err why) s) same_leads
  answer_leads token (Err (fail.Violation why)) may = mark_leads (shut k) (shut_marked k)
  answer_leads token (Err fail.NoMemory) may = mark_leads (shut k) (shut_marked k)

  open_leads : (token : Option (List ℕ)) (added : List Entry) (out : Outs) (new : State) → OpenText token s c k text added out new → Change shared s added out new (Text c text)
  open_leads token added out new = by (nat_lt MAX_BODY_BYTES (length text))
    where
      by : (b : Bool) → MatchBool b (Goes (closing c k None 1009 s) added out new) (ReadText token s c k text added out new) → Change shared s added out new (Text c text)
      by true g = mark_leads (shut k) (shut_marked k) added out new g.none g.left
      by false g = answer_leads token g.answer (good g.answer g.read) added out new g.goes.none g.goes.left

-- ---- what fits

unknown : (o : Option Conn) → is_unknown o ≡ true → o ≡ None
unknown None e = refl
unknown (Some k) e = absurd (cc)

free : (o : Option ℕ) → is_free o ≡ true → o ≡ None
free None e = refl
free (Some n) e = absurd (cc)

-- one more connection may be known
pub record MayOpen (s : State) (c : ℕ) : Type 0 where
  pub unknown : at c s.conns ≡ None
  pub free : at c s.exchanges ≡ None
  pub few : length s.conns + length s.exchanges < MAX_CONNECTIONS

pub opens_may : (s : State) (c : ℕ) → may_open s c ≡ true → MayOpen s c
opens_may s c may =
    let parts = and_parts (nat_lt 0 c && is_new s c) (nat_lt (length s.conns + length s.exchanges) MAX_CONNECTIONS) may in
    let own = and_parts (is_unknown (at c s.conns)) (is_free (at c s.exchanges)) (and_parts (nat_lt 0 c) (is_new s c) parts.0).1 in
    record { unknown = unknown (at c s.conns) own.0; free = free (at c s.exchanges) own.1; few = ltb-true (length s.conns + length s.exchanges) MAX_CONNECTIONS parts.1 }

room : (k : Conn) → k.closing ≡ false → has_room k ≡ true → k.outstanding < MAX_OUTSTANDING
room k heard e = elim (or_cases k.closing (nat_lt k.outstanding MAX_OUTSTANDING) e) [
  | inl shut ↦ absurd (false≢true (sym heard ∙ shut))
  | inr few ↦ ltb-true k.outstanding MAX_OUTSTANDING few
]

-- ---- each event

module _ (shared : Bool) (s : State) (added : List Entry) (out : Outs) (new : State) where
  abbrev Changes : Event → Type 0
  Changes event = Change shared s added out new event

  heard_changes : (event : Event) (c : ℕ) (o : Option Conn) (Does : Conn → Type 0) → at c s.conns ≡ o → ((k : Conn) → IsOpen s c k → Does k → Changes event) → Heard s o Does added out new → Changes event
  heard_changes event c None Does e does h = stays shared s added out new event h
  heard_changes event c (Some k) Does e does h = by k.closing refl h
    where
      by : (b : Bool) → k.closing ≡ b → MatchBool b (Goes (quiet s) added out new) (Does k) → Changes event
      by true f g = stays shared s added out new event g
      by false f g = does k (record { known = e; heard = f }) g

  opened_changes : (c : ℕ) (closing : Bool) → may_come s (Opened c) ≡ true → added ≡ [] → new ≡ with_new_conn c closing s → Changes (Opened c)
  opened_changes c closing may none left = (let h = opens_may s c may in comes c closing none h.unknown h.few left)

  text_changes : (token : Option (List ℕ)) (c : ℕ) (text : List ℕ) → may_come s (Text c text) ≡ true → Heard s (at c s.conns) (λ k. OpenText token s c k text added out new) added out new → Changes (Text c text)
  text_changes token c text may h = heard_changes (Text c text) c (at c s.conns) (λ k. OpenText token s c k text added out new) refl
      (λ k heard g. open_leads shared s c text k heard (room k heard.heard (sym (ap may_send heard.known) ∙ may)) token added out new g) h

  text_falls : (c : ℕ) (o : Option Conn) (text : List ℕ) → at c s.conns ≡ o → TextFell s c o text added out new → Changes (Text c text)
  text_falls c None text e h = absurd h
  text_falls c (Some k) text e h = marks (Text c text) c k (shut k) h.2 (λ n. refl) (record { known = e; heard = h.0 }) (shut_marked k) h.4

  binary_changes : (c : ℕ) → Heard s (at c s.conns) (λ k. Goes (closing c k None 1003 s) added out new) added out new → Changes (Binary c)
  binary_changes c h = heard_changes (Binary c) c (at c s.conns) (λ k. Goes (closing c k None 1003 s) added out new) refl
      (λ k heard g. marks (Binary c) c k (shut k) g.none (λ n. refl) heard (shut_marked k) g.left) h

  session_changes : (stream : StreamNo) (x : Stream) (e : Runs) → at stream.0 s.streams ≡ Some x → of_exchanges x ≡ true → SessionPolled shared s stream.0 x e added out new → Changes (Poll stream)
  session_changes stream x e known is p =
      let silent = session_polled_silent shared s stream.0 x e added out new p in
      touches (Poll stream) stream.0 (polled stream x p.by p.entry p.result p.task refl known p.polls p.one silent.next) (silent_texts (Poll stream) out silent.texts) (omega (arith, silent.opened)) (session_polled_touches shared s stream.0 x e added out new known is p)

  session_falls : (stream : StreamNo) (x : Stream) (e : Runs) → at stream.0 s.streams ≡ Some x → of_exchanges x ≡ true → SessionFell shared s stream.0 x e added out new → Changes (Poll stream)
  session_falls stream x e known is p =
      touches (Poll stream) stream.0 (polled stream x p.by p.entry p.result p.task refl known p.polls p.one (ap (λ (t : State). t.next) p.left)) (silent_texts (Poll stream) out (ap (λ (o : Outs). text_in o.out) p.given)) (omega (arith, ap (λ (t : State). t.opened) p.left))
      (session_fell_touches shared s stream.0 x e added out new known is p)

  poll_by : (stream : StreamNo) (x : Stream) (o : Option Session) → at stream.0 s.streams ≡ Some x → x.session ≡ o → is_waiting x.task.asks ≡ true → PolledBy o shared s stream.0 x added out new → Changes (Poll stream)
  poll_by stream x None e own f h = heard_changes (Poll stream) x.conn (at x.conn s.conns) (λ k. Polled shared s stream.0 x.conn x k added out new) refl (λ k heard p. polls stream x k e (ap is_some own) f heard p) h
  poll_by stream x (Some (Resting baton)) e own f h = stays shared s added out new (Poll stream) h
  poll_by stream x (Some (Running r)) e own f h = session_changes stream x r e (ap is_some own) h

  poll_changes : (stream : StreamNo) (o : Option Stream) → at stream.0 s.streams ≡ o → PolledAt shared s stream.0 o added out new → Changes (Poll stream)
  poll_changes stream None e h = stays shared s added out new (Poll stream) h
  poll_changes stream (Some x) e h = by (is_waiting x.task.asks) refl h
    where
      by : (b : Bool) → is_waiting x.task.asks ≡ b → MatchBool b (PolledBy x.session shared s stream.0 x added out new) (Goes (quiet s) added out new) → Changes (Poll stream)
      by true f g = poll_by stream x x.session e refl f g
      by false f g = stays shared s added out new (Poll stream) g

  poll_falls_on : (stream : StreamNo) (x : Stream) (o : Option Conn) → at stream.0 s.streams ≡ Some x → of_exchanges x ≡ false → at x.conn s.conns ≡ o → PollFellOn shared s stream.0 x o added out new → Changes (Poll stream)
  poll_falls_on stream x None e own f h = absurd h
  poll_falls_on stream x (Some k) e own f h = falls stream x k e own (record { known = f; heard = h.0 }) h.1

  poll_falls_by : (stream : StreamNo) (x : Stream) (o : Option Session) → at stream.0 s.streams ≡ Some x → x.session ≡ o → PollFellBy o shared s stream.0 x added out new → Changes (Poll stream)
  poll_falls_by stream x None e own h = poll_falls_on stream x (at x.conn s.conns) e (ap is_some own) refl h
  poll_falls_by stream x (Some (Resting baton)) e own h = absurd h
  poll_falls_by stream x (Some (Running r)) e own h = session_falls stream x r e (ap is_some own) h

  poll_falls : (stream : StreamNo) (o : Option Stream) → at stream.0 s.streams ≡ o → PollFellAt shared s stream.0 o added out new → Changes (Poll stream)
  poll_falls stream None e h = absurd h
  poll_falls stream (Some x) e h = poll_falls_by stream x x.session e refl h.1

  exchange_lost : (c : ℕ) (o : Option ℕ) → at c s.exchanges ≡ o → ExchangeLost s c o added out new → Changes (Lost c)
  exchange_lost c None e h = stays shared s added out new (Lost c) h
  exchange_lost c (Some n) e h =
      touches (Lost c) n (lost c h.0 (ap (λ (t : State). t.next) h.2)) (λ m. refl) (omega (arith, ap (λ (t : State). t.opened) h.2)) (λ kept. subst (Touches shared s n) (sym h.2) (lost_touches shared s c n e kept))

  lost_changes : (c : ℕ) (o : Option Conn) → at c s.conns ≡ o → LostAt s c o added out new → Changes (Lost c)
  lost_changes c None e h = exchange_lost c (at c s.exchanges) refl h
  lost_changes c (Some k) e h = loses c k e h.0 h.2

  moment_changes : (moment : ℕ) → MomentAt s moment added out new → Changes (Moment moment)
  moment_changes moment h = by (nat_lt moment s.now) h
    where
      by : (b : Bool) → MatchBool b (Goes (quiet s) added out new) ((added ≡ expiries moment s.streams) × (out ≡ nothing) × (new ≡ at_moment moment s)) → Changes (Moment moment)
      by true g = stays shared s added out new (Moment moment) g
      by false g = expires moment g.0 g.2

  happens : (token : Option (List ℕ)) (event : Event) → may_come s event ≡ true → Happens token shared s event added out new → Changes event
  happens token (Opened c) may h = opened_changes c false may h.none h.left
  happens token (Text c text) may h = text_changes token c text may h
  happens token (Binary c) may h = binary_changes c h
  happens token (Exchange c ask) may h = absurd h
  happens token (Poll stream) may h = poll_changes stream (at stream.0 s.streams) refl h
  happens token (Lost c) may h = lost_changes c (at c s.conns) refl h
  happens token (Moment moment) may h = moment_changes moment h
  happens token Stop may h = ends h.0 h.2

  falls_short : (event : Event) → may_come s event ≡ true → Falls shared s event added out new → Changes event
  falls_short (Opened c) may h = opened_changes c true may h.0 h.2
  falls_short (Text c text) may h = text_falls c (at c s.conns) text refl h
  falls_short (Binary c) may h = absurd h
  falls_short (Exchange c ask) may h = absurd h
  falls_short (Poll stream) may h = poll_falls stream (at stream.0 s.streams) refl h
  falls_short (Lost c) may h = absurd h
  falls_short (Moment moment) may h = absurd h
  falls_short Stop may h = absurd h

  comes_changes : (token : Option (List ℕ)) (event : Event) (short : Bool) → may_come s event ≡ true → MatchBool short (Falls shared s event added out new) (Happens token shared s event added out new) → Changes event
  comes_changes token event true may h = falls_short event may h
  comes_changes token event false may h = happens token event may h

-- ---- an exchange

module _ (shared : Bool) (s : State) (c : ℕ) (ask : HttpAsk) (may : MayOpen s c) (added : List Entry) (none : added ≡ []) (out : Outs) (new : State) where
  abbrev Arrives : Type 0
  Arrives = Change shared s added out new (Exchange c ask)

  same_comes : new ≡ s → Arrives
  same_comes left = rests (Exchange c ask) none (λ n. refl) left

  starts_comes : (n : ℕ) (x : Stream) (asks : List Ask) (e : Runs) (t : State) → at e.conn s.exchanges ≡ None → t.next ≡ s.next → s.opened ≤ t.opened → (Kept s → Stands s n x t) → Does (starts n x asks e t) out new → Arrives
  starts_comes n x asks e t free next opened stands does =
      let silent = starts_silent n x asks e t in
      touches (Exchange c ask) n (arrives c ask none (ap (λ (u : State). u.next) does.left ∙ silent.next ∙ next)) (λ m. refl) (omega (arith, opened, ap (λ (u : State). u.opened) does.left, silent.opened))
      (λ kept. subst (Touches shared s n) (sym does.left) (starts_touches n x asks e shared s kept t (stands kept) free may.few))

  opens_comes : (full : Bool) (asks : List Ask) (e : Runs) → at e.conn s.exchanges ≡ None → nat_le MAX_SESSIONS (sessions_in s.streams) ≡ full → Does (session_opens full asks e s) out new → Arrives
  opens_comes true asks e free f does = same_comes does.left
  opens_comes false asks e free f does = starts_comes (s.opened + 1) (fresh_session s.now e.conn (s.opened + 1)) asks e (with_session e.conn s) free refl (omega arith) (λ kept. stands_fresh s kept e.conn (leb-false MAX_SESSIONS (sessions_in s.streams) f)) does

  by_comes : (baton : Option (List ℕ)) (asks : List Ask) (e : Runs) → at e.conn s.exchanges ≡ None → GoesBy baton asks e s out new → Arrives
  by_comes None asks e free does = opens_comes (nat_le MAX_SESSIONS (sessions_in s.streams)) asks e free refl does
  by_comes (Some text) asks e free (inl on) = starts_comes on.stream on.x asks e s free refl (omega arith) (λ kept. stands_known s kept on.stream on.x on.awaits.known (ap is_some on.awaits.rests)) on.does
  by_comes (Some text) asks e free (inr dead) = same_comes dead.does.left

  drawn_comes : (draw : Draw) (body : PipelineBody) → GoesDrawn draw body c ask.close s out new → Arrives
  drawn_comes failed body does = same_comes does.left
  drawn_comes (words drawn) body goes = by_comes body.baton (asked_in body.asks) (record { conn = c; words = drawn; close = ask.close; exchange = begins body.asks }) may.free goes

  asked_comes : (asked : Asked) (draws : List Draw) → GoesAsked asked c ask.close s draws out new → Arrives
  asked_comes (Answered answer) draws h = same_comes h.1.left
  asked_comes (Pipeline body) draws h = drawn_comes h.0 body h.2

  exchange_comes : (o : Option HttpAnswer) (token : Option (List ℕ)) (draws : List Draw) → ExchangeGoes o token s c ask draws out new → Arrives
  exchange_comes (Some answer) token draws h = same_comes h.1.left
  exchange_comes None token draws h = by (is_short out) h
    where
      by : (short : Bool) → MatchBool short (ExchangeFell s c ask draws out new) (IsHeard token s c ask draws out new) → Arrives
      by true fell = same_comes fell.2
      by false heard = asked_comes heard.asked draws heard.goes

comes_of_changes : (token : Option (List ℕ)) (shared : Bool) (s : State) (event : Event) (draws : List Draw) (added : List Entry) (out : Outs) (new : State) → may_come s event ≡ true → ComesOf token shared s event draws added out new → Change shared s added out new event
comes_of_changes token shared s (Exchange c ask) draws added out new may h = exchange_comes shared s c ask (opens_may s c may) added h.0 out new (route_answer ask) token draws h.1
comes_of_changes token shared s (Opened c) draws added out new may h = comes_changes shared s added out new token (Opened c) (is_short out) may h.1
comes_of_changes token shared s (Text c text) draws added out new may h = comes_changes shared s added out new token (Text c text) (is_short out) may h.1
comes_of_changes token shared s (Binary c) draws added out new may h = comes_changes shared s added out new token (Binary c) (is_short out) may h.1
comes_of_changes token shared s (Lost c) draws added out new may h = comes_changes shared s added out new token (Lost c) (is_short out) may h.1
comes_of_changes token shared s (Moment moment) draws added out new may h = comes_changes shared s added out new token (Moment moment) (is_short out) may h.1
comes_of_changes token shared s (Poll stream) draws added out new may h = comes_changes shared s added out new token (Poll stream) (is_short out) may h.1
comes_of_changes token shared s Stop draws added out new may h = comes_changes shared s added out new token Stop (is_short out) may h.1

may_counted : (s : State) (event : Event) → may_come (counted s) event ≡ may_come s event
may_counted s (Opened c) = refl
may_counted s (Text c text) = refl
may_counted s (Binary c) = refl
may_counted s (Lost c) = refl
may_counted s (Moment moment) = refl
may_counted s (Exchange c ask) = refl
may_counted s (Poll stream) = refl
may_counted s Stop = refl

pub counted_may : (s : State) (event : Event) → fits s event ≡ true → may_come (counted s) event ≡ true
counted_may s event f = may_counted s event ∙ (and_parts (not s.stopped && nat_lt s.events MAX_EVENTS) (may_come s event) f).1

-- what the step of an event that fits does
pub step_changes : (token : Option (List ℕ)) (shared : Bool) (s : State) (event : Event) (draws : List Draw) (added : List Entry) (out : Outs) (new : State) → fits s event ≡ true → Step token shared s event draws added out new → Change shared (counted s) added out new event
step_changes token shared s event draws added out new f h =
    comes_of_changes token shared (counted s) event draws added out new (counted_may s event f) h
