-- What arrivals leave, said of values.
use Rattle.std.proofs.Common.{◌≡◌, ◌<◌, ◌+◌, ℕ, ℤ, true, false, List, length, Option, Some, None, Result, Ok, Err, IfOk, refl, sym, ap, ◌∙◌, subst, inl, inr, nat_lt, nat_le}
use Rattle.std.specs.Prelude.{OnErr, is_err, is_some}
use Rattle.std.proofs.lemmas.Bool.{false≢true, not-true, ltb-true, or_cases, cond-true, cond-false}
use Rattle.hrana_value.specs.declared.failures.NoMemory.{NoMemory}
use Rattle.stream_requests.specs.declared.asks.Ask.{Ask}
use Rattle.stream_requests.specs.declared.asks.Ask.TheVariants as ask
use Rattle.stream_requests.specs.declared.replies.Reply.TheVariants as reply
use Rattle.ws_messages.specs.Client.{ClientAnswer}
use Rattle.ws_messages.specs.Server.{answering}
use Rattle.ws_messages.specs.declared.messages.ClientMsg.{ClientMsg}
use Rattle.ws_messages.specs.declared.messages.MsgFail.{MsgFail}
use Rattle.http_wire.specs.declared.outs.Outs.{Outs}
use Rattle.txn_table.specs.Turns.{Turns, with_place}
use Rattle.stream_task.specs.Together.{numbered}
use Rattle.hrana_hub.specs.declared.limits.TheConstants.{MAX_STREAMS, MAX_OUTSTANDING}
use Rattle.hrana_hub.specs.Arrivals.{Went, saying, with_conn, shut, closing, opens, opens_unless, with_stream, unopened, asks, asks_at, queues, if_greeted, on_answer, IsAfter, Arrives}
use Rattle.hrana_hub.specs.Calls.{is_heard}
use Rattle.hrana_hub.specs.Maps.{Numbered, at, put}
use Rattle.hrana_hub.specs.State.{Conn, Stream, State, Seen, with_state}
use Rattle.hrana_hub.specs.Step.{Reads, has_room}
use Rattle.hrana_hub.specs.Texts.{put_ask}

-- ---- what is left

-- the state is now this, and nothing else changed
pub after : (s : State) (old new : Seen) → new ≡ with_state s old → s.opened ≡ old.state.opened → IsAfter s old new
after s old new e same = record {
  state = ap (λ (h : Seen). h.state) e;
  token = ap (λ (h : Seen). h.token) e;
  noted = ap (λ (h : Seen). h.noted) e;
  store = ap (λ (h : Seen). h.store) e;
  turns = inl (ap (λ (h : Seen). h.turns) e, ap (λ (h : Seen). h.state.opened) e ∙ same);
}

-- in the words of the state that is left
pub stayed : (s : State) (old new : Seen) → IsAfter s old new → IsAfter new.state old new
stayed s old new h = record { state = refl; token = h.token; noted = h.noted; store = h.store; turns = h.turns }

pub same_after : (old : Seen) → IsAfter old.state old old
same_after old = record { state = refl; token = refl; noted = refl; store = refl; turns = inl (refl, refl) }

-- the hub with these connections, streams and turns
abbrev pub with_parts : Numbered Conn → Numbered Stream → Turns → Seen → Seen
with_parts conns streams turns h = record h { state = record h.state { conns = conns; streams = streams; version = turns.version }; turns = turns }

-- nothing changed but a place in the table of turns
pub only_place : (conns : Numbered Conn) (streams : Numbered Stream) (turns : Turns) (h old : Seen) → h ≡ old → h.state.version ≡ h.turns.version → conns ≡ h.state.conns → streams ≡ h.state.streams → turns ≡ with_place h.turns (numbered (h.state.opened + 1))
    → IsAfter old.state old (with_parts conns streams turns h)
only_place conns streams turns h old e v p q r =
    subst (λ (o : Seen). IsAfter o.state o (with_parts conns streams turns h)) e (record {
      state = ap (λ c. record h.state { conns = c; streams = streams; version = turns.version }) p
          ∙ (ap (λ s. record h.state { streams = s; version = turns.version }) q
          ∙ (ap (λ (u : Turns). record h.state { version = u.version }) r ∙ ap (λ n. record h.state { version = n }) (sym v)));
      token = refl;
      noted = refl;
      store = refl;
      turns = inr r;
    })

-- one connection changed
pub conn_after : (c : ℕ) (k : Conn) (conns : Numbered Conn) (h old : Seen) → h ≡ old → conns ≡ put c k h.state.conns → IsAfter (with_conn c k old.state) old (with_state (record h.state { conns = conns }) h)
conn_after c k conns h old e p =
    subst (λ (o : Seen). IsAfter (with_conn c k o.state) o (with_state (record h.state { conns = conns }) h)) e (record {
      state = ap (λ (cs : Numbered Conn). record h.state { conns = cs }) p;
      token = refl;
      noted = refl;
      store = refl;
      turns = inl (refl, refl);
    })

-- the connection is closed, where there was no memory for what it sent
pub closed_after : (c : ℕ) (k : Conn) (old mid new : Seen) → IsAfter old.state old mid → at c old.state.conns ≡ Some k → ((l : Conn) → at c mid.state.conns ≡ Some l → new ≡ with_state (with_conn c (shut l) mid.state) mid)
    → IsAfter (with_conn c (shut k) old.state) old new
closed_after c k old mid new h known closes =
    let e : new ≡ with_state (with_conn c (shut k) mid.state) mid = closes k (ap (λ (s : State). at c s.conns) h.state ∙ known) in
    let turns : new.turns ≡ mid.turns = ap (λ (x : Seen). x.turns) e in
    let opened : new.state.opened ≡ mid.state.opened = ap (λ (x : Seen). x.state.opened) e in
    record {
      state = ap (λ (x : Seen). x.state) e ∙ ap (with_conn c (shut k)) h.state;
      token = ap (λ (x : Seen). x.token) e ∙ h.token;
      noted = ap (λ (x : Seen). x.noted) e ∙ h.noted;
      store = ap (λ (x : Seen). x.store) e ∙ h.store;
      turns = elim h.turns [ inl same ↦ inl (turns ∙ same.0, opened ∙ same.1) | inr place ↦ inr (turns ∙ place) ];
    }

-- ---- a connection that is heard

-- it may send more
pub room_few : (k : Conn) → k.closing ≡ false → has_room k ≡ true → k.outstanding < MAX_OUTSTANDING
room_few k unshut room = elim (or_cases k.closing (nat_lt k.outstanding MAX_OUTSTANDING) room) [
  | inl shut ↦ absurd (false≢true (sym unshut ∙ shut))
  | inr few ↦ ltb-true k.outstanding MAX_OUTSTANDING few
]

pub heard : (o : Option Conn) → is_heard o ≡ true → (k : Conn) × (o ≡ Some k) × (k.closing ≡ false)
heard None e = absurd (false≢true e)
heard (Some k) e = (k, refl, not-true k.closing e)

-- ---- results and options

pub on_err_at : {T E P : Type 0} (r : Result T E) → is_err r ≡ true → OnErr r P → P
on_err_at (Ok x) e h = absurd (false≢true e)
on_err_at (Err y) e h = h

pub none_at : {A : Type 0} (o : Option A) → is_some o ≡ false → o ≡ None
none_at None e = refl
none_at (Some x) e = absurd (false≢true (sym e))

pub some_at : {A : Type 0} (o : Option A) → is_some o ≡ true → (x : A) × (o ≡ Some x)
some_at None e = absurd (false≢true e)
some_at (Some x) e = (x, refl)

-- ---- arrivals that are answered at once

-- nothing changed
pub arrives_same : (went : Went) (old : Seen) (r : Result Outs NoMemory) → went.state ≡ old.state → IfOk r (λ out. out ≡ went.given) → Arrives went r old old
arrives_same went old (Ok out) e given = (given, record { state = sym e; token = refl; noted = refl; store = refl; turns = inl (refl, refl) })
arrives_same went old (Err short) e given = same_after old

pub arrives_as : (went went' : Went) (r : Result Outs NoMemory) (old new : Seen) → went' ≡ went → Arrives went r old new → Arrives went' r old new
arrives_as went went' r old new e h = subst (λ w. Arrives w r old new) (sym e) h

pub unopened_same : (c : ℕ) (id : ℤ) (what : Ask) (s : State) → (unopened c id what s).state ≡ s
unopened_same c id (ask.Execute stmt) s = refl
unopened_same c id (ask.Batch batch) s = refl
unopened_same c id (ask.Sequence named) s = refl
unopened_same c id (ask.Cursor batch) s = refl
unopened_same c id (ask.Fetch count) s = refl
unopened_same c id ask.CloseCursor s = refl
unopened_same c id ask.GetAutocommit s = refl
unopened_same c id (ask.StoreSql number sql) s = refl
unopened_same c id (ask.CloseSql number) s = refl
unopened_same c id ask.Close s = refl

pub unopened_arrives : (c : ℕ) (id : ℤ) (what : Ask) (old : Seen) (r : Result Outs NoMemory) → IfOk r (λ out. out ≡ (unopened c id what old.state).given) → Arrives (unopened c id what old.state) r old old
unopened_arrives c id what old r given = arrives_same (unopened c id what old.state) old r (unopened_same c id what old.state) given

-- ---- whether a hello of the connection was accepted

pub greeted_is : (c : ℕ) (k : Conn) (went : Went) (s : State) → k.greeted ≡ true → if_greeted c k went s ≡ went
greeted_is c k went s e = cond-true k.greeted went (closing c k None 1002 s) e

pub greeted_not : (c : ℕ) (k : Conn) (went : Went) (s : State) → k.greeted ≡ false → if_greeted c k went s ≡ closing c k None 1002 s
greeted_not c k went s e = cond-false k.greeted went (closing c k None 1002 s) e

-- ---- streams

pub opens_is : (o : Option ℕ) (c : ℕ) (k : Conn) (id stream : ℤ) (s : State) → o ≡ None → nat_le MAX_STREAMS (length k.streams) ≡ false
    → opens o c k id stream s ≡ saying c (answering id reply.StreamOpened) (with_stream c k stream s)
opens_is o c k id stream s none few = rw none (ap (λ full. opens_unless full c k id stream s) few)

pub asks_none : (o : Option ℕ) (c : ℕ) (k : Conn) (stream id : ℤ) (what : Ask) (s : State) → o ≡ None → asks o c k stream id what s ≡ unopened c id what s
asks_none o c k stream id what s none = rw none refl

pub asks_unknown : (o : Option ℕ) (n : ℕ) (c : ℕ) (k : Conn) (stream id : ℤ) (what : Ask) (s : State) → o ≡ Some n → at n s.streams ≡ None → asks o c k stream id what s ≡ unopened c id what s
asks_unknown o n c k stream id what s is none = rw is (ap (λ x. asks_at n x c k stream id what s) none)

pub asks_is : (o : Option ℕ) (n : ℕ) (x : Stream) (c : ℕ) (k : Conn) (stream id : ℤ) (what : Ask) (put : Option Ask) (s : State) → o ≡ Some n → at n s.streams ≡ Some x → put_ask k.texts what ≡ put
    → asks o c k stream id what s ≡ queues put c k stream n x id s
asks_is o n x c k stream id what put s is there texts = rw is (ap (λ y. asks_at n y c k stream id what s) there ∙ ap (λ p. queues p c k stream n x id s) texts)

-- ---- texts

-- the text is this, and it went by what it is
pub reads : (token : Option (List ℕ)) (c : ℕ) (k : Conn) (text : List ℕ) (answer : Result ClientMsg MsgFail) (r : Result Outs NoMemory) (old new : Seen)
    → ClientAnswer text answer → Arrives (on_answer token c k answer old.state) r old new → Reads token c k text r old new
reads token c k text answer (Ok out) old new is h = (
  record { answer = answer; read = is; goes = record { none = refl; given = h.0; left = h.1.state } },
  stayed (on_answer token c k answer old.state).state old new h.1,
)
reads token c k text answer (Err short) old new is h = h
