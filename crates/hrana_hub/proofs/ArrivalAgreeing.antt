-- Arrivals keep the agreement of the hub with the engine.
use Rattle.std.proofs.Common.{◌≡◌, ◌≢◌, ◌+◌, ℕ, ℤ, Bool, true, false, cond, List, [], ◌∷◌, length, Option, Some, None, Result, Ok, Err, MatchBool, refl, sym, ap, ◌∙◌, subst, arith, inl, inr, nat_lt, nat_le, nat_cmp, ◌||◌, true≢false}
use Rattle.std.specs.Prelude.{is_some}
use Rattle.std.specs.Option.{IsSome}
use Rattle.std.specs.List.Sorted.{IsStrictlySortedBy}
use Rattle.std.specs.Map.{keys_of}
use Rattle.std.proofs.lemmas.Bool.{cases_Bool, cases_eq, cases_order}
use Rattle.hrana_value.specs.declared.failures.Decline.{Decline}
use Rattle.hrana_value.specs.declared.StreamNo.{StreamNo}
use Rattle.stream_requests.specs.declared.asks.Ask.{Ask}
use Rattle.ws_messages.specs.declared.messages.ClientMsg.{ClientMsg}
use Rattle.ws_messages.specs.declared.messages.ClientMsg.TheVariants.{Hello, Request}
use Rattle.ws_messages.specs.declared.messages.MsgFail.{MsgFail}
use Rattle.ws_messages.specs.declared.messages.MsgFail.TheVariants as fail
use Rattle.ws_messages.specs.declared.messages.WsRequest.{WsRequest}
use Rattle.ws_messages.specs.declared.messages.WsRequest.TheVariants as request
use Rattle.http_wire.specs.declared.outs.Outs.{Outs}
use Rattle.http_wire.specs.declared.limits.TheConstants.{MAX_BODY_BYTES}
use Rattle.txn_table.specs.Turns.{Turns, has, with_place, same_stream, placed as place_in}
use Rattle.txn_table.proofs.StreamLemmas.{same, still_placed}
use Rattle.engine_core.specs.Noted.{Noted}
use Rattle.engine_core.specs.Transactions.{Lives}
use Rattle.stream_task.specs.Checks.{stored_text}
use Rattle.stream_task.specs.Moved.{AgreesAs}
use Rattle.stream_task.specs.Session.{open_of}
use Rattle.stream_task.specs.Together.{States, Put, Together, AgreesAt, JoinsTogether, numbered}
use Rattle.stream_task.specs.declared.session.TxnState.{TxnState}
use Rattle.stream_task.specs.declared.session.TxnState.TheVariants.{Auto, Deferred, Reading, Writing, Dead, Closed}
use Rattle.hrana_hub.specs.declared.limits.TheConstants.{MAX_STREAMS}
use Rattle.baton_store.specs.Batons.{Batons}
use Rattle.hrana_hub.specs.Agrees.{HubAgrees, IsNumbered, IsAhead, IsTied, open_units}
use Rattle.hrana_hub.proofs.Tied.{tied_placed, tied_put}
use Rattle.hrana_hub.specs.Arrivals.{Went, quiet, accepts, on_hello, closing, with_conn, shut, fresh, opens, opens_unless, with_stream, unopened, asks, asks_at, queues, waiting, with_request, stores, stores_unless, on_request, on_numbered, if_greeted, on_answer, TurnsStay, IsAfter}
use Rattle.stream_task.specs.Texts.{is_full}
use Rattle.hrana_hub.specs.Maps.{Numbered, at, put, placed, id_at}
use Rattle.hrana_hub.specs.State.{Conn, Stream, State, Seen, states_of, state_in}
use Rattle.hrana_hub.specs.Step.{Goes, ReadText, OpenText, TextFell, Heard, TextSteps, BinarySteps, is_short, with_new_conn}
use Rattle.hrana_hub.specs.Texts.{put_ask}
use Rattle.hrana_hub.proofs.Agreeing.{Moves as Kept, StoreAgrees, left_agrees, moves_agrees}
use Rattle.hrana_hub.proofs.ArrivalLemmas.{unopened_same}
use Rattle.hrana_hub.proofs.MapLemmas.{none_some, some_one, at_placed, at_placed_other, rises_placed, at_first, at_later, placed_less, placed_more}

-- ---- what arrivals do to the streams

-- they are as before, one was asked one thing more, or one was opened
pub data Moves (s s' : State) : Type 0 where
  keeps_all : s'.streams ≡ s.streams → s'.opened ≡ s.opened → Moves s s'
  puts_one : (n : ℕ) (x y : Stream) → at n s.streams ≡ Some x → y.task.stream ≡ x.task.stream → y.task.session.state ≡ x.task.session.state → s'.streams ≡ put n y s.streams → s'.opened ≡ s.opened → Moves s s'
  adds_one : (x : Stream) → x.task.stream ≡ numbered (s.opened + 1) → x.task.session.state ≡ Auto → s'.streams ≡ placed (s.opened + 1) x s.streams → s'.opened ≡ s.opened + 1 → Moves s s'

pub record Arrived (s s' : State) : Type 0 where
  pub next : s'.next ≡ s.next
  pub version : s'.version ≡ s.version
  pub events : s'.events ≡ s.events
  pub issued : s'.issued ≡ s.issued
  pub stopped : s'.stopped ≡ s.stopped
  pub ties : (store : Batons) → IsNumbered s → IsTied s.streams store → IsTied s'.streams store
  pub moves : Moves s s'

none_arrived : (s : State) → Arrived s s
none_arrived s = record { next = refl; version = refl; events = refl; issued = refl; stopped = refl; ties = λ store numbers t. t; moves = keeps_all refl refl }

conn_arrived : (c : ℕ) (k : Conn) (s : State) → Arrived s (with_conn c k s)
conn_arrived c k s = record { next = refl; version = refl; events = refl; issued = refl; stopped = refl; ties = λ store numbers t. t; moves = keeps_all refl refl }

stream_arrived : (c : ℕ) (k : Conn) (id : ℤ) (s : State) → Arrived s (with_stream c k id s)
stream_arrived c k id s = record { next = refl; version = refl; events = refl; issued = refl; stopped = refl; ties = λ store numbers t. tied_placed (s.opened + 1) (fresh s.now c (s.opened + 1)) s.streams store (numbers.opened (s.opened + 1) (omega arith)) refl t; moves = adds_one (fresh s.now c (s.opened + 1)) refl refl refl refl }

request_arrived : (c : ℕ) (k : Conn) (stream : ℤ) (n : ℕ) (x : Stream) (id : ℤ) (what : Ask) (s : State) → at n s.streams ≡ Some x → Arrived s (with_request c k stream n x id what s)
request_arrived c k stream n x id what s there = record { next = refl; version = refl; events = refl; issued = refl; stopped = refl; ties = λ store numbers t. tied_put n x (waiting id what x) s.streams store there refl t; moves = puts_one n x (waiting id what x) there refl refl refl refl }

left_arrived : (s new new' : State) → new' ≡ new → Arrived s new → Arrived s new'
left_arrived s new new' e h = subst (λ u. Arrived s u) (sym e) h

-- ---- arrivals by what they are

hello_arrived : (accepted : Bool) (c : ℕ) (k : Conn) (s : State) → Arrived s (on_hello accepted c k s).state
hello_arrived true c k s = record { next = refl; version = refl; events = refl; issued = refl; stopped = refl; ties = λ store numbers t. t; moves = keeps_all refl refl }
hello_arrived false c k s = conn_arrived c (shut k) s

opens_arrived : (o : Option ℕ) (c : ℕ) (k : Conn) (id stream : ℤ) (s : State) → Arrived s (opens o c k id stream s).state
opens_arrived (Some n) c k id stream s = none_arrived s
opens_arrived None c k id stream s = by (nat_le MAX_STREAMS (length k.streams))
  where
    by : (full : Bool) → Arrived s (opens_unless full c k id stream s).state
    by true = none_arrived s
    by false = stream_arrived c k stream s

unopened_arrived : (c : ℕ) (id : ℤ) (what : Ask) (s : State) → Arrived s (unopened c id what s).state
unopened_arrived c id what s = left_arrived s s (unopened c id what s).state (unopened_same c id what s) (none_arrived s)

queues_arrived : (what : Option Ask) (c : ℕ) (k : Conn) (stream : ℤ) (n : ℕ) (x : Stream) (id : ℤ) (s : State) → at n s.streams ≡ Some x → Arrived s (queues what c k stream n x id s).state
queues_arrived None c k stream n x id s there = none_arrived s
queues_arrived (Some what) c k stream n x id s there = request_arrived c k stream n x id what s there

asks_at_arrived : (n : ℕ) (o : Option Stream) (c : ℕ) (k : Conn) (stream id : ℤ) (what : Ask) (s : State) → at n s.streams ≡ o → Arrived s (asks_at n o c k stream id what s).state
asks_at_arrived n None c k stream id what s there = unopened_arrived c id what s
asks_at_arrived n (Some x) c k stream id what s there = queues_arrived (put_ask k.texts what) c k stream n x id s there

asks_arrived : (o : Option ℕ) (c : ℕ) (k : Conn) (stream id : ℤ) (what : Ask) (s : State) → Arrived s (asks o c k stream id what s).state
asks_arrived None c k stream id what s = unopened_arrived c id what s
asks_arrived (Some n) c k stream id what s = asks_at_arrived n (at n s.streams) c k stream id what s refl

stores_arrived : (o : Option (List ℕ)) (c : ℕ) (k : Conn) (id number : ℤ) (sql : List ℕ) (s : State) → Arrived s (stores o c k id number sql s).state
stores_arrived (Some text) c k id number sql s = none_arrived s
stores_arrived None c k id number sql s = by (is_full k.texts sql)
  where
    by : (full : Bool) → Arrived s (stores_unless full c k id number sql s).state
    by true = none_arrived s
    by false = record { next = refl; version = refl; events = refl; issued = refl; stopped = refl; ties = λ store numbers t. t; moves = keeps_all refl refl }

requests_arrived : (c : ℕ) (k : Conn) (id : ℤ) (asked : WsRequest) (s : State) → Arrived s (on_request c k id asked s).state
requests_arrived c k id (request.OpenStream stream) s = opens_arrived (id_at stream k.ids) c k id stream s
requests_arrived c k id (request.OnStream stream what) s = asks_arrived (id_at stream k.ids) c k stream id what s
requests_arrived c k id (request.OpenCursor stream cursor batch) s = none_arrived s
requests_arrived c k id (request.CloseCursor cursor) s = none_arrived s
requests_arrived c k id (request.FetchCursor cursor count) s = none_arrived s
requests_arrived c k id (request.StoreSql number sql) s = stores_arrived (stored_text number k.texts) c k id number sql s
requests_arrived c k id (request.CloseSql number) s = record { next = refl; version = refl; events = refl; issued = refl; stopped = refl; ties = λ store numbers t. t; moves = keeps_all refl refl }

numbered_arrived : (c : ℕ) (k : Conn) (id : ℤ) (asked : Result WsRequest Decline) (s : State) → Arrived s (on_numbered c k id asked s).state
numbered_arrived c k id (Ok asked) s = requests_arrived c k id asked s
numbered_arrived c k id (Err why) s = none_arrived s

greeted_arrived : (c : ℕ) (k : Conn) (went : Went) (s : State) → Arrived s went.state → Arrived s (if_greeted c k went s).state
greeted_arrived c k went s h = by k.greeted
  where
    by : (greeted : Bool) → Arrived s (cond greeted went (closing c k None 1002 s)).state
    by true = h
    by false = conn_arrived c (shut k) s

answer_arrived : (token : Option (List ℕ)) (c : ℕ) (k : Conn) (answer : Result ClientMsg MsgFail) (s : State) → Arrived s (on_answer token c k answer s).state
answer_arrived token c k (Ok (Hello jwt)) s = hello_arrived (accepts token jwt) c k s
answer_arrived token c k (Ok (Request id asked)) s = greeted_arrived c k (on_numbered c k id (Ok asked) s) s (numbered_arrived c k id (Ok asked) s)
answer_arrived token c k (Err (fail.Declined id why)) s = greeted_arrived c k (on_numbered c k id (Err why) s) s (numbered_arrived c k id (Err why) s)
answer_arrived token c k (Err (fail.Violation why)) s = conn_arrived c (shut k) s
answer_arrived token c k (Err fail.NoMemory) s = conn_arrived c (shut k) s

-- ---- texts

fell_arrived : (s : State) (c : ℕ) (o : Option Conn) (text : List ℕ) (out : Outs) (new : State) → TextFell s c o text [] out new → Arrived s new
fell_arrived s c None text out new h = absurd h
fell_arrived s c (Some k) text out new h = left_arrived s (with_conn c (shut k) s) new h.4 (conn_arrived c (shut k) s)

open_arrived : (token : Option (List ℕ)) (s : State) (c : ℕ) (k : Conn) (text : List ℕ) (out : Outs) (new : State) → OpenText token s c k text [] out new → Arrived s new
open_arrived token s c k text out new = by (nat_lt MAX_BODY_BYTES (length text))
  where
    by : (b : Bool) → MatchBool b (Goes (closing c k None 1009 s) [] out new) (ReadText token s c k text [] out new) → Arrived s new
    by true h = left_arrived s (with_conn c (shut k) s) new h.left (conn_arrived c (shut k) s)
    by false h = left_arrived s (on_answer token c k h.answer s).state new h.goes.left (answer_arrived token c k h.answer s)

heard_arrived : (s : State) (o : Option Conn) (Does : Conn → Type 0) (out : Outs) (new : State) → ((k : Conn) → Does k → Arrived s new) → Heard s o Does [] out new → Arrived s new
heard_arrived s None Does out new does h = left_arrived s s new h.left (none_arrived s)
heard_arrived s (Some k) Does out new does h = by k.closing h
  where
    by : (b : Bool) → MatchBool b (Goes (quiet s) [] out new) (Does k) → Arrived s new
    by true g = left_arrived s s new g.left (none_arrived s)
    by false g = does k g

pub text_arrived : (token : Option (List ℕ)) (s : State) (c : ℕ) (text : List ℕ) (out : Outs) (new : State) → TextSteps token s c text out new → Arrived s new
text_arrived token s c text out new = by (is_short out)
  where
    by : (b : Bool) → MatchBool b (TextFell s c (at c s.conns) text [] out new) (Heard s (at c s.conns) (λ k. OpenText token s c k text [] out new) [] out new) → Arrived s new
    by true h = fell_arrived s c (at c s.conns) text out new h
    by false h = heard_arrived s (at c s.conns) (λ k. OpenText token s c k text [] out new) out new (λ k g. open_arrived token s c k text out new g) h

pub binary_arrived : (s : State) (c : ℕ) (out : Outs) (new : State) → BinarySteps s c out new → Arrived s new
binary_arrived s c out new h =
    heard_arrived s (at c s.conns) (λ k. Goes (closing c k None 1003 s) [] out new) out new (λ k g. left_arrived s (with_conn c (shut k) s) new g.left (conn_arrived c (shut k) s)) h

pub new_arrived : (s : State) (c : ℕ) (closing : Bool) (new : State) → new ≡ with_new_conn c closing s → Arrived s new
new_arrived s c closing new e = left_arrived s (with_new_conn c closing s) new e (record { next = refl; version = refl; events = refl; issued = refl; stopped = refl; ties = λ store numbers t. t; moves = keeps_all refl refl })

-- ---- one more place in the table of turns

has_placed : (s : StreamNo) (xs : List StreamNo) → has s (place_in s xs) ≡ true
has_placed s [] = rw (same s s refl) refl
has_placed s (x ∷ xs) = elim (cases_Bool (nat_lt x.0 s.0)) [
  | inl below ↦ rw (below, has_placed s xs) (or_true (same_stream x s))
  | inr above ↦ elim (cases_Bool (same_stream x s)) [
    | inl e ↦ rw (above, e) (rw e refl)
    | inr ne ↦ rw (above, ne) (rw (same s s refl) refl)
  ]
]
  where
    or_true : (b : Bool) → (b || true) ≡ true
    or_true true = refl
    or_true false = refl

place_agrees_as : {D : Type 0} (told : Bool) (db : D) (live : Lives D) (t : Turns) (n s : StreamNo) (state : TxnState) → AgreesAs told db live t n state → AgreesAs told db live (with_place t s) n state
place_agrees_as told db live t n s Auto h = h
place_agrees_as told db live t n s Deferred h = h
place_agrees_as told db live t n s (Reading unit had) h = record { turn = h.turn; lives = h.lives; current = h.current }
place_agrees_as told db live t n s (Writing unit) h = record { turn = h.turn; own = h.own; only = h.only }
place_agrees_as told db live t n s (Dead cause) h = h
place_agrees_as told db live t n s Closed h = h

place_agrees_at : {D : Type 0} (told : Bool) (db : D) (live : Lives D) (t : Turns) (n : ℕ) (s : StreamNo) (o : Option TxnState) → AgreesAt told db live t n o → AgreesAt told db live (with_place t s) n o
place_agrees_at told db live t n s None h = h
place_agrees_at told db live t n s (Some state) h = place_agrees_as told db live t (numbered n) s state h

place_together : {D : Type 0} (told shared : Bool) (db : D) (live : Lives D) (t : Turns) (next : ℕ) (states : States) (s : StreamNo) → Together told shared db live t next states → Together told shared db live (with_place t s) next states
place_together told shared db live t next states s h = record {
  agree = λ n. place_agrees_at told db live t n s (states n) (h.agree n);
  places = λ n e. still_placed (numbered n) s t.reserved (h.places n e);
  began = h.began;
  owned = h.owned;
  apart = h.apart;
  below = h.below;
  writers = h.writers;
  quiet = h.quiet;
  one = h.one;
}

abbrev with_turns : Turns → Seen → Seen
with_turns t h = record h { turns = t }

place_agrees : {D : Type 0} (told shared : Bool) (db : D) (live : Lives D) (h : Seen) (t : Turns) (s : StreamNo) → t ≡ with_place h.turns s → HubAgrees told shared db live h → HubAgrees told shared db live (with_turns t h)
place_agrees told shared db live h t s e a = subst (λ (u : Turns). HubAgrees told shared db live (with_turns u h)) (sym e) (record {
  together = place_together told shared db live h.turns h.noted.next (states_of h.state.streams) s a.together;
  waiters = a.waiters;
  numbers = a.numbers;
  version = a.version;
  next = a.next;
  places = a.places;
  counts = a.counts;
  tied = a.tied;
  issued = a.issued;
})

turns_agree : {D : Type 0} (told shared : Bool) (db : D) (live : Lives D) (old new : Seen) → TurnsStay old new → HubAgrees told shared db live old → HubAgrees told shared db live (with_turns new.turns old)
turns_agree told shared db live old new (inl stay) a = subst (λ (t : Turns). HubAgrees told shared db live (with_turns t old)) (sym stay.0) (record {
  together = a.together;
  waiters = a.waiters;
  numbers = a.numbers;
  version = a.version;
  next = a.next;
  places = a.places;
  counts = a.counts;
  tied = a.tied;
  issued = a.issued;
})
turns_agree told shared db live old new (inr place) a = place_agrees told shared db live old new.turns (numbered (old.state.opened + 1)) place a

-- ---- one more stream

units_placed : (n : ℕ) (x : Stream) (es : Numbered Stream) → at n es ≡ None → open_of x.task.session.state ≡ 0 → open_units (placed n x es) ≡ open_units es
units_placed n x [] none closed = omega (arith, closed)
units_placed n x (e ∷ es) none closed = elim (cases_order n e.0) [
  | inl here ↦ absurd (none_some (sym none ∙ at_first n e es here))
  | inr order ↦ elim order [
    | inl below ↦ rw (placed_less n x e es below) (omega (arith, closed))
    | inr above ↦
        let rest = units_placed n x es (sym (at_later n e es (λ h. omega arith)) ∙ none) closed in
        rw (placed_more n x e es above) (omega (arith, rest))
  ]
]

pub placed_states : (n : ℕ) (x : Stream) (es : Numbered Stream) → Put (states_of es) (states_of (placed n x es)) n (Some x.task.session.state)
placed_states n x es = record { here = ap state_in (at_placed n x es); others = λ k ne. ap state_in (at_placed_other n k x es ne) }

known_placed : (n k : ℕ) (x : Stream) (es : Numbered Stream) → at n es ≡ None → IsSome (at k es) → IsSome (at k (placed n x es))
known_placed n k x es none some = ap is_some (at_placed_other n k x es (λ here. true≢false (sym some ∙ ap is_some (ap (λ j. at j es) here ∙ none)))) ∙ some

numbers_joined : (s s' : State) (x : Stream) → IsNumbered s → x.task.stream ≡ numbered (s.opened + 1) → s'.streams ≡ placed (s.opened + 1) x s.streams → s'.opened ≡ s.opened + 1 → IsNumbered s'
numbers_joined s s' x h named streams opened =
    let n = s.opened + 1 in
    record {
      rising = subst (λ es. IsStrictlySortedBy nat_cmp (keys_of es)) (sym streams) (rises_placed n x s.streams h.rising);
      own = λ k z f. (let there : at k (placed n x s.streams) ≡ Some z = ap (at k) (sym streams) ∙ f in
          elim (cases_eq k n) [
            | inl here ↦
                let is : x ≡ z = some_one (sym (at_placed n x s.streams) ∙ (ap (λ j. at j (placed n x s.streams)) (sym here) ∙ there)) in
                ap (λ (y : Stream). y.task.stream) (sym is) ∙ named ∙ ap numbered (sym here)
            | inr ne ↦ h.own k z (sym (at_placed_other n k x s.streams ne) ∙ there)
          ]);
      opened = λ k lt. (let ne : k ≢ n = λ here. omega (arith, opened) in
          ap (at k) streams ∙ (at_placed_other n k x s.streams ne ∙ h.opened k (omega (arith, opened))));
    }

joined_agrees : {D : Type 0} (told shared : Bool) (db : D) (live : Lives D) (old new : Seen) (x : Stream) → JoinsTogether D told shared → IsAhead old.state → HubAgrees told shared db live old → new.turns ≡ with_place old.turns (numbered (old.state.opened + 1)) → new.noted ≡ old.noted → StoreAgrees new
    → new.state.next ≡ old.state.next → new.state.version ≡ old.state.version → new.state.events ≡ old.state.events → x.task.stream ≡ numbered (old.state.opened + 1) → x.task.session.state ≡ Auto → new.state.streams ≡ placed (old.state.opened + 1) x old.state.streams → new.state.opened ≡ old.state.opened + 1 → HubAgrees told shared db live new
joined_agrees {D} told shared db live old new x joins ahead a turns noted store next version events named auto streams opened =
    let n = old.state.opened + 1 in
    let free : at n old.state.streams ≡ None = a.numbers.opened n (omega arith) in
    let states : Put (states_of old.state.streams) (states_of (placed n x old.state.streams)) n (Some Auto) = subst (λ v. Put (states_of old.state.streams) (states_of (placed n x old.state.streams)) n (Some v)) auto (placed_states n x old.state.streams) in
    let together : Together told shared db live (with_place old.turns (numbered n)) old.noted.next (states_of (placed n x old.state.streams)) =
    joins db live old.turns old.noted.next (states_of old.state.streams) (states_of (placed n x old.state.streams)) (numbered n) a.together (ap state_in free) (has_placed (numbered n) old.turns.reserved) states in
    let next_same = ap (λ (m : Noted). m.next) noted in
    let spare_same = ap (λ (m : Noted). m.spare) noted in
    let units_same = ap open_units streams ∙ units_placed n x old.state.streams free (ap open_of auto) in
    record {
      together = subst (λ (t : Turns). Together told shared db live t new.noted.next (states_of new.state.streams)) (sym turns)
          (subst (λ m. Together told shared db live (with_place old.turns (numbered n)) m (states_of new.state.streams)) (sym next_same)
          (subst (λ es. Together told shared db live (with_place old.turns (numbered n)) old.noted.next (states_of es)) (sym streams) together));
      waiters = λ k w. subst (λ es. IsSome (at k es)) (sym streams) (known_placed n k x old.state.streams free (a.waiters k (sym (ap (λ (t : Turns). has (numbered k) t.waiters) turns) ∙ w)));
      numbers = numbers_joined old.state new.state x a.numbers named streams opened;
      version = version ∙ (a.version ∙ ap (λ (t : Turns). t.version) (sym turns));
      next = next ∙ (a.next ∙ sym next_same);
      places = omega (arith, units_same, spare_same, a.places);
      counts = record { streams = omega (arith, opened, events, ahead.streams); units = omega (arith, next, events, ahead.units); commits = omega (arith, version, events, ahead.commits); batons = store.few };
      tied = store.tied;
      issued = store.issued;
    }

-- ---- what arrived

arrival_moves : (old new : Seen) → new.noted ≡ old.noted → (es : Numbered Stream) → new.state.streams ≡ es → new.state.opened ≡ old.state.opened → new.state.next ≡ old.state.next → new.state.version ≡ old.state.version → new.state.events ≡ old.state.events
    → Kept (with_turns new.turns old) new es
arrival_moves old new noted es streams opened next version events = record {
  streams_are = streams;
  opened = opened;
  next = next;
  version = version;
  events = omega (arith, events);
  turns = refl;
  noted = ap (λ (m : Noted). m.next) noted;
  places = (let spare = ap (λ (m : Noted). m.spare) noted in omega (arith, spare));
}

pub arrived_agrees : {D : Type 0} (told shared : Bool) (db : D) (live : Lives D) (old new : Seen) → JoinsTogether D told shared → IsAhead old.state → HubAgrees told shared db live old → new.noted ≡ old.noted → TurnsStay old new → StoreAgrees new
    → (next : new.state.next ≡ old.state.next) (version : new.state.version ≡ old.state.version) (events : new.state.events ≡ old.state.events) → Moves old.state new.state → HubAgrees told shared db live new
arrived_agrees told shared db live old new joins ahead a noted turns store next version events (keeps_all streams opened) =
    let mid = turns_agree told shared db live old new turns a in
    left_agrees told shared db live (with_turns new.turns old) new mid (arrival_moves old new noted old.state.streams streams opened next version events) store
arrived_agrees told shared db live old new joins ahead a noted turns store next version events (puts_one n x y there stream state streams opened) =
    moves_agrees told shared db live (with_turns new.turns old) new n x y (turns_agree told shared db live old new turns a) there stream state (arrival_moves old new noted (put n y old.state.streams) streams opened next version events) store
arrived_agrees {D} told shared db live old new joins ahead a noted turns store next version events (adds_one x named auto streams opened) = elim turns [
  | inl stay ↦ absurd (let same = stay.1 in omega (arith, same, opened))
  | inr place ↦ joined_agrees told shared db live old new x joins ahead a place noted store next version events named auto streams opened
]

-- the store is as it was
store_arrives : {D : Type 0} (told shared : Bool) (db : D) (live : Lives D) (old new : Seen) → HubAgrees told shared db live old → IsAfter new.state old new → Arrived old.state new.state → StoreAgrees new
store_arrives told shared db live old new a after h = record {
  few = omega (arith, h.issued, h.events, a.counts.batons);
  issued = ap (λ (b : Batons). b.issued) after.store ∙ a.issued ∙ sym h.issued;
  tied = λ runs. subst (IsTied new.state.streams) (sym after.store) (h.ties old.store a.numbers (a.tied (sym h.stopped ∙ runs)));
}

as_arrived : {D : Type 0} (told shared : Bool) (db : D) (live : Lives D) (old new : Seen) → JoinsTogether D told shared → IsAhead old.state → HubAgrees told shared db live old → IsAfter new.state old new → Arrived old.state new.state → HubAgrees told shared db live new
as_arrived told shared db live old new joins ahead a after h = arrived_agrees told shared db live old new joins ahead a after.noted after.turns (store_arrives told shared db live old new a after h) h.next h.version h.events h.moves

-- a text keeps the agreement
pub text_agrees : {D : Type 0} (told shared : Bool) (db : D) (live : Lives D) (token : Option (List ℕ)) (c : ℕ) (text : List ℕ) (out : Outs) (old new : Seen)
    → JoinsTogether D told shared → IsAhead old.state → HubAgrees told shared db live old → TextSteps token old.state c text out new.state → IsAfter new.state old new → HubAgrees told shared db live new
text_agrees told shared db live token c text out old new joins ahead a steps after =
    let h = text_arrived token old.state c text out new.state steps in
    as_arrived told shared db live old new joins ahead a after h

pub binary_agrees : {D : Type 0} (told shared : Bool) (db : D) (live : Lives D) (c : ℕ) (out : Outs) (old new : Seen)
    → JoinsTogether D told shared → IsAhead old.state → HubAgrees told shared db live old → BinarySteps old.state c out new.state → IsAfter new.state old new → HubAgrees told shared db live new
binary_agrees told shared db live c out old new joins ahead a steps after =
    let h = binary_arrived old.state c out new.state steps in
    as_arrived told shared db live old new joins ahead a after h

pub opened_agrees : {D : Type 0} (told shared : Bool) (db : D) (live : Lives D) (c : ℕ) (closing : Bool) (old new : Seen)
    → JoinsTogether D told shared → IsAhead old.state → HubAgrees told shared db live old → new.state ≡ with_new_conn c closing old.state → IsAfter new.state old new → HubAgrees told shared db live new
opened_agrees told shared db live c closing old new joins ahead a steps after =
    let h = new_arrived old.state c closing new.state steps in
    as_arrived told shared db live old new joins ahead a after h
