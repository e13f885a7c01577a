-- What a step does to the exchanges: which of them run, which batons streams wait for, how many were issued, and what is answered.
use Rattle.std.proofs.Common.{◌≡◌, ◌≢◌, ◌≤◌, ◌+◌, ◌⊎◌, ℕ, ℤ, Bool, true, false, cond, nat_le, List, [], ◌∷◌, length, Option, None, Some, Result, Ok, Err, refl, sym, ap, ◌∙◌, inl, inr}
use Rattle.hrana_value.specs.declared.failures.Decline.{Decline}
use Rattle.stream_requests.specs.declared.asks.Ask.{Ask}
use Rattle.stream_requests.specs.declared.asks.Ask.TheVariants as ask
use Rattle.ws_messages.specs.declared.messages.ClientMsg.{ClientMsg}
use Rattle.ws_messages.specs.declared.messages.ClientMsg.TheVariants.{Hello, Request}
use Rattle.ws_messages.specs.declared.messages.MsgFail.{MsgFail}
use Rattle.ws_messages.specs.declared.messages.MsgFail.TheVariants as fail
use Rattle.ws_messages.specs.declared.messages.WsRequest.{WsRequest}
use Rattle.ws_messages.specs.declared.messages.WsRequest.TheVariants as request
use Rattle.http_wire.specs.declared.asks.HttpAsk.{HttpAsk}
use Rattle.http_wire.specs.declared.outs.Outs.{Outs}
use Rattle.baton_store.specs.Text.{text_of}
use Rattle.stream_task.specs.Checks.{stored_text}
use Rattle.stream_task.specs.Texts.{is_full}
use Rattle.hrana_hub.specs.declared.events.Event.{Event}
use Rattle.hrana_hub.specs.declared.events.Event.TheVariants.{Exchange, Lost, Stop}
use Rattle.hrana_hub.specs.declared.limits.TheConstants.{MAX_STREAMS}
use Rattle.hrana_hub.specs.declared.sessions.Running.{Running as Runs}
use Rattle.hrana_hub.specs.declared.sessions.Session.{Session}
use Rattle.hrana_hub.specs.declared.sessions.Session.TheVariants.{Resting, Running}
use Rattle.hrana_hub.specs.Maps.{Numbered, at, put, placed, without, those_left, id_at}
use Rattle.hrana_hub.specs.State.{Conn, Stream, State}
use Rattle.hrana_hub.specs.Texts.{put_ask}
use Rattle.hrana_hub.specs.Arrivals.{Went, quiet, accepts, on_hello, fresh, waiting, closing, opens, opens_unless, unopened, asks, asks_at, queues, stores, stores_unless, on_request, on_numbered, on_answer}
use Rattle.hrana_hub.specs.Batons.{is_answer, answers_on, exchanges_on, tells_no_token}
use Rattle.hrana_hub.specs.Moments.{after}
use Rattle.hrana_hub.proofs.Left.{left_cases, after_cases}
use Rattle.hrana_hub.proofs.Listed.{put_cases, placed_cases, without_cases}
use Rattle.hrana_hub.proofs.MapLemmas.{none_some, some_one, Rises}

-- ---- what streams of exchanges wait for

-- the stream of the number is one of exchanges, and waits for this
pub record Waits (es : Numbered Stream) (n : ℕ) (w : Session) : Type 0 where
  pub x : Stream
  pub known : at n es ≡ Some x
  pub session : x.session ≡ Some w

-- each that waits now waited so before
abbrev pub Fewer : Numbered Stream → Numbered Stream → Type 0
Fewer es fs = (n : ℕ) (w : Session) → Waits fs n w → Waits es n w

-- or it is the one of this number, and waits for this
abbrev pub FewerBut : ℕ → Session → Numbered Stream → Numbered Stream → Type 0
FewerBut n now es fs = (m : ℕ) (w : Session) → Waits fs m w → ((m ≡ n) × (w ≡ now)) ⊎ ((m ≢ n) × Waits es m w)

abbrev pub IsNoAnswer : Outs → Type 0
IsNoAnswer out = is_answer out.out ≡ false

-- no more answers are given than exchanges came in
abbrev pub IsEven : Event → Outs → Type 0
IsEven event out = (c : ℕ) → answers_on c (out ∷ []) ≤ exchanges_on c (event ∷ [])

-- the exchange of the connection ends with the event: it has just come in, a poll of its stream answers it, or it is lost
pub data Ends (s : State) (n c : ℕ) (out : Outs) : Event → Type 0 where
  comes : (ask : HttpAsk) → at c s.exchanges ≡ None → out.conn ≡ c → Ends s n c out (Exchange c ask)
  replies : (event : Event) (e : Runs) → Waits s.streams n (Running e) → e.conn ≡ c → out.conn ≡ c → tells_no_token out.out ≡ false → Ends s n c out event
  lost : at c s.exchanges ≡ Some n → IsNoAnswer out → Ends s n c out (Lost c)

-- the baton of this issue
abbrev pub handed : List ℕ → ℕ → ℕ → Session
handed drawn issued now = Resting (Some (record { text = text_of (issued + 1) drawn; at = now }))

pub data Moves (s new : State) (out : Outs) : Event → Type 0 where
  still : (event : Event) → Fewer s.streams new.streams → new.exchanges ≡ s.exchanges → new.issued ≡ s.issued → IsEven event out → Moves s new out event
  begins_on : (c : ℕ) (ask : HttpAsk) (n : ℕ) (e : Runs) → e.conn ≡ c → at c s.exchanges ≡ None → FewerBut n (Running e) s.streams new.streams → new.exchanges ≡ placed c n s.exchanges → new.issued ≡ s.issued → IsNoAnswer out → Moves s new out (Exchange c ask)
  goes_on : (event : Event) (n : ℕ) (e f : Runs) → Waits s.streams n (Running e) → f.conn ≡ e.conn → FewerBut n (Running f) s.streams new.streams → new.exchanges ≡ s.exchanges → new.issued ≡ s.issued → IsNoAnswer out → Moves s new out event
  hands : (event : Event) (n c : ℕ) (drawn : List ℕ) → Ends s n c out event → FewerBut n (handed drawn s.issued s.now) s.streams new.streams → new.exchanges ≡ without c s.exchanges → new.issued ≡ s.issued + 1 → Moves s new out event
  leaves : (event : Event) (n c : ℕ) → Ends s n c out event → FewerBut n (Resting None) s.streams new.streams → new.exchanges ≡ without c s.exchanges → new.issued ≡ s.issued → Moves s new out event
  stops : IsNoAnswer out → new.streams ≡ [] → new.exchanges ≡ [] → new.issued ≡ s.issued → Moves s new out Stop

-- ---- lists of streams

pub fewer_same : (es fs : Numbered Stream) → fs ≡ es → Fewer es fs
fewer_same es fs e n w h = record { x = h.x; known = ap (λ gs. at n gs) (sym e) ∙ h.known; session = h.session }

session_some : (o : Option Session) (w : Session) → o ≡ None → o ≡ Some w → ⊥
session_some o w e f = none_some (sym e ∙ f)

one_session : {v w : Session} (o : Option Session) → o ≡ Some v → o ≡ Some w → w ≡ v
one_session o e f = some_one (sym f ∙ e)

module _ (es : Numbered Stream) where
  -- the stream has become another with the same session
  pub fewer_put : (n : ℕ) (x y : Stream) → at n es ≡ Some x → y.session ≡ x.session → Fewer es (put n y es)
  fewer_put n x y known same m w h = elim (put_cases n m x y h.x es known h.known) [
    | inl own ↦ record { x = x; known = ap (λ j. at j es) own.0 ∙ known; session = sym same ∙ ap (λ (z : Stream). z.session) (sym own.1) ∙ h.session }
    | inr other ↦ record { x = h.x; known = other.1; session = h.session }
  ]

  -- one of a connection has come
  pub fewer_placed : (n : ℕ) (y : Stream) → y.session ≡ None → Fewer es (placed n y es)
  fewer_placed n y none m w h = elim (placed_cases n m y h.x es h.known) [
    | inl own ↦ absurd (session_some y.session w none (ap (λ (z : Stream). z.session) (sym own.1) ∙ h.session))
    | inr other ↦ record { x = h.x; known = other.1; session = h.session }
  ]

  pub but_put : (n : ℕ) (x y : Stream) (now : Session) → at n es ≡ Some x → y.session ≡ Some now → FewerBut n now es (put n y es)
  but_put n x y now known is m w h = elim (put_cases n m x y h.x es known h.known) [
    | inl own ↦ inl (own.0, one_session y.session is (ap (λ (z : Stream). z.session) (sym own.1) ∙ h.session))
    | inr other ↦ inr (other.0, record { x = h.x; known = other.1; session = h.session })
  ]

pub fewer_without : (n : ℕ) (es : Numbered Stream) → Rises es → Fewer es (without n es)
fewer_without n es r m w h = record { x = h.x; known = (without_cases n m h.x es r h.known).1; session = h.session }

pub but_without : (n : ℕ) (now : Session) (es : Numbered Stream) → Rises es → FewerBut n now es (without n es)
but_without n now es r m w h = (let was = without_cases n m h.x es r h.known in inr (was.0, record { x = h.x; known = was.1; session = h.session }))

-- what a moment leaves
after_session : (moment : ℕ) (x z : Stream) → after moment x ≡ Some z → z.session ≡ x.session
after_session moment x z = after_cases (λ o. o ≡ Some z → z.session ≡ x.session) moment x
    (λ due e. ap (λ (y : Stream). y.session) (sym (some_one e))) (λ due own e. ap (λ (y : Stream). y.session) (sym (some_one e))) (λ due is e. absurd (none_some e))

pub fewer_left : (moment : ℕ) (es : Numbered Stream) → Rises es → Fewer es (those_left (after moment) es)
fewer_left moment es r n w h = (let was = left_cases (after moment) n h.x es r h.known in record { x = was.0; known = was.1; session = sym (after_session moment was.0 h.x was.2) ∙ h.session })

-- in a list that has it already the stream has become another
pub but_then : (n : ℕ) (now : Session) (es fs gs : Numbered Stream) → ((m : ℕ) (w : Session) → m ≢ n → Waits fs m w → Waits es m w) → FewerBut n now fs gs → FewerBut n now es gs
but_then n now es fs gs f h m w v = elim (h m w v) [ inl own ↦ inl own | inr other ↦ inr (other.0, f m w other.0 other.1) ]

-- ---- a text

-- streams of exchanges and exchanges are as before, and none is answered
pub record Calm (s : State) (went : Went) : Type 0 where
  pub fewer : Fewer s.streams went.state.streams
  pub exchanges : went.state.exchanges ≡ s.exchanges
  pub issued : went.state.issued ≡ s.issued
  pub silent : IsNoAnswer went.given

-- it is so where the streams are the same
calm : (s : State) (went : Went) → went.state.streams ≡ s.streams → went.state.exchanges ≡ s.exchanges → went.state.issued ≡ s.issued → IsNoAnswer went.given → Calm s went
calm s went ss es i quiet = record { fewer = fewer_same s.streams went.state.streams ss; exchanges = es; issued = i; silent = quiet }

hello : (b : Bool) (c : ℕ) (k : Conn) (s : State) → Calm s (on_hello b c k s)
hello true c k s = calm s (on_hello true c k s) refl refl refl refl
hello false c k s = calm s (on_hello false c k s) refl refl refl refl

opened_unless : (b : Bool) (c : ℕ) (k : Conn) (id stream : ℤ) (s : State) → Calm s (opens_unless b c k id stream s)
opened_unless true c k id stream s = calm s (opens_unless true c k id stream s) refl refl refl refl
opened_unless false c k id stream s = record { fewer = fewer_placed s.streams (s.opened + 1) (fresh s.now c (s.opened + 1)) refl; exchanges = refl; issued = refl; silent = refl }

opened : (o : Option ℕ) (c : ℕ) (k : Conn) (id stream : ℤ) (s : State) → Calm s (opens o c k id stream s)
opened (Some n) c k id stream s = calm s (opens (Some n) c k id stream s) refl refl refl refl
opened None c k id stream s = opened_unless (nat_le MAX_STREAMS (length k.streams)) c k id stream s

not_open : (c : ℕ) (id : ℤ) (what : Ask) (s : State) → Calm s (unopened c id what s)
not_open c id ask.Close s = calm s (unopened c id ask.Close s) refl refl refl refl
not_open c id what s = calm s (unopened c id what s) refl refl refl refl

queued : (o : Option Ask) (c : ℕ) (k : Conn) (stream : ℤ) (n : ℕ) (x : Stream) (id : ℤ) (s : State) → at n s.streams ≡ Some x → Calm s (queues o c k stream n x id s)
queued None c k stream n x id s known = calm s (queues None c k stream n x id s) refl refl refl refl
queued (Some what) c k stream n x id s known = record { fewer = fewer_put s.streams n x (waiting id what x) known refl; exchanges = refl; issued = refl; silent = refl }

asked_at : (n : ℕ) (o : Option Stream) (c : ℕ) (k : Conn) (stream id : ℤ) (what : Ask) (s : State) → at n s.streams ≡ o → Calm s (asks_at n o c k stream id what s)
asked_at n None c k stream id what s e = not_open c id what s
asked_at n (Some x) c k stream id what s e = queued (put_ask k.texts what) c k stream n x id s e

asked : (o : Option ℕ) (c : ℕ) (k : Conn) (stream id : ℤ) (what : Ask) (s : State) → Calm s (asks o c k stream id what s)
asked None c k stream id what s = not_open c id what s
asked (Some n) c k stream id what s = asked_at n (at n s.streams) c k stream id what s refl

stored_unless : (b : Bool) (c : ℕ) (k : Conn) (id number : ℤ) (sql : List ℕ) (s : State) → Calm s (stores_unless b c k id number sql s)
stored_unless true c k id number sql s = calm s (stores_unless true c k id number sql s) refl refl refl refl
stored_unless false c k id number sql s = calm s (stores_unless false c k id number sql s) refl refl refl refl

stored : (o : Option (List ℕ)) (c : ℕ) (k : Conn) (id number : ℤ) (sql : List ℕ) (s : State) → Calm s (stores o c k id number sql s)
stored (Some text) c k id number sql s = calm s (stores (Some text) c k id number sql s) refl refl refl refl
stored None c k id number sql s = stored_unless (is_full k.texts sql) c k id number sql s

requested : (c : ℕ) (k : Conn) (id : ℤ) (r : WsRequest) (s : State) → Calm s (on_request c k id r s)
requested c k id (request.OpenStream stream) s = opened (id_at stream k.ids) c k id stream s
requested c k id (request.OnStream stream what) s = asked (id_at stream k.ids) c k stream id what s
requested c k id (request.StoreSql number sql) s = stored (stored_text number k.texts) c k id number sql s
requested c k id other s = calm s (on_request c k id other s) refl refl refl refl

numbered : (c : ℕ) (k : Conn) (id : ℤ) (r : Result WsRequest Decline) (s : State) → Calm s (on_numbered c k id r s)
numbered c k id (Ok r) s = requested c k id r s
numbered c k id (Err why) s = calm s (on_numbered c k id (Err why) s) refl refl refl refl

greeted : (b : Bool) (c : ℕ) (k : Conn) (went : Went) (s : State) → Calm s went → Calm s (cond b went (closing c k None 1002 s))
greeted true c k went s h = h
greeted false c k went s h = calm s (closing c k None 1002 s) refl refl refl refl

pub answered : (token : Option (List ℕ)) (c : ℕ) (k : Conn) (r : Result ClientMsg MsgFail) (s : State) → Calm s (on_answer token c k r s)
answered token c k (Ok (Hello jwt)) s = hello (accepts token jwt) c k s
answered token c k (Ok (Request id r)) s = greeted k.greeted c k (on_numbered c k id (Ok r) s) s (numbered c k id (Ok r) s)
answered token c k (Err (fail.Declined id why)) s = greeted k.greeted c k (on_numbered c k id (Err why) s) s (numbered c k id (Err why) s)
answered token c k (Err violation) s = calm s (closing c k None 1002 s) refl refl refl refl
