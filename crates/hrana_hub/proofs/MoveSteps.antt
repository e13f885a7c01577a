-- What each event does to the exchanges.
use Rattle.std.proofs.Common.{◌≡◌, ◌≢◌, ◌≤◌, ◌+◌, ◌&&◌, ℕ, ℤ, Bool, true, false, cond, nat_eq, nat_lt, nat_le, List, [], ◌∷◌, length, Option, None, Some, MatchBool, refl, sym, ap, ◌∙◌, subst, arith, inl, inr}
use Rattle.std.proofs.lemmas.Bool.{true≢false}
use Rattle.hrana_value.specs.declared.StreamNo.{StreamNo}
use Rattle.stream_requests.specs.declared.asks.Ask.{Ask}
use Rattle.stream_requests.specs.declared.replies.Reply.{Reply}
use Rattle.http_wire.specs.declared.asks.HttpAsk.{HttpAsk}
use Rattle.http_wire.specs.declared.limits.TheConstants.{MAX_BODY_BYTES}
use Rattle.http_wire.specs.declared.outs.HttpAnswer.{HttpAnswer}
use Rattle.http_wire.specs.declared.outs.Outs.{Outs}
use Rattle.http_wire.specs.declared.outs.Out.TheVariants.{Answer}
use Rattle.pipeline_body.specs.Exchanges.{route_answer, empty_answer, begins, asked_in, is_over}
use Rattle.pipeline_body.specs.declared.bodies.PipelineBody.{PipelineBody}
use Rattle.pipeline_body.specs.declared.exchange.Asked.{Asked}
use Rattle.pipeline_body.specs.declared.exchange.Asked.TheVariants.{Answered, Pipeline}
use Rattle.engine_core.specs.Draws.{Draw, words, failed}
use Rattle.engine_core.specs.declared.entries.Entry.{Entry}
use Rattle.stream_task.specs.Polls.{Task, is_waiting}
use Rattle.stream_task.specs.Session.{is_shut}
use Rattle.hrana_hub.specs.declared.events.Event.{Event}
use Rattle.hrana_hub.specs.declared.events.Event.TheVariants.{Opened, Text, Binary, Exchange, Lost, Moment, Poll, Stop}
use Rattle.hrana_hub.specs.declared.limits.TheConstants.{MAX_SESSIONS}
use Rattle.hrana_hub.specs.declared.sessions.Running.{Running as Runs}
use Rattle.hrana_hub.specs.declared.sessions.Session.{Session}
use Rattle.hrana_hub.specs.declared.sessions.Session.TheVariants.{Resting, Running}
use Rattle.hrana_hub.specs.Maps.{at, put, placed, without}
use Rattle.hrana_hub.specs.State.{Conn, Stream, State}
use Rattle.hrana_hub.specs.Arrivals.{Went, quiet, nothing, closing, on_answer}
use Rattle.hrana_hub.specs.Askers.{asks_these}
use Rattle.hrana_hub.specs.Batons.{is_answer, answers_on, tells_no_token}
use Rattle.hrana_hub.specs.Polled.{Polled, PollFell, answer, reply_in, is_over as closes, polled, passed, streams_left, dropped, with_entry, with_task}
use Rattle.hrana_hub.specs.Ended.{let_go, without_conn}
use Rattle.hrana_hub.specs.Exchanges.{SessionPolled, SessionFell, fresh_session, with_session, in_session, sessions_in, works_of, starts_if, proceeds_if, concludes, with_reply, replies_to, opens_unless as session_opens, Does, GoesBy, GoesDrawn, GoesAsked, IsHeard}
use Rattle.hrana_hub.specs.Moments.{at_moment, expiries}
use Rattle.hrana_hub.specs.Step.{Step, ComesOf, Falls, Happens, Goes, ReadText, OpenText, Heard, PolledBy, PolledAt, ExchangeLost, LostAt, MomentAt, TextFell, PollFellOn, PollFellBy, PollFellAt, ExchangeFell, ExchangeGoes, is_short, counted, may_come, fits}
use Rattle.hrana_hub.proofs.Changes.{opens_may, counted_may}
use Rattle.hrana_hub.proofs.Kept.{counted_kept}
use Rattle.hrana_hub.proofs.Listed.{let_go_cases, placed_cases}
use Rattle.hrana_hub.proofs.MapLemmas.{at_placed}
use Rattle.hrana_hub.proofs.Moving.{Waits, Fewer, FewerBut, IsNoAnswer, IsEven, Ends, comes, replies, lost, Moves, still, begins_on, goes_on, hands, leaves, stops, handed, Calm, fewer_same, fewer_put, but_put, fewer_without, but_without, fewer_left, but_then, answered}
use Rattle.hrana_hub.proofs.Standing.{Kept}

-- ---- how many answers

pub none_on : (c : ℕ) (out : Outs) → IsNoAnswer out → answers_on c (out ∷ []) ≡ 0
none_on c out quiet = by (nat_eq out.conn c) (is_answer out.out) quiet
  where
    by : (a b : Bool) → b ≡ false → cond (a && b) 1 0 + 0 ≡ 0
    by a true e = absurd (true≢false e)
    by true false e = refl
    by false false e = refl

silent_even : (event : Event) (out : Outs) → IsNoAnswer out → IsEven event out
silent_even event out quiet c = (let none = none_on c out quiet in omega (arith, none))

-- one answer to the exchange that has come in
one_even : (conn : ℕ) (ask : HttpAsk) (out : Outs) → out.conn ≡ conn → IsEven (Exchange conn ask) out
one_even conn ask out own c = subst (λ k. cond (nat_eq k c && is_answer out.out) 1 0 + 0 ≤ cond (nat_eq conn c) 1 0 + 0) (sym own) (by (nat_eq conn c) (is_answer out.out))
  where
    by : (a b : Bool) → cond (a && b) 1 0 + 0 ≤ cond a 1 0 + 0
    by true true = omega arith
    by true false = omega arith
    by false b = omega arith

reply_silent : (c : ℕ) (ids : List ℤ) (reply : Option Reply) → IsNoAnswer (answer c ids reply)
reply_silent c ids None = refl
reply_silent c ids (Some reply) = refl

pub either : {A B C : Type 0} (b : Bool) → (A → C) → (B → C) → MatchBool b A B → C
either true f g h = f h
either false f g h = g h

-- the empty 503 isn't the answer where no words could be drawn
pub short_quiet : (close : Bool) → tells_no_token (Some (Answer (empty_answer 503 None close))) ≡ false
short_quiet close = refl

module _ (s : State) (kept : Kept s) (added : List Entry) (out : Outs) (new : State) where
  abbrev M : Event → Type 0
  M event = Moves s new out event

  still_as : (event : Event) (t : State) → new ≡ t → Fewer s.streams t.streams → t.exchanges ≡ s.exchanges → t.issued ≡ s.issued → IsNoAnswer out → M event
  still_as event t left fewer es i quiet = subst (λ u. Moves s u out event) (sym left) (still event fewer es i (silent_even event out quiet))

  silent_as : (w : Outs) → out ≡ w → IsNoAnswer w → IsNoAnswer out
  silent_as w e quiet = subst IsNoAnswer (sym e) quiet

  -- nothing changed
  goes_still : (event : Event) → Goes (quiet s) added out new → M event
  goes_still event g = still_as event s g.left (fewer_same s.streams s.streams refl) refl refl (silent_as nothing g.given refl)

  calm_still : (event : Event) (went : Went) → Calm s went → out ≡ went.given → new ≡ went.state → M event
  calm_still event went h given left = still_as event went.state left h.fewer h.exchanges h.issued (silent_as went.given given h.silent)

  -- the streams are the same, and nobody is answered
  same_still : (event : Event) (t : State) (w : Outs) → new ≡ t → t.streams ≡ s.streams → t.exchanges ≡ s.exchanges → t.issued ≡ s.issued → out ≡ w → IsNoAnswer w → M event
  same_still event t w left ss es i given quiet = still_as event t left (fewer_same s.streams t.streams ss) es i (silent_as w given quiet)

  heard : (event : Event) (o : Option Conn) (Does' : Conn → Type 0) → ((k : Conn) → Does' k → M event) → Heard s o Does' added out new → M event
  heard event None Does' f h = goes_still event h
  heard event (Some k) Does' f h = either k.closing (goes_still event) (f k) h

  -- ---- texts

  texts : (token : Option (List ℕ)) (c : ℕ) (k : Conn) (text : List ℕ) → OpenText token s c k text added out new → M (Text c text)
  texts token c k text h = either (nat_lt MAX_BODY_BYTES (length text))
      (λ (g : Goes (closing c k None 1009 s) added out new). same_still (Text c text) (closing c k None 1009 s).state (closing c k None 1009 s).given g.left refl refl refl g.given refl)
      (λ (r : ReadText token s c k text added out new). calm_still (Text c text) (on_answer token c k r.answer s) (answered token c k r.answer s) r.goes.given r.goes.left) h

  text_fell : (c : ℕ) (o : Option Conn) (text : List ℕ) → TextFell s c o text added out new → M (Text c text)
  text_fell c None text h = absurd h
  text_fell c (Some k) text h = same_still (Text c text) _ _ h.4 refl refl refl h.3 refl

  -- ---- polls

  module _ (shared : Bool) (stream : StreamNo) (x : Stream) (known : at stream.0 s.streams ≡ Some x) where
    left_fewer : (over : Bool) (y : Stream) → y.session ≡ x.session → Fewer s.streams (streams_left over stream.0 y s.streams)
    left_fewer true y same = fewer_without stream.0 s.streams kept.streams_rise
    left_fewer false y same = fewer_put s.streams stream.0 x y known same

    polls : (k : Conn) → Polled shared s stream.0 x.conn x k added out new → M (Poll stream)
    polls k p = still_as (Poll stream) _ p.left (left_fewer (closes (reply_in p.result) p.task) (polled s.now (reply_in p.result) p.task x) refl) refl refl (silent_as _ p.given (reply_silent x.conn x.waits (reply_in p.result)))

    falls : (k : Conn) → PollFell shared s stream.0 x.conn x k added out new → M (Poll stream)
    falls k p = still_as (Poll stream) _ p.left (fewer_put s.streams stream.0 x (dropped p.task x) known refl) refl refl (silent_as _ p.given refl)

    module _ (e : Runs) (is : x.session ≡ Some (Running e)) where
      runs : Waits s.streams stream.0 (Running e)
      runs = record { x = x; known = known; session = is }

      -- the exchange is answered with this poll
      ended : (w : Outs) → w.conn ≡ e.conn → tells_no_token w.out ≡ false → out ≡ w → Ends s stream.0 e.conn out (Poll stream)
      ended w own quiet given = replies (Poll stream) e runs refl (ap (λ (o : Outs). o.conn) given ∙ own) (ap (λ (o : Outs). tells_no_token o.out) given ∙ quiet)

      concluded : (over : Bool) (task : Task) (entry : Option Entry) (f : Runs) → f.conn ≡ e.conn → out ≡ (concludes over stream.0 (with_task task x) f (with_entry entry s)).given → new ≡ (concludes over stream.0 (with_task task x) f (with_entry entry s)).state → M (Poll stream)
      concluded true task entry f own given left = subst (λ u. Moves s u out (Poll stream)) (sym left)
          (leaves (Poll stream) stream.0 e.conn (ended _ own refl given) (but_without stream.0 (Resting None) s.streams kept.streams_rise) (ap (λ c. without c s.exchanges) own) refl)
      concluded false task entry f own given left = subst (λ u. Moves s u out (Poll stream)) (sym left)
          (hands (Poll stream) stream.0 e.conn f.words (ended _ own refl given) (but_put s.streams stream.0 x _ (handed f.words s.issued s.now) known refl) (ap (λ c. without c s.exchanges) own) refl)

      proceeded : (over : Bool) (task : Task) (entry : Option Entry) (f : Runs) → f.conn ≡ e.conn → out ≡ (proceeds_if over stream.0 (with_task task x) f (with_entry entry s)).given → new ≡ (proceeds_if over stream.0 (with_task task x) f (with_entry entry s)).state → M (Poll stream)
      proceeded true task entry f own given left = concluded (is_shut task.session.state) task entry f own given left
      proceeded false task entry f own given left = subst (λ u. Moves s u out (Poll stream)) (sym left)
          (goes_on (Poll stream) stream.0 e f runs own (but_put s.streams stream.0 x _ (Running f) known refl) refl refl (silent_as nothing given refl))

      replied : (o : Option Reply) (task : Task) (entry : Option Entry) → out ≡ (replies_to o stream.0 (with_task task x) e (with_entry entry s)).given → new ≡ (replies_to o stream.0 (with_task task x) e (with_entry entry s)).state → M (Poll stream)
      replied None task entry given left = still_as (Poll stream) _ left (fewer_put s.streams stream.0 x (with_task task x) known refl) refl refl (silent_as nothing given refl)
      replied (Some reply) task entry given left = proceeded (is_over (with_reply reply e).exchange) task entry (with_reply reply e) refl given left

      session_polls : SessionPolled shared s stream.0 x e added out new → M (Poll stream)
      session_polls p = replied (reply_in p.result) p.task p.entry p.given p.left

      session_falls : SessionFell shared s stream.0 x e added out new → M (Poll stream)
      session_falls p = subst (λ u. Moves s u out (Poll stream)) (sym p.left)
          (leaves (Poll stream) stream.0 e.conn (ended _ refl (short_quiet e.close) p.given) (but_put s.streams stream.0 x _ (Resting None) known refl) refl refl)

    poll_by : (o : Option Session) → x.session ≡ o → PolledBy o shared s stream.0 x added out new → M (Poll stream)
    poll_by None own h = heard (Poll stream) (at x.conn s.conns) _ polls h
    poll_by (Some (Resting baton)) own h = goes_still (Poll stream) h
    poll_by (Some (Running e)) own h = session_polls e own h

    fell_on : (o : Option Conn) → PollFellOn shared s stream.0 x o added out new → M (Poll stream)
    fell_on None h = absurd h
    fell_on (Some k) h = falls k h.1

    fell_by : (o : Option Session) → x.session ≡ o → PollFellBy o shared s stream.0 x added out new → M (Poll stream)
    fell_by None own h = fell_on (at x.conn s.conns) h
    fell_by (Some (Resting baton)) own h = absurd h
    fell_by (Some (Running e)) own h = session_falls e own h

  poll_at : (shared : Bool) (stream : StreamNo) (o : Option Stream) → at stream.0 s.streams ≡ o → PolledAt shared s stream.0 o added out new → M (Poll stream)
  poll_at shared stream None e h = goes_still (Poll stream) h
  poll_at shared stream (Some x) e h = either (is_waiting x.task.asks) (poll_by shared stream x e x.session refl) (goes_still (Poll stream)) h

  fell_at : (shared : Bool) (stream : StreamNo) (o : Option Stream) → at stream.0 s.streams ≡ o → PollFellAt shared s stream.0 o added out new → M (Poll stream)
  fell_at shared stream None e h = absurd h
  fell_at shared stream (Some x) e h = fell_by shared stream x e x.session refl h.1

  -- ---- ends

  exchange_lost : (c : ℕ) (o : Option ℕ) → at c s.exchanges ≡ o → ExchangeLost s c o added out new → M (Lost c)
  exchange_lost c None e h = goes_still (Lost c) h
  exchange_lost c (Some n) e h = subst (λ u. Moves s u out (Lost c)) (sym h.2) (leaves (Lost c) n c (lost e (silent_as nothing h.1 refl)) (but_without n (Resting None) s.streams kept.streams_rise) refl refl)

  gone_fewer : (ns : List ℕ) → Fewer s.streams (let_go ns s.streams)
  gone_fewer ns n w h = record { x = h.x; known = (let_go_cases ns n h.x s.streams kept.streams_rise h.known).1; session = h.session }

  lost_at : (c : ℕ) (o : Option Conn) → LostAt s c o added out new → M (Lost c)
  lost_at c None h = exchange_lost c (at c s.exchanges) refl h
  lost_at c (Some k) h = still_as (Lost c) (without_conn c k s) h.2 (gone_fewer k.streams) refl refl (silent_as nothing h.1 refl)

  moments : (moment : ℕ) → MomentAt s moment added out new → M (Moment moment)
  moments moment h = either (nat_lt moment s.now) (goes_still (Moment moment))
      (λ (g : (added ≡ expiries moment s.streams) × (out ≡ nothing) × (new ≡ at_moment moment s)). still_as (Moment moment) (at_moment moment s) g.2 (fewer_left moment s.streams kept.streams_rise) refl refl (silent_as nothing g.1 refl)) h

  happened : (token : Option (List ℕ)) (shared : Bool) (event : Event) → Happens token shared s event added out new → M event
  happened token shared (Opened c) h = same_still (Opened c) _ nothing h.left refl refl refl h.given refl
  happened token shared (Text c text) h = heard (Text c text) (at c s.conns) _ (λ k. texts token c k text) h
  happened token shared (Binary c) h = heard (Binary c) (at c s.conns) _ (λ k g. same_still (Binary c) _ _ g.left refl refl refl g.given refl) h
  happened token shared (Exchange c ask) h = absurd h
  happened token shared (Poll stream) h = poll_at shared stream (at stream.0 s.streams) refl h
  happened token shared (Lost c) h = lost_at c (at c s.conns) h
  happened token shared (Moment moment) h = moments moment h
  happened token shared Stop h = subst (λ u. Moves s u out Stop) (sym h.2) (stops (silent_as nothing h.1 refl) refl refl refl)

  fell : (shared : Bool) (event : Event) → Falls shared s event added out new → M event
  fell shared (Opened c) h = same_still (Opened c) _ _ h.2 refl refl refl h.1 refl
  fell shared (Text c text) h = text_fell c (at c s.conns) text h
  fell shared (Poll stream) h = fell_at shared stream (at stream.0 s.streams) refl h
  fell shared other h = absurd h

  -- ---- an exchange

  module _ (c : ℕ) (ask : HttpAsk) (free : at c s.exchanges ≡ None) where
    rested : (w : Outs) → w.conn ≡ c → out ≡ w → new ≡ s → M (Exchange c ask)
    rested w own given left = subst (λ u. Moves s u out (Exchange c ask)) (sym left)
        (still (Exchange c ask) (fewer_same s.streams s.streams refl) refl refl (one_even c ask out (ap (λ (o : Outs). o.conn) given ∙ own)))

    started : (over : Bool) (n : ℕ) (x : Stream) (asks : List Ask) (e : Runs) (t : State) → e.conn ≡ c → at n t.streams ≡ Some x → ((m : ℕ) (w : Session) → m ≢ n → Waits t.streams m w → Waits s.streams m w) → t.exchanges ≡ s.exchanges → t.issued ≡ s.issued → t.now ≡ s.now
        → Does (starts_if over n x asks e t) out new → M (Exchange c ask)
    started true n x asks e t own known others es i now d = subst (λ u. Moves s u out (Exchange c ask)) (sym d.left)
        (hands (Exchange c ask) n c e.words (comes ask free (ap (λ (o : Outs). o.conn) d.given ∙ own))
        (subst (λ w. FewerBut n w s.streams (put n (in_session (handed e.words t.issued t.now) (passed t.now x)) t.streams)) (ap (λ j. handed e.words j t.now) i ∙ ap (λ j. handed e.words s.issued j) now)
        (but_then n (handed e.words t.issued t.now) s.streams t.streams (put n (in_session (handed e.words t.issued t.now) (passed t.now x)) t.streams) others
        (but_put t.streams n x (in_session (handed e.words t.issued t.now) (passed t.now x)) (handed e.words t.issued t.now) known refl)))
        (ap (λ k. without k t.exchanges) own ∙ ap (λ fs. without c fs) es) (ap (λ j. j + 1) i))
    started false n x asks e t own known others es i now d = subst (λ u. Moves s u out (Exchange c ask)) (sym d.left)
        (begins_on c ask n e own free (but_then n (Running e) s.streams t.streams (put n (in_session (Running e) (asks_these (works_of asks) x)) t.streams) others
        (but_put t.streams n x (in_session (Running e) (asks_these (works_of asks) x)) (Running e) known refl)) (ap (λ k. placed k n t.exchanges) own ∙ ap (λ fs. placed c n fs) es) i (silent_as nothing d.given refl))

    others_fresh : (conn : ℕ) (m : ℕ) (w : Session) → m ≢ s.opened + 1 → Waits (with_session conn s).streams m w → Waits s.streams m w
    others_fresh conn m w other h = elim (placed_cases (s.opened + 1) m (fresh_session s.now conn (s.opened + 1)) h.x s.streams h.known) [
      | inl own ↦ absurd (other own.0)
      | inr old ↦ record { x = h.x; known = old.1; session = h.session }
    ]

    opened : (full : Bool) (asks : List Ask) (e : Runs) → e.conn ≡ c → Does (session_opens full asks e s) out new → M (Exchange c ask)
    opened true asks e own d = rested _ own d.given d.left
    opened false asks e own d = started (is_over e.exchange) (s.opened + 1) (fresh_session s.now e.conn (s.opened + 1)) asks e (with_session e.conn s) own (at_placed (s.opened + 1) (fresh_session s.now e.conn (s.opened + 1)) s.streams) (others_fresh e.conn) refl refl refl d

    by_baton : (baton : Option (List ℕ)) (asks : List Ask) (e : Runs) → e.conn ≡ c → GoesBy baton asks e s out new → M (Exchange c ask)
    by_baton None asks e own d = opened (nat_le MAX_SESSIONS (sessions_in s.streams)) asks e own d
    by_baton (Some text) asks e own (inl g) = started (is_over e.exchange) g.stream g.x asks e s own g.awaits.known (λ m w other h. h) refl refl refl g.does
    by_baton (Some text) asks e own (inr dead) = rested _ own dead.does.given dead.does.left

    drawn : (draw : Draw) (body : PipelineBody) → GoesDrawn draw body c ask.close s out new → M (Exchange c ask)
    drawn failed body d = rested _ refl d.given d.left
    drawn (words given) body g = by_baton body.baton (asked_in body.asks) (record { conn = c; words = given; close = ask.close; exchange = begins body.asks }) refl g

    asked : (a : Asked) (draws : List Draw) → GoesAsked a c ask.close s draws out new → M (Exchange c ask)
    asked (Answered reply) draws h = rested _ refl h.1.given h.1.left
    asked (Pipeline body) draws h = drawn h.0 body h.2

    exchanged : (o : Option HttpAnswer) (token : Option (List ℕ)) (draws : List Draw) → ExchangeGoes o token s c ask draws out new → M (Exchange c ask)
    exchanged (Some reply) token draws h = rested _ refl h.1.given h.1.left
    exchanged None token draws h = either (is_short out) (λ (f : ExchangeFell s c ask draws out new). rested _ refl f.1 f.2) (λ (g : IsHeard token s c ask draws out new). asked g.asked draws g.goes) h

  came : (token : Option (List ℕ)) (shared : Bool) (event : Event) → MatchBool (is_short out) (Falls shared s event added out new) (Happens token shared s event added out new) → M event
  came token shared event h = either (is_short out) (fell shared event) (happened token shared event) h

  moves_of : (token : Option (List ℕ)) (shared : Bool) (event : Event) (draws : List Draw) → may_come s event ≡ true → ComesOf token shared s event draws added out new → M event
  moves_of token shared (Exchange c ask) draws may h = exchanged c ask (opens_may s c may).free (route_answer ask) token draws h.1
  moves_of token shared (Opened c) draws may h = came token shared (Opened c) h.1
  moves_of token shared (Text c text) draws may h = came token shared (Text c text) h.1
  moves_of token shared (Binary c) draws may h = came token shared (Binary c) h.1
  moves_of token shared (Lost c) draws may h = came token shared (Lost c) h.1
  moves_of token shared (Moment moment) draws may h = came token shared (Moment moment) h.1
  moves_of token shared (Poll stream) draws may h = came token shared (Poll stream) h.1
  moves_of token shared Stop draws may h = came token shared Stop h.1

pub step_moves : (token : Option (List ℕ)) (shared : Bool) (s : State) (event : Event) (draws : List Draw) (added : List Entry) (out : Outs) (new : State) → Kept s → fits s event ≡ true → Step token shared s event draws added out new → Moves (counted s) new out event
step_moves token shared s event draws added out new kept f h = moves_of (counted s) (counted_kept s kept) added out new token shared event draws (counted_may s event f) h
