-- In every run no more answers say that no words could be drawn than draws failed.
use Rattle.std.proofs.Common.{◌≡◌, ◌≤◌, ◌+◌, ◌&&◌, ℕ, Bool, true, false, cond, nat_le, List, [], ◌∷◌, ◌++◌, Option, None, Some, refl, sym, ap, ◌∙◌, subst, arith, inl, inr, eq-eqb}
use Rattle.std.specs.Prelude.{bytes_eq, codes}
use Rattle.std.proofs.lemmas.Slice.Eq.{bytes_eq-Decides}
use Rattle.serde_json.specs.Data.{Data, object, member, string}
use Rattle.serde_json.specs.Read.{read}
use Rattle.serde_json.specs.Written.{compact_text}
use Rattle.hrana_value.proofs.SendingLemmas.{read_compact}
use Rattle.hrana_stmt.specs.Codes.{error_of}
use Rattle.hrana_stmt.specs.Written.{error_data}
use Rattle.hrana_stmt.specs.declared.codes.Code.{Code}
use Rattle.hrana_stmt.specs.declared.codes.Code.TheVariants as code
use Rattle.stream_requests.specs.declared.asks.Ask.{Ask}
use Rattle.http_wire.specs.declared.asks.HttpAsk.{HttpAsk}
use Rattle.http_wire.specs.declared.asks.Method.{Method}
use Rattle.http_wire.specs.declared.asks.Method.TheVariants as method
use Rattle.http_wire.specs.declared.outs.HttpAnswer.{HttpAnswer}
use Rattle.http_wire.specs.declared.outs.Outs.{Outs}
use Rattle.http_wire.specs.declared.outs.Out.{Out}
use Rattle.http_wire.specs.declared.outs.Out.TheVariants.{Message, Answer}
use Rattle.pipeline_body.specs.declared.routes.Route.{Route}
use Rattle.pipeline_body.specs.declared.routes.Route.TheVariants as route
use Rattle.pipeline_body.specs.Exchanges.{IsAsked, route_of, route_answer, answer_on, error_answer, begins, asked_in, is_over}
use Rattle.pipeline_body.specs.declared.bodies.PipelineBody.{PipelineBody}
use Rattle.pipeline_body.specs.declared.exchange.Asked.{Asked}
use Rattle.pipeline_body.specs.declared.exchange.Asked.TheVariants.{Answered, Pipeline}
use Rattle.engine_core.specs.Draws.{Draw, words, failed}
use Rattle.engine_core.specs.declared.entries.Entry.{Entry}
use Rattle.hrana_hub.specs.declared.events.Event.{Event}
use Rattle.hrana_hub.specs.declared.events.Event.TheVariants.{Opened, Text, Binary, Exchange, Lost, Moment, Poll, Stop}
use Rattle.hrana_hub.specs.declared.limits.TheConstants.{MAX_SESSIONS}
use Rattle.hrana_hub.specs.declared.sessions.Running.{Running as Runs}
use Rattle.hrana_hub.specs.Arrivals.{accepts}
use Rattle.hrana_hub.specs.Batons.{NoTokensByFailures, is_answer, exchanges_on, tells_no_token, no_tokens, all_failures}
use Rattle.hrana_hub.specs.Drawn.{failures}
use Rattle.hrana_hub.specs.Exchanges.{starts_if, opens_unless, sessions_in, fresh_session, with_session, Does, GoesBy, GoesDrawn, GoesAsked, IsHeard}
use Rattle.hrana_hub.specs.Run.{Run, start, more}
use Rattle.hrana_hub.specs.State.{Stream, State}
use Rattle.hrana_hub.specs.Step.{ExchangeFell, ExchangeGoes, Step, is_short, counted}
use Rattle.hrana_hub.proofs.Kept.{run_kept}
use Rattle.hrana_hub.proofs.MapLemmas.{some_one}
use Rattle.hrana_hub.proofs.MoveSteps.{step_moves, short_quiet, either}
use Rattle.hrana_hub.proofs.Moving.{IsNoAnswer, IsEven, Ends, comes, replies, lost, Moves, still, begins_on, goes_on, hands, leaves, stops}

IsQuiet : Outs → Type 0
IsQuiet out = tells_no_token out.out ≡ false

-- the out is counted, or not
told : Outs → ℕ
told out = cond (tells_no_token out.out) 1 0

told_quiet : (out : Outs) → IsQuiet out → told out ≡ 0
unfolding IsQuiet told
told_quiet out e = ap (λ b. cond b 1 0) e

told_once : (out : Outs) → told out ≤ 1
unfolding told
told_once out = by (tells_no_token out.out)
  where
    by : (b : Bool) → cond b 1 0 ≤ 1
    by true = omega arith
    by false = omega arith

quiet_told : (out : Outs) (draws : List Draw) → IsQuiet out → told out ≤ failures draws
quiet_told out draws quiet = (let none = told_quiet out quiet in omega (arith, none))

-- ---- an event that is no exchange

no_answer_quiet : (out : Outs) → IsNoAnswer out → IsQuiet out
unfolding IsQuiet
no_answer_quiet out e = by out.out e
  where
    by : (o : Option Out) → is_answer o ≡ false → tells_no_token o ≡ false
    by None e = refl
    by (Some (Message text)) e = refl
    by (Some (Answer answer)) e = absurd (cc)

-- no exchange came in, so nothing is answered
even_quiet : (event : Event) (out : Outs) → exchanges_on out.conn (event ∷ []) ≡ 0 → IsEven event out → IsQuiet out
even_quiet event out none even = no_answer_quiet out (by (is_answer out.out) (omega (arith, ap {B = ℕ} (λ b. cond (b && is_answer out.out) 1 0) (eq-eqb out.conn out.conn refl), even out.conn, none)))
  where
    by : (b : Bool) → cond b 1 0 ≤ 0 → b ≡ false
    by true l = absurd (omega (arith, l))
    by false l = refl

abbrev NoExchange : Event → Type 0
NoExchange (Exchange c ask) = ⊥
NoExchange event = Unit {0}

no_exchanges : (event : Event) → NoExchange event → (c : ℕ) → exchanges_on c (event ∷ []) ≡ 0
no_exchanges (Opened d) aside c = refl
no_exchanges (Text d text) aside c = refl
no_exchanges (Binary d) aside c = refl
no_exchanges (Exchange d ask) aside c = absurd aside
no_exchanges (Lost d) aside c = refl
no_exchanges (Moment moment) aside c = refl
no_exchanges (Poll stream) aside c = refl
no_exchanges Stop aside c = refl

ends_quiet : {s : State} {n c : ℕ} {out : Outs} {event : Event} → NoExchange event → Ends s n c out event → IsQuiet out
unfolding IsQuiet
ends_quiet aside (comes ask free own) = absurd aside
ends_quiet aside (replies event e w mine own quiet) = quiet
ends_quiet {out} aside (lost here quiet) = no_answer_quiet out quiet

moves_quiet : {s new : State} {out : Outs} {event : Event} → NoExchange event → Moves s new out event → IsQuiet out
moves_quiet {out} aside (still event fewer es issued even) = even_quiet event out (no_exchanges event aside out.conn) even
moves_quiet aside (begins_on c ask n e mine free but es issued quiet) = absurd aside
moves_quiet {out} aside (goes_on event n e g w mine but es issued quiet) = no_answer_quiet out quiet
moves_quiet aside (hands event n c drawn ends but es issued) = ends_quiet aside ends
moves_quiet aside (leaves event n c ends but es issued) = ends_quiet aside ends
moves_quiet {out} aside (stops quiet ss es issued) = no_answer_quiet out quiet

-- ---- an exchange

-- the answers of routes and refusals but the one
route_quiet : (r : Route) (asked : Method) (close : Bool) (answer : HttpAnswer) → answer_on r asked close ≡ Some answer → tells_no_token (Some (Answer answer)) ≡ false
route_quiet route.Unknown asked close answer e = ap (λ a. tells_no_token (Some (Answer a))) (sym (some_one e))
route_quiet route.Home method.Get close answer e = ap (λ a. tells_no_token (Some (Answer a))) (sym (some_one e))
route_quiet route.Home method.Post close answer e = ap (λ a. tells_no_token (Some (Answer a))) (sym (some_one e))
route_quiet route.Home method.Other close answer e = ap (λ a. tells_no_token (Some (Answer a))) (sym (some_one e))
route_quiet route.Pipeline method.Get close answer e = ap (λ a. tells_no_token (Some (Answer a))) (sym (some_one e))
route_quiet route.Pipeline method.Post close answer e = absurd (cc)
route_quiet route.Pipeline method.Other close answer e = ap (λ a. tells_no_token (Some (Answer a))) (sym (some_one e))

abbrev error_tree : Code → Data
error_tree why = error_data (error_of why)

-- the code that stands first in the tree of an error
code_in : Data → List ℕ
code_in (object (member name (string text) others)) = text
code_in tree = []

other_code : error_tree code.TooManyStreams ≡ error_tree code.NoToken → ⊥
unfolding code_in
other_code e = (let names : codes "TOO_MANY_STREAMS" ≡ codes "NO_TOKEN" = ap code_in e in cc)

-- a text that is written is read as its tree, so the two texts differ
other_text : compact_text (error_tree code.TooManyStreams) ≡ compact_text (error_tree code.NoToken) → ⊥
other_text e =
    let full : read (compact_text (error_tree code.TooManyStreams)) ≡ Some (error_tree code.TooManyStreams) = read_compact (error_tree code.TooManyStreams) (record { no_float = refl; numbers = (tt, (tt, tt)); in_order = refl }) (omega arith) in
    let none : read (compact_text (error_tree code.NoToken)) ≡ Some (error_tree code.NoToken) = read_compact (error_tree code.NoToken) (record { no_float = refl; numbers = (tt, (tt, tt)); in_order = refl }) (omega arith) in
    other_code (some_one (sym full ∙ ap read e ∙ none))

full_quiet : (close : Bool) → tells_no_token (Some (Answer (error_answer 503 code.TooManyStreams close))) ≡ false
full_quiet close = by (bytes_eq (compact_text (error_tree code.TooManyStreams)) (compact_text (error_tree code.NoToken))) refl
  where
    by : (b : Bool) → bytes_eq (compact_text (error_tree code.TooManyStreams)) (compact_text (error_tree code.NoToken)) ≡ b → b ≡ false
    by true e = absurd (other_text ((bytes_eq-Decides (compact_text (error_tree code.TooManyStreams)) (compact_text (error_tree code.NoToken))).0 e))
    by false e = refl

module _ (s : State) (c : ℕ) (ask : HttpAsk) (out : Outs) (new : State) where
  given_quiet : (w : Outs) → out ≡ w → tells_no_token w.out ≡ false → IsQuiet out
  unfolding IsQuiet
  given_quiet w given quiet = ap (λ (o : Outs). tells_no_token o.out) given ∙ quiet

  starts_quiet : (over : Bool) (n : ℕ) (x : Stream) (asks : List Ask) (e : Runs) (t : State) → Does (starts_if over n x asks e t) out new → IsQuiet out
  starts_quiet true n x asks e t d = given_quiet _ d.given refl
  starts_quiet false n x asks e t d = given_quiet _ d.given refl

  opens_quiet : (full : Bool) (asks : List Ask) (e : Runs) → Does (opens_unless full asks e s) out new → IsQuiet out
  opens_quiet true asks e d = given_quiet _ d.given (full_quiet e.close)
  opens_quiet false asks e d = starts_quiet (is_over e.exchange) (s.opened + 1) (fresh_session s.now e.conn (s.opened + 1)) asks e (with_session e.conn s) d

  by_quiet : (baton : Option (List ℕ)) (asks : List Ask) (e : Runs) → GoesBy baton asks e s out new → IsQuiet out
  by_quiet None asks e d = opens_quiet (nat_le MAX_SESSIONS (sessions_in s.streams)) asks e d
  by_quiet (Some text) asks e (inl g) = starts_quiet (is_over e.exchange) g.stream g.x asks e s g.does
  by_quiet (Some text) asks e (inr dead) = given_quiet _ dead.does.given refl

  drawn_told : (draw : Draw) (body : PipelineBody) → GoesDrawn draw body c ask.close s out new → told out ≤ failures (draw ∷ [])
  drawn_told failed body d = omega (arith, told_once out)
  drawn_told (words given) body g = (let none = told_quiet out (by_quiet body.baton (asked_in body.asks) (record { conn = c; words = given; close = ask.close; exchange = begins body.asks }) g) in omega (arith, none))

  refused_quiet : (let_in : Bool) (answer : HttpAnswer) → IsAsked let_in ask (Answered answer) → tells_no_token (Some (Answer answer)) ≡ false
  refused_quiet let_in answer (inl h) = ap (λ a. tells_no_token (Some (Answer a))) h.1
  refused_quiet let_in answer (inr h) = ap (λ a. tells_no_token (Some (Answer a))) h.2

  asked_told : (a : Asked) (let_in : Bool) (draws : List Draw) → IsAsked let_in ask a → GoesAsked a c ask.close s draws out new → told out ≤ failures draws
  asked_told (Answered answer) let_in draws is_asked h = quiet_told out draws (given_quiet _ h.1.given (refused_quiet let_in answer is_asked))
  asked_told (Pipeline body) let_in draws is_asked h = subst (λ ds. told out ≤ failures ds) (sym h.1) (drawn_told h.0 body h.2)

  goes_told : (token : Option (List ℕ)) (o : Option HttpAnswer) (draws : List Draw) → route_answer ask ≡ o → ExchangeGoes o token s c ask draws out new → told out ≤ failures draws
  goes_told token (Some answer) draws e h = quiet_told out draws (given_quiet _ h.1.given (route_quiet (route_of ask.path) ask.method ask.close answer e))
  goes_told token None draws e h = either (is_short out) (λ (f : ExchangeFell s c ask draws out new). quiet_told out draws (given_quiet _ f.1 (short_quiet ask.close)))
      (λ (g : IsHeard token s c ask draws out new). asked_told g.asked (accepts token ask.bearer) draws g.is_asked g.goes) h

-- ---- every run

module _ (token : Option (List ℕ)) (shared : Bool) (s : State) (draws : List Draw) (added : List Entry) (out : Outs) (new : State) where
  step_told : (event : Event) → Moves (counted s) new out event → Step token shared s event draws added out new → told out ≤ failures draws
  step_told (Exchange c ask) moves h = goes_told (counted s) c ask out new token (route_answer ask) draws refl h.1
  step_told (Opened c) moves h = quiet_told out draws (moves_quiet tt moves)
  step_told (Text c text) moves h = quiet_told out draws (moves_quiet tt moves)
  step_told (Binary c) moves h = quiet_told out draws (moves_quiet tt moves)
  step_told (Lost c) moves h = quiet_told out draws (moves_quiet tt moves)
  step_told (Moment moment) moves h = quiet_told out draws (moves_quiet tt moves)
  step_told (Poll stream) moves h = quiet_told out draws (moves_quiet tt moves)
  step_told Stop moves h = quiet_told out draws (moves_quiet tt moves)

no_tokens_more : (outs : List Outs) (out : Outs) → no_tokens (outs ++ out ∷ []) ≡ no_tokens outs + told out
unfolding told
no_tokens_more [] out = omega arith
no_tokens_more (o ∷ outs) out = omega (arith, no_tokens_more outs out)

failures_more : (drawn : List (List Draw)) (draws : List Draw) → all_failures (drawn ++ draws ∷ []) ≡ all_failures drawn + failures draws
failures_more [] draws = omega arith
failures_more (d ∷ drawn) draws = omega (arith, failures_more drawn draws)

pub run_told : {token : Option (List ℕ)} {shared : Bool} {events : List Event} {drawn : List (List Draw)} {entries : List (List Entry)} {outs : List Outs} {s : State} → Run token shared events drawn entries outs s → no_tokens outs ≤ all_failures drawn
run_told start = omega arith
run_told {token} {shared} (more {drawn = D} {outs = O} {s = before} run event draws added out new fit step) =
    let was = run_told run in
    let now = step_told token shared before draws added out new event (step_moves token shared before event draws added out new (run_kept run) fit step) step in
    omega (arith, was, now, no_tokens_more O out, failures_more D draws)

pub few_refusals : NoTokensByFailures
few_refusals token shared events drawn entries outs s run = run_told run
