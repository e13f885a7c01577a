-- What an exchange that comes in leaves of the agreement.
use Rattle.std.proofs.Common.{◌≡◌, ◌≤◌, ◌+◌, ℕ, Bool, true, false, nat_le, List, [], ◌∷◌, Option, None, Some, MatchBool, refl, sym, ap, ◌∙◌, subst, arith, inl, inr}
use Rattle.http_wire.specs.declared.asks.HttpAsk.{HttpAsk}
use Rattle.http_wire.specs.declared.outs.HttpAnswer.{HttpAnswer}
use Rattle.http_wire.specs.declared.outs.Outs.{Outs}
use Rattle.pipeline_body.specs.Exchanges.{begins, asked_in, route_answer, is_over}
use Rattle.pipeline_body.specs.declared.bodies.PipelineBody.{PipelineBody}
use Rattle.pipeline_body.specs.declared.exchange.Asked.{Asked}
use Rattle.pipeline_body.specs.declared.exchange.Asked.TheVariants.{Answered, Pipeline}
use Rattle.stream_requests.specs.declared.asks.Ask.{Ask}
use Rattle.engine_core.specs.Draws.{Draw, words, failed}
use Rattle.engine_core.specs.Transactions.{Lives}
use Rattle.stream_task.specs.Together.{JoinsTogether}
use Rattle.hrana_hub.specs.declared.limits.TheConstants.{MAX_SESSIONS}
use Rattle.hrana_hub.specs.declared.sessions.Running.{Running as Exchange}
use Rattle.hrana_hub.specs.Agrees.{HubAgrees, IsAhead}
use Rattle.hrana_hub.specs.ExchangeArrived.{Entered}
use Rattle.hrana_hub.specs.Exchanges.{starts_if, fresh_session, with_session, opens_unless, sessions_in, GoesBy, GoesDrawn, GoesAsked, IsHeard}
use Rattle.hrana_hub.specs.Maps.{Numbered, at, put, placed}
use Rattle.hrana_hub.specs.State.{Stream, State, Seen}
use Rattle.hrana_hub.specs.Step.{ExchangeSteps, ExchangeGoes, ExchangeFell, is_short}
use Rattle.hrana_hub.proofs.ArrivalAgreeing.{Moves, keeps_all, puts_one, adds_one, arrived_agrees}
use Rattle.std.proofs.lemmas.Bool.{cases_order}
use Rattle.hrana_hub.proofs.MapLemmas.{put_first, put_later, placed_same, placed_less, placed_more}

-- ---- a stream that was placed is put

pub put_placed : {A : Type 0} (n : ℕ) (x y : A) (es : Numbered A) → put n y (placed n x es) ≡ placed n y es
put_placed n x y [] = put_first n y (n, x) [] refl
put_placed n x y (e ∷ es) = elim (cases_order n e.0) [
  | inl here ↦ ap (put n y) (placed_same n x e es here) ∙ put_first n y (e.0, x) es here ∙ sym (placed_same n y e es here)
  | inr order ↦ elim order [
    | inl below ↦ ap (put n y) (placed_less n x e es below) ∙ put_first n y (n, x) (e ∷ es) refl ∙ sym (placed_less n y e es below)
    | inr above ↦ ap (put n y) (placed_more n x e es above) ∙ put_later n y e (placed n x es) (λ own. omega (arith, own, above)) ∙ ap (λ fs. e ∷ fs) (put_placed n x y es) ∙ sym (placed_more n y e es above)
  ]
]

-- ---- the streams and the counts after it

pub record Moved (s s' : State) : Type 0 where
  pub next : s'.next ≡ s.next
  pub version : s'.version ≡ s.version
  pub events : s'.events ≡ s.events
  pub stopped : s'.stopped ≡ s.stopped
  pub issued : s'.issued ≤ s.issued + 1
  pub moves : Moves s s'

stays_moved : (s s' : State) → s' ≡ s → Moved s s'
stays_moved s s' e = subst (Moved s) (sym e) (record { next = refl; version = refl; events = refl; stopped = refl; issued = omega arith; moves = keeps_all refl refl })

starts_moved : (b : Bool) (n : ℕ) (x : Stream) (asks : List Ask) (e : Exchange) (s : State) → at n s.streams ≡ Some x → Moved s (starts_if b n x asks e s).state
starts_moved true n x asks e s known = record { next = refl; version = refl; events = refl; stopped = refl; issued = omega arith; moves = puts_one n x _ known refl refl refl refl }
starts_moved false n x asks e s known = record { next = refl; version = refl; events = refl; stopped = refl; issued = omega arith; moves = puts_one n x _ known refl refl refl refl }

opens_moved : (b : Bool) (asks : List Ask) (e : Exchange) (s : State) → Moved s (starts_if b (s.opened + 1) (fresh_session s.now e.conn (s.opened + 1)) asks e (with_session e.conn s)).state
opens_moved true asks e s = record { next = refl; version = refl; events = refl; stopped = refl; issued = omega arith; moves = adds_one _ refl refl (put_placed (s.opened + 1) (fresh_session s.now e.conn (s.opened + 1)) _ s.streams) refl }
opens_moved false asks e s = record { next = refl; version = refl; events = refl; stopped = refl; issued = omega arith; moves = adds_one _ refl refl (put_placed (s.opened + 1) (fresh_session s.now e.conn (s.opened + 1)) _ s.streams) refl }

unless_moved : (full : Bool) (asks : List Ask) (e : Exchange) (s : State) → Moved s (opens_unless full asks e s).state
unless_moved true asks e s = stays_moved s s refl
unless_moved false asks e s = opens_moved (is_over e.exchange) asks e s

does_moved : (s t new : State) → new ≡ t → Moved s t → Moved s new
does_moved s t new e h = subst (Moved s) (sym e) h

by_moved : (baton : Option (List ℕ)) (asks : List Ask) (e : Exchange) (s : State) (out : Outs) (new : State) → GoesBy baton asks e s out new → Moved s new
by_moved None asks e s out new h = does_moved s _ new h.left (unless_moved (nat_le MAX_SESSIONS (sessions_in s.streams)) asks e s)
by_moved (Some text) asks e s out new (inl on) = does_moved s _ new on.does.left (starts_moved (is_over e.exchange) on.stream on.x asks e s on.awaits.known)
by_moved (Some text) asks e s out new (inr dead) = stays_moved s new dead.does.left

drawn_moved : (draw : Draw) (body : PipelineBody) (c : ℕ) (close : Bool) (s : State) (out : Outs) (new : State) → GoesDrawn draw body c close s out new → Moved s new
drawn_moved failed body c close s out new h = stays_moved s new h.left
drawn_moved (words given) body c close s out new h = by_moved body.baton (asked_in body.asks) (record { conn = c; words = given; close = close; exchange = begins body.asks }) s out new h

asked_moved : (asked : Asked) (c : ℕ) (close : Bool) (s : State) (draws : List Draw) (out : Outs) (new : State) → GoesAsked asked c close s draws out new → Moved s new
asked_moved (Answered answer) c close s draws out new h = stays_moved s new h.1.left
asked_moved (Pipeline body) c close s draws out new h = drawn_moved h.0 body c close s out new h.2

pub exchange_moved : (token : Option (List ℕ)) (s : State) (c : ℕ) (ask : HttpAsk) (draws : List Draw) (out : Outs) (new : State) → ExchangeSteps token s c ask draws out new → Moved s new
exchange_moved token s c ask draws out new h = by (route_answer ask) h
  where
    heard : (b : Bool) → MatchBool b (ExchangeFell s c ask draws out new) (IsHeard token s c ask draws out new) → Moved s new
    heard true g = stays_moved s new g.2
    heard false g = asked_moved g.asked c ask.close s draws out new g.goes

    by : (o : Option HttpAnswer) → ExchangeGoes o token s c ask draws out new → Moved s new
    by (Some answer) g = stays_moved s new g.1.left
    by None g = heard (is_short out) g

-- ---- the agreement

pub exchange_agrees : {D : Type 0} (told shared : Bool) (db : D) (live : Lives D) (old new : Seen) → JoinsTogether D told shared → IsAhead old.state → HubAgrees told shared db live old → Entered old new → Moved old.state new.state → HubAgrees told shared db live new
exchange_agrees told shared db live old new joins ahead a entered h =
    arrived_agrees told shared db live old new joins ahead a entered.noted entered.turns
    (record { few = omega (arith, h.issued, h.events, ahead.batons); issued = entered.store.issued; tied = λ runs. entered.store.tied }) h.next h.version h.events h.moves
