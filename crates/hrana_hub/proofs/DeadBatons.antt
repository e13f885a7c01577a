-- An exchange whose baton isn't live changes nothing.
use Rattle.std.proofs.Common.{◌≡◌, ℕ, Bool, List, Option, None, Some, Ok, Err, ap, ◌∙◌, subst, inl, inr}
use Rattle.http_wire.specs.declared.asks.HttpAsk.{HttpAsk}
use Rattle.http_wire.specs.declared.outs.HttpAnswer.{HttpAnswer}
use Rattle.http_wire.specs.declared.outs.Outs.{Outs}
use Rattle.pipeline_body.specs.Bodies.{IsBody, is_body, is_none, NoBytesHaveTwoBodyReadings}
use Rattle.pipeline_body.specs.Exchanges.{IsAsked, IsUnreadable, route_answer, begins, asked_in}
use Rattle.pipeline_body.specs.declared.bodies.PipelineBody.{PipelineBody}
use Rattle.pipeline_body.specs.declared.exchange.Asked.{Asked}
use Rattle.pipeline_body.specs.declared.exchange.Asked.TheVariants.{Answered, Pipeline}
use Rattle.engine_core.specs.Draws.{Draw, words, failed}
use Rattle.hrana_hub.specs.Arrivals.{accepts}
use Rattle.hrana_hub.specs.Batons.{IsNotLive, DeadBatonsChangeNothing}
use Rattle.hrana_hub.specs.Exchanges.{Awaits, GoesBy, GoesDrawn, GoesAsked, IsHeard}
use Rattle.hrana_hub.specs.State.{State}
use Rattle.hrana_hub.specs.Step.{ExchangeFell, ExchangeGoes, is_short, counted}
use Rattle.hrana_hub.proofs.MoveSteps.{either}

pub one_body : NoBytesHaveTwoBodyReadings → (bytes : List ℕ) (a b : PipelineBody) → IsBody bytes a → IsBody bytes b → a ≡ b
one_body law bytes a b h k = (let same : Ok a ≡ Ok b = law bytes (Ok a) (Ok b) (is_body a h) (is_body b k) in cc)

pub no_unreadable : NoBytesHaveTwoBodyReadings → (bytes : List ℕ) (b : PipelineBody) → IsBody bytes b → IsUnreadable bytes → ⊥
no_unreadable law bytes b h u = (let same : Ok b ≡ Err u.0 = law bytes (Ok b) (Err u.0) (is_body b h) (is_none u.0 u.1 u.2) in cc)

module _ (law : NoBytesHaveTwoBodyReadings) (s : State) (c : ℕ) (ask : HttpAsk) (body : PipelineBody) (text : List ℕ) (is : IsBody ask.body body) (brings : body.baton ≡ Some text) (dead : IsNotLive s text) (out : Outs) (new : State) where
  by_baton : (baton : Option (List ℕ)) (asks : List _) (e : _) → baton ≡ Some text → GoesBy baton asks e s out new → new ≡ s
  by_baton None asks e it h = absurd (cc)
  by_baton (Some other) asks e it (inl on) = (let same : other ≡ text = cc in absurd (dead on.stream on.x (subst (λ t. Awaits s t on.stream on.x) same on.awaits)))
  by_baton (Some other) asks e it (inr gone) = gone.does.left

  drawn : (draw : Draw) (other : PipelineBody) → other ≡ body → GoesDrawn draw other c ask.close s out new → new ≡ s
  drawn failed other same h = h.left
  drawn (words given) other same h = by_baton other.baton (asked_in other.asks) (record { conn = c; words = given; close = ask.close; exchange = begins other.asks }) (ap (λ (b : PipelineBody). b.baton) same ∙ brings) h

  asked : (a : Asked) (let_in : Bool) (draws : List Draw) → IsAsked let_in ask a → GoesAsked a c ask.close s draws out new → new ≡ s
  asked (Answered reply) let_in draws is_asked h = h.1.left
  asked (Pipeline other) let_in draws is_asked h = drawn h.0 other (one_body law ask.body other body is_asked.1 is) h.2

  goes : (token : Option (List ℕ)) (o : Option HttpAnswer) (draws : List Draw) → ExchangeGoes o token s c ask draws out new → new ≡ s
  goes token (Some reply) draws h = h.1.left
  goes token None draws h = either (is_short out) (λ (f : ExchangeFell s c ask draws out new). f.2) (λ (g : IsHeard token s c ask draws out new). asked g.asked (accepts token ask.bearer) draws g.is_asked g.goes) h

-- the count of events makes no odds to batons
still_dead : (s : State) (text : List ℕ) → IsNotLive s text → IsNotLive (counted s) text
still_dead s text dead n x w = dead n x (record { baton = w.baton; known = w.known; rests = w.rests; text_is = w.text_is; young = w.young })

pub dead_batons : NoBytesHaveTwoBodyReadings → DeadBatonsChangeNothing
dead_batons law token shared s c ask body text draws added out new is brings dead step =
    (step.0, goes law (counted s) c ask body text is brings (still_dead s text dead) out new token (route_answer ask) draws step.1)
