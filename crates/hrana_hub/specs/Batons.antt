-- Laws of exchanges: a baton that isn't live changes nothing, none is accepted twice, and each exchange is answered once.
use Rattle.std.specs.Prelude.{◌≡◌, ◌≤◌, ◌+◌, ◌&&◌, ℕ, Bool, true, false, nat_eq, bytes_eq, cond, List, [], ◌∷◌, Option, Some, None}
use Rattle.hrana_stmt.specs.declared.codes.Code.TheVariants as code
use Rattle.http_wire.specs.declared.asks.HttpAsk.{HttpAsk}
use Rattle.http_wire.specs.declared.outs.HttpAnswer.{HttpAnswer}
use Rattle.http_wire.specs.declared.outs.Outs.{Outs}
use Rattle.http_wire.specs.declared.outs.Out.{Out}
use Rattle.http_wire.specs.declared.outs.Out.TheVariants.{Message, Answer}
use Rattle.pipeline_body.specs.declared.bodies.PipelineBody.{PipelineBody}
use Rattle.pipeline_body.specs.Bodies.{IsBody}
use Rattle.pipeline_body.specs.Exchanges.{error_answer}
use Rattle.engine_core.specs.Draws.{Draw}
use Rattle.engine_core.specs.declared.entries.Entry.{Entry}
use Rattle.hrana_hub.specs.declared.events.Event.{Event}
use Rattle.hrana_hub.specs.declared.events.Event.TheVariants.{Exchange}
use Rattle.hrana_hub.specs.Maps.{at}
use Rattle.hrana_hub.specs.State.{Stream, State}
use Rattle.hrana_hub.specs.Drawn.{failures}
use Rattle.hrana_hub.specs.Exchanges.{Awaits}
use Rattle.hrana_hub.specs.Run.{Run, RunFrom}
use Rattle.hrana_hub.specs.Step.{Step, counted, fits}
use Rattle.hrana_hub.specs.Talks.{Accepts}

-- ---- batons

-- no stream waits for the exchange that brings this baton
abbrev pub IsNotLive : State → List ℕ → Type 0
IsNotLive s text = (n : ℕ) (x : Stream) → Awaits s text n x → ⊥

-- an exchange whose baton isn't live adds no entry, and leaves every stream and baton as it was
abbrev pub DeadBatonsChangeNothing : Type 0
DeadBatonsChangeNothing = (token : Option (List ℕ)) (shared : Bool) (s : State) (c : ℕ) (ask : HttpAsk) (body : PipelineBody) (text : List ℕ) (draws : List Draw) (added : List Entry) (out : Outs) (new : State)
    → IsBody ask.body body → body.baton ≡ Some text → IsNotLive s text → Step token shared s (Exchange c ask) draws added out new
    → (added ≡ []) × (new ≡ counted s)

-- once an exchange that brings a baton was accepted in a run, that baton is never live again
abbrev pub NoBatonTwice : Type 0
NoBatonTwice = (token : Option (List ℕ)) (shared : Bool) (events : List Event) (drawn : List (List Draw)) (entries : List (List Entry)) (outs : List Outs) (s : State) → Run token shared events drawn entries outs s
    → (c : ℕ) (ask : HttpAsk) (body : PipelineBody) (text : List ℕ) (n : ℕ) (draws : List Draw) (added : List Entry) (out : Outs) (new : State) → fits s (Exchange c ask) ≡ true → Step token shared s (Exchange c ask) draws added out new
    → Accepts token s ask draws n body → body.baton ≡ Some text
    → (later : List Event) (drawn' : List (List Draw)) (entries' : List (List Entry)) (outs' : List Outs) (last : State) → RunFrom token shared new later drawn' entries' outs' last
    → IsNotLive last text

-- ---- answers

abbrev pub is_answer : Option Out → Bool
is_answer None = false
is_answer (Some (Message text)) = false
is_answer (Some (Answer answer)) = true

-- how many answers were given on the connection
abbrev pub answers_on : ℕ → List Outs → ℕ
answers_on c [] = 0
answers_on c (out ∷ outs) = cond (nat_eq out.conn c && is_answer out.out) 1 0 + answers_on c outs

abbrev pub is_exchange_on : ℕ → Event → Bool
is_exchange_on c (Exchange conn ask) = nat_eq conn c
is_exchange_on c event = false

-- how many exchanges came in on it
abbrev pub exchanges_on : ℕ → List Event → ℕ
exchanges_on c [] = 0
exchanges_on c (event ∷ events) = cond (is_exchange_on c event) 1 0 + exchanges_on c events

-- how many of them run
abbrev pub running_on : Option ℕ → ℕ
running_on None = 0
running_on (Some n) = 1

-- in every run no exchange is answered twice: on each connection there are no more answers than exchanges that came in and don't run
abbrev pub AnsweredOnce : Type 0
AnsweredOnce = (token : Option (List ℕ)) (shared : Bool) (events : List Event) (drawn : List (List Draw)) (entries : List (List Entry)) (outs : List Outs) (s : State) → Run token shared events drawn entries outs s
    → (c : ℕ) → answers_on c outs + running_on (at c s.exchanges) ≤ exchanges_on c events

-- ---- words

abbrev pub no_token_answer : Bool → HttpAnswer
no_token_answer close = error_answer 503 code.NoToken close

abbrev pub tells_no_token : Option Out → Bool
tells_no_token None = false
tells_no_token (Some (Message text)) = false
tells_no_token (Some (Answer answer)) = nat_eq answer.status 503 && bytes_eq answer.body (no_token_answer answer.close).body

-- how many of the answers say that no words could be drawn
abbrev pub no_tokens : List Outs → ℕ
no_tokens [] = 0
no_tokens (out ∷ outs) = cond (tells_no_token out.out) 1 0 + no_tokens outs

abbrev pub all_failures : List (List Draw) → ℕ
all_failures [] = 0
all_failures (draws ∷ drawn) = failures draws + all_failures drawn

-- in every run as many draws failed, at least
abbrev pub NoTokensByFailures : Type 0
NoTokensByFailures = (token : Option (List ℕ)) (shared : Bool) (events : List Event) (drawn : List (List Draw)) (entries : List (List Entry)) (outs : List Outs) (s : State) → Run token shared events drawn entries outs s
    → no_tokens outs ≤ all_failures drawn
