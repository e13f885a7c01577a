-- How a request over HTTP is answered: by its route alone, by a refusal, or by the results of a pipeline, one for each of its requests.
use Rattle.std.specs.Prelude.{◌≡◌, ◌≢◌, ◌≤◌, ◌⊎◌, ℕ, Bool, true, false, bytes_eq, nat_eq, cond, length, drop, map, All, List, [], ◌∷◌, ◌++◌, Option, None, Some, codes}
use Rattle.serde_json.specs.Written.{compact_text}
use Rattle.hrana_value.specs.declared.failures.Decline.{Decline}
use Rattle.hrana_value.specs.declared.failures.Decline.TheVariants as decline
use Rattle.hrana_stmt.specs.Codes.{error_of}
use Rattle.hrana_stmt.specs.Written.{error_data}
use Rattle.hrana_stmt.specs.declared.codes.Code.{Code}
use Rattle.hrana_stmt.specs.declared.codes.Code.TheVariants as code
use Rattle.stream_requests.specs.declared.asks.Ask.{Ask}
use Rattle.stream_requests.specs.Asks.{ask_kind, AskFits}
use Rattle.stream_requests.specs.Results.{IsPipelineKind}
use Rattle.stream_requests.specs.declared.replies.Reply.{Reply}
use Rattle.stream_requests.specs.declared.replies.Reply.TheVariants.{Failed}
use Rattle.http_wire.specs.declared.asks.HttpAsk.{HttpAsk}
use Rattle.http_wire.specs.declared.asks.Method.{Method}
use Rattle.http_wire.specs.declared.asks.Method.TheVariants as method
use Rattle.http_wire.specs.declared.outs.Allow.{Allow}
use Rattle.http_wire.specs.declared.outs.Allow.TheVariants as allow
use Rattle.http_wire.specs.declared.outs.HttpAnswer.{HttpAnswer}
use Rattle.pipeline_body.specs.declared.bodies.BodyFail.{BodyFail}
use Rattle.pipeline_body.specs.declared.bodies.BodyFail.TheVariants.{NoMemory}
use Rattle.pipeline_body.specs.declared.bodies.PipeAsk.{PipeAsk}
use Rattle.pipeline_body.specs.declared.bodies.PipeAsk.TheVariants as pipe
use Rattle.pipeline_body.specs.declared.bodies.PipelineBody.{PipelineBody}
use Rattle.pipeline_body.specs.declared.exchange.Asked.{Asked}
use Rattle.pipeline_body.specs.declared.exchange.Asked.TheVariants.{Answered, Pipeline}
use Rattle.pipeline_body.specs.declared.routes.Route.{Route}
use Rattle.pipeline_body.specs.declared.routes.Route.TheVariants as route
use Rattle.pipeline_body.specs.Bodies.{IsBody, IsNoBody}
use Rattle.pipeline_body.specs.Written.{answer_data}

-- ---- answers

abbrev pub empty_answer : ℕ → Option Allow → Bool → HttpAnswer
empty_answer status allow close = record { status = status; allow = allow; body = []; close = close }

-- the body is the error of the code
abbrev pub error_answer : ℕ → Code → Bool → HttpAnswer
error_answer status why close = record { status = status; allow = None; body = compact_text (error_data (error_of why)); close = close }

-- the body has the results and the baton of the stream, none where it is closed
abbrev pub pipeline_answer : List Reply → Option (List ℕ) → Bool → HttpAnswer
pipeline_answer results baton close = record { status = 200; allow = None; body = compact_text (answer_data (record { baton = baton; results = results })); close = close }

-- ---- by the route alone

abbrev pub route_of : List ℕ → Route
route_of path = cond (bytes_eq path (codes "/v3")) route.Home (cond (bytes_eq path (codes "/v3/pipeline")) route.Pipeline route.Unknown)

abbrev pub home_answer : Method → Bool → HttpAnswer
home_answer method.Get close = empty_answer 200 None close
home_answer asked close = empty_answer 405 (Some allow.Get) close

abbrev pub pipeline_refused : Method → Bool → Option HttpAnswer
pipeline_refused method.Post close = None
pipeline_refused asked close = Some (empty_answer 405 (Some allow.Post) close)

abbrev pub answer_on : Route → Method → Bool → Option HttpAnswer
answer_on route.Unknown asked close = Some (empty_answer 404 None close)
answer_on route.Home asked close = Some (home_answer asked close)
answer_on route.Pipeline asked close = pipeline_refused asked close

-- the answer that a request has whatever its bearer and its body are
abbrev pub route_answer : HttpAsk → Option HttpAnswer
route_answer ask = answer_on (route_of ask.path) ask.method ask.close

-- ---- by its bearer and its body

-- the bytes have no form of a body, or it has too many requests
abbrev pub IsUnreadable : List ℕ → Type 0
IsUnreadable bytes = (fail : BodyFail) × (fail ≢ NoMemory) × IsNoBody bytes fail

-- a client that isn't let in is told so; else a body that isn't one is refused, and one that is a pipeline's is read
abbrev pub IsAsked : Bool → HttpAsk → Asked → Type 0
IsAsked let_in ask (Answered answer) = ((let_in ≡ false) × (answer ≡ error_answer 401 code.Auth ask.close)) ⊎ ((let_in ≡ true) × IsUnreadable ask.body × (answer ≡ error_answer 400 code.BadRequest ask.close))
IsAsked let_in ask (Pipeline body) = (let_in ≡ true) × IsBody ask.body body

-- ---- results

-- the code with which a request is answered that is declined
abbrev pub code_of_decline : Decline → Code
code_of_decline decline.Unknown = code.UnknownRequest
code_of_decline decline.Describe = code.DescribeUnsupported
code_of_decline decline.BadStep = code.BadStep
code_of_decline decline.Float = code.FloatUnsupported
code_of_decline other = code.BadRequest

abbrev pub declined : Decline → Reply
declined why = Failed (error_of (code_of_decline why))

-- A pipeline under way: the results so far, and of each request that has none yet why it is declined, if it is. A request that
-- isn't was asked of the stream.
pub record Progress : Type 0 where
  pub results : List Reply
  pub left : List (Option Decline)

-- the next requests are passed over as far as they are declined
abbrev pub passed : List Reply → List (Option Decline) → Progress
passed results [] = record { results = results; left = [] }
passed results (None ∷ left) = record { results = results; left = None ∷ left }
passed results (Some why ∷ left) = passed (results ++ declined why ∷ []) left

abbrev pub place_of : PipeAsk → Option Decline
place_of (pipe.Ask ask) = None
place_of (pipe.Declined why) = Some why

abbrev pub begins : List PipeAsk → Progress
begins asks = passed [] (map place_of asks)

-- what the stream is asked
abbrev pub asked_in : List PipeAsk → List Ask
asked_in [] = []
asked_in (pipe.Ask ask ∷ asks) = ask ∷ asked_in asks
asked_in (pipe.Declined why ∷ asks) = asked_in asks

-- the first of the requests that the stream was asked has this reply
abbrev pub answered : Reply → Progress → Progress
answered reply p = passed (p.results ++ reply ∷ []) (drop 1 p.left)

abbrev pub is_over : Progress → Bool
is_over p = nat_eq (length p.left) 0

-- ---- the law of results

abbrev pub after : List Reply → Progress → Progress
after [] p = p
after (reply ∷ replies) p = after replies (answered reply p)

-- the results of requests, one for each in its place, as far as the stream has replied
abbrev pub results_of : List PipeAsk → List Reply → List Reply
results_of [] replies = []
results_of (pipe.Declined why ∷ asks) replies = declined why ∷ results_of asks replies
results_of (pipe.Ask ask ∷ asks) [] = []
results_of (pipe.Ask ask ∷ asks) (reply ∷ replies) = reply ∷ results_of asks replies

-- After these replies the results are those of the requests, and it is over exactly where each that was asked has its reply.
abbrev pub EachHasItsResult : Type 0
EachHasItsResult = (asks : List PipeAsk) (replies : List Reply) → length replies ≤ length (asked_in asks)
    → ((after replies (begins asks)).results ≡ results_of asks replies) × (is_over (after replies (begins asks)) ≡ nat_eq (length replies) (length (asked_in asks)))

-- ---- the law of requests

-- what the stream is asked by a body is of kinds that a pipeline may ask, and breaks no limit
abbrev pub AsksOfBodiesFit : Type 0
AsksOfBodiesFit = (bytes : List ℕ) (body : PipelineBody) → IsBody bytes body → All (λ a. IsPipelineKind (ask_kind a) × AskFits a) (asked_in body.asks)
