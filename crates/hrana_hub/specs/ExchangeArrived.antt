-- An exchange that comes in: before its words are drawn, and once they are.
use Rattle.std.specs.Prelude.{◌≡◌, ◌+◌, ℕ, Bool, true, false, cond, List, [], ◌∷◌, Some, Result, Ok, Err}
use Rattle.hrana_value.specs.declared.failures.NoMemory.{NoMemory}
use Rattle.hrana_stmt.specs.declared.codes.Code.TheVariants as code
use Rattle.stream_requests.specs.declared.asks.Ask.{Ask}
use Rattle.http_wire.specs.declared.outs.Outs.{Outs}
use Rattle.pipeline_body.specs.Batons.{blank}
use Rattle.pipeline_body.specs.Exchanges.{Progress, begins, asked_in, is_over, pipeline_answer, error_answer}
use Rattle.pipeline_body.specs.declared.bodies.PipelineBody.{PipelineBody}
use Rattle.baton_store.specs.Batons.{with_place, with_baton}
use Rattle.txn_table.specs.Turns.{with_place as with_turn_place}
use Rattle.http_wire.specs.declared.outs.HttpAnswer.{HttpAnswer}
use Rattle.engine_core.specs.Draws.{Draw, words, failed}
use Rattle.stream_task.specs.Together.{numbered}
use Rattle.hrana_hub.specs.declared.exchange_arrivals.Prepared.{Prepared}
use Rattle.hrana_hub.specs.declared.exchange_arrivals.Ready.{Ready}
use Rattle.hrana_hub.specs.declared.exchange_arrivals.Ready.TheVariants.{Answered, Waits}
use Rattle.hrana_hub.specs.declared.sessions.Running.{Running as Exchange}
use Rattle.hrana_hub.specs.Agrees.{IsTied}
use Rattle.hrana_hub.specs.Arrivals.{TurnsStay}
use Rattle.hrana_hub.specs.Exchanges.{starts, works_of, fresh_session, GoesDrawn}
use Rattle.hrana_hub.specs.Maps.{placed}
use Rattle.hrana_hub.specs.State.{Stream, State, Seen}

-- how the exchange goes on, whose results so far and requests are these
abbrev pub IsReadyFor : Progress → List Ask → Bool → Ready → Type 0
IsReadyFor p asks close (Answered answer) = (is_over p ≡ true) × (answer ≡ pipeline_answer p.results (Some blank) close)
IsReadyFor p asks close (Waits exchange queued) = (is_over p ≡ false) × (exchange ≡ p) × (queued ≡ works_of asks)

pub record IsPreparedFor (body : PipelineBody) (prepared : Prepared) : Type 0 where
  pub ready : IsReadyFor (begins body.asks) (asked_in body.asks) prepared.close prepared.ready
  pub no_token : prepared.no_token ≡ error_answer 503 code.NoToken prepared.close

-- The exchange of the stream runs, or was answered at once.
pub record Started (old : Seen) (n : ℕ) (x : Stream) (asks : List Ask) (e : Exchange) (out : Outs) (new : Seen) : Type 0 where
  pub given : out ≡ (starts n x asks e old.state).given
  pub left : new.state ≡ (starts n x asks e old.state).state
  pub store : new.store ≡ cond (is_over e.exchange) (with_baton old.store (numbered n) e.words old.state.now) old.store
  pub token : new.token ≡ old.token
  pub turns : new.turns ≡ old.turns
  pub noted : new.noted ≡ old.noted

-- There are places for a stream that opens next.
pub record HasSession (c : ℕ) (old new : Seen) : Type 0 where
  pub state : new.state ≡ record old.state { streams = placed (old.state.opened + 1) (fresh_session old.state.now c (old.state.opened + 1)) old.state.streams }
  pub store : new.store ≡ with_place old.store (numbered (old.state.opened + 1))
  pub turns : new.turns ≡ with_turn_place old.turns (numbered (old.state.opened + 1))
  pub token : new.token ≡ old.token
  pub noted : new.noted ≡ old.noted

-- what the store is to be before an exchange and after it
pub record StoreFits (h : Seen) : Type 0 where
  pub issued : h.store.issued ≡ h.state.issued
  pub tied : IsTied h.state.streams h.store

-- what every exchange leaves
pub record Entered (old new : Seen) : Type 0 where
  pub token : new.token ≡ old.token
  pub noted : new.noted ≡ old.noted
  pub turns : TurnsStay old new
  pub store : StoreFits new

-- the exchange went so, or there was no memory, nothing was drawn, and the state is as it was
abbrev pub GoesOr : (List Draw → Outs → State → Type 0) → State → List Draw → Result Outs NoMemory → State → Type 0
GoesOr Goes old draws (Ok out) new = Goes draws out new
GoesOr Goes old draws (Err short) new = (draws ≡ []) × (new ≡ old)

-- the first answer where words were drawn, and else the second
abbrev pub answer_by : Draw → HttpAnswer → HttpAnswer → HttpAnswer
answer_by (words given) drawn refused = drawn
answer_by failed drawn refused = refused

-- what comes of a body, by what is drawn for it
pub record GoesPrepared (body : PipelineBody) (c : ℕ) (close : Bool) (s : State) (draws : List Draw) (out : Outs) (new : State) : Type 0 where
  pub draw : Draw
  pub one : draws ≡ draw ∷ []
  pub goes : GoesDrawn draw body c close s out new
