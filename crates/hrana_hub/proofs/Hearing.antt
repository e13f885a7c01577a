-- Exchanges that are heard: what their streams may be asked, and what is prepared.
use Rattle.std.proofs.Common.{◌≡◌, ℕ, Bool, List, All, subst}
use Rattle.hrana_batch.proofs.FitsLemmas.{fits_earlier}
use Rattle.hrana_stmt.specs.declared.codes.Code.TheVariants as code
use Rattle.stream_requests.specs.Asks.{ask_kind, AskFits}
use Rattle.stream_requests.specs.Results.{IsPipelineKind}
use Rattle.stream_requests.specs.declared.asks.Ask.{Ask}
use Rattle.stream_requests.specs.declared.asks.Ask.TheVariants as ask
use Rattle.http_wire.specs.declared.outs.HttpAnswer.{HttpAnswer}
use Rattle.pipeline_body.specs.Exchanges.{Progress, begins, asked_in, error_answer}
use Rattle.pipeline_body.specs.declared.bodies.PipelineBody.{PipelineBody}
use Rattle.stream_task.specs.Doing.{MayBeAsked}
use Rattle.hrana_hub.specs.declared.exchange_arrivals.Ready.{Ready}
use Rattle.hrana_hub.specs.ExchangeArrived.{IsReadyFor, IsPreparedFor}

-- ---- what is asked

may_be_asked : (what : Ask) → IsPipelineKind (ask_kind what) → AskFits what → MayBeAsked what
may_be_asked (ask.Execute stmt) over_http fits = tt
may_be_asked (ask.Batch batch) over_http fits = fits_earlier batch fits
may_be_asked (ask.Sequence named) over_http fits = tt
may_be_asked (ask.Cursor batch) over_http fits = over_http
may_be_asked (ask.Fetch count) over_http fits = over_http
may_be_asked ask.CloseCursor over_http fits = over_http
may_be_asked ask.GetAutocommit over_http fits = tt
may_be_asked (ask.StoreSql id sql) over_http fits = tt
may_be_asked (ask.CloseSql id) over_http fits = tt
may_be_asked ask.Close over_http fits = tt

pub may_all_be_asked : (asks : List Ask) → All (λ a. IsPipelineKind (ask_kind a) × AskFits a) asks → All MayBeAsked asks
may_all_be_asked asks fit = λ k d inside. may_be_asked _ (fit k d inside).0 (fit k d inside).1

-- ---- what is prepared

pub prepared_for : (body : PipelineBody) (c : ℕ) (close : Bool) (exchange : Progress) (asks : List Ask) (ready : Ready) (no_token : HttpAnswer) → (exchange ≡ begins body.asks) × (asks ≡ asked_in body.asks) → IsReadyFor exchange asks close ready
    → no_token ≡ error_answer 503 code.NoToken close → IsPreparedFor body (record { conn = c; close = close; ready = ready; no_token = no_token })
prepared_for body c close exchange asks ready no_token begun is said = record {
  ready = subst (λ (p : Progress). IsReadyFor p (asked_in body.asks) close ready) begun.0 (subst (λ (those : List Ask). IsReadyFor exchange those close ready) begun.1 is);
  no_token = said;
}
