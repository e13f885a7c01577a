-- The session of a stream, and its requests that are queued or running.
use Rattle.std.specs.Prelude.{ℕ, ◌≤◌, false, List, [], map, Option, Some, None, slice_range}
use Rattle.hrana_stmt.specs.declared.statements.SqlRef.TheVariants as sql
use Rattle.hrana_batch.specs.Progress.{NamesEarlierSteps}
use Rattle.hrana_batch.specs.declared.batches.Step.{Step}
use Rattle.stream_requests.specs.declared.asks.Ask.{Ask}
use Rattle.stream_requests.specs.declared.asks.Ask.TheVariants as ask
use Rattle.sql_text.specs.declared.spans.Span.{Span}
use Rattle.sql_text.specs.Spans.{spans_of}
use Rattle.stream_task.specs.declared.session.TxnState.{TxnState}
use Rattle.stream_task.specs.declared.texts.StoredText.{StoredText}
use Rattle.stream_task.specs.declared.work.Kind.TheVariants.{Batch}
use Rattle.stream_task.specs.declared.work.Running.TheVariants.{Statement, Steps}
use Rattle.stream_task.specs.declared.work.Work.{Work}
use Rattle.stream_task.specs.declared.work.Work.TheVariants as work

pub record Session : Type 0 where
  pub state : TxnState
  -- the stored texts that statements may name
  pub texts : List StoredText

abbrev pub session_in : List StoredText → TxnState → Session
session_in texts state = record { state = state; texts = texts }

abbrev pub in_state : Session → TxnState → Session
in_state session next = session_in session.texts next

-- ---- the statements of a sequence

-- a statement of this text, without condition and arguments. Its rows aren't wanted.
abbrev pub step_of_text : List ℕ → Step
step_of_text text = record { condition = None; stmt = record { sql = sql.Text text; args = []; named = []; want_rows = false } }

-- a span of a text of this length
abbrev pub IsWithin : ℕ → Span → Type 0
IsWithin most span = (span.start ≤ span.end) × (span.end ≤ most)

abbrev pub step_at : List ℕ → Span → Step
step_at text span = step_of_text (slice_range text span.start span.end)

-- the statements of a text, in its order
abbrev pub steps_of_text : List ℕ → List Step
steps_of_text text = map (step_at text) (spans_of text)

-- ---- a request

-- a request as it is queued, of those that a stream can be asked so far
abbrev pub work_of : Ask → Option Work
work_of (ask.Execute stmt) = Some (work.Running (Statement stmt))
work_of (ask.Batch batch) = Some (work.Running (Steps Batch (record { left = batch.steps; done = [] })))
work_of (ask.Sequence text) = Some (work.Sequence text)
work_of ask.GetAutocommit = Some work.GetAutocommit
work_of (ask.StoreSql id sql) = Some (work.StoreSql (record { id = id; sql = sql }))
work_of (ask.CloseSql id) = Some (work.CloseSql id)
work_of ask.Close = Some work.Close
work_of other = None

-- a stream can be asked this so far, and conditions of a batch name steps before their own
abbrev pub MayBeAsked : Ask → Type 0
MayBeAsked (ask.Execute stmt) = Unit {0}
MayBeAsked (ask.Batch batch) = NamesEarlierSteps batch
MayBeAsked (ask.Sequence text) = Unit {0}
MayBeAsked ask.GetAutocommit = Unit {0}
MayBeAsked (ask.StoreSql id sql) = Unit {0}
MayBeAsked (ask.CloseSql id) = Unit {0}
MayBeAsked ask.Close = Unit {0}
MayBeAsked other = ⊥
