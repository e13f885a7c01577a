-- Stored texts, put into what is asked of a stream.
use Rattle.std.specs.Prelude.{ℕ, List, [], ◌∷◌, Option, None, Some}
use Rattle.hrana_stmt.specs.declared.statements.Stmt.{Stmt}
use Rattle.hrana_stmt.specs.declared.statements.SqlRef.{SqlRef}
use Rattle.hrana_stmt.specs.declared.statements.SqlRef.TheVariants as sql
use Rattle.hrana_batch.specs.declared.batches.Step.{Step}
use Rattle.stream_requests.specs.declared.asks.Ask.{Ask}
use Rattle.stream_requests.specs.declared.asks.Ask.TheVariants as ask
use Rattle.stream_task.specs.Checks.{text_of}
use Rattle.stream_task.specs.declared.texts.StoredText.{StoredText}

-- ---- a request with the texts that it names, where each is stored

abbrev pub as_text : Option (List ℕ) → Option SqlRef
as_text None = None
as_text (Some text) = Some (sql.Text text)

abbrev pub put_text : List StoredText → SqlRef → Option SqlRef
put_text texts named = as_text (text_of texts named)

abbrev pub with_sql : Stmt → Option SqlRef → Option Stmt
with_sql stmt None = None
with_sql stmt (Some named) = Some (record { sql = named; args = stmt.args; named = stmt.named; want_rows = stmt.want_rows })

abbrev pub put_stmt : List StoredText → Stmt → Option Stmt
put_stmt texts stmt = with_sql stmt (put_text texts stmt.sql)

abbrev pub step_with : Step → Option Stmt → Option Step
step_with step None = None
step_with step (Some stmt) = Some (record { condition = step.condition; stmt = stmt })

abbrev pub put_step : List StoredText → Step → Option Step
put_step texts step = step_with step (put_stmt texts step.stmt)

abbrev pub step_before : Option Step → Option (List Step) → Option (List Step)
step_before None steps = None
step_before (Some step) None = None
step_before (Some step) (Some steps) = Some (step ∷ steps)

abbrev pub put_steps : List StoredText → List Step → Option (List Step)
put_steps texts [] = Some []
put_steps texts (step ∷ steps) = step_before (put_step texts step) (put_steps texts steps)

abbrev pub as_execute : Option Stmt → Option Ask
as_execute None = None
as_execute (Some stmt) = Some (ask.Execute stmt)

abbrev pub as_batch : Option (List Step) → Option Ask
as_batch None = None
as_batch (Some steps) = Some (ask.Batch (record { steps = steps }))

abbrev pub as_sequence : Option SqlRef → Option Ask
as_sequence None = None
as_sequence (Some named) = Some (ask.Sequence named)

-- a request that names a text which isn't stored is refused as a whole
abbrev pub put_ask : List StoredText → Ask → Option Ask
put_ask texts (ask.Execute stmt) = as_execute (put_stmt texts stmt)
put_ask texts (ask.Batch batch) = as_batch (put_steps texts batch.steps)
put_ask texts (ask.Sequence named) = as_sequence (put_text texts named)
put_ask texts other = Some other
