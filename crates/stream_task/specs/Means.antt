-- What a request means: its reply and the session after it, from the session before it and the entries that were used.
use Rattle.std.specs.Prelude.{ℕ, Bool, List, [], ◌∷◌, ◌++◌, Option, Some, None, Result, Ok, Err, if◌then◌else◌}
use Rattle.hrana_stmt.specs.Codes.{error_of}
use Rattle.hrana_stmt.specs.declared.codes.Code.{Code}
use Rattle.hrana_stmt.specs.declared.codes.Code.TheVariants as code
use Rattle.hrana_stmt.specs.declared.statements.Stmt.{Stmt}
use Rattle.hrana_batch.specs.declared.batches.Step.{Step}
use Rattle.hrana_batch.specs.declared.outcomes.Outcome.{Outcome}
use Rattle.hrana_batch.specs.declared.outcomes.Outcome.TheVariants as outcome
use Rattle.stream_requests.specs.declared.replies.Reply.{Reply}
use Rattle.stream_requests.specs.declared.replies.Reply.TheVariants as reply
use Rattle.sql_text.specs.declared.class.Class.{Class}
use Rattle.sql_text.specs.declared.prepared.Prepared.{Prepared}
use Rattle.sql_text.specs.Spans.{unclosed_at}
use Rattle.engine_core.specs.declared.entries.Entry.{Entry}
use Rattle.engine_core.specs.declared.entries.Entry.TheVariants as entry
use Rattle.engine_core.specs.declared.entries.How.TheVariants as how
use Rattle.engine_core.specs.declared.entries.Undo.TheVariants as undo
use Rattle.stream_task.specs.Session.{is_auto, is_shut, unit_of}
use Rattle.stream_task.specs.Checks.{ready_of, text_of}
use Rattle.stream_task.specs.Texts.{store_refusal, without_text}
use Rattle.stream_task.specs.Table.{plan, takes, empty_result}
use Rattle.stream_task.specs.Steps.{is_skipped}
use Rattle.stream_task.specs.Doing.{Session, session_in, in_state, steps_of_text}
use Rattle.stream_task.specs.declared.session.TxnState.{TxnState}
use Rattle.stream_task.specs.declared.session.TxnState.TheVariants.{Closed}
use Rattle.stream_task.specs.declared.texts.StoredText.{StoredText}
use Rattle.stream_task.specs.declared.table.Plan.{Plan}
use Rattle.stream_task.specs.declared.table.Plan.TheVariants.{Refuses, Becomes, Adds}
use Rattle.stream_task.specs.declared.table.Went.{Went}
use Rattle.stream_task.specs.declared.table.Went.TheVariants.{Still, Out, Stopped}
use Rattle.stream_task.specs.declared.work.Kind.{Kind}
use Rattle.stream_task.specs.declared.work.Kind.TheVariants as kind
use Rattle.stream_task.specs.declared.work.Running.{Running}
use Rattle.stream_task.specs.declared.work.Running.TheVariants.{Statement, Steps}
use Rattle.stream_task.specs.declared.work.Work.{Work}
use Rattle.stream_task.specs.declared.work.Work.TheVariants as work

-- ---- replies

abbrev pub failed : Code → Reply
failed c = reply.Failed (error_of c)

-- the reply to a statement with this outcome. A statement that has no condition isn't skipped.
abbrev pub executed : Outcome → Reply
executed (outcome.Done given) = reply.Execute given
executed (outcome.Failed error) = reply.Failed error
executed outcome.Skipped = reply.Execute empty_result

-- the reply where no step is left
abbrev pub reply_of : Kind → List Outcome → Reply
reply_of kind.Batch done = reply.Batch (record { outcomes = done })
reply_of kind.Sequence done = reply.Sequence

-- a sequence ends at its first failure, which is its reply
abbrev pub ends_with : Kind → Outcome → Option Reply
ends_with kind.Sequence (outcome.Failed error) = Some (reply.Failed error)
ends_with k o = None

-- ---- a statement

-- what a statement makes of the entries
pub data Taken : Type 0 where
  -- they ended before the statement did
  short : TxnState → Taken
  took : Outcome → TxnState → List Entry → Taken
  -- the engine broke, and the whole request is answered with this code
  broke : Code → TxnState → List Entry → Taken
  -- an entry isn't one of this statement
  unfit : Taken

abbrev pub took_went : Option Went → List Entry → (TxnState → Taken) → Taken
took_went (Some (Still next)) rest more = more next
took_went (Some (Out o next)) rest more = took o next rest
took_went (Some (Stopped c next)) rest more = broke c next rest
took_went went rest more = unfit

abbrev pub took_without : Plan → TxnState → Taken
took_without (Refuses c) state = took (outcome.Failed (error_of c)) state []
took_without (Becomes next) state = took (outcome.Done empty_result) next []
took_without (Adds row) state = short state

abbrev pub took_with : (ℕ → ℕ) → Bool → Plan → TxnState → Entry → List Entry → (TxnState → Taken) → Taken
took_with had want_rows (Refuses c) state e es more = took (outcome.Failed (error_of c)) state (e ∷ es)
took_with had want_rows (Becomes next) state e es more = took (outcome.Done empty_result) next (e ∷ es)
took_with had want_rows (Adds row) state e es more = took_went (takes had want_rows state row e) es more

-- A statement of this class that passed the checks. `had` is the version at which each unit began.
abbrev pub class_means : Bool → (ℕ → ℕ) → Bool → Class → List Entry → TxnState → Taken
class_means shared had want_rows c [] state = took_without (plan shared state c) state
class_means shared had want_rows c (e ∷ es) state = took_with had want_rows (plan shared state c) state e es (λ next. class_means shared had want_rows c es next)

-- by what the checks say
abbrev pub ready_means : Bool → (ℕ → ℕ) → Bool → Result Prepared Code → List Entry → TxnState → Taken
ready_means shared had want_rows (Err c) es state = took (outcome.Failed (error_of c)) state es
ready_means shared had want_rows (Ok ready) es state = class_means shared had want_rows ready.class es state

abbrev pub statement_means : Bool → (ℕ → ℕ) → Session → Stmt → List Entry → Taken
statement_means shared had s stmt es = ready_means shared had stmt.want_rows (ready_of s.texts stmt) es s.state

-- ---- a request

pub data Meant : Type 0 where
  -- the entries ended before the request did: the outcomes of its steps so far
  cut : List Outcome → Session → Meant
  said : Reply → Session → List Entry → Meant
  -- an entry isn't one of this request
  wrong : Meant

abbrev pub execute_means : List StoredText → Taken → Meant
execute_means texts (short next) = cut [] (session_in texts next)
execute_means texts (took o next rest) = said (executed o) (session_in texts next) rest
execute_means texts (broke c next rest) = said (failed c) (session_in texts next) rest
execute_means texts unfit = wrong

abbrev pub said_or : Option Reply → Session → List Entry → Meant → Meant
said_or (Some r) s rest more = said r s rest
said_or None s rest more = more

abbrev pub then_means : Kind → List Outcome → List StoredText → Taken → (Outcome → Session → List Entry → Meant) → Meant
then_means k done texts (short next) more = cut done (session_in texts next)
then_means k done texts (took o next rest) more = said_or (ends_with k o) (session_in texts next) rest (more o (session_in texts next) rest)
then_means k done texts (broke c next rest) more = said (failed c) (session_in texts next) rest
then_means k done texts unfit more = wrong

-- The steps in turn. One is skipped exactly where it has a condition that is false on the outcomes before it and on whether
-- the session is in autocommit. Otherwise its outcome is that of its statement, which takes its entries from the front.
abbrev pub steps_mean : Bool → (ℕ → ℕ) → Kind → List Step → List Outcome → Session → List Entry → Meant
steps_mean shared had k [] done s es = said (reply_of k done) s es
steps_mean shared had k (x ∷ xs) done s es =
    if is_skipped x.condition done (is_auto s.state) then steps_mean shared had k xs (done ++ outcome.Skipped ∷ []) s es
    else then_means k done s.texts (statement_means shared had s x.stmt es) (λ o next rest. steps_mean shared had k xs (done ++ o ∷ []) next rest)

-- a sequence whose text is closed, or has an open quote or comment
abbrev pub closed_means : Bool → (ℕ → ℕ) → List ℕ → Option ℕ → Session → List Entry → Meant
closed_means shared had text (Some at) s es = said (failed code.SqlOpen) s es
closed_means shared had text None s es = steps_mean shared had kind.Sequence (steps_of_text text) [] s es

abbrev pub sequence_means : Bool → (ℕ → ℕ) → Option (List ℕ) → Session → List Entry → Meant
sequence_means shared had None s es = said (failed code.NoSqlId) s es
sequence_means shared had (Some text) s es = closed_means shared had text (unclosed_at text) s es

-- a text is stored, or refused with this code
abbrev pub store_means : Option Code → StoredText → Session → List Entry → Meant
store_means (Some c) text s es = said (failed c) s es
store_means None text s es = said reply.SqlStored (session_in (s.texts ++ text ∷ []) s.state) es

-- an open unit is taken back
abbrev pub undo_means : Session → List Entry → Meant
undo_means s [] = cut [] s
undo_means s (entry.Ended unit (how.Undone undo.Close) ∷ es) = said reply.Closed (in_state s Closed) es
undo_means s (e ∷ es) = wrong

abbrev pub close_means : Option ℕ → Session → List Entry → Meant
close_means None s es = said reply.Closed (in_state s Closed) es
close_means (Some unit) s es = undo_means s es

abbrev pub running_means : Bool → (ℕ → ℕ) → Session → Running → List Entry → Meant
running_means shared had s (Statement stmt) es = execute_means s.texts (statement_means shared had s stmt es)
running_means shared had s (Steps k r) es = steps_mean shared had k r.left r.done s es

-- in a session that is neither dead nor closed
abbrev pub open_means : Bool → (ℕ → ℕ) → Session → Work → List Entry → Meant
open_means shared had s (work.Running running) es = running_means shared had s running es
open_means shared had s (work.Sequence text) es = sequence_means shared had (text_of s.texts text) s es
open_means shared had s work.GetAutocommit es = said (reply.Autocommit (is_auto s.state)) s es
open_means shared had s (work.StoreSql text) es = store_means (store_refusal s.texts text) text s es
open_means shared had s (work.CloseSql id) es = said reply.SqlClosed (session_in (without_text id s.texts) s.state) es
open_means shared had s work.Close es = close_means (unit_of s.state) s es

-- in a closed session, and in a dead one
abbrev pub shut_means : TxnState → Session → Work → List Entry → Meant
shut_means Closed s w es = said (failed code.StreamNotOpen) s es
shut_means state s work.Close es = said reply.Closed (in_state s Closed) es
shut_means state s w es = said (failed code.StreamLost) s es

-- over an engine that shares or doesn't
abbrev pub means : Bool → (ℕ → ℕ) → Session → Work → List Entry → Meant
means shared had s w es = if is_shut s.state then shut_means s.state s w es else open_means shared had s w es
