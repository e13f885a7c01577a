-- One poll of a request: the entry that it adds, and what it leaves.
use Rattle.std.specs.Prelude.{◌≡◌, ◌⊎◌, ◌<◌, length, true, false, if◌then◌else◌, ℕ, Bool, List, [], ◌∷◌, ◌++◌, Option, Some, None}
use Rattle.hrana_value.specs.declared.StreamNo.{StreamNo}
use Rattle.hrana_stmt.specs.declared.codes.Code.{Code}
use Rattle.hrana_stmt.specs.declared.codes.Code.TheVariants as code
use Rattle.hrana_stmt.specs.declared.statements.Stmt.{Stmt}
use Rattle.hrana_batch.specs.declared.batches.Step.{Step}
use Rattle.hrana_batch.specs.declared.outcomes.Outcome.{Outcome}
use Rattle.stream_requests.specs.declared.replies.Reply.{Reply}
use Rattle.stream_requests.specs.declared.replies.Reply.TheVariants as reply
use Rattle.sql_text.specs.Spans.{unclosed_at}
use Rattle.engine_core.specs.declared.entries.Entry.{Entry}
use Rattle.engine_core.specs.declared.entries.Undo.TheVariants as undo
use Rattle.stream_task.specs.Session.{is_auto, is_shut}
use Rattle.stream_task.specs.Checks.{text_of}
use Rattle.stream_task.specs.Texts.{store_refusal, without_text}
use Rattle.stream_task.specs.Table.{Seen}
use Rattle.stream_task.specs.Adds.{PollsStatement, undone_of}
use Rattle.stream_task.specs.Steps.{first_of, noted, passed, StartsAt}
use Rattle.stream_task.specs.Steps.{Steps as Stepping}
use Rattle.stream_task.specs.Doing.{Session, session_in, steps_of_text}
use Rattle.stream_task.specs.Means.{failed, executed, reply_of, ends_with}
use Rattle.stream_task.specs.declared.session.TxnState.{TxnState}
use Rattle.stream_task.specs.declared.session.TxnState.TheVariants.{Closed}
use Rattle.stream_task.specs.declared.texts.StoredText.{StoredText}
use Rattle.stream_task.specs.declared.table.Went.{Went}
use Rattle.stream_task.specs.declared.table.Went.TheVariants as went
use Rattle.stream_task.specs.declared.work.Kind.{Kind}
use Rattle.stream_task.specs.declared.work.Kind.TheVariants.{Sequence}
use Rattle.stream_task.specs.declared.work.Running.{Running}
use Rattle.stream_task.specs.declared.work.Running.TheVariants.{Statement, Steps}
use Rattle.stream_task.specs.declared.work.Work.{Work}
use Rattle.stream_task.specs.declared.work.Work.TheVariants as work
use Rattle.stream_task.specs.declared.advance.Advanced.{Advanced}
use Rattle.stream_task.specs.declared.advance.Advanced.TheVariants.{Waits, Ran, Replied, Broke}
use Rattle.stream_task.specs.declared.todo.Todo.{Todo}
use Rattle.stream_task.specs.declared.todo.Todo.TheVariants as todo

-- ---- what a poll is to do

-- the first statement of a request
abbrev pub statement_of : Running → Option Stmt
statement_of (Statement stmt) = Some stmt
statement_of (Steps k r) = first_of r.left

-- it has one, which isn't skipped
abbrev pub StartsIn : Bool → Running → Type 0
StartsIn auto (Statement stmt) = Unit {0}
StartsIn auto (Steps k r) = (0 < length r.left) × StartsAt auto r.left r.done

abbrev pub steps_todo : Kind → List Step → List Outcome → TxnState → Todo
steps_todo k [] done state = todo.Answer (Replied (reply_of k done) state)
steps_todo k (x ∷ xs) done state = todo.Poll (Steps k (record { left = x ∷ xs; done = done }))

-- the first steps whose condition is false are passed over
abbrev pub running_todo : TxnState → Running → Todo
running_todo state (Statement stmt) = todo.Poll (Statement stmt)
running_todo state (Steps k r) = let p = passed (is_auto state) r in steps_todo k p.left p.done state

-- a sequence is cut before its first statement, and where its text has an open quote or comment none is run
abbrev pub closed_todo : TxnState → List ℕ → Option ℕ → Todo
closed_todo state text (Some at) = todo.Answer (Replied (failed code.SqlOpen) state)
closed_todo state text None = running_todo state (Steps Sequence (record { left = steps_of_text text; done = [] }))

abbrev pub sequence_todo : TxnState → Option (List ℕ) → Todo
sequence_todo state None = todo.Answer (Replied (failed code.NoSqlId) state)
sequence_todo state (Some text) = closed_todo state text (unclosed_at text)

-- a text is stored that isn't refused
abbrev pub store_todo : TxnState → StoredText → Option Code → Todo
store_todo state text (Some c) = todo.Answer (Replied (failed c) state)
store_todo state text None = todo.StoreSql text

-- in a session that is neither dead nor closed
abbrev pub open_todo : Session → Work → Todo
open_todo s (work.Running running) = running_todo s.state running
open_todo s (work.Sequence text) = sequence_todo s.state (text_of s.texts text)
open_todo s work.GetAutocommit = todo.Answer (Replied (reply.Autocommit (is_auto s.state)) s.state)
open_todo s (work.StoreSql text) = store_todo s.state text (store_refusal s.texts text)
open_todo s (work.CloseSql id) = todo.CloseSql id
open_todo s work.Close = todo.Close

-- in a closed session, and in a dead one
abbrev pub shut_todo : TxnState → Work → Todo
shut_todo Closed w = todo.Answer (Replied (failed code.StreamNotOpen) Closed)
shut_todo state work.Close = todo.Answer (Replied reply.Closed Closed)
shut_todo state w = todo.Answer (Replied (failed code.StreamLost) state)

-- what a poll of this request is to do
abbrev pub todo_of : Session → Work → Todo
todo_of s w = if is_shut s.state then shut_todo s.state w else open_todo s w

-- it is this, or there was no memory before anything was done, and nothing changed
abbrev pub IsTodo : TxnState → Todo → Todo → Type 0
IsTodo state expected given = (given ≡ expected) ⊎ (given ≡ todo.Answer (Broke state))

-- ---- what a statement leaves of its request

abbrev pub state_left : TxnState → Advanced → TxnState
state_left state (Waits w) = state
state_left state (Ran w next) = next
state_left state (Replied r next) = next
state_left state (Broke next) = next

-- A request that has this reply has changed the stored texts: the one that it stored stands at their end, or the one that it
-- closed is gone.
abbrev pub texts_replied : List StoredText → Reply → Work → List StoredText
texts_replied texts reply.SqlStored (work.StoreSql text) = texts ++ text ∷ []
texts_replied texts reply.SqlClosed (work.CloseSql id) = without_text id texts
texts_replied texts r w = texts

abbrev pub texts_left : List StoredText → Work → Advanced → List StoredText
texts_left texts w (Replied r next) = texts_replied texts r w
texts_left texts w result = texts

-- the session after a poll of this request
abbrev pub session_left : Session → Work → Advanced → Session
session_left s w result = session_in (texts_left s.texts w result) (state_left s.state result)

abbrev pub waits_on : Advanced → Bool
waits_on (Waits w) = true
waits_on result = false

-- the request runs on where a step is left, and is answered where none is
abbrev pub steps_rest : Kind → List Step → List Outcome → TxnState → Advanced
steps_rest k [] done state = Replied (reply_of k done) state
steps_rest k (x ∷ xs) done state = Ran (work.Running (Steps k (record { left = x ∷ xs; done = done }))) state

-- once the first steps that are left and whose condition is false were passed over
abbrev pub steps_go_on : Kind → Stepping → TxnState → Advanced
steps_go_on k r state = let p = passed (is_auto state) r in steps_rest k p.left p.done state

abbrev pub replied_or : Option Reply → TxnState → Advanced → Advanced
replied_or (Some r) state more = Replied r state
replied_or None state more = more

-- what the outcome of its statement leaves of a request
abbrev pub outcome_leaves : Running → Outcome → TxnState → Advanced
outcome_leaves (Statement stmt) o next = Replied (executed o) next
outcome_leaves (Steps k r) o next = replied_or (ends_with k o) next (steps_go_on k (noted r o) next)

-- what a poll of its statement leaves of a request
abbrev pub went_leaves : Running → Went → Advanced
went_leaves running went.Waits = Waits (work.Running running)
went_leaves running (went.Still next) = Ran (work.Running running) next
went_leaves running (went.Out o next) = outcome_leaves running o next
went_leaves running (went.Stopped c next) = Replied (failed c) next
went_leaves running (went.Short next) = Broke next

-- it is answered with the error of this code, or there was no memory for it
abbrev pub FailsWith : Code → TxnState → Advanced → Type 0
FailsWith c state (Broke left) = left ≡ state
FailsWith c state result = result ≡ Replied (failed c) state

-- it is so, or there was no memory for the reply that the engine broke, and the state is the same
abbrev pub Leaves : Running → Went → Advanced → Type 0
Leaves running (went.Stopped c next) (Broke left) = left ≡ next
Leaves running w result = result ≡ went_leaves running w

-- ---- a poll of a request

-- it is answered at once, and no entry is added
pub record Answers (expected : Advanced) (added : Option Entry) (result : Advanced) : Type 0 where
  pub no_entry : added ≡ None
  pub answer : result ≡ expected

-- its statement is polled
pub record PollsRunning (shared : Bool) (stream : StreamNo) (seen : Seen) (s : Session) (running : Running) (added : Option Entry) (result : Advanced) : Type 0 where
  pub stmt : Stmt
  pub first : statement_of running ≡ Some stmt
  pub went : Went
  pub polls : PollsStatement shared stream seen s.state s.texts stmt added went
  pub leaves : Leaves running went result

-- the open unit, if there is one, is taken back, and the stream is closed
pub record Closes (state : TxnState) (added : Option Entry) (result : Advanced) : Type 0 where
  pub undone : added ≡ undone_of undo.Close state
  pub answer : result ≡ Replied reply.Closed Closed

abbrev pub Does : Bool → StreamNo → Seen → Session → Todo → Option Entry → Advanced → Type 0
Does shared stream seen s (todo.Answer expected) added result = Answers expected added result
Does shared stream seen s (todo.Poll running) added result = PollsRunning shared stream seen s running added result
Does shared stream seen s (todo.StoreSql text) added result = Answers (Replied reply.SqlStored s.state) added result
Does shared stream seen s (todo.CloseSql id) added result = Answers (Replied reply.SqlClosed s.state) added result
Does shared stream seen s todo.Close added result = Closes s.state added result

-- there was no memory before anything was done, and nothing changed
pub record FallsEarly (state : TxnState) (added : Option Entry) (result : Advanced) : Type 0 where
  pub no_entry : added ≡ None
  pub answer : result ≡ Broke state

-- one poll of a request, over an engine that shares or doesn't
abbrev pub PollsWork : Bool → StreamNo → Seen → Session → Work → Option Entry → Advanced → Type 0
PollsWork shared stream seen s w added result = Does shared stream seen s (todo_of s w) added result ⊎ FallsEarly s.state added result
