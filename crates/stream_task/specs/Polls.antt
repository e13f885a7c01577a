-- One poll of a stream: the entry that it adds, what it answers, and the stream after it.
use Rattle.std.specs.Prelude.{◌≡◌, ℕ, Bool, true, false, List, [], ◌∷◌, ◌++◌, Option, None, option_to_list}
use Rattle.hrana_value.specs.declared.StreamNo.{StreamNo}
use Rattle.stream_requests.specs.declared.asks.Ask.{Ask}
use Rattle.serial_order.specs.Serial.{Meaning}
use Rattle.txn_table.specs.Turns.{Turns, after_loss}
use Rattle.engine_core.specs.Noted.{Noted}
use Rattle.engine_core.specs.Transactions.{Lives}
use Rattle.engine_core.specs.declared.statement.BoundStmt.{BoundStmt}
use Rattle.engine_core.specs.declared.entries.Answer.{Answer}
use Rattle.engine_core.specs.declared.entries.Entry.{Entry}
use Rattle.engine_core.specs.declared.entries.Undo.{Undo}
use Rattle.engine_core.specs.declared.entries.Undo.TheVariants as undo
use Rattle.stream_task.specs.Table.{Seen}
use Rattle.stream_task.specs.Adds.{AddsOne, undone_of}
use Rattle.stream_task.specs.Doing.{Session, in_state, work_of}
use Rattle.stream_task.specs.Advance.{PollsWork, session_left}
use Rattle.stream_task.specs.declared.session.Cause.{Cause}
use Rattle.stream_task.specs.declared.session.Cause.TheVariants as cause
use Rattle.stream_task.specs.declared.session.TxnState.{TxnState}
use Rattle.stream_task.specs.declared.session.TxnState.TheVariants.{Auto, Dead}
use Rattle.stream_task.specs.declared.work.Work.{Work}
use Rattle.stream_task.specs.declared.advance.Advanced.{Advanced}
use Rattle.stream_task.specs.declared.advance.Advanced.TheVariants.{Waits, Ran, Replied, Broke}
use Rattle.stream_task.specs.declared.task.Poll.{Poll}
use Rattle.stream_task.specs.declared.task.Poll.TheVariants.{Ready, Pending}
use Rattle.stream_task.specs.declared.task.Stepped.{Stepped}
use Rattle.stream_task.specs.declared.task.Stepped.TheVariants as stepped

pub record Task : Type 0 where
  pub stream : StreamNo
  -- stored texts belong to the stream
  pub texts_inside : Bool
  pub session : Session
  -- the requests that wait for polls, in the order in which they came; the first may be running
  pub asks : List Work

abbrev pub new_task : StreamNo → Bool → Task
new_task stream texts_inside = record { stream = stream; texts_inside = texts_inside; session = record { state = Auto; texts = [] }; asks = [] }

abbrev pub with_asks : Task → TxnState → List Work → Task
with_asks task state asks = record { stream = task.stream; texts_inside = task.texts_inside; session = in_state task.session state; asks = asks }

-- one more request, behind the others
abbrev pub asked : Task → Ask → Task
asked task ask = with_asks task task.session.state (task.asks ++ option_to_list (work_of ask))

abbrev pub is_waiting : List Work → Bool
is_waiting [] = false
is_waiting (w ∷ ws) = true

abbrev pub answer_of : Advanced → Poll Stepped
answer_of (Waits w) = Pending
answer_of (Ran w next) = Ready stepped.Ran
answer_of (Replied r next) = Ready (stepped.Replied r)
answer_of (Broke next) = Ready stepped.Broke

-- the requests after a poll of the first, where these come behind it. One that met want of memory leaves none.
abbrev pub asks_left : List Work → Advanced → List Work
asks_left rest (Waits w) = w ∷ rest
asks_left rest (Ran w next) = w ∷ rest
asks_left rest (Replied r next) = rest
asks_left rest (Broke next) = []

-- the stream after a poll of its first request
abbrev pub task_after : Task → Work → List Work → Advanced → Task
task_after task w rest advanced = record { stream = task.stream; texts_inside = task.texts_inside; session = session_left task.session w advanced; asks = asks_left rest advanced }

pub record PollsFirst (shared : Bool) (seen : Seen) (old : Task) (w : Work) (rest : List Work) (added : Option Entry) (result : Poll Stepped) (new : Task) : Type 0 where
  pub advanced : Advanced
  pub polls : PollsWork shared old.stream seen old.session w added advanced
  pub answer : result ≡ answer_of advanced
  pub after : new ≡ task_after old w rest advanced

pub record IsIdle (old : Task) (added : Option Entry) (result : Poll Stepped) (new : Task) : Type 0 where
  pub no_entry : added ≡ None
  pub answer : result ≡ Ready stepped.Idle
  pub same : new ≡ old

abbrev pub PollsAsks : Bool → Seen → Task → List Work → Option Entry → Poll Stepped → Task → Type 0
PollsAsks shared seen old [] added result new = IsIdle old added result new
PollsAsks shared seen old (w ∷ rest) added result new = PollsFirst shared seen old w rest added result new

-- one poll of a stream, over an engine that shares or doesn't
abbrev pub Polls : Bool → Seen → Task → Option Entry → Poll Stepped → Task → Type 0
Polls shared seen old added result new = PollsAsks shared seen old old.asks added result new

abbrev pub is_pending : Poll Stepped → Bool
is_pending Pending = true
is_pending (Ready answer) = false

-- ---- the end of a stream from outside

abbrev pub dead_cause : Undo → Cause
dead_cause undo.Expired = cause.Expired
dead_cause why = cause.Lost

abbrev pub ended : Undo → Task → Task
ended why old = with_asks old (Dead (dead_cause why)) []

-- What the end of a stream leaves: its open unit is taken back, with its entry, and then the stream gives up its place, the
-- turn, and its place among the waiters.
pub record Ends {X D : Type 0} (told : Bool) (m : Meaning D BoundStmt Answer) (db : X → D) (live : X → Lives D) (faults : X → ℕ) (stream : StreamNo) (engine engine' : X) (t t' : Turns) (old new : Noted) (why : Undo) (state : TxnState) : Type 0 where
  pub between : Turns
  pub adds : AddsOne told m db live faults stream engine engine' t between old new false (λ added. added ≡ undone_of why state)
  pub lost : t' ≡ after_loss between stream
