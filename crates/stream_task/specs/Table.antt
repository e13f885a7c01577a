-- The table of polls: what a statement does in a session, which entry may come of it, and what that entry means.
use Rattle.std.specs.Prelude.{◌≡◌, ◌<◌, ◌≤◌, ℕ, ◌&&◌, IsTrue, Bool, true, false, not, cond, [], Option, Some, None, IsSomeAnd, Result, Ok, Err}
use Rattle.hrana_value.specs.declared.StreamNo.{StreamNo}
use Rattle.hrana_stmt.specs.declared.codes.Code.{Code}
use Rattle.hrana_stmt.specs.declared.codes.Code.TheVariants as code
use Rattle.hrana_stmt.specs.declared.results.StmtResult.{StmtResult}
use Rattle.hrana_stmt.specs.Codes.{error_of}
use Rattle.hrana_batch.specs.declared.outcomes.Outcome.{Outcome}
use Rattle.hrana_batch.specs.declared.outcomes.Outcome.TheVariants as outcome
use Rattle.sql_text.specs.declared.class.Class.{Class}
use Rattle.sql_text.specs.declared.class.Class.TheVariants as class
use Rattle.sql_text.specs.declared.class.Mode.TheVariants as mode
use Rattle.txn_table.specs.declared.table.Need.{Need}
use Rattle.txn_table.specs.declared.table.Need.TheVariants as need
use Rattle.engine_core.specs.Engine.{is_write, is_refusal, is_engine_code}
use Rattle.engine_core.specs.Results.{IsSmall}
use Rattle.engine_core.specs.declared.statement.BoundStmt.{BoundStmt}
use Rattle.engine_core.specs.declared.entries.Answer.{Answer}
use Rattle.engine_core.specs.declared.entries.Answer.TheVariants as answer
use Rattle.engine_core.specs.declared.entries.Broken.{Broken}
use Rattle.engine_core.specs.declared.entries.Broken.TheVariants as broken
use Rattle.engine_core.specs.declared.entries.Deny.TheVariants as deny
use Rattle.engine_core.specs.declared.entries.How.TheVariants as how
use Rattle.engine_core.specs.declared.entries.Undo.TheVariants as undo
use Rattle.engine_core.specs.declared.entries.Entry.{Entry}
use Rattle.engine_core.specs.declared.entries.Entry.TheVariants as entry
use Rattle.stream_task.specs.declared.session.Cause.{Cause}
use Rattle.stream_task.specs.declared.session.Cause.TheVariants as cause
use Rattle.stream_task.specs.declared.session.TxnState.{TxnState}
use Rattle.stream_task.specs.declared.session.TxnState.TheVariants.{Auto, Deferred, Reading, Writing, Dead, Closed}
use Rattle.stream_task.specs.declared.table.Row.{Row}
use Rattle.stream_task.specs.declared.table.Row.TheVariants as row
use Rattle.stream_task.specs.declared.table.Plan.{Plan}
use Rattle.stream_task.specs.declared.table.Plan.TheVariants.{Refuses, Becomes, Adds}
use Rattle.stream_task.specs.declared.table.Went.{Went}
use Rattle.stream_task.specs.declared.table.Went.TheVariants.{Waits, Still, Out, Stopped, Short}

-- ---- what a statement does, over an engine that shares or doesn't

-- statements that no check lets through
abbrev pub plan_unmet : Class → Plan
plan_unmet class.Savepoint = Refuses code.SavepointUnsupported
plan_unmet class.Barred = Refuses code.SqlUnsupported
plan_unmet c = Refuses code.NoStatement

abbrev pub plan_auto : Bool → Class → Plan
plan_auto shared (class.Begin mode.Deferred) = Becomes Deferred
plan_auto shared (class.Begin mode.Immediate) = Adds row.Begin
plan_auto shared class.Commit = Refuses code.NoTxn
plan_auto shared class.Rollback = Refuses code.NoTxn
plan_auto shared class.Read = Adds (cond shared row.ReadAlone row.Alone)
plan_auto shared class.Write = Adds row.Alone
plan_auto shared c = plan_unmet c

abbrev pub plan_deferred : Bool → Class → Plan
plan_deferred shared (class.Begin m) = Refuses code.TxnOpen
plan_deferred shared class.Commit = Becomes Auto
plan_deferred shared class.Rollback = Becomes Auto
plan_deferred shared class.Read = Adds (cond shared row.ReadFirst row.BeginFirst)
plan_deferred shared class.Write = Adds row.BeginFirst
plan_deferred shared c = plan_unmet c

abbrev pub plan_reading : ℕ → ℕ → Class → Plan
plan_reading unit had (class.Begin m) = Refuses code.TxnOpen
plan_reading unit had class.Commit = Adds (row.EndRead unit)
plan_reading unit had class.Rollback = Adds (row.Undo unit)
plan_reading unit had class.Read = Adds (row.Run unit)
plan_reading unit had class.Write = Adds (row.Upgrade unit had)
plan_reading unit had c = plan_unmet c

abbrev pub plan_writing : ℕ → Class → Plan
plan_writing unit (class.Begin m) = Refuses code.TxnOpen
plan_writing unit class.Commit = Adds (row.Commit unit)
plan_writing unit class.Rollback = Adds (row.Undo unit)
plan_writing unit class.Read = Adds (row.Run unit)
plan_writing unit class.Write = Adds (row.Run unit)
plan_writing unit c = plan_unmet c

abbrev pub plan : Bool → TxnState → Class → Plan
plan shared Auto c = plan_auto shared c
plan shared Deferred c = plan_deferred shared c
plan shared (Reading unit had) c = plan_reading unit had c
plan shared (Writing unit) c = plan_writing unit c
plan shared (Dead why) c = Refuses code.StreamLost
plan shared Closed c = Refuses code.StreamNotOpen

-- what a row wants the turn for
abbrev pub need_of : Row → Option Need
need_of row.Alone = Some need.Alone
need_of row.Begin = Some need.Begin
need_of row.BeginFirst = Some need.Begin
need_of (row.Upgrade unit had) = Some (need.Upgrade had)
need_of r = None

-- the row waits where another stream holds the turn
abbrev pub wants_turn : Row → Bool
wants_turn row.Alone = true
wants_turn row.Begin = true
wants_turn row.BeginFirst = true
wants_turn r = false

-- a unit that the row begins is to write
abbrev pub begins_writer : Row → Bool
begins_writer row.Begin = true
begins_writer row.BeginFirst = true
begins_writer r = false

-- ---- the entry that a row may add

-- What a poll sees of the others: the stream that writes, how many commits there were, and the number of the next unit.
pub record Seen : Type 0 where
  pub by : Option StreamNo
  pub version : ℕ
  pub next : ℕ

-- a statement has written where its class is `Write` and it wasn't refused
abbrev pub wrote : BoundStmt → Answer → Bool
wrote stmt given = is_write stmt.class && not (is_refusal given)

-- a result is within its limits, and a refusal carries a code of an engine
abbrev pub IsAnswer : Answer → Type 0
IsAnswer (answer.Gave given) = IsSmall given
IsAnswer (answer.Refused refusal) = IsTrue (is_engine_code refusal)

pub record IsAlone (stream : StreamNo) (stmt : BoundStmt) (by : StreamNo) (ran : BoundStmt) (given : Answer) (has_written : Bool) : Type 0 where
  pub own : by ≡ stream
  pub same : ran ≡ stmt
  pub written : has_written ≡ wrote stmt given
  pub fits : IsAnswer given

abbrev pub MayBeAlone : StreamNo → BoundStmt → Entry → Type 0
MayBeAlone stream stmt (entry.Alone by ran given has_written) = IsAlone stream stmt by ran given has_written
MayBeAlone stream stmt (entry.Failed by None why) = by ≡ stream
MayBeAlone stream stmt e = ⊥

abbrev pub MayBegin : StreamNo → ℕ → Entry → Type 0
MayBegin stream next (entry.Began unit by) = (unit ≡ next) × (by ≡ stream)
MayBegin stream next (entry.Failed by None why) = by ≡ stream
MayBegin stream next e = ⊥

abbrev pub MayRun : StreamNo → BoundStmt → ℕ → Entry → Type 0
MayRun stream stmt own (entry.Ran unit ran given) = (unit ≡ own) × (ran ≡ stmt) × IsAnswer given
MayRun stream stmt own (entry.Failed by (Some unit) why) = (by ≡ stream) × (unit ≡ own)
MayRun stream stmt own e = ⊥

abbrev pub MayCommit : StreamNo → ℕ → Entry → Type 0
MayCommit stream own (entry.Ended unit how.Committed) = unit ≡ own
MayCommit stream own (entry.Failed by (Some unit) why) = (by ≡ stream) × (unit ≡ own)
MayCommit stream own e = ⊥

-- a reader is denied to write where there was a commit since it began, and then where another stream writes
abbrev pub MayUpgrade : Seen → StreamNo → BoundStmt → ℕ → ℕ → Entry → Type 0
MayUpgrade seen stream stmt own had (entry.Denied unit (deny.Stale began now)) = (unit ≡ own) × (began ≡ had) × (now ≡ seen.version) × (had < seen.version)
MayUpgrade seen stream stmt own had (entry.Denied unit (deny.Held by)) = (unit ≡ own) × (seen.by ≡ Some by) × (seen.version ≤ had)
MayUpgrade seen stream stmt own had e = (seen.by ≡ None) × (seen.version ≤ had) × MayRun stream stmt own e

abbrev pub MayAdd : Seen → StreamNo → BoundStmt → Row → Entry → Type 0
MayAdd seen stream stmt row.Alone e = MayBeAlone stream stmt e
MayAdd seen stream stmt row.ReadAlone e = MayBeAlone stream stmt e
MayAdd seen stream stmt row.Begin e = MayBegin stream seen.next e
MayAdd seen stream stmt row.BeginFirst e = MayBegin stream seen.next e
MayAdd seen stream stmt row.ReadFirst e = MayBegin stream seen.next e
MayAdd seen stream stmt (row.Run own) e = MayRun stream stmt own e
MayAdd seen stream stmt (row.Upgrade own had) e = MayUpgrade seen stream stmt own had e
MayAdd seen stream stmt (row.Commit own) e = MayCommit stream own e
MayAdd seen stream stmt (row.EndRead own) e = e ≡ entry.Ended own how.Read
MayAdd seen stream stmt (row.Undo own) e = e ≡ entry.Ended own (how.Undone undo.Rollback)

-- ---- what an entry means, for the row that added it

-- the result that is replied: its rows are dropped where they aren't wanted
abbrev pub shown : Bool → StmtResult → StmtResult
shown true given = given
shown false given = record given { rows = [] }

-- what a begin, commit or rollback gives
abbrev pub empty_result : StmtResult
empty_result = record { cols = []; rows = []; affected = 0; last_rowid = None }

abbrev pub outcome_of : Bool → Answer → Outcome
outcome_of want_rows (answer.Gave given) = outcome.Done (shown want_rows given)
outcome_of want_rows (answer.Refused refusal) = outcome.Failed (error_of refusal)

abbrev pub code_of : Broken → Code
code_of broken.Fault = code.EngineFault
code_of broken.NoMemory = code.NoMemory

abbrev pub cause_of : Broken → Cause
cause_of broken.Fault = cause.Fault
cause_of broken.NoMemory = cause.NoMemory

abbrev pub takes_alone : Bool → TxnState → Entry → Option Went
takes_alone want_rows state (entry.Alone by ran given has_written) = Some (Out (outcome_of want_rows given) state)
takes_alone want_rows state (entry.Failed by None why) = Some (Stopped (code_of why) state)
takes_alone want_rows state e = None

-- the unit that began, or the code with which the request is answered
abbrev pub begun_by : Entry → Option (Result ℕ Code)
begun_by (entry.Began unit by) = Some (Ok unit)
begun_by (entry.Failed by None why) = Some (Err (code_of why))
begun_by e = None

abbrev pub takes_begun : TxnState → (ℕ → Went) → Option (Result ℕ Code) → Option Went
takes_begun state begun None = None
takes_begun state begun (Some (Ok unit)) = Some (begun unit)
takes_begun state begun (Some (Err c)) = Some (Stopped c state)

abbrev pub takes_ran : Bool → TxnState → Entry → Option Went
takes_ran want_rows state (entry.Ran unit ran given) = Some (Out (outcome_of want_rows given) state)
takes_ran want_rows state (entry.Failed by (Some unit) why) = Some (Stopped (code_of why) (Dead (cause_of why)))
takes_ran want_rows state e = None

abbrev pub takes_upgrade : Bool → TxnState → ℕ → Entry → Option Went
takes_upgrade want_rows state unit (entry.Denied by why) = Some (Out (outcome.Failed (error_of code.Busy)) state)
takes_upgrade want_rows state unit e = takes_ran want_rows (Writing unit) e

abbrev pub takes_ended : Entry → Option Went
takes_ended (entry.Ended unit end) = Some (Out (outcome.Done empty_result) Auto)
takes_ended (entry.Failed by (Some unit) why) = Some (Stopped (code_of why) (Dead (cause_of why)))
takes_ended e = None

-- What the entry means to the statement, if it may come of the row. `had` is the version at which each unit began.
abbrev pub takes : (ℕ → ℕ) → Bool → TxnState → Row → Entry → Option Went
takes had want_rows state row.Alone e = takes_alone want_rows state e
takes had want_rows state row.ReadAlone e = takes_alone want_rows state e
takes had want_rows state row.Begin e = takes_begun state (λ unit. Out (outcome.Done empty_result) (Writing unit)) (begun_by e)
takes had want_rows state row.BeginFirst e = takes_begun state (λ unit. Still (Writing unit)) (begun_by e)
takes had want_rows state row.ReadFirst e = takes_begun state (λ unit. Still (Reading unit (had unit))) (begun_by e)
takes had want_rows state (row.Run unit) e = takes_ran want_rows state e
takes had want_rows state (row.Upgrade unit began) e = takes_upgrade want_rows state unit e
takes had want_rows state (row.Commit unit) e = takes_ended e
takes had want_rows state (row.EndRead unit) e = takes_ended e
takes had want_rows state (row.Undo unit) e = takes_ended e

-- the version at which a unit begins is the one that is seen
abbrev pub IsVersioned : (ℕ → ℕ) → Seen → Option Entry → Type 0
IsVersioned had seen (Some (entry.Began unit by)) = had unit ≡ seen.version
IsVersioned had seen added = Unit {0}

-- the state after a poll that began in this state
abbrev pub state_after : TxnState → Went → TxnState
state_after state Waits = state
state_after state (Still next) = next
state_after state (Out o next) = next
state_after state (Stopped c next) = next
state_after state (Short next) = next

abbrev pub is_waiting : Went → Bool
is_waiting Waits = true
is_waiting went = false

-- the state that an entry leaves which means this
abbrev pub left_by : Went → Option TxnState
left_by Waits = None
left_by (Still next) = Some next
left_by (Out o next) = Some next
left_by (Stopped c next) = Some next
left_by (Short next) = None

-- what came of an entry is what it means, or there was no memory for it, and the state is the one that the entry leaves
abbrev pub IsTaken : Option Went → Went → Type 0
IsTaken meant (Short left) = IsSomeAnd meant (λ went. left_by went ≡ Some left)
IsTaken meant went = meant ≡ Some went
