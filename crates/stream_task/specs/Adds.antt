-- One poll of a statement: the entry that it adds, and what came of it.
use Rattle.std.specs.Prelude.{◌≡◌, ◌≢◌, ℕ, Bool, true, List, ◌++◌, Option, Some, None, Result, Ok, Err, option_to_list}
use Rattle.hrana_value.specs.declared.StreamNo.{StreamNo}
use Rattle.hrana_stmt.specs.declared.codes.Code.{Code}
use Rattle.hrana_stmt.specs.declared.statements.Stmt.{Stmt}
use Rattle.hrana_stmt.specs.Codes.{error_of}
use Rattle.hrana_batch.specs.declared.outcomes.Outcome.TheVariants as outcome
use Rattle.serial_order.specs.Serial.{Meaning}
use Rattle.txn_table.specs.Turns.{Turns}
use Rattle.engine_core.specs.Causes.{RoseBy}
use Rattle.engine_core.specs.Noted.{Noted, next_after}
use Rattle.engine_core.specs.Transactions.{Lives}
use Rattle.engine_core.specs.declared.statement.BoundStmt.{BoundStmt}
use Rattle.engine_core.specs.declared.entries.Answer.{Answer}
use Rattle.engine_core.specs.declared.entries.Entry.{Entry}
use Rattle.engine_core.specs.declared.entries.Entry.TheVariants as entry
use Rattle.engine_core.specs.declared.entries.How.TheVariants as how
use Rattle.engine_core.specs.declared.entries.Undo.{Undo}
use Rattle.sql_text.specs.declared.prepared.Prepared.{Prepared}
use Rattle.stream_task.specs.Checks.{IsReady, ready_of}
use Rattle.stream_task.specs.Effect.{Effects, faults_by, RefusesByCause}
use Rattle.stream_task.specs.Moved.{Moved}
use Rattle.stream_task.specs.Table.{plan, wants_turn, Seen, MayAdd, takes, empty_result, left_by}
use Rattle.stream_task.specs.declared.session.TxnState.{TxnState}
use Rattle.stream_task.specs.declared.session.TxnState.TheVariants.{Reading, Writing}
use Rattle.stream_task.specs.declared.texts.StoredText.{StoredText}
use Rattle.stream_task.specs.declared.table.Row.{Row}
use Rattle.stream_task.specs.declared.table.Plan.{Plan}
use Rattle.stream_task.specs.declared.table.Plan.TheVariants.{Refuses, Becomes, Adds}
use Rattle.stream_task.specs.declared.table.Went.{Went}
use Rattle.stream_task.specs.declared.table.Went.TheVariants.{Waits, Out, Short}

-- ---- what a poll adds to the entries, with what the engine did for it

abbrev pub next_by : ℕ → Option Entry → ℕ
next_by next None = next
next_by next (Some e) = next_after next e

-- where no entry was added, nothing changed
abbrev pub IsUntouched : {X : Type 0} → Option Entry → X → X → Type 0
IsUntouched None old new = new ≡ old
IsUntouched (Some e) old new = Unit {0}

-- what the table shows of who writes
abbrev pub seen_in : Turns → ℕ → Seen
seen_in t next = record { by = t.turn; version = t.version; next = next }

-- The list grew by at most one entry, of this stream. The engine did what it says, its faults stand in it, the table went
-- by it, and it has P. `waits` says whether the stream was told to wait.
pub record AddsOne {X D : Type 0} (told : Bool) (m : Meaning D BoundStmt Answer) (db : X → D) (live : X → Lives D) (faults : X → ℕ) (stream : StreamNo) (engine engine' : X) (t t' : Turns) (old new : Noted) (waits : Bool) (P : Option Entry → Type 0) : Type 0 where
  pub added : Option Entry
  pub grew : new.list ≡ old.list ++ option_to_list added
  pub next : new.next ≡ next_by old.next added
  -- of a unit that began, whether it is to write
  pub writes : Bool
  pub effects : Effects told m writes (db engine) (live engine) (db engine') (live engine') added
  pub untouched : IsUntouched added engine engine'
  pub moved : Moved told writes (db engine) (live engine) old.next stream waits added t t'
  pub cause : RoseBy (faults_by added) (faults engine) (faults engine')
  pub refused : RefusesByCause told (faults engine) (faults engine') added
  pub holds : P added

-- ---- a statement

-- the row adds this entry, which means this to the statement
pub record Acts (stream : StreamNo) (seen : Seen) (state : TxnState) (want_rows : Bool) (ready : Prepared) (row : Row) (e : Entry) (went : Went) : Type 0 where
  pub stmt : BoundStmt
  pub is_ready : IsReady ready stmt
  -- nobody writes, where the row is to write
  pub free : wants_turn row ≡ true → seen.by ≡ None
  pub may : MayAdd seen stream stmt row e
  pub means : takes (λ unit. seen.version) want_rows state row e ≡ Some went

-- another stream writes, and the row is to
pub record IsHeld (stream : StreamNo) (seen : Seen) (row : Row) (went : Went) : Type 0 where
  pub waits : went ≡ Waits
  pub wants : wants_turn row ≡ true
  pub by : StreamNo
  pub held : seen.by ≡ Some by
  pub other : by ≢ stream

abbrev pub RowPolls : StreamNo → Seen → TxnState → Bool → Prepared → Row → Option Entry → Went → Type 0
RowPolls stream seen state want_rows ready row None went = IsHeld stream seen row went
RowPolls stream seen state want_rows ready row (Some e) went = Acts stream seen state want_rows ready row e went

abbrev pub PlanPolls : StreamNo → Seen → TxnState → Bool → Prepared → Plan → Option Entry → Went → Type 0
PlanPolls stream seen state want_rows ready (Refuses code) added went = (added ≡ None) × (went ≡ Out (outcome.Failed (error_of code)) state)
PlanPolls stream seen state want_rows ready (Becomes next) added went = (added ≡ None) × (went ≡ Out (outcome.Done empty_result) next)
PlanPolls stream seen state want_rows ready (Adds row) added went = RowPolls stream seen state want_rows ready row added went

-- by what the checks say
abbrev pub ReadyPolls : Bool → StreamNo → Seen → TxnState → Bool → Result Prepared Code → Option Entry → Went → Type 0
ReadyPolls shared stream seen state want_rows (Err code) added went = (added ≡ None) × (went ≡ Out (outcome.Failed (error_of code)) state)
ReadyPolls shared stream seen state want_rows (Ok ready) added went = PlanPolls stream seen state want_rows ready (plan shared state ready.class) added went

-- A poll that found no memory: before the engine was called, and the state is as it was; or after it, and the entry stands with
-- the state that it leaves.
pub record FallsAfter (shared : Bool) (stream : StreamNo) (seen : Seen) (state : TxnState) (want_rows : Bool) (ready : Result Prepared Code) (e : Entry) (left : TxnState) : Type 0 where
  pub went : Went
  pub polls : ReadyPolls shared stream seen state want_rows ready (Some e) went
  pub left_is : left_by went ≡ Some left

abbrev pub Falls : Bool → StreamNo → Seen → TxnState → Bool → Result Prepared Code → Option Entry → TxnState → Type 0
Falls shared stream seen state want_rows ready None left = left ≡ state
Falls shared stream seen state want_rows ready (Some e) left = FallsAfter shared stream seen state want_rows ready e left

-- one poll of a statement, over an engine that shares or doesn't
abbrev pub PollsStatement : Bool → StreamNo → Seen → TxnState → List StoredText → Stmt → Option Entry → Went → Type 0
PollsStatement shared stream seen state texts stmt added (Short left) = Falls shared stream seen state stmt.want_rows (ready_of texts stmt) added left
PollsStatement shared stream seen state texts stmt added went = ReadyPolls shared stream seen state stmt.want_rows (ready_of texts stmt) added went

-- ---- the end of a unit

-- the entry that ends the unit of a state in this way
abbrev pub undone_of : Undo → TxnState → Option Entry
undone_of why (Reading unit had) = Some (entry.Ended unit (how.Undone why))
undone_of why (Writing unit) = Some (entry.Ended unit (how.Undone why))
undone_of why state = None
