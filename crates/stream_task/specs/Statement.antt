-- The parts of a poll of a statement.
use Rattle.std.specs.Prelude.{◌≡◌, ◌+◌, ◌++◌, ℕ, Bool, false, [], ◌∷◌, Option, Some, None}
use Rattle.hrana_value.specs.declared.StreamNo.{StreamNo}
use Rattle.hrana_stmt.specs.Codes.{error_of}
use Rattle.hrana_stmt.specs.declared.codes.Code.TheVariants.{Busy}
use Rattle.hrana_batch.specs.declared.outcomes.Outcome.TheVariants.{Failed}
use Rattle.serial_order.specs.Serial.{Meaning}
use Rattle.txn_table.specs.Turns.{Turns}
use Rattle.engine_core.specs.Causes.{RoseBy}
use Rattle.engine_core.specs.Engine.{is_write}
use Rattle.engine_core.specs.Journal.{fault_of}
use Rattle.engine_core.specs.Noted.{Noted, next_after}
use Rattle.engine_core.specs.Transactions.{Lives}
use Rattle.engine_core.specs.declared.statement.BoundStmt.{BoundStmt}
use Rattle.engine_core.specs.declared.entries.Answer.{Answer}
use Rattle.engine_core.specs.declared.entries.Deny.{Deny}
use Rattle.engine_core.specs.declared.entries.Entry.{Entry}
use Rattle.engine_core.specs.declared.entries.Entry.TheVariants as entry
use Rattle.stream_task.specs.Act.{IsGranted}
use Rattle.stream_task.specs.Effect.{Effect, RefusesByCause}
use Rattle.stream_task.specs.Moved.{settled}
use Rattle.sql_text.specs.declared.prepared.Prepared.{Prepared}
use Rattle.stream_task.specs.Adds.{Acts, RowPolls}
use Rattle.stream_task.specs.Checks.{IsReady}
use Rattle.stream_task.specs.Table.{begins_writer, Seen, MayAdd, takes, IsTaken, left_by, is_waiting}
use Rattle.stream_task.specs.declared.session.TxnState.{TxnState}
use Rattle.stream_task.specs.declared.table.Row.{Row}
use Rattle.stream_task.specs.declared.table.Row.TheVariants as row
use Rattle.stream_task.specs.declared.table.Went.{Went}
use Rattle.stream_task.specs.declared.table.Went.TheVariants.{Out, Short}

-- the entries grew by this one
pub record HasPushed (old new : Noted) (e : Entry) : Type 0 where
  pub grew : new.list ≡ old.list ++ e ∷ []
  pub next : new.next ≡ next_after old.next e
  pub spare : new.spare + 1 ≡ old.spare

-- ---- a reader that may not write

pub record IsUpgrade (r : Row) : Type 0 where
  pub unit : ℕ
  pub had : ℕ
  pub is : r ≡ row.Upgrade unit had

-- the statement failed with the entry that says why, or there was no memory, and nothing changed
abbrev pub Denies : TxnState → Row → Deny → Noted → Noted → Went → Type 0
Denies state r why old new (Short left) = (left ≡ state) × (new ≡ old)
Denies state r why old new went = (went ≡ Out (Failed (error_of Busy)) state)
    × ((unit had : ℕ) → r ≡ row.Upgrade unit had → HasPushed old new (entry.Denied unit why))

-- ---- a row that has its turn

-- the stream holds the turn where the row may commit
abbrev pub HasTurn : StreamNo → BoundStmt → Turns → Row → Type 0
HasTurn stream stmt t row.Alone = t.turn ≡ Some stream
HasTurn stream stmt t row.ReadAlone = is_write stmt.class ≡ false
HasTurn stream stmt t (row.Commit unit) = t.turn ≡ Some stream
HasTurn stream stmt t r = Unit {0}

-- The row's entry was added. The engine did what it says, the turn went by it, and it means what came of the statement.
pub record RunsRow {X D : Type 0} (told : Bool) (m : Meaning D BoundStmt Answer) (db : X → D) (live : X → Lives D) (faults : X → ℕ) (stream : StreamNo) (engine engine' : X) (t t' : Turns) (old new : Noted) (state : TxnState) (want_rows : Bool) (stmt : BoundStmt) (r : Row) (went : Went) : Type 0 where
  pub e : Entry
  pub may : (by : Option StreamNo) (version : ℕ) → IsGranted r by version → MayAdd (record { by = by; version = version; next = old.next }) stream stmt r e
  pub pushed : HasPushed old new e
  pub effect : Effect told m (begins_writer r) (db engine) (live engine) (db engine') (live engine') e
  pub turn : t' ≡ settled stream e t
  pub cause : RoseBy (fault_of e) (faults engine) (faults engine')
  pub refused : RefusesByCause told (faults engine) (faults engine') (Some e)
  pub taken : IsTaken (takes (λ unit. t.version) want_rows state r e) went
  pub goes : is_waiting went ≡ false

-- ---- what came of a row

pub record RowFallsAfter (stream : StreamNo) (seen : Seen) (state : TxnState) (want_rows : Bool) (ready : Prepared) (r : Row) (e : Entry) (left : TxnState) : Type 0 where
  pub went : Went
  pub acts : Acts stream seen state want_rows ready r e went
  pub left_is : left_by went ≡ Some left

abbrev pub RowFalls : StreamNo → Seen → TxnState → Bool → Prepared → Row → Option Entry → TxnState → Type 0
RowFalls stream seen state want_rows ready r None left = left ≡ state
RowFalls stream seen state want_rows ready r (Some e) left = RowFallsAfter stream seen state want_rows ready r e left

abbrev pub RowEnds : StreamNo → Seen → TxnState → Bool → Prepared → Row → Went → Option Entry → Type 0
RowEnds stream seen state want_rows ready r (Short left) added = RowFalls stream seen state want_rows ready r added left
RowEnds stream seen state want_rows ready r went added = RowPolls stream seen state want_rows ready r added went

-- for each statement that passed the checks and is this one
abbrev pub RowGoes : StreamNo → Seen → TxnState → Bool → BoundStmt → Row → Went → Option Entry → Type 0
RowGoes stream seen state want_rows stmt r went added = (ready : Prepared) → IsReady ready stmt → RowEnds stream seen state want_rows ready r went added
