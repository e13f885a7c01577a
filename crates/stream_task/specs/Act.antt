-- What a row of the table needs of the engine, once the stream has the turn that the row wants.
use Rattle.std.specs.Prelude.{◌≡◌, ◌≤◌, ℕ, Bool, true, false, Option, None, IsSome, IsTrue}
use Rattle.hrana_value.specs.declared.StreamNo.{StreamNo}
use Rattle.sql_text.specs.declared.class.Class.TheVariants.{Write}
use Rattle.engine_core.specs.Engine.{IsReadOrWrite}
use Rattle.engine_core.specs.Transactions.{Lives, NoWriter, NoneLive, NoOtherWriter, StartsAt, MayCommit}
use Rattle.engine_core.specs.declared.statement.BoundStmt.{BoundStmt}
use Rattle.stream_task.specs.declared.table.Row.{Row}
use Rattle.stream_task.specs.declared.table.Row.TheVariants as row

-- a reader is to write where nobody else writes and there was no commit since it began
abbrev pub IsGranted : Row → Option StreamNo → ℕ → Type 0
IsGranted (row.Upgrade unit had) by version = (by ≡ None) × (version ≤ had)
IsGranted r by version = Unit {0}

-- a statement may run alone
pub record MayRunAlone {D : Type 0} (shared : Bool) (live : Lives D) (stmt : BoundStmt) : Type 0 where
  pub class : IsReadOrWrite stmt.class
  pub turn : stmt.class ≡ Write → NoWriter live
  pub quiet : shared ≡ false → NoneLive live

-- a unit of this number may begin
pub record MayBegin {D : Type 0} (shared writes : Bool) (live : Lives D) (next : ℕ) : Type 0 where
  pub fresh : live next ≡ None
  pub turn : writes ≡ true → NoWriter live
  pub quiet : shared ≡ false → NoneLive live

-- a statement may run in a unit
pub record MayRunIn {D : Type 0} (told : Bool) (db : D) (live : Lives D) (unit : ℕ) (stmt : BoundStmt) : Type 0 where
  pub class : IsReadOrWrite stmt.class
  pub lives : IsSome (live unit)
  pub turn : stmt.class ≡ Write → NoOtherWriter live unit
  pub current : stmt.class ≡ Write → IsTrue told → StartsAt db live unit

abbrev pub MayAct : {D : Type 0} → Bool → Bool → D → Lives D → ℕ → BoundStmt → Row → Type 0
MayAct shared told db live next stmt row.Alone = MayRunAlone shared live stmt
MayAct shared told db live next stmt row.ReadAlone = MayRunAlone shared live stmt
MayAct shared told db live next stmt row.Begin = MayBegin shared true live next
MayAct shared told db live next stmt row.BeginFirst = MayBegin shared true live next
MayAct shared told db live next stmt row.ReadFirst = MayBegin shared false live next
MayAct shared told db live next stmt (row.Run unit) = MayRunIn told db live unit stmt
MayAct shared told db live next stmt (row.Upgrade unit had) = MayRunIn told db live unit stmt
MayAct shared told db live next stmt (row.Commit unit) = MayCommit told db live unit
MayAct shared told db live next stmt (row.EndRead unit) = IsSome (live unit)
MayAct shared told db live next stmt (row.Undo unit) = IsSome (live unit)
