-- What an engine does, and when it may fail.
use Rattle.std.specs.Prelude.{◌≡◌, ℕ, Bool, true, false, ◌||◌, ◌⊎◌, Option, Some, None, Result, Ok, Err, IsTrue}
use Rattle.serial_order.specs.Serial.{Meaning}
use Rattle.engine_core.specs.Causes.{Rose}
use Rattle.engine_core.specs.Transactions.{View, Lives, Became}
use Rattle.hrana_stmt.specs.declared.results.StmtResult.{StmtResult}
use Rattle.hrana_stmt.specs.declared.codes.Code.{Code}
use Rattle.hrana_stmt.specs.declared.codes.Code.TheVariants as code
use Rattle.engine_core.specs.declared.entries.Answer.{Answer}
use Rattle.engine_core.specs.declared.entries.Answer.TheVariants as answer
use Rattle.engine_core.specs.declared.statement.BoundStmt.{BoundStmt}
use Rattle.sql_text.specs.declared.class.Class.{Class}
use Rattle.sql_text.specs.declared.class.Class.TheVariants as class
use Rattle.engine_core.specs.declared.engine.EngineFail.{EngineFail}
use Rattle.engine_core.specs.declared.engine.EngineFail.TheVariants as fail

abbrev pub is_read : Class → Bool
is_read class.Read = true
is_read c = false

abbrev pub is_write : Class → Bool
is_write class.Write = true
is_write c = false

-- a statement that an engine may be given
abbrev pub IsReadOrWrite : Class → Type 0
IsReadOrWrite class.Read = Unit {0}
IsReadOrWrite class.Write = Unit {0}
IsReadOrWrite c = ⊥

abbrev pub is_refusal : Answer → Bool
is_refusal (answer.Gave given) = false
is_refusal (answer.Refused code) = true

-- the answer that a statement has, where the engine didn't break
abbrev pub answer_of : Result StmtResult EngineFail → Option Answer
answer_of (Ok given) = Some (answer.Gave given)
answer_of (Err (fail.Refused code)) = Some (answer.Refused code)
answer_of (Err fail.Fault) = None
answer_of (Err fail.NoMemory) = None

-- A statement ran alone: the new database is that of its execution, and so is the answer of an engine that tells.
pub record HasRunAlone {D : Type 0} (told : Bool) (m : Meaning D BoundStmt Answer) (old new : D) (stmt : BoundStmt) (given : Answer) : Type 0 where
  pub answer : IsTrue told → given ≡ (m.exec old stmt).1
  pub database : new ≡ (m.exec old stmt).0

-- what a call of `alone` leaves, by its answer: where the engine broke, the database as it was
abbrev pub RunsAlone : {D : Type 0} → Bool → Meaning D BoundStmt Answer → D → D → BoundStmt → Option Answer → Type 0
RunsAlone told m old new stmt (Some given) = HasRunAlone told m old new stmt given
RunsAlone told m old new stmt None = new ≡ old

-- A statement ran in the transaction n, on its view. The start of the view stays.
pub record HasRunIn {D : Type 0} (told : Bool) (m : Meaning D BoundStmt Answer) (old new : Lives D) (n : ℕ) (stmt : BoundStmt) (given : Answer) : Type 0 where
  pub was : View D
  pub is : old n ≡ Some was
  pub answer : IsTrue told → given ≡ (m.exec was.view stmt).1
  pub now : Became old new n (Some (record { start = was.start; view = (m.exec was.view stmt).0; is_writer = was.is_writer || m.is_write stmt }))

-- what a call of `run` leaves, by its answer: where the engine broke, the transaction is gone
abbrev pub RunsIn : {D : Type 0} → Bool → Meaning D BoundStmt Answer → Lives D → Lives D → ℕ → BoundStmt → Option Answer → Type 0
RunsIn told m old new n stmt (Some given) = HasRunIn told m old new n stmt given
RunsIn told m old new n stmt None = Became old new n None

-- the codes that an engine may refuse a statement with
abbrev pub is_engine_code : Code → Bool
is_engine_code code.FloatUnsupported = true
is_engine_code code.SqlRefused = true
is_engine_code code.Syntax = true
is_engine_code code.NoTable = true
is_engine_code code.NoColumn = true
is_engine_code code.TableExists = true
is_engine_code code.Constraint = true
is_engine_code code.BadType = true
is_engine_code code.Overflow = true
is_engine_code code.ResultTooLarge = true
is_engine_code code = false

-- a refusal carries a code of an engine
abbrev pub RefusesByCode : {T : Type 0} → Result T EngineFail → Type 0
RefusesByCode (Err (fail.Refused code)) = IsTrue (is_engine_code code)
RefusesByCode result = Unit {0}

-- beginning and committing are never refused
abbrev pub IsNoRefusal : {T : Type 0} → Result T EngineFail → Type 0
IsNoRefusal (Err (fail.Refused code)) = ⊥
IsNoRefusal result = Unit {0}

-- A fault comes only where the count rose. So does a refusal by an engine that doesn't tell.
abbrev pub HasEngineCause : {T : Type 0} → Bool → ℕ → ℕ → Result T EngineFail → Type 0
HasEngineCause told before now (Ok given) = Unit {0}
HasEngineCause told before now (Err (fail.Refused code)) = IsTrue told ⊎ Rose before now
HasEngineCause told before now (Err fail.Fault) = Rose before now
HasEngineCause told before now (Err fail.NoMemory) = Unit {0}
