-- The checks of a statement, before an engine is asked: the code of the first that stands, or the statement with a value
-- for each of its parameters.
use Rattle.std.specs.Prelude.{◌≡◌, ℕ, ℤ, List, [], ◌∷◌, Option, None, Some, Result, Ok, Err, if◌then◌else◌}
use Rattle.std.specs.Ordering.{int_eq}
use Rattle.hrana_stmt.specs.declared.codes.Code.{Code}
use Rattle.hrana_stmt.specs.declared.codes.Code.TheVariants as code
use Rattle.hrana_stmt.specs.declared.statements.Stmt.{Stmt}
use Rattle.hrana_stmt.specs.declared.statements.SqlRef.{SqlRef}
use Rattle.hrana_stmt.specs.declared.statements.SqlRef.TheVariants as sql
use Rattle.sql_text.specs.declared.prepared.Prepared.{Prepared}
use Rattle.sql_text.specs.declared.prepared.PrepareFail.{PrepareFail}
use Rattle.sql_text.specs.declared.prepared.PrepareFail.TheVariants as fail
use Rattle.sql_text.specs.Prepared.{prepared_of}
use Rattle.engine_core.specs.declared.statement.BoundStmt.{BoundStmt}
use Rattle.stream_task.specs.declared.checks.CheckFail.{CheckFail}
use Rattle.stream_task.specs.declared.checks.CheckFail.TheVariants as check
use Rattle.stream_task.specs.declared.texts.StoredText.{StoredText}

-- ---- the text

-- the stored text of this number
abbrev pub stored_text : ℤ → List StoredText → Option (List ℕ)
stored_text id [] = None
stored_text id (text ∷ texts) = if int_eq text.id id then Some text.sql else stored_text id texts

-- the text that a statement or a sequence names, where it is there
abbrev pub text_of : List StoredText → SqlRef → Option (List ℕ)
text_of texts (sql.Text text) = Some text
text_of texts (sql.Id id) = stored_text id texts

-- ---- the statement of a text

-- the code with which a statement fails that isn't prepared
abbrev pub code_of_fail : PrepareFail → Code
code_of_fail (fail.Unclosed at) = code.SqlOpen
code_of_fail fail.Empty = code.NoStatement
code_of_fail fail.Many = code.ManyStatements
code_of_fail fail.Savepoint = code.SavepointUnsupported
code_of_fail fail.Barred = code.SqlUnsupported
code_of_fail fail.Args = code.Args
code_of_fail fail.NoMemory = code.NoMemory

abbrev pub coded : Result Prepared PrepareFail → Result Prepared Code
coded (Ok prepared) = Ok prepared
coded (Err refusal) = Err (code_of_fail refusal)

abbrev pub ready_of_text : Stmt → Option (List ℕ) → Result Prepared Code
ready_of_text stmt None = Err code.NoSqlId
ready_of_text stmt (Some text) = coded (prepared_of text stmt.args stmt.named)

-- What the checks say of a statement, in this order: its text isn't stored, a quote or comment isn't closed, there is no
-- statement, or more than one, it is of savepoints, or isn't supported, or its arguments don't match its parameters.
unfoldable pub ready_of : List StoredText → Stmt → Result Prepared Code
ready_of texts stmt = ready_of_text stmt (text_of texts stmt.sql)

-- the statement that an engine is given is the one that passed
pub record IsReady (ready : Prepared) (stmt : BoundStmt) : Type 0 where
  pub sql : stmt.sql ≡ ready.sql
  pub class : stmt.class ≡ ready.class
  pub values : stmt.values ≡ ready.values

pub record IsReadyOf (expected : Result Prepared Code) (stmt : BoundStmt) : Type 0 where
  pub ready : Prepared
  pub passed : expected ≡ Ok ready
  pub is_ready : IsReady ready stmt

-- why a statement that isn't prepared isn't run
abbrev pub check_fail_of : PrepareFail → CheckFail
check_fail_of fail.NoMemory = check.NoMemory
check_fail_of refusal = check.Refused (code_of_fail refusal)

-- the statement that passed, or the code of the check that refuses it, unless memory ran out
abbrev pub ChecksAs : Result Prepared Code → Result BoundStmt CheckFail → Type 0
ChecksAs expected (Ok stmt) = IsReadyOf expected stmt
ChecksAs expected (Err (check.Refused refusal)) = expected ≡ Err refusal
ChecksAs expected (Err check.NoMemory) = Unit {0}
