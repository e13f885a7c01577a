-- The meaning of the plain keeper's two statements, over the list of the values of its one column.
use Rattle.std.specs.Prelude.{◌≡◌, ℕ, Result, Ok, Err, IsTrue, Bool, true, false, ◌+◌, ◌-◌, ◌^◌, nat_lt, nat_le, ◌&&◌, List, [], ◌∷◌, ◌++◌, length, map, pos, Option, Some, None, codes, nat_eq, if◌then◌else◌}
use Rattle.std.specs.Cmp.Lexicographic.{pointwise}
use Rattle.hrana_value.specs.declared.value.Value.{Value}
use Rattle.hrana_value.specs.declared.value.Value.TheVariants.{Null}
use Rattle.hrana_stmt.specs.declared.results.StmtResult.{StmtResult}
use Rattle.hrana_stmt.specs.declared.codes.Code.TheVariants.{Syntax, ResultTooLarge, Overflow}
use Rattle.engine_core.specs.Engine.{is_write, is_engine_code}
use Rattle.engine_core.specs.Results.{values_size}
use Rattle.engine_core.specs.Transactions.{Single}
use Rattle.engine_core.specs.declared.limits.TheConstants.{MAX_ROWS, MAX_RESULT_BYTES}
use Rattle.engine_core.specs.declared.plain_keeper.Running.{Running}
use Rattle.engine_core.specs.declared.plain_keeper.Kind.{Kind}
use Rattle.engine_core.specs.declared.plain_keeper.Kind.TheVariants.{Insert, Select, Other}
use Rattle.engine_core.specs.declared.entries.Answer.{Answer}
use Rattle.engine_core.specs.declared.entries.Answer.TheVariants.{Gave, Refused}
use Rattle.engine_core.specs.declared.statement.BoundStmt.{BoundStmt}
use Rattle.engine_core.specs.declared.engine.EngineFail.{EngineFail}
use Rattle.engine_core.specs.declared.engine.EngineFail.TheVariants as fail

abbrev pub insert_text : List ℕ
insert_text = codes "INSERT INTO t VALUES (?)"

abbrev pub select_text : List ℕ
select_text = codes "SELECT a FROM t"

-- the value of the one parameter: the first of the list, or null
abbrev pub first_value : List Value → Value
first_value [] = Null
first_value (value ∷ values) = value

-- a result is within its limits
abbrev pub fits_result : List Value → Bool
fits_result column = nat_le (length column) MAX_ROWS && nat_le (values_size column) MAX_RESULT_BYTES

abbrev pub inserted : ℕ → StmtResult
inserted rowid = record { cols = []; rows = []; affected = 1; last_rowid = Some (pos rowid) }

abbrev pub selected : List Value → StmtResult
selected column = record { cols = record { name = Some (codes "a") } ∷ []; rows = map (λ value. value ∷ []) column; affected = 0; last_rowid = None }

-- a row more, unless the next rowid is 2^63 - 1
abbrev pub plain_insert : List Value → List Value → List Value × Answer
plain_insert column values =
    if nat_lt (length column + 1) (2 ^ 63 - 1) then (column ++ first_value values ∷ [], Gave (inserted (length column + 1)))
    else (column, Refused Overflow)

abbrev pub plain_select : List Value → List Value × Answer
plain_select column = if fits_result column then (column, Gave (selected column)) else (column, Refused ResultTooLarge)

-- Which statement a text is. One whose class is not that of its text is none of the two.
abbrev pub kind_of : Bool → List ℕ → Kind
kind_of true sql = if pointwise nat_eq sql insert_text then Insert else Other
kind_of false sql = if pointwise nat_eq sql select_text then Select else Other

abbrev pub exec_kind : Kind → List Value → List Value → List Value × Answer
exec_kind Insert column values = plain_insert column values
exec_kind Select column values = plain_select column
exec_kind Other column values = (column, Refused Syntax)

abbrev pub plain_exec : List Value → BoundStmt → List Value × Answer
plain_exec column stmt = exec_kind (kind_of (is_write stmt.class) stmt.sql) column stmt.values

-- What one statement does to the column, by what was answered, where the meaning gives this outcome: a new column and
-- an answer. A refusal and want of memory leave the column. There are no faults.
abbrev pub RunsAs : List Value × Answer → List Value → Result StmtResult EngineFail → List Value → Type 0
RunsAs outcome old (Ok given) new = outcome ≡ (new, Gave given)
RunsAs outcome old (Err (fail.Refused code)) new = (outcome ≡ (new, Refused code)) × (new ≡ old) × IsTrue (is_engine_code code)
RunsAs outcome old (Err fail.Fault) new = ⊥
RunsAs outcome old (Err fail.NoMemory) new = new ≡ old

-- the one transaction that may live
abbrev pub single_of : Option Running → Option (Single (List Value))
single_of None = None
single_of (Some t) = Some (record { number = t.txn; own = t.column; writing = t.writes })
