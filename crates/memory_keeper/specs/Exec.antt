-- What a statement means on a database.
use Rattle.std.specs.Prelude.{◌≡◌, ℕ, Bool, true, not, ◌||◌, IsTrue, List, [], ◌∷◌, ◌++◌, Option, Some, None, Result, Ok, Err, slice_get, slice_set, if◌then◌else◌}
use Rattle.std.specs.Option.{option_and_then}
use Rattle.hrana_value.specs.declared.value.Value.{Value}
use Rattle.keeper_formulas.specs.declared.fail.Refusal.{Refusal}
use Rattle.keeper_formulas.specs.declared.fail.Refusal.TheVariants.{Syntax, NoTable, TableExists}
use Rattle.hrana_stmt.specs.declared.results.StmtResult.{StmtResult}
use Rattle.keeper_dialect.specs.declared.query.ColDef.{ColDef}
use Rattle.keeper_dialect.specs.declared.query.ColExpr.{ColExpr}
use Rattle.keeper_dialect.specs.declared.query.Shown.{Shown}
use Rattle.keeper_dialect.specs.declared.query.Query.{Query}
use Rattle.keeper_dialect.specs.declared.query.Query.TheVariants.{Create, Insert, Select, Update, Delete}
use Rattle.sql_text.specs.declared.class.Class.{Class}
use Rattle.keeper_dialect.specs.Query.{query_of}
use Rattle.keeper_dialect.specs.Reads.{is_select}
use Rattle.engine_core.specs.Engine.{is_read, is_engine_code}
use Rattle.engine_core.specs.Transactions.{Single}
use Rattle.engine_core.specs.declared.entries.Answer.{Answer}
use Rattle.engine_core.specs.declared.entries.Answer.TheVariants.{Gave, Refused}
use Rattle.engine_core.specs.declared.engine.EngineFail.{EngineFail}
use Rattle.engine_core.specs.declared.engine.EngineFail.TheVariants as fail
use Rattle.engine_core.specs.declared.statement.BoundStmt.{BoundStmt}
use Rattle.keeper_formulas.specs.Refusals.{code_of}
use Rattle.memory_keeper.specs.declared.keeper.Running.{Running}
use Rattle.keeper_rows.specs.declared.row.Row.{Row}
use Rattle.memory_keeper.specs.declared.tables.Table.{Table}
use Rattle.keeper_formulas.specs.Each.{and_then, map_ok}
use Rattle.memory_keeper.specs.Names.{table_place}
use Rattle.memory_keeper.specs.Tables as table

-- the table of a name with its place
abbrev pub placed : Option ℕ → Option Table → Result (ℕ × Table) Refusal
placed (Some place) (Some t) = Ok (place, t)
placed _ _ = Err NoTable

abbrev pub table_of : List Table → List ℕ → Result (ℕ × Table) Refusal
table_of db name = placed (table_place db name) (option_and_then (slice_get db) (table_place db name))

-- a table becomes what a query makes of it
abbrev pub on_table : List Table → List ℕ → (Table → Result (Table × StmtResult) Refusal) → Result (List Table × StmtResult) Refusal
on_table db name change = and_then (table_of db name) (λ found. map_ok (λ made. (slice_set db found.0 made.0, made.1)) (change found.1))

abbrev pub created : List Table → Option ℕ → List ℕ → List ColDef → Result (List Table × StmtResult) Refusal
created db (Some place) name cols = Err TableExists
created db None name cols = Ok (db ++ table.new_table name cols ∷ [], table.done 0 None)

-- the one row of a SELECT without FROM
abbrev pub no_columns : Row
no_columns = record { rowid = 0; values = [] }

abbrev pub selected_from : List Table → Option (List ℕ) → Shown → Option ColExpr → List Value → Result StmtResult Refusal
selected_from db None shown wanted bound = table.select [] (no_columns ∷ []) shown wanted bound
selected_from db (Some name) shown wanted bound = and_then (table_of db name) (λ found. table.select found.1.columns found.1.rows shown wanted bound)

abbrev pub run_query : List Table → List Value → Query → Result (List Table × StmtResult) Refusal
run_query db bound (Create name cols) = created db (table_place db name) name cols
run_query db bound (Insert name names tuples) = on_table db name (λ t. table.insert t names tuples bound)
run_query db bound (Select shown name wanted) = map_ok (λ given. (db, given)) (selected_from db name shown wanted bound)
run_query db bound (Update name sets wanted) = on_table db name (λ t. table.update t sets wanted bound)
run_query db bound (Delete name wanted) = on_table db name (λ t. table.delete t wanted bound)

-- ---- statements

-- A statement of class `Read` may only read. A text has this class where it begins with `SELECT`, `VALUES` or `WITH`, and a
-- query that writes begins with another word, so this refuses nothing: the law `class_refuses_nothing`.
abbrev pub fits_class : Class → Query → Bool
fits_class class query = not (is_read class) || is_select query

abbrev pub run_parsed : List Table → Class → List Value → Result Query ℕ → Result (List Table × StmtResult) Refusal
run_parsed db class bound (Ok query) = if fits_class class query then run_query db bound query else Err Syntax
run_parsed db class bound (Err at) = Err Syntax

abbrev pub query_or_syntax : Result Query ℕ → Result Query Refusal
query_or_syntax (Ok query) = Ok query
query_or_syntax (Err at) = Err Syntax

abbrev pub outcome : List Table → BoundStmt → Result (List Table × StmtResult) Refusal
outcome db stmt = run_parsed db stmt.class stmt.values (query_of stmt.sql)

-- A statement's class is that of its text, so its query fits it, and the outcome is that of the query.
pub record ClassRefusesNothing : Type 0 where
  pub fits : (stmt : BoundStmt) (query : Query) → query_of stmt.sql ≡ Ok query → fits_class stmt.class query ≡ true
  pub runs : (db : List Table) (stmt : BoundStmt) (query : Query) → query_of stmt.sql ≡ Ok query → outcome db stmt ≡ run_query db stmt.values query

-- a refusal leaves the database
abbrev pub ended : List Table → Result (List Table × StmtResult) Refusal → List Table × Answer
ended db (Ok made) = (made.0, Gave made.1)
ended db (Err refusal) = (db, Refused (code_of refusal))

-- the new database and the answer
abbrev pub exec : List Table → BoundStmt → List Table × Answer
exec db stmt = ended db (outcome db stmt)

-- What a statement does to the tables, by what was answered, where the meaning gives this outcome. A refusal and want of
-- memory leave the tables. There are no faults.
abbrev pub RunsAs : List Table × Answer → List Table → Result StmtResult EngineFail → List Table → Type 0
RunsAs meant old (Ok given) new = meant ≡ (new, Gave given)
RunsAs meant old (Err (fail.Refused code)) new = (meant ≡ (new, Refused code)) × (new ≡ old) × IsTrue (is_engine_code code)
RunsAs meant old (Err fail.Fault) new = ⊥
RunsAs meant old (Err fail.NoMemory) new = new ≡ old

-- the one transaction that may live
abbrev pub single_of : Option Running → Option (Single (List Table))
single_of None = None
single_of (Some t) = Some (record { number = t.txn; own = t.database; writing = t.writes })
