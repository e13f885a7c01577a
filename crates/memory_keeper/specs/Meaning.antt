-- The keeper's statements are lawful: a refusal leaves the database, and so does a read.
use Rattle.std.proofs.Common.{◌≡◌, ℕ, List, Bool, true, not, ◌||◌, Result, Ok, Err, refl, sym, subst, true≢false}
use Rattle.std.specs.Prelude.{if◌then◌else◌}
use Rattle.serial_order.specs.Serial.{Meaning}
use Rattle.sql_text.specs.declared.class.Class.{Class}
use Rattle.hrana_value.specs.declared.value.Value.{Value}
use Rattle.hrana_stmt.specs.declared.results.StmtResult.{StmtResult}
use Rattle.keeper_dialect.specs.declared.query.Query.{Query}
use Rattle.keeper_dialect.specs.declared.query.Query.TheVariants.{Create, Insert, Select, Update, Delete}
use Rattle.keeper_dialect.specs.Query.{query_of}
use Rattle.keeper_dialect.specs.Reads.{is_select}
use Rattle.engine_core.specs.Engine.{is_read, is_write, is_refusal}
use Rattle.engine_core.specs.declared.entries.Answer.{Answer}
use Rattle.engine_core.specs.declared.statement.BoundStmt.{BoundStmt}
use Rattle.keeper_formulas.specs.declared.fail.Refusal.{Refusal}
use Rattle.keeper_formulas.specs.declared.fail.Refusal.TheVariants.{Syntax}
use Rattle.memory_keeper.specs.declared.tables.Table.{Table}
use Rattle.keeper_formulas.specs.Each.{map_ok}
use Rattle.memory_keeper.specs.Exec.{selected_from, run_query, run_parsed, outcome, ended, exec}

ended_refused : (db : List Table) (r : Result (List Table × StmtResult) Refusal) → is_refusal (ended db r).1 ≡ true → (ended db r).0 ≡ db
ended_refused db (Ok made) p = absurd (true≢false (sym p))
ended_refused db (Err refusal) p = refl

select_leaves : (db : List Table) (r : Result StmtResult Refusal) → (ended db (map_ok (λ (given : StmtResult). (db, given)) r)).0 ≡ db
select_leaves db (Ok given) = refl
select_leaves db (Err refusal) = refl

-- with the class of a read only a select is run
reading : (db : List Table) (bound : List Value) (query : Query) → (ended db (if not true || is_select query then run_query db bound query else Err Syntax)).0 ≡ db
reading db bound (Create name cols) = refl
reading db bound (Insert name names tuples) = refl
reading db bound (Select shown name wanted) = select_leaves db (selected_from db name shown wanted bound)
reading db bound (Update name sets wanted) = refl
reading db bound (Delete name wanted) = refl

read_parsed : (db : List Table) (class : Class) (bound : List Value) (parsed : Result Query ℕ) → is_read class ≡ true → (ended db (run_parsed db class bound parsed)).0 ≡ db
read_parsed db class bound (Ok query) p =
    subst (λ (b : Bool). (ended db (if not b || is_select query then run_query db bound query else Err Syntax)).0 ≡ db) (sym p) (reading db bound query)
read_parsed db class bound (Err at) p = refl

pub refusal_leaves : (db : List Table) (stmt : BoundStmt) → is_refusal (exec db stmt).1 ≡ true → (exec db stmt).0 ≡ db
refusal_leaves db stmt p = ended_refused db (outcome db stmt) p

pub read_leaves : (db : List Table) (stmt : BoundStmt) → is_read stmt.class ≡ true → (exec db stmt).0 ≡ db
read_leaves db stmt p = read_parsed db stmt.class stmt.values (query_of stmt.sql) p

abbrev pub meaning : Meaning (List Table) BoundStmt Answer
meaning = record {
  exec = exec;
  is_read = λ stmt. is_read stmt.class;
  is_write = λ stmt. is_write stmt.class;
  is_refused = is_refusal;
  refusal_leaves = refusal_leaves;
  read_leaves = read_leaves;
}
