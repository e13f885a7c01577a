-- A statement's query fits the class of its text.
use Rattle.std.proofs.Common.{◌≡◌, Bool, true, List, Result, Ok, Err, refl, sym, ap, ◌∙◌}
use Rattle.std.specs.Prelude.{if◌then◌else◌}
use Rattle.sql_text.specs.declared.class.Class.{Class}
use Rattle.sql_text.specs.declared.class.Class.TheVariants as class
use Rattle.hrana_value.specs.declared.value.Value.{Value}
use Rattle.hrana_stmt.specs.declared.results.StmtResult.{StmtResult}
use Rattle.keeper_dialect.specs.declared.query.Query.{Query}
use Rattle.keeper_dialect.specs.Query.{query_of}
use Rattle.keeper_dialect.specs.Reads.{is_select}
use Rattle.keeper_dialect.proofs.ReadLemmas.{read_is_a_select}
use Rattle.engine_core.specs.declared.statement.BoundStmt.{BoundStmt}
use Rattle.keeper_formulas.specs.declared.fail.Refusal.{Refusal}
use Rattle.keeper_formulas.specs.declared.fail.Refusal.TheVariants.{Syntax}
use Rattle.memory_keeper.specs.declared.tables.Table.{Table}
use Rattle.memory_keeper.specs.Exec.{run_query, fits_class, run_parsed, outcome}

-- only the class `Read` asks anything of a query
fits_by : (c : Class) (query : Query) → (c ≡ class.Read → is_select query ≡ true) → fits_class c query ≡ true
fits_by class.Read query reads = reads refl
fits_by class.Write query reads = refl
fits_by (class.Begin mode) query reads = refl
fits_by class.Commit query reads = refl
fits_by class.Rollback query reads = refl
fits_by class.Savepoint query reads = refl
fits_by class.Barred query reads = refl
fits_by class.Empty query reads = refl

pub query_fits : (stmt : BoundStmt) (query : Query) → query_of stmt.sql ≡ Ok query → fits_class stmt.class query ≡ true
query_fits stmt query is = fits_by stmt.class query (λ reads. read_is_a_select stmt.sql query is (sym stmt.classed ∙ reads))

-- a query that fits its class is run
run_if : List Table → List Value → Query → Bool → Result (List Table × StmtResult) Refusal
run_if db bound query fits = if fits then run_query db bound query else Err Syntax

pub query_runs : (db : List Table) (stmt : BoundStmt) (query : Query) → query_of stmt.sql ≡ Ok query → outcome db stmt ≡ run_query db stmt.values query
unfolding run_if
query_runs db stmt query is = ap (run_parsed db stmt.class stmt.values) is ∙ ap (run_if db stmt.values query) (query_fits stmt query is)
