-- Lemmas on the names of tables.
use Rattle.std.proofs.Common.{◌≡◌, ℕ, ◌+◌, ◌<◌, Bool, true, false, cond, List, [], ◌∷◌, ◌++◌, length, get_or, set, take, map, Option, Some, None, Result, Ok, Err, refl, sym, ap, subst, ◌∙◌, suc, arith}
use Rattle.std.specs.Prelude.{IfOk, slice_get, slice_set, if◌then◌else◌, nat_lt, ◌-◌, ◌^◌}
use Rattle.std.specs.List.{position_from}
use Rattle.std.specs.Option.{option_or, option_and_then}
use Rattle.std.specs.Str.{str_eq_ignore_ascii_case}
use Rattle.std.proofs.lemmas.Iterator.Adapters.{position_from-zero}
use Rattle.std.proofs.lemmas.List.{take_all, take_more, length-set, length-take-le}
use Rattle.std.proofs.lemmas.Option.{get_or_from_slice_get}
use Rattle.std.proofs.Math.Seq.{map-set_same, take-append_seam}
use Rattle.engine_core.specs.declared.entries.Answer.{Answer}
use Rattle.engine_core.specs.declared.engine.EngineFail.{EngineFail}
use Rattle.engine_core.specs.declared.engine.EngineFail.TheVariants as fail
use Rattle.engine_core.specs.declared.statement.BoundStmt.{BoundStmt}
use Rattle.hrana_stmt.specs.declared.results.StmtResult.{StmtResult}
use Rattle.hrana_value.specs.declared.value.Value.{Value}
use Rattle.keeper_dialect.specs.Query.{query_of}
use Rattle.keeper_dialect.specs.declared.query.ColDef.{ColDef}
use Rattle.keeper_dialect.specs.declared.query.ColExpr.{ColExpr}
use Rattle.keeper_dialect.specs.declared.query.Expr.{Expr}
use Rattle.keeper_dialect.specs.declared.query.Query.{Query}
use Rattle.keeper_dialect.specs.declared.query.Query.TheVariants.{Create, Insert, Select, Update, Delete}
use Rattle.keeper_formulas.specs.Each.{and_then, map_ok, each}
use Rattle.keeper_formulas.specs.Formulas.{equation_of, condition_of}
use Rattle.keeper_formulas.specs.declared.fail.Refusal.{Refusal}
use Rattle.keeper_formulas.specs.declared.fail.Refusal.TheVariants.{Constraint, Overflow, Syntax}
use Rattle.keeper_formulas.specs.declared.formulas.Equation.{Equation}
use Rattle.keeper_rows.specs.Constraint.{breaks_key}
use Rattle.memory_keeper.specs.Exec.{placed, table_of, on_table, created, selected_from, run_query, fits_class, run_parsed, outcome, ended, exec, RunsAs}
use Rattle.memory_keeper.specs.Names.{table_place, place_of_name, HasNamesOf, FindsTables}
use Rattle.memory_keeper.specs.Tables.{places_of, tuple_of, row_added, tuple_added, tuples_added, all_updated, insert, update, delete}
use Rattle.keeper_rows.specs.Chosen.{chosen_count}
use Rattle.memory_keeper.specs.declared.names.TableNames.{TableNames}
use Rattle.memory_keeper.specs.declared.tables.Table.{Table}

-- ---- the place of a name

position_from-append : {X : Type 0} (test : X → Bool) (i : ℕ) (xs : List X) (x : X) → position_from test i (xs ++ x ∷ []) ≡ option_or (position_from test i xs) (cond (test x) (Some (i + length xs)) None)
position_from-append test i [] x = let e : i ≡ i + 0 = omega arith in ap (λ n. cond (test x) (Some n) None) e
position_from-append test i (y ∷ ys) x =
    let e : (i + 1) + length ys ≡ i + suc (length ys) = omega arith in
    let rest = position_from-append test (i + 1) ys x ∙ ap (λ n. option_or (position_from test (i + 1) ys) (cond (test x) (Some n) None)) e in
    elim (test y) as (λ b. cond b (Some i) (position_from test (i + 1) (ys ++ x ∷ [])) ≡ option_or (cond b (Some i) (position_from test (i + 1) ys)) (cond (test x) (Some (i + suc (length ys))) None))
    [ true ↦ refl | false ↦ rest ]

position_from-map : {X Y : Type 0} (f : X → Y) (test : Y → Bool) (i : ℕ) (xs : List X) → position_from (λ x. test (f x)) i xs ≡ position_from test i (map f xs)
position_from-map f test i [] = refl
position_from-map f test i (x ∷ xs) = ap (λ o. cond (test (f x)) (Some i) o) (position_from-map f test (i + 1) xs)

place_more : (tables : List Table) (table : Table) (name : List ℕ) → table_place (tables ++ table ∷ []) name ≡ option_or (table_place tables name) (cond (str_eq_ignore_ascii_case table.name name) (Some (length tables)) None)
place_more tables table name =
    let test : Table → Bool = λ t. str_eq_ignore_ascii_case t.name name in
    let e : 0 + length tables ≡ length tables = omega arith in
    position_from-zero test (tables ++ table ∷ [])
    ∙ position_from-append test 0 tables table
    ∙ ap (λ n. option_or (position_from test 0 tables) (cond (test table) (Some n) None)) e
    ∙ ap (λ o. option_or o (cond (test table) (Some (length tables)) None)) (sym (position_from-zero test tables))

-- the places of names depend on the names alone
place_by_names : (tables : List Table) (name : List ℕ) → table_place tables name ≡ position_from (λ n. str_eq_ignore_ascii_case n name) 0 (map (λ t. t.name) tables)
place_by_names tables name = position_from-zero (λ (t : Table). str_eq_ignore_ascii_case t.name name) tables ∙ position_from-map (λ (t : Table). t.name) (λ n. str_eq_ignore_ascii_case n name) 0 tables

same_names_found : (names : Option TableNames) (old new : List Table) → map (λ t. t.name) new ≡ map (λ t. t.name) old → FindsTables names old → FindsTables names new
same_names_found None old new same has = has
same_names_found (Some names) old new same has = λ name. has name ∙ place_by_names old name ∙ ap (position_from (λ n. str_eq_ignore_ascii_case n name) 0) (sym same) ∙ sym (place_by_names new name)

-- the map with the name of one table more
pub names_more : (names new : TableNames) (tables : List Table) (i : ℕ) (table : Table) → i < length tables → table ≡ get_or tables i table → HasNamesOf names (take i tables) → ((other : List ℕ) → place_of_name new other ≡ option_or (place_of_name names other) (cond (str_eq_ignore_ascii_case table.name other) (Some i) None)) → HasNamesOf new (take (i + 1) tables)
names_more names new tables i table h is has adds other =
    let whole : take (i + 1) tables ≡ take i tables ++ table ∷ [] = take_more tables i table h ∙ ap (λ t. take i tables ++ t ∷ []) (sym is) in
    adds other
    ∙ ap (λ o. option_or o (cond (str_eq_ignore_ascii_case table.name other) (Some i) None)) (has other)
    ∙ ap (λ n. option_or (table_place (take i tables) other) (cond (str_eq_ignore_ascii_case table.name other) (Some n) None)) (sym (length-take-le i tables (omega (arith, h))))
    ∙ sym (place_more (take i tables) table other)
    ∙ ap (λ l. table_place l other) (sym whole)

-- ---- the names that a statement leaves

after : {A B : Type 0} (r : Result A Refusal) (step : A → Result B Refusal) (P : A → Type 0) (Q : B → Type 0) → IfOk r P → ((x : A) → P x → IfOk (step x) Q) → IfOk (and_then r step) Q
after (Ok x) step P Q p h = h x p
after (Err refusal) step P Q p h = tt

after_any : {A B : Type 0} (r : Result A Refusal) (step : A → Result B Refusal) (Q : B → Type 0) → ((x : A) → IfOk (step x) Q) → IfOk (and_then r step) Q
after_any (Ok x) step Q h = h x
after_any (Err refusal) step Q h = tt

mapped : {A B : Type 0} (f : A → B) (r : Result A Refusal) (P : A → Type 0) (Q : B → Type 0) → IfOk r P → ((x : A) → P x → Q (f x)) → IfOk (map_ok f r) Q
mapped f (Ok x) P Q p h = h x p
mapped f (Err refusal) P Q p h = tt

mapped_any : {A B : Type 0} (f : A → B) (r : Result A Refusal) (Q : B → Type 0) → ((x : A) → Q (f x)) → IfOk (map_ok f r) Q
mapped_any f (Ok x) Q h = h x
mapped_any f (Err refusal) Q h = tt

added_name : (table : Table) (values : List Value) (name : List ℕ) → table.name ≡ name → IfOk (row_added table values) (λ new. new.name ≡ name)
added_name table values name is = go (breaks_key table.key table.rows values) (nat_lt table.next_rowid (2 ^ 63 - 1))
  where
    go : (broken free : Bool) → IfOk (if broken then Err Constraint else (if free then Ok (record table { rows = table.rows ++ record { rowid = table.next_rowid; values = values } ∷ []; next_rowid = table.next_rowid + 1 }) else Err Overflow)) (λ new. new.name ≡ name)
    go true free = tt
    go false true = is
    go false false = tt

tuples_name : (table : Table) (tuples : List (List Equation)) (name : List ℕ) → table.name ≡ name → IfOk (tuples_added table tuples) (λ new. new.name ≡ name)
tuples_name table [] name is = is
tuples_name table (tuple ∷ tuples) name is =
    after (tuple_added table tuple) (λ next. tuples_added next tuples) (λ next. next.name ≡ name) (λ new. new.name ≡ name)
    (after_any _ (row_added table) (λ new. new.name ≡ name) (λ values. added_name table values name is))
    (λ next same. tuples_name next tuples name same)

abbrev same_name : Table → Table × StmtResult → Type 0
same_name table made = made.0.name ≡ table.name

insert_name : (table : Table) (columns : Option (List (List ℕ))) (tuples : List (List Expr)) (bound : List Value) → IfOk (insert table columns tuples bound) (same_name table)
insert_name table columns tuples bound =
    after_any (places_of table.columns columns) _ (same_name table)
    (λ places. after_any (each (tuple_of bound places) tuples) _ (same_name table)
    (λ resolved. mapped _ (tuples_added table resolved) (λ new. new.name ≡ table.name) (same_name table) (tuples_name table resolved table.name refl) (λ new same. same)))

update_name : (table : Table) (sets : List ColExpr) (wanted : Option ColExpr) (bound : List Value) → IfOk (update table sets wanted bound) (same_name table)
update_name table sets wanted bound =
    after_any (each (equation_of table.columns bound) sets) _ (same_name table)
    (λ equations. after_any (condition_of table.columns bound wanted) _ (same_name table)
    (λ condition. mapped_any _ (all_updated table.key condition equations table.rows) (same_name table) (λ new. refl)))

delete_name : (table : Table) (wanted : Option ColExpr) (bound : List Value) → IfOk (delete table wanted bound) (same_name table)
delete_name table wanted bound =
    after_any (condition_of table.columns bound wanted) _ (same_name table)
    (λ condition. mapped_any _ (chosen_count condition table.rows) (same_name table) (λ count. refl))

-- the tables keep their names, and more may stand behind them
abbrev KeepsNames : List Table → List Table → Type 0
KeepsNames old new = map (λ t. t.name) (take (length old) new) ≡ map (λ t. t.name) old

keeps_all : (db : List Table) → KeepsNames db db
keeps_all db = ap (λ l. map (λ (t : Table). t.name) l) (take_all (length db) db (omega arith))

keeps_set : (db : List Table) (place : ℕ) (table new : Table) → slice_get db place ≡ Some table → new.name ≡ table.name → KeepsNames db (set db place new)
keeps_set db place table new found same =
    let long = length-set db place new in
    ap (λ l. map (λ (t : Table). t.name) l) (take_all (length db) (set db place new) (omega (arith, long)))
    ∙ map-set_same (λ (t : Table). t.name) db place new new (same ∙ ap (λ (t : Table). t.name) (sym (get_or_from_slice_get db place table new found)))

keeps_on_table : (db : List Table) (name : List ℕ) (change : Table → Result (Table × StmtResult) Refusal) → ((t : Table) → IfOk (change t) (same_name t)) → IfOk (on_table db name change) (λ made. KeepsNames db made.0)
keeps_on_table db name change keeps =
    after (table_of db name) (λ found. map_ok (λ made. (slice_set db found.0 made.0, made.1)) (change found.1)) (λ found. slice_get db found.0 ≡ Some found.1) (λ made. KeepsNames db made.0)
    (found_there (table_place db name))
    (λ found there. mapped (λ made. (slice_set db found.0 made.0, made.1)) (change found.1) (same_name found.1) (λ made. KeepsNames db made.0) (keeps found.1) (λ made same. keeps_set db found.0 found.1 made.0 there same))
  where
    placed_there : (place : ℕ) (o : Option Table) → slice_get db place ≡ o → IfOk (placed (Some place) o) (λ found. slice_get db found.0 ≡ Some found.1)
    placed_there place (Some t) is = is
    placed_there place None is = tt

    found_there : (o : Option ℕ) → IfOk (placed o (option_and_then (slice_get db) o)) (λ found. slice_get db found.0 ≡ Some found.1)
    found_there None = tt
    found_there (Some place) = placed_there place (slice_get db place) refl

keeps_created : (db : List Table) (place : Option ℕ) (name : List ℕ) (cols : List ColDef) → IfOk (created db place name cols) (λ made. KeepsNames db made.0)
keeps_created db (Some place) name cols = tt
keeps_created db None name cols = ap (λ l. map (λ (t : Table). t.name) l) (take-append_seam db _)

query_keeps : (db : List Table) (bound : List Value) (query : Query) → IfOk (run_query db bound query) (λ made. KeepsNames db made.0)
query_keeps db bound (Create name cols) = keeps_created db (table_place db name) name cols
query_keeps db bound (Insert name columns tuples) = keeps_on_table db name (λ t. insert t columns tuples bound) (λ t. insert_name t columns tuples bound)
query_keeps db bound (Select shown name wanted) = mapped_any (λ given. (db, given)) (selected_from db name shown wanted bound) (λ made. KeepsNames db made.0) (λ given. keeps_all db)
query_keeps db bound (Update name sets wanted) = keeps_on_table db name (λ t. update t sets wanted bound) (λ t. update_name t sets wanted bound)
query_keeps db bound (Delete name wanted) = keeps_on_table db name (λ t. delete t wanted bound) (λ t. delete_name t wanted bound)

outcome_keeps : (db : List Table) (stmt : BoundStmt) → IfOk (outcome db stmt) (λ made. KeepsNames db made.0)
outcome_keeps db stmt = parsed (query_of stmt.sql)
  where
    fitted : (fits : Bool) (query : Query) → IfOk (if fits then run_query db stmt.values query else Err Syntax) (λ made. KeepsNames db made.0)
    fitted true query = query_keeps db stmt.values query
    fitted false query = tt

    parsed : (r : Result Query ℕ) → IfOk (run_parsed db stmt.class stmt.values r) (λ made. KeepsNames db made.0)
    parsed (Ok query) = fitted (fits_class stmt.class query) query
    parsed (Err at) = tt

exec_keeps : (db : List Table) (stmt : BoundStmt) → KeepsNames db (exec db stmt).0
exec_keeps db stmt = go (outcome db stmt) (outcome_keeps db stmt)
  where
    go : (r : Result (List Table × StmtResult) Refusal) → IfOk r (λ made. KeepsNames db made.0) → KeepsNames db (ended db r).0
    go (Ok made) keeps = keeps
    go (Err refusal) keeps = keeps_all db

-- a statement leaves the names of tables, and may add more behind them
statement_keeps : (old new : List Table) (stmt : BoundStmt) (r : Result StmtResult EngineFail) → RunsAs (exec old stmt) old r new → KeepsNames old new
statement_keeps old new stmt (Ok given) runs = subst (λ (meant : List Table × Answer). KeepsNames old meant.0) runs (exec_keeps old stmt)
statement_keeps old new stmt (Err (fail.Refused code)) runs = subst (λ l. KeepsNames old l) (sym runs.1) (keeps_all old)
statement_keeps old new stmt (Err fail.Fault) runs = absurd runs
statement_keeps old new stmt (Err fail.NoMemory) runs = subst (λ l. KeepsNames old l) (sym runs) (keeps_all old)

-- the map of the tables before a statement has the names of as many after it
pub names_kept : (names : Option TableNames) (old new : List Table) (stmt : BoundStmt) (r : Result StmtResult EngineFail) → RunsAs (exec old stmt) old r new → FindsTables names old → FindsTables names (take (length old) new)
names_kept names old new stmt r runs has = same_names_found names old (take (length old) new) (statement_keeps old new stmt r runs) has
