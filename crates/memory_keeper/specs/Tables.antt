-- Tables, and what the statements on one table mean.
use Rattle.std.specs.Prelude.{ℕ, ℤ, pos, zero, suc, ◌+◌, ◌-◌, ◌^◌, ◌==◌, nat_lt, nat_le, Bool, ◌&&◌, List, [], ◌∷◌, ◌++◌, length, map, filter, replicate, Option, Some, None, Result, Ok, Err, if◌then◌else◌}
use Rattle.std.specs.List.{position, range_with_len, zip}
use Rattle.hrana_value.specs.declared.value.Value.{Value}
use Rattle.hrana_value.specs.declared.value.Value.TheVariants.{Null}
use Rattle.keeper_formulas.specs.declared.fail.Refusal.{Refusal}
use Rattle.keeper_formulas.specs.declared.fail.Refusal.TheVariants.{NoColumn, Constraint, Overflow, ResultTooLarge}
use Rattle.hrana_stmt.specs.declared.results.Col.{Col}
use Rattle.hrana_stmt.specs.declared.results.StmtResult.{StmtResult}
use Rattle.engine_core.specs.declared.limits.TheConstants.{MAX_ROWS, MAX_RESULT_BYTES}
use Rattle.engine_core.specs.Results.{rows_size}
use Rattle.keeper_dialect.specs.declared.query.Expr.{Expr}
use Rattle.keeper_dialect.specs.declared.query.ColDef.{ColDef}
use Rattle.keeper_dialect.specs.declared.query.ColExpr.{ColExpr}
use Rattle.keeper_dialect.specs.declared.query.Shown.{Shown}
use Rattle.keeper_dialect.specs.declared.query.Shown.TheVariants as shown
use Rattle.keeper_formulas.specs.declared.formulas.Equation.{Equation}
use Rattle.keeper_formulas.specs.declared.formulas.Picture.{Picture}
use Rattle.keeper_formulas.specs.declared.formulas.Picture.TheVariants as picture
use Rattle.keeper_rows.specs.declared.row.Row.{Row}
use Rattle.memory_keeper.specs.declared.tables.Table.{Table}
use Rattle.keeper_formulas.specs.Each.{and_then, map_ok, each, somes}
use Rattle.keeper_rows.specs.Constraint.{breaks_key, keeps_key}
use Rattle.keeper_rows.specs.Chosen.{is_chosen, on_chosen, chosen_count, stays, shown_rows}
use Rattle.keeper_formulas.specs.Formulas.{place_of, known, formula_of, equation_of, condition_of, assigned}

-- ---- results

-- what a statement without rows is answered
abbrev pub done : ℕ → Option ℤ → StmtResult
done count rowid = record { cols = []; rows = []; affected = count; last_rowid = rowid }

abbrev pub named : List ℕ → Col
named name = record { name = Some name }

abbrev pub selected : List (List ℕ) → List (List Value) → StmtResult
selected names rows = record { cols = map named names; rows = rows; affected = 0; last_rowid = None }

-- a result has at most so many rows, and so many bytes of values
abbrev pub fits : List (List Value) → Bool
fits rows = nat_le (length rows) MAX_ROWS && nat_le (rows_size rows) MAX_RESULT_BYTES

abbrev pub fitting : List (List ℕ) → List (List Value) → Result StmtResult Refusal
fitting names rows = if fits rows then Ok (selected names rows) else Err ResultTooLarge

-- ---- select

-- what is shown of a row
abbrev pub picture_of : List (List ℕ) → List Value → Shown → Result Picture Refusal
picture_of columns bound shown.All = Ok picture.All
picture_of columns bound (shown.Count text) = Ok picture.Count
picture_of columns bound (shown.List items) = map_ok picture.List (each (λ item. formula_of columns bound item.expr) items)

abbrev pub names_of : List (List ℕ) → Shown → List (List ℕ)
names_of columns shown.All = columns
names_of columns (shown.Count text) = text ∷ []
names_of columns (shown.List items) = map (λ item. item.text) items

abbrev pub select : List (List ℕ) → List Row → Shown → Option ColExpr → List Value → Result StmtResult Refusal
select columns rows shown wanted bound =
    and_then (picture_of columns bound shown)
    (λ picture. and_then (condition_of columns bound wanted)
    (λ condition. and_then (shown_rows picture condition rows)
    (λ given. fitting (names_of columns shown) given)))

-- ---- insert

-- the places that the values of a tuple go to
abbrev pub places_of : List (List ℕ) → Option (List (List ℕ)) → Result (List ℕ) Refusal
places_of columns None = Ok (range_with_len 0 (length columns))
places_of columns (Some names) = each (λ name. known (place_of columns name)) names

abbrev pub tuple_equation : List Value → ℕ × Expr → Result Equation Refusal
tuple_equation bound (place, expr) = map_ok (λ formula. record { place = place; formula = formula }) (formula_of [] bound expr)

-- a tuple has an expression for each place, and names no column
abbrev pub tuple_of : List Value → List ℕ → List Expr → Result (List Equation) Refusal
tuple_of bound places exprs = if length places == length exprs then each (tuple_equation bound) (zip places exprs) else Err NoColumn

-- the table with one row more, at the next rowid
abbrev pub row_added : Table → List Value → Result Table Refusal
row_added table values =
    if breaks_key table.key table.rows values then Err Constraint
    else (if nat_lt table.next_rowid (2 ^ 63 - 1)
    then Ok (record table { rows = table.rows ++ record { rowid = table.next_rowid; values = values } ∷ []; next_rowid = table.next_rowid + 1 })
    else Err Overflow)

-- the table with rows that were made for it at its end
abbrev pub with_rows : Table → List Row → Table
with_rows table fresh = record table { rows = table.rows ++ fresh; next_rowid = table.next_rowid + length fresh }

-- columns that aren't listed are null
abbrev pub tuple_added : Table → List Equation → Result Table Refusal
tuple_added table tuple = and_then (assigned [] (replicate (length table.columns) Null) tuple) (row_added table)

abbrev pub tuples_added : Table → List (List Equation) → Result Table Refusal
tuples_added table [] = Ok table
tuples_added table (tuple ∷ tuples) = and_then (tuple_added table tuple) (λ next. tuples_added next tuples)

-- the rowid of the last of so many new rows, if there are any
abbrev pub last_rowid : ℕ → ℕ → Option ℤ
last_rowid zero next = None
last_rowid (suc count) next = Some (pos (next - 1))

abbrev pub insert : Table → Option (List (List ℕ)) → List (List Expr) → List Value → Result (Table × StmtResult) Refusal
insert table names tuples bound =
    and_then (places_of table.columns names)
    (λ places. and_then (each (tuple_of bound places) tuples)
    (λ resolved. map_ok (λ new. (new, done (length tuples) (last_rowid (length tuples) new.next_rowid))) (tuples_added table resolved)))

-- ---- update and delete

-- the new values of a row, where it is chosen
abbrev pub renewal : Option Equation → List Equation → Row → Result (Option (List Value)) Refusal
renewal condition sets row = on_chosen (is_chosen condition row) (assigned row.values row.values sets)

abbrev pub renewed_row : Row → Option (List Value) → Row
renewed_row row None = row
renewed_row row (Some values) = record row { values = values }

-- rows keep their rowids
abbrev pub renewed : List Row → List (Option (List Value)) → List Row
renewed (row ∷ rows) (new ∷ news) = renewed_row row new ∷ renewed rows news
renewed rows _ = rows

-- the rows with their new values, and how many have any
abbrev pub all_renewed : Option Equation → List Equation → List Row → Result (List Row × ℕ) Refusal
all_renewed condition sets rows = map_ok (λ news. (renewed rows news, length (somes news))) (each (renewal condition sets) rows)

-- the same, where the new rows keep the constraint of the key
abbrev pub all_updated : Option ℕ → Option Equation → List Equation → List Row → Result (List Row × ℕ) Refusal
all_updated key condition sets rows = and_then (all_renewed condition sets rows) (λ new. if keeps_key key [] new.0 then Ok new else Err Constraint)

-- all new rows have their values from the old ones
abbrev pub update : Table → List ColExpr → Option ColExpr → List Value → Result (Table × StmtResult) Refusal
update table sets wanted bound =
    and_then (each (equation_of table.columns bound) sets)
    (λ equations. and_then (condition_of table.columns bound wanted)
    (λ condition. map_ok (λ new. (record table { rows = new.0 }, done new.1 None)) (all_updated table.key condition equations table.rows)))

abbrev pub delete : Table → Option ColExpr → List Value → Result (Table × StmtResult) Refusal
delete table wanted bound =
    and_then (condition_of table.columns bound wanted)
    (λ condition. map_ok (λ count. (record table { rows = filter (stays condition) table.rows }, done count None)) (chosen_count condition table.rows))

-- ---- create

abbrev pub new_table : List ℕ → List ColDef → Table
new_table name cols = record { name = name; columns = map (λ col. col.name) cols; key = position (λ col. col.key) cols; rows = []; next_rowid = 1 }
