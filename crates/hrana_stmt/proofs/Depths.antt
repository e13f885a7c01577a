-- How deep what is written nests.
use Rattle.std.proofs.Common.{ℕ, ℤ, ◌≤◌, List, Option, None, Some, Bool, true, false, codes, arith}
use Rattle.serde_json.specs.Data.{Data, boolean, array, Members, no_members, depth, members_depth}
use Rattle.hrana_value.specs.declared.value.Value.{Value}
use Rattle.hrana_value.specs.Written.{values_data}
use Rattle.hrana_value.proofs.Depths.{items_depth-map, depth-value_data, depth-values_data}
use Rattle.hrana_stmt.specs.declared.results.Col.{Col}
use Rattle.hrana_stmt.specs.declared.results.StmtResult.{StmtResult}
use Rattle.hrana_stmt.specs.declared.errors.WireError.{WireError}
use Rattle.hrana_stmt.specs.declared.statements.SqlRef.{SqlRef}
use Rattle.hrana_stmt.specs.declared.statements.SqlRef.TheVariants as sql
use Rattle.hrana_stmt.specs.declared.statements.NamedArg.{NamedArg}
use Rattle.hrana_stmt.specs.declared.statements.Stmt.{Stmt}
use Rattle.hrana_stmt.specs.Written.{optional_text, rowid_data, col_data, cols_data, row_data, rows_data, result_data, error_data, named_arg_data, named_args_data, member_unless, sql_member, is_empty, stmt_data}

-- ---- statements

depth-named_arg_data : (a : NamedArg) → depth (named_arg_data a) ≤ 2
depth-named_arg_data a = omega (arith, depth-value_data a.value)

depth-named_args_data : (args : List NamedArg) → depth (named_args_data args) ≤ 3
depth-named_args_data args = omega (arith, items_depth-map named_arg_data 2 depth-named_arg_data args)

depth-unless : (b : Bool) (name : List ℕ) (d : Data) (ms : Members) (n : ℕ) → depth d ≤ n → members_depth ms ≤ n → members_depth (member_unless b name d ms) ≤ n
depth-unless true name d ms n p q = q
depth-unless false name d ms n p q = omega arith

depth-sql_member : (s : SqlRef) (ms : Members) (n : ℕ) → members_depth ms ≤ n → members_depth (sql_member s ms) ≤ n
depth-sql_member (sql.Text s) ms n q = omega arith
depth-sql_member (sql.Id z) ms n q = omega arith

pub depth-stmt_data : (s : Stmt) → depth (stmt_data s) ≤ 4
depth-stmt_data s =
    let last = depth-unless s.want_rows (codes "want_rows") (boolean false) no_members 3 (omega arith) (omega arith) in
    let after = member_unless s.want_rows (codes "want_rows") (boolean false) no_members in
    let named = depth-unless (is_empty s.named) (codes "named_args") (named_args_data s.named) (sql_member s.sql after) 3 (depth-named_args_data s.named) (depth-sql_member s.sql after 3 last) in
    let all = depth-unless (is_empty s.args) (codes "args") (array (values_data s.args)) (member_unless (is_empty s.named) (codes "named_args") (named_args_data s.named) (sql_member s.sql after)) 3 (omega (arith, depth-values_data s.args)) named in
    omega (arith, all)

-- ---- results and errors

pub depth-optional_text : (o : Option (List ℕ)) → depth (optional_text o) ≤ 0
depth-optional_text None = omega arith
depth-optional_text (Some s) = omega arith

pub depth-rowid_data : (o : Option ℤ) → depth (rowid_data o) ≤ 0
depth-rowid_data None = omega arith
depth-rowid_data (Some z) = omega arith

depth-col_data : (c : Col) → depth (col_data c) ≤ 1
depth-col_data c = omega (arith, depth-optional_text c.name)

pub depth-cols_data : (cols : List Col) → depth (cols_data cols) ≤ 2
depth-cols_data cols = omega (arith, items_depth-map col_data 1 depth-col_data cols)

depth-rows_data : (rows : List (List Value)) → depth (rows_data rows) ≤ 3
depth-rows_data rows = omega (arith, items_depth-map row_data 2 depth-values_data rows)

pub depth-result_data : (r : StmtResult) → depth (result_data r) ≤ 4
depth-result_data r = omega (arith, depth-cols_data r.cols, depth-rowid_data r.last_rowid, depth-rows_data r.rows)

pub depth-error_data : (e : WireError) → depth (error_data e) ≤ 1
depth-error_data e = omega (arith, depth-optional_text e.code)
