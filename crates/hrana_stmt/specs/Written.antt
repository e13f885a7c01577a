-- The trees that statements, results and errors are written as.
use Rattle.std.specs.Prelude.{ℤ, ℕ, List, [], ◌∷◌, map, Option, None, Some, Bool, true, false, codes}
use Rattle.std.specs.Fmt.{signed_decimal}
use Rattle.serde_json.specs.Data.{Data, null, boolean, number, unsigned, string, array, object, Members, member, no_members}
use Rattle.serde_json.specs.Find.{of_integer}
use Rattle.serde_json.specs.View.{items_of}
use Rattle.hrana_value.specs.declared.value.Value.{Value}
use Rattle.hrana_value.specs.Written.{value_data, values_data}
use Rattle.hrana_stmt.specs.declared.statements.SqlRef.{SqlRef}
use Rattle.hrana_stmt.specs.declared.statements.SqlRef.TheVariants.{Text, Id}
use Rattle.hrana_stmt.specs.declared.statements.NamedArg.{NamedArg}
use Rattle.hrana_stmt.specs.declared.statements.Stmt.{Stmt}
use Rattle.hrana_stmt.specs.declared.results.Col.{Col}
use Rattle.hrana_stmt.specs.declared.results.StmtResult.{StmtResult}
use Rattle.hrana_stmt.specs.declared.errors.WireError.{WireError}

-- null for an absent text
abbrev pub optional_text : Option (List ℕ) → Data
optional_text None = null
optional_text (Some s) = string s

-- ---- results

abbrev pub rowid_data : Option ℤ → Data
rowid_data None = null
rowid_data (Some z) = string (signed_decimal z)

abbrev pub col_data : Col → Data
col_data c = object (member (codes "name") (optional_text c.name) no_members)

abbrev pub cols_data : List Col → Data
cols_data cols = array (items_of (map col_data cols))

abbrev pub row_data : List Value → Data
row_data row = array (values_data row)

abbrev pub rows_data : List (List Value) → Data
rows_data rows = array (items_of (map row_data rows))

-- a result of these parts
abbrev pub result_object : ℕ → Data → Data → Data → Data
result_object affected cols rowid rows =
    object (member (codes "affected_row_count") (number (unsigned affected)) (member (codes "cols") cols (member (codes "last_insert_rowid") rowid (member (codes "rows") rows no_members))))

abbrev pub result_data : StmtResult → Data
result_data r = result_object r.affected (cols_data r.cols) (rowid_data r.last_rowid) (rows_data r.rows)

-- ---- errors

abbrev pub error_data : WireError → Data
error_data e = object (member (codes "code") (optional_text e.code) (member (codes "message") (string e.message) no_members))

-- ---- statements

-- a named argument of this value
abbrev pub named_arg_object : List ℕ → Data → Data
named_arg_object name value = object (member (codes "name") (string name) (member (codes "value") value no_members))

abbrev pub named_arg_data : NamedArg → Data
named_arg_data a = named_arg_object a.name (value_data a.value)

abbrev pub named_args_data : List NamedArg → Data
named_args_data args = array (items_of (map named_arg_data args))

abbrev pub is_empty : {A : Type 0} → List A → Bool
is_empty [] = true
is_empty (x ∷ xs) = false

-- the member, unless it is left out
abbrev pub member_unless : Bool → List ℕ → Data → Members → Members
member_unless true name d ms = ms
member_unless false name d ms = member name d ms

abbrev pub sql_member : SqlRef → Members → Members
sql_member (Text s) ms = member (codes "sql") (string s) ms
sql_member (Id z) ms = member (codes "sql_id") (number (of_integer z)) ms

-- what stands under that name
abbrev pub sql_part : SqlRef → Data
sql_part (Text s) = string s
sql_part (Id z) = number (of_integer z)

-- the members of a statement whose arguments are these: what is empty is left out, and so is a `want_rows` that is true
abbrev pub stmt_members_of : Stmt → Data → Data → Members
stmt_members_of s args named =
    member_unless (is_empty s.args) (codes "args") args (member_unless (is_empty s.named) (codes "named_args") named (sql_member s.sql (member_unless s.want_rows (codes "want_rows") (boolean false) no_members)))

abbrev pub stmt_object : Stmt → Data → Data → Data
stmt_object s args named = object (stmt_members_of s args named)

abbrev pub stmt_members : Stmt → Members
stmt_members s = stmt_members_of s (array (values_data s.args)) (named_args_data s.named)

abbrev pub stmt_data : Stmt → Data
stmt_data s = object (stmt_members s)
