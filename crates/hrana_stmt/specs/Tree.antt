-- Which JSON trees statements, results and errors may be written as, and which declines stand in a tree that should
-- be one.
use Rattle.std.specs.Prelude.{◌≡◌, ◌⊎◌, ◌↔◌, ℕ, suc, ◌+◌, ◌≤◌, ◌<◌, Bool, true, List, length, None, codes, IsSomeAnd, FitsSigned}
use Rattle.std.specs.Int.{w32}
use Rattle.serde_json.specs.Data.{Data, null, boolean, array, object, Items, no_items, item}
use Rattle.serde_json.specs.Find.{as_str}
use Rattle.hrana_value.specs.declared.failures.Decline.{Decline}
use Rattle.hrana_value.specs.declared.failures.Decline.TheVariants.{Shape, BothSql, Range}
use Rattle.hrana_value.specs.declared.value.Value.{Value}
use Rattle.hrana_value.specs.Declines.{NoneStands, EitherStands, Only}
use Rattle.hrana_value.specs.Members.{HasText, HasInt32, IsAbsent, part_at, whole_of, TextTree, TextStands, Uint64Tree, Uint64Stands}
use Rattle.hrana_value.specs.Tree.{ValueTree, ValueStands, Int64TextTree, Int64TextStands}
use Rattle.hrana_value.specs.Trees.{ArrayTree, ArrayStands, OptionalArrayTree, OptionalArrayStands, OptionalTree, OptionalStands}
use Rattle.hrana_stmt.specs.declared.limits.TheConstants.{MAX_SQL_BYTES, MAX_ARGUMENTS}
use Rattle.hrana_stmt.specs.declared.statements.SqlRef.{SqlRef}
use Rattle.hrana_stmt.specs.declared.statements.SqlRef.TheVariants.{Text, Id}
use Rattle.hrana_stmt.specs.declared.statements.NamedArg.{NamedArg}
use Rattle.hrana_stmt.specs.declared.statements.Stmt.{Stmt}
use Rattle.hrana_stmt.specs.declared.results.Col.{Col}
use Rattle.hrana_stmt.specs.declared.results.StmtResult.{StmtResult}
use Rattle.hrana_stmt.specs.declared.errors.WireError.{WireError}

-- ---- objects

abbrev pub IsObject : Data → Type 0
IsObject (object ms) = Unit {0}
IsObject other = ⊥

abbrev pub ObjectStands : Data → Decline → Type 0
ObjectStands t = Only Shape (IsObject t → ⊥)

-- ---- `sql` or `sql_id`

-- one of the two, and never both
abbrev pub SqlTree : SqlRef → Data → Type 0
SqlTree (Text s) t = HasText t (codes "sql") s × IsAbsent t (codes "sql_id")
SqlTree (Id z) t = HasInt32 t (codes "sql_id") z × IsAbsent t (codes "sql")

-- an SQL text is within its limit
abbrev pub IsWithinSqlLimit : SqlRef → Type 0
IsWithinSqlLimit (Text s) = length s ≤ MAX_SQL_BYTES
IsWithinSqlLimit (Id z) = Unit {0}

abbrev pub IsGiven : Data → Type 0
IsGiven part = part ≡ null → ⊥

-- what stands in these two parts
abbrev pub SqlPartsStand : Data → Data → Decline → Type 0
SqlPartsStand sql id Shape = (IsGiven sql × (as_str sql ≡ None)) ⊎ (IsGiven id × (whole_of id ≡ None))
SqlPartsStand sql id BothSql = ((sql ≡ null) × (id ≡ null)) ⊎ (IsGiven sql × IsGiven id)
SqlPartsStand sql id Range = IsSomeAnd (as_str sql) (λ s. MAX_SQL_BYTES < length s) ⊎ IsSomeAnd (whole_of id) (λ z. FitsSigned w32 z → ⊥)
SqlPartsStand sql id kind = ⊥

abbrev pub SqlStands : Data → Decline → Type 0
SqlStands t = SqlPartsStand (part_at (codes "sql") t) (part_at (codes "sql_id") t)

-- ---- arguments

pub record NamedArgTree (a : NamedArg) (t : Data) : Type 0 where
  pub name : HasText t (codes "name") a.name
  pub value : ValueTree a.value (part_at (codes "value") t)

abbrev pub NamedArgStands : Data → Decline → Type 0
NamedArgStands t = EitherStands (TextStands (part_at (codes "name") t)) (ValueStands (part_at (codes "value") t))

abbrev pub items_count : Items → ℕ
items_count no_items = 0
items_count (item d ds) = suc (items_count ds)

-- the number of items, where the part is an array
abbrev pub count_of : Data → ℕ
count_of (array ds) = items_count ds
count_of other = 0

-- what stands in the arguments of both kinds, whose number has a limit
abbrev pub ArgumentsStand : Data → Data → Decline → Type 0
ArgumentsStand args named = EitherStands (EitherStands (OptionalArrayStands ValueStands args) (OptionalArrayStands NamedArgStands named)) (Only Range (MAX_ARGUMENTS < count_of args + count_of named))

-- ---- statements

-- true where the part is missing or null
abbrev pub WantsRowsTree : Bool → Data → Type 0
WantsRowsTree wanted null = wanted ≡ true
WantsRowsTree wanted (boolean b) = wanted ≡ b
WantsRowsTree wanted other = ⊥

abbrev pub WantsRowsStands : Data → Decline → Type 0
WantsRowsStands t = Only Shape ((wanted : Bool) → WantsRowsTree wanted t → ⊥)

pub record StmtTree (s : Stmt) (t : Data) : Type 0 where
  pub sql : SqlTree s.sql t
  pub args : OptionalArrayTree ValueTree s.args (part_at (codes "args") t)
  pub named : OptionalArrayTree NamedArgTree s.named (part_at (codes "named_args") t)
  pub want_rows : WantsRowsTree s.want_rows (part_at (codes "want_rows") t)

-- the statement breaks no limit
pub record StmtFits (s : Stmt) : Type 0 where
  pub sql : IsWithinSqlLimit s.sql
  pub args : length s.args + length s.named ≤ MAX_ARGUMENTS

abbrev pub StmtHeadStands : Data → Decline → Type 0
StmtHeadStands t = EitherStands (EitherStands (ObjectStands t) (SqlStands t)) (WantsRowsStands (part_at (codes "want_rows") t))

-- what stands in a statement: in the object itself, in `sql` and `sql_id`, in `want_rows`, or in the arguments
abbrev pub StmtStands : Data → Decline → Type 0
StmtStands t = EitherStands (StmtHeadStands t) (ArgumentsStand (part_at (codes "args") t) (part_at (codes "named_args") t))

-- ---- results

pub record ColTree (c : Col) (t : Data) : Type 0 where
  pub is_object : IsObject t
  pub name : OptionalTree TextTree c.name (part_at (codes "name") t)

abbrev pub ColStands : Data → Decline → Type 0
ColStands t = EitherStands (ObjectStands t) (OptionalStands TextStands (part_at (codes "name") t))

abbrev pub RowTree : List Value → Data → Type 0
RowTree row t = ArrayTree ValueTree row t

abbrev pub RowStands : Data → Decline → Type 0
RowStands t = ArrayStands ValueStands t

pub record StmtResultTree (r : StmtResult) (t : Data) : Type 0 where
  pub cols : ArrayTree ColTree r.cols (part_at (codes "cols") t)
  pub rows : ArrayTree RowTree r.rows (part_at (codes "rows") t)
  pub affected : Uint64Tree r.affected (part_at (codes "affected_row_count") t)
  pub last_rowid : OptionalTree Int64TextTree r.last_rowid (part_at (codes "last_insert_rowid") t)

abbrev pub StmtResultStands : Data → Decline → Type 0
StmtResultStands t =
    EitherStands (EitherStands (ArrayStands ColStands (part_at (codes "cols") t)) (ArrayStands RowStands (part_at (codes "rows") t)))
    (EitherStands (Uint64Stands (part_at (codes "affected_row_count") t)) (OptionalStands Int64TextStands (part_at (codes "last_insert_rowid") t)))

-- ---- errors

pub record WireErrorTree (e : WireError) (t : Data) : Type 0 where
  pub message : HasText t (codes "message") e.message
  pub code : OptionalTree TextTree e.code (part_at (codes "code") t)

abbrev pub WireErrorStands : Data → Decline → Type 0
WireErrorStands t = EitherStands (TextStands (part_at (codes "message") t)) (OptionalStands TextStands (part_at (codes "code") t))

-- ---- laws

-- a tree is the form of at most one statement
abbrev pub NoTreeIsTwoStatements : Type 0
NoTreeIsTwoStatements = (t : Data) (s r : Stmt) → StmtTree s t → StmtTree r t → s ≡ r

-- a tree is the form of at most one result
abbrev pub NoTreeIsTwoResults : Type 0
NoTreeIsTwoResults = (t : Data) (s r : StmtResult) → StmtResultTree s t → StmtResultTree r t → s ≡ r

-- a tree is the form of at most one error
abbrev pub NoTreeIsTwoErrors : Type 0
NoTreeIsTwoErrors = (t : Data) (e f : WireError) → WireErrorTree e t → WireErrorTree f t → e ≡ f

-- nothing is declined in the form of a statement exactly where the statement breaks no limit
abbrev pub FittingStatementsAreRead : Type 0
FittingStatementsAreRead = (s : Stmt) (t : Data) → StmtTree s t → StmtFits s ↔ NoneStands (StmtStands t)

-- nothing is declined in the form of a result
abbrev pub ResultsAreRead : Type 0
ResultsAreRead = (r : StmtResult) (t : Data) → StmtResultTree r t → NoneStands (StmtResultStands t)

-- nothing is declined in the form of an error
abbrev pub ErrorsAreRead : Type 0
ErrorsAreRead = (e : WireError) (t : Data) → WireErrorTree e t → NoneStands (WireErrorStands t)
