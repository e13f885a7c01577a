-- Forms of messages by the parts of an object.
use Rattle.std.specs.Prelude.{◌≡◌, Bool}
use Rattle.serde_json.specs.Data.{Data, null}
use Rattle.hrana_value.specs.Members.{TextTree, Int32Tree}
use Rattle.hrana_value.specs.Tree.{ValueTree}
use Rattle.hrana_value.specs.Trees.{OptionalArrayTree}
use Rattle.hrana_value.specs.Declines.{EitherStands}
use Rattle.hrana_value.specs.declared.failures.Decline.{Decline}
use Rattle.hrana_stmt.specs.Tree.{SqlTree, SqlStands, ObjectStands, WantsRowsTree, WantsRowsStands, NamedArgTree, ArgumentsStand}
use Rattle.hrana_stmt.specs.declared.statements.Stmt.{Stmt}
use Rattle.hrana_stmt.specs.declared.statements.SqlRef.{SqlRef}
use Rattle.hrana_stmt.specs.declared.statements.SqlRef.TheVariants.{Text, Id}

-- `SqlTree` of the parts `sql` and `sql_id`
abbrev pub SqlPartsTree : SqlRef → Data → Data → Type 0
SqlPartsTree (Text s) sql id = TextTree s sql × (id ≡ null)
SqlPartsTree (Id z) sql id = Int32Tree z id × (sql ≡ null)

-- `sql` or `sql_id` of an object, and its part `want_rows`
abbrev pub HeadTree : SqlRef → Bool → Data → Data → Type 0
HeadTree sql wanted t want_rows = SqlTree sql t × WantsRowsTree wanted want_rows

-- `StmtTree` of an object and its parts
pub record StmtPartsTree (s : Stmt) (t args named want_rows : Data) : Type 0 where
  pub head : HeadTree s.sql s.want_rows t want_rows
  pub arguments : OptionalArrayTree ValueTree s.args args × OptionalArrayTree NamedArgTree s.named named

abbrev pub HeadStands : Data → Data → Decline → Type 0
HeadStands t want_rows = EitherStands (EitherStands (ObjectStands t) (SqlStands t)) (WantsRowsStands want_rows)

abbrev pub StmtPartsStand : Data → Data → Data → Data → Decline → Type 0
StmtPartsStand t args named want_rows = EitherStands (HeadStands t want_rows) (ArgumentsStand args named)
