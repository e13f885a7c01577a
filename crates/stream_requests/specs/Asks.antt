-- Which members an ask may be written as, and which declines stand in members that should be those of an ask.
use Rattle.std.specs.Prelude.{◌≡◌, ◌↔◌, ◌≤◌, ◌<◌, ◌^◌, length, codes, IsSomeAnd, FitsSigned}
use Rattle.std.specs.Int.{w32}
use Rattle.serde_json.specs.Data.{Data, Members, member, number, unsigned, string}
use Rattle.serde_json.specs.Find.{as_str, of_integer}
use Rattle.hrana_value.specs.declared.failures.Decline.{Decline}
use Rattle.hrana_value.specs.declared.failures.Decline.TheVariants.{Range}
use Rattle.hrana_value.specs.Declines.{NoneStands, EitherStands, Only}
use Rattle.hrana_value.specs.Members.{part_at, TextTree, TextStands, Int32Tree, Int32Stands, Uint32Tree, Uint32Stands}
use Rattle.hrana_stmt.specs.declared.limits.TheConstants.{MAX_SQL_BYTES}
use Rattle.hrana_stmt.specs.Tree.{StmtTree, StmtStands, StmtFits, SqlTree, SqlStands, IsWithinSqlLimit}
use Rattle.hrana_stmt.specs.Written.{stmt_data, sql_member}
use Rattle.hrana_stmt.specs.Puts.{SqlIdFits}
use Rattle.hrana_batch.specs.Tree.{BatchTree, BatchStands, BatchFits}
use Rattle.hrana_batch.specs.Written.{batch_data}
use Rattle.stream_requests.specs.declared.asks.Ask.{Ask}
use Rattle.stream_requests.specs.declared.asks.Ask.TheVariants.{Execute, Batch, Sequence, Cursor, Fetch, CloseCursor, GetAutocommit, StoreSql, CloseSql, Close}
use Rattle.stream_requests.specs.declared.asks.AskKind.{AskKind}
use Rattle.stream_requests.specs.declared.asks.AskKind.TheVariants as kind

abbrev pub ask_kind : Ask → AskKind
ask_kind (Execute stmt) = kind.Execute
ask_kind (Batch batch) = kind.Batch
ask_kind (Sequence sql) = kind.Sequence
ask_kind (Cursor batch) = kind.Cursor
ask_kind (Fetch count) = kind.Fetch
ask_kind CloseCursor = kind.CloseCursor
ask_kind GetAutocommit = kind.GetAutocommit
ask_kind (StoreSql id sql) = kind.StoreSql
ask_kind (CloseSql id) = kind.CloseSql
ask_kind Close = kind.Close

-- the members of an ask besides its `type` and the ids of its stream and its cursor
abbrev pub AskMembers : Ask → Data → Type 0
AskMembers (Execute stmt) t = StmtTree stmt (part_at (codes "stmt") t)
AskMembers (Batch batch) t = BatchTree batch (part_at (codes "batch") t)
AskMembers (Sequence sql) t = SqlTree sql t
AskMembers (Cursor batch) t = BatchTree batch (part_at (codes "batch") t)
AskMembers (Fetch count) t = Uint32Tree count (part_at (codes "max_count") t)
AskMembers (StoreSql id sql) t = Int32Tree id (part_at (codes "sql_id") t) × TextTree sql (part_at (codes "sql") t)
AskMembers (CloseSql id) t = Int32Tree id (part_at (codes "sql_id") t)
AskMembers a t = Unit {0}

-- the ask is of this kind, and its members stand in the tree
pub record IsAskOf (k : AskKind) (a : Ask) (t : Data) : Type 0 where
  pub kind : ask_kind a ≡ k
  pub members : AskMembers a t

abbrev pub NothingStands : Decline → Type 0
NothingStands d = ⊥

-- a text that is to be stored has a greatest length
abbrev pub StoredTextStands : Data → Decline → Type 0
StoredTextStands t = EitherStands (TextStands t) (Only Range (IsSomeAnd (as_str t) (λ s. MAX_SQL_BYTES < length s)))

-- what stands in the members of an ask of this kind
abbrev pub AskMembersStand : AskKind → Data → Decline → Type 0
AskMembersStand kind.Execute t = StmtStands (part_at (codes "stmt") t)
AskMembersStand kind.Batch t = BatchStands (part_at (codes "batch") t)
AskMembersStand kind.Sequence t = SqlStands t
AskMembersStand kind.Cursor t = BatchStands (part_at (codes "batch") t)
AskMembersStand kind.Fetch t = Uint32Stands (part_at (codes "max_count") t)
AskMembersStand kind.StoreSql t = EitherStands (Int32Stands (part_at (codes "sql_id") t)) (StoredTextStands (part_at (codes "sql") t))
AskMembersStand kind.CloseSql t = Int32Stands (part_at (codes "sql_id") t)
AskMembersStand k t = NothingStands

-- the ask breaks no limit, and the conditions of its batch name earlier steps
abbrev pub AskFits : Ask → Type 0
AskFits (Execute stmt) = StmtFits stmt
AskFits (Batch batch) = BatchFits batch
AskFits (Sequence sql) = IsWithinSqlLimit sql
AskFits (Cursor batch) = BatchFits batch
AskFits (StoreSql id sql) = length sql ≤ MAX_SQL_BYTES
AskFits a = Unit {0}

-- ---- what is written

-- the members of an ask in byte order, before members that come after all of them
abbrev pub ask_front : Ask → Members → Members
ask_front (Execute stmt) ms = member (codes "stmt") (stmt_data stmt) ms
ask_front (Batch batch) ms = member (codes "batch") (batch_data batch) ms
ask_front (Sequence sql) ms = sql_member sql ms
ask_front (Cursor batch) ms = member (codes "batch") (batch_data batch) ms
ask_front (Fetch count) ms = member (codes "max_count") (number (unsigned count)) ms
ask_front (StoreSql id sql) ms = member (codes "sql") (string sql) (member (codes "sql_id") (number (of_integer id)) ms)
ask_front (CloseSql id) ms = member (codes "sql_id") (number (of_integer id)) ms
ask_front a ms = ms

-- what is written is a form of the ask
abbrev pub AskReadsBack : Ask → Type 0
AskReadsBack (Execute stmt) = StmtTree stmt (stmt_data stmt)
AskReadsBack (Batch batch) = BatchTree batch (batch_data batch)
AskReadsBack (Sequence sql) = SqlIdFits sql
AskReadsBack (Cursor batch) = BatchTree batch (batch_data batch)
AskReadsBack (Fetch count) = count < 2 ^ 32
AskReadsBack (StoreSql id sql) = FitsSigned w32 id
AskReadsBack (CloseSql id) = FitsSigned w32 id
AskReadsBack a = Unit {0}

-- ---- laws

-- members are those of at most one ask of a kind
abbrev pub NoMembersAreTwoAsks : Type 0
NoMembersAreTwoAsks = (t : Data) (a b : Ask) → ask_kind a ≡ ask_kind b → AskMembers a t → AskMembers b t → a ≡ b

-- nothing is declined in the members of an ask exactly where the ask breaks no limit
abbrev pub FittingAsksAreRead : Type 0
FittingAsksAreRead = (a : Ask) (t : Data) → AskMembers a t → AskFits a ↔ NoneStands (AskMembersStand (ask_kind a) t)
