-- Which members a reply may be written as, and which declines stand in members that should be those of a reply.
use Rattle.std.specs.Prelude.{◌≡◌, Bool, Option, None, Some, codes}
use Rattle.serde_json.specs.Data.{Data, Members, member, boolean}
use Rattle.serde_json.specs.Find.{as_bool}
use Rattle.hrana_value.specs.declared.failures.Decline.{Decline}
use Rattle.hrana_value.specs.declared.failures.Decline.TheVariants.{Shape}
use Rattle.hrana_value.specs.Declines.{NoneStands, EitherStands, Only}
use Rattle.hrana_value.specs.Members.{part_at}
use Rattle.hrana_value.specs.Trees.{ArrayTree, ArrayStands}
use Rattle.hrana_stmt.specs.Tree.{StmtResultTree, StmtResultStands}
use Rattle.hrana_stmt.specs.Written.{result_data}
use Rattle.hrana_batch.specs.Tree.{BatchResultTree, BatchResultStands}
use Rattle.hrana_batch.specs.Written.{batch_result_data}
use Rattle.stream_requests.specs.declared.asks.AskKind.{AskKind}
use Rattle.stream_requests.specs.declared.asks.AskKind.TheVariants as kind
use Rattle.stream_requests.specs.declared.replies.Reply.{Reply}
use Rattle.stream_requests.specs.declared.replies.Reply.TheVariants.{Execute, Batch, Sequence, Cursor, Fetched, CursorClosed, Autocommit, SqlStored, SqlClosed, Closed}
use Rattle.stream_requests.specs.Asks.{NothingStands}
use Rattle.stream_requests.specs.Entries.{EntryTree, EntryStands}
use Rattle.stream_requests.specs.WrittenEntries.{entries_data}

-- the kind of ask that a reply answers; opening a stream is no ask, and a failure answers any
abbrev pub answered_kind : Reply → Option AskKind
answered_kind (Execute r) = Some kind.Execute
answered_kind (Batch r) = Some kind.Batch
answered_kind Sequence = Some kind.Sequence
answered_kind Cursor = Some kind.Cursor
answered_kind (Fetched entries done) = Some kind.Fetch
answered_kind CursorClosed = Some kind.CloseCursor
answered_kind (Autocommit auto) = Some kind.GetAutocommit
answered_kind SqlStored = Some kind.StoreSql
answered_kind SqlClosed = Some kind.CloseSql
answered_kind Closed = Some kind.Close
answered_kind r = None

abbrev pub BooleanTree : Bool → Data → Type 0
BooleanTree b t = as_bool t ≡ Some b

abbrev pub BooleanStands : Data → Decline → Type 0
BooleanStands t = Only Shape (as_bool t ≡ None)

-- the members of a reply besides its `type`
abbrev pub ReplyMembers : Reply → Data → Type 0
ReplyMembers (Execute r) t = StmtResultTree r (part_at (codes "result") t)
ReplyMembers (Batch r) t = BatchResultTree r (part_at (codes "result") t)
ReplyMembers (Fetched entries done) t = ArrayTree EntryTree entries (part_at (codes "entries") t) × BooleanTree done (part_at (codes "done") t)
ReplyMembers (Autocommit auto) t = BooleanTree auto (part_at (codes "is_autocommit") t)
ReplyMembers r t = Unit {0}

-- the reply answers asks of this kind, and its members stand in the tree
pub record IsReplyTo (k : AskKind) (r : Reply) (t : Data) : Type 0 where
  pub answers : answered_kind r ≡ Some k
  pub members : ReplyMembers r t

-- what stands in the members of a reply to asks of this kind
abbrev pub ReplyMembersStand : AskKind → Data → Decline → Type 0
ReplyMembersStand kind.Execute t = StmtResultStands (part_at (codes "result") t)
ReplyMembersStand kind.Batch t = BatchResultStands (part_at (codes "result") t)
ReplyMembersStand kind.Fetch t = EitherStands (ArrayStands EntryStands (part_at (codes "entries") t)) (BooleanStands (part_at (codes "done") t))
ReplyMembersStand kind.GetAutocommit t = BooleanStands (part_at (codes "is_autocommit") t)
ReplyMembersStand k t = NothingStands

-- ---- what is written

-- the members of a reply in byte order, before members that come after all of them
abbrev pub reply_front : Reply → Members → Members
reply_front (Execute r) ms = member (codes "result") (result_data r) ms
reply_front (Batch r) ms = member (codes "result") (batch_result_data r) ms
reply_front (Fetched entries done) ms = member (codes "done") (boolean done) (member (codes "entries") (entries_data entries) ms)
reply_front (Autocommit auto) ms = member (codes "is_autocommit") (boolean auto) ms
reply_front r ms = ms

-- what is written is a form of the reply
abbrev pub ReplyReadsBack : Reply → Type 0
ReplyReadsBack (Execute r) = StmtResultTree r (result_data r)
ReplyReadsBack (Batch r) = BatchResultTree r (batch_result_data r)
ReplyReadsBack (Fetched entries done) = ArrayTree EntryTree entries (entries_data entries)
ReplyReadsBack r = Unit {0}

-- ---- laws

-- members are those of at most one reply to asks of a kind
abbrev pub NoMembersAreTwoReplies : Type 0
NoMembersAreTwoReplies = (t : Data) (k : AskKind) (r s : Reply) → IsReplyTo k r t → IsReplyTo k s t → r ≡ s

-- nothing is declined in the members of a reply
abbrev pub RepliesAreRead : Type 0
RepliesAreRead = (t : Data) (k : AskKind) (r : Reply) → IsReplyTo k r t → NoneStands (ReplyMembersStand k t)
