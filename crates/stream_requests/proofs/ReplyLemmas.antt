-- Members are those of at most one reply to asks of a kind, and are read.
use Rattle.std.proofs.Common.{◌≡◌, Some, Bool, codes, refl, subst, sym, ap, ◌∙◌}
use Rattle.serde_json.specs.Data.{Data}
use Rattle.serde_json.specs.Find.{as_bool}
use Rattle.hrana_value.specs.Declines.{NoneStands}
use Rattle.hrana_value.specs.Members.{part_at}
use Rattle.hrana_value.specs.Trees.{ArrayStands}
use Rattle.hrana_value.proofs.TextLemmas.{one}
use Rattle.hrana_value.proofs.ItemsLemmas.{ArrayTree-one}
use Rattle.hrana_value.proofs.ArrayLemmas.{ArrayTree-none}
use Rattle.hrana_value.proofs.DeclineLemmas.{NoneStands-parts}
use Rattle.hrana_stmt.proofs.ResultReadings.{StmtResultTree-one, StmtResultTree-none}
use Rattle.hrana_batch.specs.Tree.{NoTreeIsTwoBatchResults, BatchResultsAreRead}
use Rattle.stream_requests.specs.declared.asks.AskKind.{AskKind}
use Rattle.stream_requests.specs.declared.asks.AskKind.TheVariants as kind
use Rattle.stream_requests.specs.declared.replies.Reply.{Reply}
use Rattle.stream_requests.specs.declared.replies.Reply.TheVariants.{StreamOpened, Execute, Batch, Sequence, Cursor, Fetched, CursorClosed, Autocommit, SqlStored, SqlClosed, Closed, Failed}
use Rattle.stream_requests.specs.Entries.{EntryTree, EntryStands}
use Rattle.stream_requests.specs.Replies.{answered_kind, BooleanTree, BooleanStands, ReplyMembers, ReplyMembersStand, NoMembersAreTwoReplies, RepliesAreRead}
use Rattle.stream_requests.proofs.EntryLemmas.{EntryTree-one, EntryTree-none}

-- ---- at most one reply

pub ReplyMembers-one : NoTreeIsTwoBatchResults → NoMembersAreTwoReplies
ReplyMembers-one results t k StreamOpened s p q = cc p.answers
ReplyMembers-one results t k (Failed e) s p q = cc p.answers
ReplyMembers-one results t k (Execute r) (Execute s) p q = ap Execute (StmtResultTree-one _ r s p.members q.members)
ReplyMembers-one results t k (Batch r) (Batch s) p q = ap Batch (results (part_at (codes "result") t) r s p.members q.members)
ReplyMembers-one results t k Sequence Sequence p q = refl
ReplyMembers-one results t k Cursor Cursor p q = refl
ReplyMembers-one results t k (Fetched entries done) (Fetched entries' done') p q =
    ap (λ l. Fetched l done) (ArrayTree-one EntryTree EntryTree-one _ entries entries' p.members.0 q.members.0) ∙ ap (Fetched entries') (one (as_bool (part_at (codes "done") t)) done done' p.members.1 q.members.1)
ReplyMembers-one results t k CursorClosed CursorClosed p q = refl
ReplyMembers-one results t k (Autocommit auto) (Autocommit auto') p q = ap Autocommit (one (as_bool (part_at (codes "is_autocommit") t)) auto auto' p.members q.members)
ReplyMembers-one results t k SqlStored SqlStored p q = refl
ReplyMembers-one results t k SqlClosed SqlClosed p q = refl
ReplyMembers-one results t k Closed Closed p q = refl
ReplyMembers-one results t k r s p q = cc (p.answers ∙ sym q.answers)

-- ---- replies are read

boolean_none : (b : Bool) (t : Data) → BooleanTree b t → NoneStands (BooleanStands t)
boolean_none b t is = λ k here. cc (sym is ∙ here.1)

same_kind : (j k : AskKind) → Some j ≡ Some k → j ≡ k
same_kind j k e = cc e

none_of : (t : Data) (j k : AskKind) → Some j ≡ Some k → NoneStands (ReplyMembersStand j t) → NoneStands (ReplyMembersStand k t)
none_of t j k e none = subst (λ i. NoneStands (ReplyMembersStand i t)) (same_kind j k e) none

members_none : BatchResultsAreRead → (t : Data) (k : AskKind) (r : Reply) → answered_kind r ≡ Some k → ReplyMembers r t → NoneStands (ReplyMembersStand k t)
members_none results t k StreamOpened e p = cc e
members_none results t k (Execute r) e p = none_of t kind.Execute k e (StmtResultTree-none r _ p)
members_none results t k (Batch r) e p = none_of t kind.Batch k e (results r (part_at (codes "result") t) p)
members_none results t k Sequence e p = none_of t kind.Sequence k e (λ d here. here)
members_none results t k Cursor e p = none_of t kind.Cursor k e (λ d here. here)
members_none results t k (Fetched entries done) e p =
    none_of t kind.Fetch k e
    (NoneStands-parts (ArrayStands EntryStands (part_at (codes "entries") t)) (BooleanStands (part_at (codes "done") t)) (ArrayTree-none EntryTree EntryStands EntryTree-none entries _ p.0) (boolean_none done _ p.1))
members_none results t k CursorClosed e p = none_of t kind.CloseCursor k e (λ d here. here)
members_none results t k (Autocommit auto) e p = none_of t kind.GetAutocommit k e (boolean_none auto _ p)
members_none results t k SqlStored e p = none_of t kind.StoreSql k e (λ d here. here)
members_none results t k SqlClosed e p = none_of t kind.CloseSql k e (λ d here. here)
members_none results t k Closed e p = none_of t kind.Close k e (λ d here. here)
members_none results t k (Failed f) e p = cc e

pub ReplyMembers-none : BatchResultsAreRead → RepliesAreRead
ReplyMembers-none results t k r p = members_none results t k r p.answers p.members
