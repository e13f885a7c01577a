-- Members are those of at most one ask of a kind, and are read where the ask breaks no limit.
use Rattle.std.proofs.Common.{◌≡◌, inl, inr, ℕ, ℤ, ◌<◌, ◌≤◌, List, length, codes, refl, subst, sym, ap, ◌∙◌, arith}
use Rattle.std.specs.Prelude.{Result, IsSomeAnd, FitsSigned}
use Rattle.std.specs.Int.{w32}
use Rattle.std.proofs.lemmas.Bool.{cases_lt}
use Rattle.serde_json.specs.Data.{Data}
use Rattle.serde_json.specs.Find.{as_str}
use Rattle.hrana_value.specs.declared.failures.Decline.TheVariants.{Range}
use Rattle.hrana_value.specs.declared.failures.ReadFail.{ReadFail}
use Rattle.hrana_value.specs.Declines.{Reads, NoneStands, EitherStands, Only}
use Rattle.hrana_value.specs.Members.{part_at, Int32Tree, Int32Stands, TextTree, TextStands}
use Rattle.hrana_value.proofs.TextLemmas.{one}
use Rattle.hrana_value.proofs.DeclineLemmas.{NoneStands-parts}
use Rattle.hrana_value.proofs.PartLemmas.{TextTree-none, WholeStands-none}
use Rattle.hrana_stmt.specs.declared.limits.TheConstants.{MAX_SQL_BYTES}
use Rattle.hrana_stmt.proofs.StmtLemmas.{StmtTree-one, StmtTree-fits, SqlTree-one, sql_none, sql_fits}
use Rattle.hrana_batch.specs.Tree.{NoTreeIsTwoBatches, FittingBatchesAreRead}
use Rattle.stream_requests.specs.declared.asks.Ask.TheVariants.{Execute, Batch, Sequence, Cursor, Fetch, CloseCursor, GetAutocommit, StoreSql, CloseSql, Close}
use Rattle.stream_requests.specs.declared.asks.AskKind.TheVariants as kind
use Rattle.stream_requests.specs.Asks.{AskMembersStand, StoredTextStands, NoMembersAreTwoAsks, FittingAsksAreRead}
use Rattle.stream_requests.proofs.EntryLemmas.{uint32_one, uint32_none}

-- ---- at most one ask

pub int32_one : (t : Data) (y z : ℤ) → Int32Tree y t → Int32Tree z t → y ≡ z
int32_one t y z p q = one _ _ _ p.is q.is

pub AskMembers-one : NoTreeIsTwoBatches → NoMembersAreTwoAsks
AskMembers-one batches t (Execute stmt) (Execute stmt') e p q = ap Execute (StmtTree-one _ stmt stmt' p q)
AskMembers-one batches t (Batch batch) (Batch batch') e p q = ap Batch (batches (part_at (codes "batch") t) batch batch' p q)
AskMembers-one batches t (Sequence sql) (Sequence sql') e p q = ap Sequence (SqlTree-one t sql sql' p q)
AskMembers-one batches t (Cursor batch) (Cursor batch') e p q = ap Cursor (batches (part_at (codes "batch") t) batch batch' p q)
AskMembers-one batches t (Fetch count) (Fetch count') e p q = ap Fetch (uint32_one _ count count' p q)
AskMembers-one batches t CloseCursor CloseCursor e p q = refl
AskMembers-one batches t GetAutocommit GetAutocommit e p q = refl
AskMembers-one batches t (StoreSql id sql) (StoreSql id' sql') e p q =
    ap (λ z. StoreSql z sql) (int32_one _ id id' p.0 q.0) ∙ ap (StoreSql id') (one (as_str (part_at (codes "sql") t)) sql sql' p.1 q.1)
AskMembers-one batches t (CloseSql id) (CloseSql id') e p q = ap CloseSql (int32_one _ id id' p q)
AskMembers-one batches t Close Close e p q = refl
AskMembers-one batches t a b e p q = cc e

-- ---- asks are read

pub int32_none : (z : ℤ) (t : Data) → Int32Tree z t → NoneStands (Int32Stands t)
int32_none z t p = WholeStands-none (FitsSigned w32) t z p.is p.fits

stored_none : (s : List ℕ) (t : Data) → TextTree s t → length s ≤ MAX_SQL_BYTES → NoneStands (StoredTextStands t)
stored_none s t is fits =
    NoneStands-parts (TextStands t) (Only Range (IsSomeAnd (as_str t) (λ r. MAX_SQL_BYTES < length r))) (TextTree-none s t is)
    (λ k here. let long : MAX_SQL_BYTES < length s = subst (λ o. IsSomeAnd o (λ r. MAX_SQL_BYTES < length r)) is here.1 in absurd (omega arith))

stored_fits : (s : List ℕ) (t : Data) → TextTree s t → NoneStands (StoredTextStands t) → length s ≤ MAX_SQL_BYTES
stored_fits s t is none = elim (cases_lt MAX_SQL_BYTES (length s)) [
  | inl long ↦ absurd (none Range (inr (refl, subst (λ o. IsSomeAnd o (λ r. MAX_SQL_BYTES < length r)) (sym is) long)))
  | inr fits ↦ fits
]

pub AskMembers-fits : FittingBatchesAreRead → FittingAsksAreRead
AskMembers-fits batches (Execute stmt) t p = StmtTree-fits stmt _ p
AskMembers-fits batches (Batch batch) t p = batches batch (part_at (codes "batch") t) p
AskMembers-fits batches (Sequence sql) t p = (sql_none sql t p, sql_fits sql t p)
AskMembers-fits batches (Cursor batch) t p = batches batch (part_at (codes "batch") t) p
AskMembers-fits batches (Fetch count) t p = (λ _. uint32_none count _ p, λ _. tt)
AskMembers-fits batches CloseCursor t p = (λ _ k here. here, λ _. tt)
AskMembers-fits batches GetAutocommit t p = (λ _ k here. here, λ _. tt)
AskMembers-fits batches (StoreSql id sql) t p =
    let i = part_at (codes "sql_id") t in let s = part_at (codes "sql") t in
    (λ fits. NoneStands-parts (Int32Stands i) (StoredTextStands s) (int32_none id i p.0) (stored_none sql s p.1 fits), λ none. stored_fits sql s p.1 (λ k here. none k (inr here)))
AskMembers-fits batches (CloseSql id) t p = (λ _. int32_none id _ p, λ _. tt)
AskMembers-fits batches Close t p = (λ _ k here. here, λ _. tt)

-- ---- readings

pub stored_read : (t i s : Data) (answer : Result (ℤ × List ℕ) ReadFail) → i ≡ part_at (codes "sql_id") t → s ≡ part_at (codes "sql") t
    → Reads (λ r. Int32Tree r.0 i × TextTree r.1 s) (EitherStands (Int32Stands i) (StoredTextStands s)) answer
    → Reads (λ r. Int32Tree r.0 (part_at (codes "sql_id") t) × TextTree r.1 (part_at (codes "sql") t)) (AskMembersStand kind.StoreSql t) answer
stored_read t i s answer p q reads =
    let by_id = subst (λ d. Reads (λ r. Int32Tree r.0 d × TextTree r.1 s) (EitherStands (Int32Stands d) (StoredTextStands s)) answer) p reads in
    subst (λ d. Reads (λ r. Int32Tree r.0 (part_at (codes "sql_id") t) × TextTree r.1 d) (EitherStands (Int32Stands (part_at (codes "sql_id") t)) (StoredTextStands d)) answer) q by_id
