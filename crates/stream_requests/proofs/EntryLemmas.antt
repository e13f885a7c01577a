-- A tree is one of at most one cursor entry, and what the readers of entries answer.
use Rattle.std.proofs.Common.{◌≡◌, ℕ, ◌<◌, List, [], ◌∷◌, length, get_or, codes, refl, subst, sym, ap, ◌∙◌, lit<}
use Rattle.std.specs.Prelude.{Result, pos}
use Rattle.serde_json.specs.Data.{Data}
use Rattle.hrana_value.proofs.NameLemmas.{RowsDiffer-tested}
use Rattle.hrana_value.proofs.TextLemmas.{one, apart}
use Rattle.hrana_value.specs.declared.failures.Decline.{Decline}
use Rattle.hrana_value.specs.declared.failures.ReadFail.{ReadFail}
use Rattle.hrana_value.specs.Declines.{Reads, NoneStands}
use Rattle.hrana_value.specs.Members.{HasText, part_at, Uint32Tree, Uint32Stands, Uint64Tree, Uint64Stands, FitsUnsigned}
use Rattle.hrana_value.specs.Tree.{Int64TextTree, Int64TextStands}
use Rattle.hrana_value.specs.Trees.{ArrayStands, OptionalStands}
use Rattle.hrana_value.proofs.DeclineLemmas.{Reads-weaken, Reads-same, NoneStands-parts}
use Rattle.hrana_value.proofs.TreeLemmas.{ValueTree-one, ValueTree-none}
use Rattle.hrana_value.specs.Tree.{ValueTree, ValueStands}
use Rattle.hrana_value.proofs.ItemsLemmas.{ArrayTree-one}
use Rattle.hrana_value.proofs.ArrayLemmas.{ArrayTree-none}
use Rattle.hrana_value.proofs.PartLemmas.{OptionalTree-one, OptionalTree-none, Int64TextTree-one, Int64TextTree-none, WholeStands-none}
use Rattle.hrana_stmt.specs.Tree.{ColTree, ColStands, WireErrorStands}
use Rattle.hrana_stmt.proofs.ResultReadings.{ColTree-one, ColTree-none, WireErrorTree-one, WireErrorTree-none}
use Rattle.stream_requests.specs.declared.entries.CursorEntry.{CursorEntry}
use Rattle.stream_requests.specs.declared.entries.CursorEntry.TheVariants.{StepBegin, StepEnd, StepError, Row, Error}
use Rattle.stream_requests.specs.declared.entries.EntryKind.{EntryKind}
use Rattle.stream_requests.specs.declared.entries.EntryKind.TheVariants as kind
use Rattle.stream_requests.specs.Entries.{entry_name, entry_kind, EntryTree, EntryMembers, EntryStands, no_kind, in_members, EntryMembersStand, NoTreeIsTwoEntries, EntriesAreRead}
use Rattle.stream_requests.specs.EntryParts.{IsEntryOf}
use Rattle.stream_requests.proofs.NameLemmas.{one_name}

-- ---- the names of the kinds

abbrev place : EntryKind → ℕ
place kind.StepBegin = 0
place kind.StepEnd = 1
place kind.StepError = 2
place kind.Row = 3
place kind.Error = 4

abbrev all_kinds : List EntryKind
all_kinds = kind.StepBegin ∷ kind.StepEnd ∷ kind.StepError ∷ kind.Row ∷ kind.Error ∷ []

abbrev all_names : List (List ℕ)
all_names = codes "step_begin" ∷ codes "step_end" ∷ codes "step_error" ∷ codes "row" ∷ codes "error" ∷ []

within : (k : EntryKind) → place k < length all_names
within kind.StepBegin = lit< tt
within k = lit< tt

named : (k : EntryKind) → get_or all_names (place k) [] ≡ entry_name k
named kind.StepBegin = refl
named k = refl

placed : (k : EntryKind) → get_or all_kinds (place k) kind.StepBegin ≡ k
placed kind.StepBegin = refl
placed k = refl

entry_name-one : (k l : EntryKind) → entry_name k ≡ entry_name l → k ≡ l
entry_name-one k l e = one_name entry_name place all_names all_kinds kind.StepBegin (RowsDiffer-tested all_names refl) within named placed k l e

-- ---- a tree is one of at most one entry

pub uint32_one : (t : Data) (m n : ℕ) → Uint32Tree m t → Uint32Tree n t → m ≡ n
uint32_one t m n p q = let same : pos m ≡ pos n = one _ _ _ p.is q.is in cc same

uint64_one : (t : Data) (m n : ℕ) → Uint64Tree m t → Uint64Tree n t → m ≡ n
uint64_one t m n p q = let same : pos m ≡ pos n = one _ _ _ p.is q.is in cc same

pub EntryTree-one : NoTreeIsTwoEntries
EntryTree-one t (StepBegin step cols) (StepBegin step' cols') p q =
    ap (λ n. StepBegin n cols) (uint32_one _ step step' p.members.0 q.members.0) ∙ ap (StepBegin step') (ArrayTree-one ColTree ColTree-one _ cols cols' p.members.1 q.members.1)
EntryTree-one t (StepEnd affected rowid) (StepEnd affected' rowid') p q =
    ap (λ n. StepEnd n rowid) (uint64_one _ affected affected' p.members.0 q.members.0) ∙ ap (StepEnd affected') (OptionalTree-one Int64TextTree Int64TextTree-one _ rowid rowid' p.members.1 q.members.1)
EntryTree-one t (StepError step error) (StepError step' error') p q =
    ap (λ n. StepError n error) (uint32_one _ step step' p.members.0 q.members.0) ∙ ap (StepError step') (WireErrorTree-one _ error error' p.members.1 q.members.1)
EntryTree-one t (Row row) (Row row') p q = ap Row (ArrayTree-one ValueTree ValueTree-one _ row row' p.members q.members)
EntryTree-one t (Error error) (Error error') p q = ap Error (WireErrorTree-one _ error error' p.members q.members)
EntryTree-one t e f p q = absurd (apart _ _ _ refl p.kind q.kind)

-- ---- entries are read

pub uint32_none : (n : ℕ) (t : Data) → Uint32Tree n t → NoneStands (Uint32Stands t)
uint32_none n t p = WholeStands-none (FitsUnsigned 32) t (pos n) p.is (n, refl, p.fits)

uint64_none : (n : ℕ) (t : Data) → Uint64Tree n t → NoneStands (Uint64Stands t)
uint64_none n t p = WholeStands-none (FitsUnsigned 64) t (pos n) p.is (n, refl, p.fits)

members_none : (e : CursorEntry) (t : Data) → EntryMembers e t → NoneStands (EntryMembersStand (entry_kind e) t)
members_none (StepBegin step cols) t p =
    NoneStands-parts (Uint32Stands (part_at (codes "step") t)) (ArrayStands ColStands (part_at (codes "cols") t)) (uint32_none step _ p.0) (ArrayTree-none ColTree ColStands ColTree-none cols _ p.1)
members_none (StepEnd affected rowid) t p =
    NoneStands-parts (Uint64Stands (part_at (codes "affected_row_count") t)) (OptionalStands Int64TextStands (part_at (codes "last_insert_rowid") t)) (uint64_none affected _ p.0)
    (OptionalTree-none Int64TextTree Int64TextStands Int64TextTree-none rowid _ p.1)
members_none (StepError step error) t p =
    NoneStands-parts (Uint32Stands (part_at (codes "step") t)) (WireErrorStands (part_at (codes "error") t)) (uint32_none step _ p.0) (WireErrorTree-none error _ p.1)
members_none (Row row) t p = ArrayTree-none ValueTree ValueStands ValueTree-none row _ p
members_none (Error error) t p = WireErrorTree-none error _ p

-- what stands in a tree of this kind
of_kind : (k : EntryKind) (t : Data) (d : Decline) → HasText t (codes "type") (entry_name k) → EntryStands t d → EntryMembersStand k t d
of_kind k t d is (no_kind shape none) = absurd (none k is)
of_kind k t d is (in_members l named members) = subst (λ j. EntryMembersStand j t d) (entry_name-one l k (one _ _ _ named is)) members

pub EntryTree-none : EntriesAreRead
EntryTree-none e t p d here = members_none e t p.members d (of_kind (entry_kind e) t d p.kind here)

-- ---- readings

pub entry_read : (k : EntryKind) (t : Data) (r : Result CursorEntry ReadFail) → HasText t (codes "type") (entry_name k) → Reads (λ e. IsEntryOf k e t) (EntryMembersStand k t) r → Reads (λ e. EntryTree e t) (EntryStands t) r
entry_read k t r is reads =
    Reads-weaken (λ e. IsEntryOf k e t) (λ e. EntryTree e t) (EntryStands t) r (λ e h. record { kind = subst (λ j. HasText t (codes "type") (entry_name j)) (sym h.kind) is; members = h.members })
    (Reads-same (λ e. IsEntryOf k e t) (EntryMembersStand k t) (EntryStands t) r (λ d here. in_members k is here) (λ d here. of_kind k t d is here) reads)
