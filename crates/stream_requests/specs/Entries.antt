-- Which JSON trees a cursor entry may be written as, and which declines stand in a tree that should be one.
use Rattle.std.specs.Prelude.{◌≡◌, ℕ, List, codes}
use Rattle.serde_json.specs.Data.{Data}
use Rattle.hrana_value.specs.declared.failures.Decline.{Decline}
use Rattle.hrana_value.specs.declared.failures.Decline.TheVariants.{Shape}
use Rattle.hrana_value.specs.Declines.{NoneStands, EitherStands}
use Rattle.hrana_value.specs.Members.{HasText, part_at, Uint32Tree, Uint32Stands, Uint64Tree, Uint64Stands}
use Rattle.hrana_value.specs.Tree.{Int64TextTree, Int64TextStands}
use Rattle.hrana_value.specs.Trees.{ArrayTree, ArrayStands, OptionalTree, OptionalStands}
use Rattle.hrana_stmt.specs.Tree.{ColTree, ColStands, RowTree, RowStands, WireErrorTree, WireErrorStands}
use Rattle.stream_requests.specs.declared.entries.CursorEntry.{CursorEntry}
use Rattle.stream_requests.specs.declared.entries.CursorEntry.TheVariants.{StepBegin, StepEnd, StepError, Row, Error}
use Rattle.stream_requests.specs.declared.entries.EntryKind.{EntryKind}
use Rattle.stream_requests.specs.declared.entries.EntryKind.TheVariants as kind

-- the `type` of each kind of entry
abbrev pub entry_name : EntryKind → List ℕ
entry_name kind.StepBegin = codes "step_begin"
entry_name kind.StepEnd = codes "step_end"
entry_name kind.StepError = codes "step_error"
entry_name kind.Row = codes "row"
entry_name kind.Error = codes "error"

abbrev pub entry_kind : CursorEntry → EntryKind
entry_kind (StepBegin step cols) = kind.StepBegin
entry_kind (StepEnd affected rowid) = kind.StepEnd
entry_kind (StepError step error) = kind.StepError
entry_kind (Row row) = kind.Row
entry_kind (Error error) = kind.Error

-- the members of an entry besides its `type`
abbrev pub EntryMembers : CursorEntry → Data → Type 0
EntryMembers (StepBegin step cols) t = Uint32Tree step (part_at (codes "step") t) × ArrayTree ColTree cols (part_at (codes "cols") t)
EntryMembers (StepEnd affected rowid) t = Uint64Tree affected (part_at (codes "affected_row_count") t) × OptionalTree Int64TextTree rowid (part_at (codes "last_insert_rowid") t)
EntryMembers (StepError step error) t = Uint32Tree step (part_at (codes "step") t) × WireErrorTree error (part_at (codes "error") t)
EntryMembers (Row row) t = RowTree row (part_at (codes "row") t)
EntryMembers (Error error) t = WireErrorTree error (part_at (codes "error") t)

pub record EntryTree (e : CursorEntry) (t : Data) : Type 0 where
  pub kind : HasText t (codes "type") (entry_name (entry_kind e))
  pub members : EntryMembers e t

-- what stands in the members of an entry of this kind
abbrev pub EntryMembersStand : EntryKind → Data → Decline → Type 0
EntryMembersStand kind.StepBegin t = EitherStands (Uint32Stands (part_at (codes "step") t)) (ArrayStands ColStands (part_at (codes "cols") t))
EntryMembersStand kind.StepEnd t = EitherStands (Uint64Stands (part_at (codes "affected_row_count") t)) (OptionalStands Int64TextStands (part_at (codes "last_insert_rowid") t))
EntryMembersStand kind.StepError t = EitherStands (Uint32Stands (part_at (codes "step") t)) (WireErrorStands (part_at (codes "error") t))
EntryMembersStand kind.Row t = RowStands (part_at (codes "row") t)
EntryMembersStand kind.Error t = WireErrorStands (part_at (codes "error") t)

-- the tree has the `type` of no kind of entry
abbrev pub IsNoEntryKind : Data → Type 0
IsNoEntryKind t = (k : EntryKind) → HasText t (codes "type") (entry_name k) → ⊥

-- `Shape` stands where the `type` is that of no kind, and else what stands in the members
pub data EntryStands (t : Data) (d : Decline) : Type 0 where
  no_kind : d ≡ Shape → IsNoEntryKind t → EntryStands t d
  in_members : (k : EntryKind) → HasText t (codes "type") (entry_name k) → EntryMembersStand k t d → EntryStands t d

-- ---- laws

-- a tree is the form of at most one entry
abbrev pub NoTreeIsTwoEntries : Type 0
NoTreeIsTwoEntries = (t : Data) (e f : CursorEntry) → EntryTree e t → EntryTree f t → e ≡ f

-- nothing is declined in the form of an entry
abbrev pub EntriesAreRead : Type 0
EntriesAreRead = (e : CursorEntry) (t : Data) → EntryTree e t → NoneStands (EntryStands t)
