-- Entries by the parts of their objects.
use Rattle.std.specs.Prelude.{◌≡◌}
use Rattle.serde_json.specs.Data.{Data}
use Rattle.stream_requests.specs.declared.entries.CursorEntry.{CursorEntry}
use Rattle.stream_requests.specs.declared.entries.EntryKind.{EntryKind}
use Rattle.stream_requests.specs.Entries.{entry_kind, EntryMembers}

-- the entry is of this kind, and its members stand in the tree
pub record IsEntryOf (k : EntryKind) (e : CursorEntry) (t : Data) : Type 0 where
  pub kind : entry_kind e ≡ k
  pub members : EntryMembers e t
