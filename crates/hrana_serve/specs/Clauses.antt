-- What the top call says where the journal tells its list.
use Rattle.std.specs.Prelude.{◌≡◌, List, ◌++◌, Option, None, Some}
use Rattle.engine_core.specs.declared.entries.Entry.{Entry}

-- the list grew by these entries, and P holds of them followed by those that the journal didn't take
pub record Took (old : List Entry) (new : Option (List Entry)) (unsaved : List Entry) (P : List Entry → Type 0) : Type 0 where
  pub taken : List Entry
  pub grew : new ≡ Some (old ++ taken)
  pub fact : P (taken ++ unsaved)

-- Where the journal tells its list, P holds of the entries that it noted in this call followed by those that it didn't take.
abbrev pub WithJournal : Option (List Entry) → Option (List Entry) → List Entry → (List Entry → Type 0) → Type 0
WithJournal None new unsaved P = Unit {0}
WithJournal (Some old) new unsaved P = Took old new unsaved P
