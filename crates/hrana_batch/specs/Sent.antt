-- How an object that is sent begins, and what is sent of an outcome.
use Rattle.std.specs.Prelude.{ℕ, List, Some}
use Rattle.serde_json.specs.Data.{Data}
use Rattle.hrana_batch.specs.declared.outcomes.Outcome.{Outcome}
use Rattle.hrana_batch.specs.declared.sending.Side.{Side}
use Rattle.hrana_batch.specs.declared.sending.Side.TheVariants as side
use Rattle.hrana_batch.specs.Tree.{ResultEntryTree, ErrorEntryTree}
use Rattle.hrana_batch.specs.Written.{result_entry, error_entry}
use Rattle.serde.specs.Event.{Log, Logs, map_begins, field_key}
use Rattle.serde.specs.declared.name.Case.TheVariants.{AsIs}

-- an object of so many members has begun, up to the value of its first
abbrev pub Begins : ℕ → List ℕ → Log → Log → Type 0
Begins count name old new = (first : Log) × Logs old first (map_begins (Some count)) × Logs first new (field_key name AsIs)

-- what an outcome is in one of the two lists of a result
abbrev pub entry_of : Side → Outcome → Data
entry_of side.Results = result_entry
entry_of side.Errors = error_entry

abbrev pub EntryTree : Side → Outcome → Data → Type 0
EntryTree side.Results = ResultEntryTree
EntryTree side.Errors = ErrorEntryTree
