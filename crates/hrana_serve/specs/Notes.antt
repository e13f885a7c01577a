-- What events add, and what of it the journal noted.
use Rattle.std.specs.Prelude.{◌≡◌, ℕ, Bool, List, ◌++◌, Option, Result, Ok, Err, IsTrue, option_map}
use Rattle.serial_order.specs.Serial.{Meaning}
use Rattle.engine_core.specs.Causes.{RoseBy}
use Rattle.engine_core.specs.Draws.{Draw}
use Rattle.engine_core.specs.Journal.{fault_count}
use Rattle.engine_core.specs.Transactions.{Lives}
use Rattle.engine_core.specs.declared.statement.BoundStmt.{BoundStmt}
use Rattle.engine_core.specs.declared.entries.Answer.{Answer}
use Rattle.engine_core.specs.declared.entries.Entry.{Entry}
use Rattle.engine_core.specs.declared.journal.JournalFail.{JournalFail}
use Rattle.http_wire.specs.declared.outs.Outs.{Outs}
use Rattle.hrana_hub.specs.declared.events.Event.{Event}
use Rattle.hrana_hub.specs.Adds.{LeadsOn}
use Rattle.hrana_hub.specs.State.{State, Seen}
use Rattle.hrana_hub.specs.Step.{Step}

-- the list that a journal tells, with these entries behind it
abbrev pub with_entries : Option (List Entry) → List Entry → Option (List Entry)
with_entries noted entries = option_map (λ list. list ++ entries) noted

-- The journal took the first of the entries that waited, and the others still wait.
pub record Notes (held holds : Option (List Entry)) (waited waits : List Entry) : Type 0 where
  pub taken : List Entry
  pub all : waited ≡ taken ++ waits
  pub grew : holds ≡ with_entries held taken

-- Entries were added behind those that waited, and the journal took the first of all. The engine's count rose at least as often as the
-- added ones note faults. Over an engine that tells its tables they lead on from each journal. P holds of them.
pub record AddsNoted {X D : Type 0} (told shared : Bool) (m : Meaning D BoundStmt Answer) (db : X → D) (live : X → Lives D) (faults : X → ℕ) (engine engine' : X) (old new : Seen) (held holds : Option (List Entry)) (P : List Entry → Type 0) : Type 0 where
  pub added : List Entry
  pub notes : Notes held holds (old.noted.list ++ added) new.noted.list
  pub cause : RoseBy (fault_count added) (faults engine) (faults engine')
  pub leads : IsTrue told → LeadsOn shared m (db engine) (live engine) (db engine') (live engine') old new added
  pub fact : P added

-- the event was run, whatever it gave
pub record IsStep (token : Option (List ℕ)) (shared : Bool) (s : State) (event : Event) (new : State) (draws : List Draw) (added : List Entry) : Type 0 where
  pub outs : Outs
  pub step : Step token shared s event draws added outs new

-- what came of an event whose entries the journal was to note, by the words that were drawn for it
abbrev pub RunsAs : Option (List ℕ) → Bool → State → Event → Result Outs JournalFail → State → List Draw → List Entry → Type 0
RunsAs token shared s event (Ok outs) new draws added = Step token shared s event draws added outs new
RunsAs token shared s event (Err fail) new draws added = IsStep token shared s event new draws added
