-- What a call of the hub adds to the entries, with what the engine did for it.
use Rattle.std.specs.Prelude.{◌≡◌, ℕ, Bool, List, [], ◌∷◌, ◌++◌, Some, IsTrue}
use Rattle.serial_order.specs.Serial.{Meaning}
use Rattle.engine_core.specs.Causes.{RoseBy}
use Rattle.engine_core.specs.Journal.{fault_count}
use Rattle.engine_core.specs.Transactions.{Lives}
use Rattle.engine_core.specs.declared.statement.BoundStmt.{BoundStmt}
use Rattle.engine_core.specs.declared.entries.Answer.{Answer}
use Rattle.engine_core.specs.declared.entries.Entry.{Entry}
use Rattle.stream_task.specs.Effect.{RefusesByCause}
use Rattle.hrana_hub.specs.Agrees.{HubStands}
use Rattle.hrana_hub.specs.State.{Seen}

-- an engine that doesn't tell its tables refuses only where its count rose
abbrev pub RefuseByCause : Bool → ℕ → ℕ → List Entry → Type 0
RefuseByCause told before now [] = Unit {0}
RefuseByCause told before now (e ∷ es) = RefusesByCause told before now (Some e) × RefuseByCause told before now es

-- From every journal that hub and engine stood for they now stand for that journal with these entries behind it.
abbrev pub LeadsOn : {D : Type 0} → Bool → Meaning D BoundStmt Answer → D → Lives D → D → Lives D → Seen → Seen → List Entry → Type 0
LeadsOn {D} shared m db live db' live' old new added = (first : D) (journal : List Entry) → HubStands shared m first journal db live old → HubStands shared m first (journal ++ added) db' live' new

-- The list grew by these entries. The engine's count rose at least as often as they note faults. Over an engine that tells its
-- tables they lead on from each journal. P holds of them.
pub record Adds {X D : Type 0} (told shared : Bool) (m : Meaning D BoundStmt Answer) (db : X → D) (live : X → Lives D) (faults : X → ℕ) (engine engine' : X) (old new : Seen) (P : List Entry → Type 0) : Type 0 where
  pub added : List Entry
  pub grew : new.noted.list ≡ old.noted.list ++ added
  pub cause : RoseBy (fault_count added) (faults engine) (faults engine')
  pub refused : RefuseByCause told (faults engine) (faults engine') added
  pub leads : IsTrue told → LeadsOn shared m (db engine) (live engine) (db engine') (live engine') old new added
  pub holds : P added
