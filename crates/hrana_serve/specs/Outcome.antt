-- What a run did with its engine, its journal and its sink.
use Rattle.std.specs.Prelude.{◌≡◌, ◌⊎◌, ℕ, Bool, List, [], ◌++◌, Option, IsTrue, IfSome, map}
use Rattle.serial_order.specs.Serial.{Meaning}
use Rattle.engine_core.specs.Bytes.{lines_of}
use Rattle.engine_core.specs.Causes.{Rose, RoseBy}
use Rattle.engine_core.specs.Draws.{Draw}
use Rattle.engine_core.specs.Journal.{entry_of, fault_count}
use Rattle.engine_core.specs.Transactions.{Lives, NoneLive}
use Rattle.engine_core.specs.declared.statement.BoundStmt.{BoundStmt}
use Rattle.engine_core.specs.declared.entries.Answer.{Answer}
use Rattle.engine_core.specs.declared.entries.Entry.{Entry}
use Rattle.engine_core.specs.declared.status.Status.{Status}
use Rattle.engine_core.specs.declared.status.Status.TheVariants as status
use Rattle.stream_task.specs.Leads.{IsExplained}
use Rattle.hrana_serve.specs.Notes.{with_entries}
use Rattle.hrana_serve.specs.Story.{Replayed}

-- why a run left entries that the journal didn't take
abbrev pub LeavesBy : ℕ → ℕ → Status → List Entry → Type 0
LeavesBy before now end unsaved = (unsaved ≡ [] → ⊥) → Rose before now ⊎ (end ≡ status.NoMemory)

-- What the journal noted, followed by what it didn't take, are the entries of the script's run, where the source tells the script.
-- Words were drawn for it as K has them. The entries explain themselves and the last database, and the engine's count rose at least as often as they note faults.
pub record Outcome {X D J O : Type 0} (told shared : Bool) (m : Meaning D BoundStmt Answer) (db : X → D) (live : X → Lives D) (faults : X → ℕ) (engine engine' : X)
    (noted : J → Option (List Entry)) (broke : J → ℕ) (journal journal' : J) (written : O → Option (List ℕ)) (failed : O → ℕ) (sink sink' : O)
    (token left : Option (List ℕ)) (end : Status) (count : ℕ) (unsaved : List Entry) (K : List Draw) : Type 0 where
  pub taken : List Entry
  pub grew : noted journal' ≡ with_entries (noted journal) taken
  pub replayed : IfSome left (λ script. Replayed token shared (lines_of script) end count unsaved (written sink) (written sink') K (taken ++ unsaved))
  pub explained : IsTrue told → IsExplained shared m (db engine) (map entry_of (taken ++ unsaved)) (db engine')
  pub cause : RoseBy (fault_count (taken ++ unsaved)) (faults engine) (faults engine')
  pub quiet : NoneLive (live engine')
  pub write : end ≡ status.WriteFault → Rose (failed sink) (failed sink')
  pub saving : end ≡ status.JournalFault → Rose (broke journal) (broke journal')
  pub leaves : LeavesBy (broke journal) (broke journal') end unsaved
  pub done : end ≡ status.Done → unsaved ≡ []

-- a run that ends so has no first event
abbrev pub IsEarly : Status → Type 0
IsEarly status.BadWords = Unit {0}
IsEarly status.ReadFault = Unit {0}
IsEarly status.InputTooLong = Unit {0}
IsEarly status.NoMemory = Unit {0}
IsEarly end = ⊥
