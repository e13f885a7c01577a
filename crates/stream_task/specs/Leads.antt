-- What the streams, the table of turns and the engine stand for: a state of the machine of the serial order, to which the journal leads.
use Rattle.std.specs.Prelude.{◌≡◌, ℕ, suc, Bool, true, false, List, [], ◌++◌, map, Option, Some, None, IsTrue, option_to_list}
use Rattle.hrana_value.specs.declared.StreamNo.{StreamNo}
use Rattle.serial_order.specs.Journal as law
use Rattle.serial_order.specs.Journal.{Txn, commits, units}
use Rattle.serial_order.specs.Serial.{Meaning, serial, last_database}
use Rattle.serial_order.specs.Turns.{one_after_another}
use Rattle.serial_order.specs.Explained.{Explained, IsOpenAnd, begins, database_at, view_of}
use Rattle.serial_order.specs.Machine.{Live, State, start, Run, RunByTurns, NoLive}
use Rattle.txn_table.specs.Turns.{Turns, no_turns, with_place}
use Rattle.engine_core.specs.Journal.{entry_of}
use Rattle.engine_core.specs.Noted.{Noted}
use Rattle.engine_core.specs.Transactions.{Lives, View, NoneLive}
use Rattle.engine_core.specs.declared.statement.BoundStmt.{BoundStmt}
use Rattle.engine_core.specs.declared.entries.Answer.{Answer}
use Rattle.engine_core.specs.declared.entries.Entry.{Entry}
use Rattle.engine_core.specs.declared.entries.Undo.{Undo}
use Rattle.stream_task.specs.Adds.{undone_of}
use Rattle.stream_task.specs.Polls.{Task}
use Rattle.stream_task.specs.Together.{States, Put, unit_at, is_open, Together, HasPolled, HasEnded}
use Rattle.stream_task.specs.declared.session.TxnState.{TxnState}
use Rattle.stream_task.specs.declared.session.TxnState.TheVariants.{Auto, Reading, Writing}
use Rattle.stream_task.specs.declared.task.Poll.{Poll}
use Rattle.stream_task.specs.declared.task.Stepped.{Stepped}

-- ---- a state of the machine

-- the unit of the machine is the live transaction: its view, and whether it writes
abbrev pub IsView : {D : Type 0} → Option (View D) → Option (Live D) → Type 0
IsView None None = Unit {0}
IsView (Some v) (Some its) = (its.view ≡ v.view) × (its.is_writer ≡ v.is_writer)
IsView None (Some its) = ⊥
IsView (Some v) None = ⊥

-- what a stream's state says of the version at which its unit began: a reader's is told, and a writer's is the current one
abbrev pub StartsBy : ℕ → Option TxnState → ℕ → Type 0
StartsBy version (Some (Reading unit had)) start = start ≡ had
StartsBy version (Some (Writing unit)) start = start ≡ version
StartsBy version other start = Unit {0}

-- The engine, the table and the streams stand for this state of the machine, where `next` is the number of the next unit.
pub record Stands {D : Type 0} (db : D) (live : Lives D) (t : Turns) (next : ℕ) (states : States) (machine : State D) : Type 0 where
  pub database : machine.db ≡ db
  pub version : machine.version ≡ t.version
  pub number : machine.next ≡ next
  pub units : (unit : ℕ) → IsView (live unit) (machine.live unit)
  -- each unit is the open one of its stream, and began when the stream's state says
  pub streams : (unit : ℕ) (its : Live D) → machine.live unit ≡ Some its → unit_at (states its.stream) ≡ Some unit
  pub starts : (unit : ℕ) (its : Live D) → machine.live unit ≡ Some its → StartsBy t.version (states its.stream) its.start

-- From the database `first` the journal leads to where they stand. Where the engine doesn't share, it does so by turns.
pub record StandsFor {D : Type 0} (shared : Bool) (m : Meaning D BoundStmt Answer) (first : D) (journal : List Entry) (db : D) (live : Lives D) (t : Turns) (next : ℕ) (states : States) : Type 0 where
  pub machine : State D
  pub run : Run m (start first) (map entry_of journal) machine
  pub turns : shared ≡ false → RunByTurns m (start first) (map entry_of journal) machine
  pub stands : Stands db live t next states machine

-- ---- what goes on

-- at the beginning, where nothing lives and the first unit is to be 1, they stand for the empty journal from what is committed
abbrev pub BeginsStanding : {D : Type 0} → Bool → Meaning D BoundStmt Answer → Type 0
BeginsStanding {D} shared m = (db : D) (live : Lives D) → NoneLive live → StandsFor shared m db [] db live no_turns 1 (λ n. None)

-- a stream that joins leaves what they stand for
abbrev pub JoinsStanding : {D : Type 0} → Bool → Meaning D BoundStmt Answer → Type 0
JoinsStanding {D} shared m = (db : D) (live : Lives D) (t : Turns) (next : ℕ) (states states' : States) (stream : StreamNo)
    → states stream.0 ≡ None → Put states states' stream.0 (Some Auto)
    → (first : D) (journal : List Entry) → StandsFor shared m first journal db live t next states → StandsFor shared m first journal db live (with_place t stream) next states'

-- so does what else changes in the table, such as a place, where its version stays
abbrev pub VersionStands : {D : Type 0} → Bool → Meaning D BoundStmt Answer → Type 0
VersionStands {D} shared m = (db : D) (live : Lives D) (t t' : Turns) (next : ℕ) (states : States) → t'.version ≡ t.version
    → (first : D) (journal : List Entry) → StandsFor shared m first journal db live t next states → StandsFor shared m first journal db live t' next states

-- the entry of a poll leads on
abbrev pub PollsLead : {X D : Type 0} → Bool → Bool → Meaning D BoundStmt Answer → (X → D) → (X → Lives D) → (X → ℕ) → Type 0
PollsLead {X} {D} told shared m db live faults = (engine engine' : X) (t t' : Turns) (old new : Noted) (task task' : Task) (result : Poll Stepped) (states states' : States)
    → IsTrue told → Together told shared (db engine) (live engine) t old.next states → states task.stream.0 ≡ Some task.session.state
    → (p : HasPolled told shared m db live faults engine engine' t t' old new task task' result) → Put states states' task.stream.0 (Some task'.session.state)
    → (first : D) (journal : List Entry) → StandsFor shared m first journal (db engine) (live engine) t old.next states
    → StandsFor shared m first (journal ++ option_to_list p.adds.added) (db engine') (live engine') t' new.next states'

-- so does the entry of an end
abbrev pub EndsLead : {X D : Type 0} → Bool → Bool → Meaning D BoundStmt Answer → (X → D) → (X → Lives D) → (X → ℕ) → Type 0
EndsLead {X} {D} told shared m db live faults = (engine engine' : X) (t t' : Turns) (old new : Noted) (task : Task) (why : Undo) (now : Option TxnState) (states states' : States)
    → IsTrue told → Together told shared (db engine) (live engine) t old.next states → states task.stream.0 ≡ Some task.session.state
    → HasEnded told shared m db live faults engine engine' t t' old new task why → is_open now ≡ false → Put states states' task.stream.0 now
    → (first : D) (journal : List Entry) → StandsFor shared m first journal (db engine) (live engine) t old.next states
    → StandsFor shared m first (journal ++ option_to_list (undone_of why task.session.state)) (db engine') (live engine') t' new.next states'

-- ---- what the journal says of them

-- where no stream has an open unit no unit of the machine lives, and its database is the committed one
abbrev pub StandsAtNothing : {D : Type 0} → Bool → Meaning D BoundStmt Answer → Type 0
StandsAtNothing {D} shared m = (first : D) (journal : List Entry) (db : D) (live : Lives D) (t : Turns) (next : ℕ) (states : States)
    → (s : StandsFor shared m first journal db live t next states) → ((n : ℕ) → unit_at (states n) ≡ None) → NoLive s.machine × (s.machine.db ≡ db)

-- The unit of the journal is the open one of its stream, began when that stream's state says, and has this view: the database of
-- its version with its own statements.
pub record IsOpenUnit {D : Type 0} (m : Meaning D BoundStmt Answer) (first : D) (entries : List (law.Entry BoundStmt Answer)) (t : Turns) (states : States) (unit : ℕ) (v : View D) (txn : Txn BoundStmt Answer) : Type 0 where
  pub stream : unit_at (states txn.stream) ≡ Some unit
  pub starts : StartsBy t.version (states txn.stream) txn.version
  pub view : v.view ≡ view_of m first (units entries) txn

-- What every entry keeps: the table's version is the number of commits, the next unit comes after those that began, the committed
-- database is the one after so many commits, and a live transaction is an open unit of the journal.
pub record IsKept {D : Type 0} (m : Meaning D BoundStmt Answer) (first : D) (entries : List (law.Entry BoundStmt Answer)) (db : D) (live : Lives D) (t : Turns) (next : ℕ) (states : States) : Type 0 where
  pub version : t.version ≡ commits entries
  pub number : next ≡ suc (begins entries)
  pub database : db ≡ database_at m first (units entries) (commits entries)
  pub views : (unit : ℕ) (v : View D) → live unit ≡ Some v → IsOpenAnd entries unit (λ txn. IsOpenUnit m first entries t states unit v txn)

-- The journal explains itself, and its units executed one at a time in serial order leave the committed database. Where the engine
-- doesn't share, that order is the journal's, one unit after another.
pub record IsExplained {D : Type 0} (shared : Bool) (m : Meaning D BoundStmt Answer) (first : D) (entries : List (law.Entry BoundStmt Answer)) (db : D) : Type 0 where
  pub explained : Explained m first entries
  pub database : db ≡ last_database m first (serial entries)
  pub order : shared ≡ false → serial entries ≡ units entries
  pub apart : shared ≡ false → one_after_another entries ≡ true

-- what they stand for is what every entry keeps
abbrev pub StandsAsKept : {D : Type 0} → Bool → Meaning D BoundStmt Answer → Type 0
StandsAsKept {D} shared m = (first : D) (journal : List Entry) (db : D) (live : Lives D) (t : Turns) (next : ℕ) (states : States)
    → StandsFor shared m first journal db live t next states → IsKept m first (map entry_of journal) db live t next states

-- and the journal for which they stand is explained
abbrev pub StandsExplained : {D : Type 0} → Bool → Meaning D BoundStmt Answer → Type 0
StandsExplained {D} shared m = (first : D) (journal : List Entry) (db : D) (live : Lives D) (t : Turns) (next : ℕ) (states : States)
    → StandsFor shared m first journal db live t next states → IsExplained shared m first (map entry_of journal) db
