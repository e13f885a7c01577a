-- What holds of all streams over one engine and one table of turns. It is said for every number, also where there is no stream.
use Rattle.std.specs.Prelude.{◌≡◌, ◌≢◌, ◌≤◌, ◌↔◌, ℕ, Bool, true, false, not, Option, Some, None, IsTrue, IsSome}
use Rattle.hrana_value.specs.declared.StreamNo.{StreamNo}
use Rattle.serial_order.specs.Serial.{Meaning}
use Rattle.txn_table.specs.Turns.{Turns, no_turns, has, with_place}
use Rattle.engine_core.specs.Noted.{Noted}
use Rattle.engine_core.specs.Transactions.{Lives, View, NoneLive}
use Rattle.engine_core.specs.declared.statement.BoundStmt.{BoundStmt}
use Rattle.engine_core.specs.declared.entries.Answer.{Answer}
use Rattle.engine_core.specs.declared.entries.Undo.{Undo}
use Rattle.stream_task.specs.Adds.{AddsOne, seen_in}
use Rattle.stream_task.specs.Moved.{AgreesAs, AreBelow, WritesByTurn, LivesByTurn, HasOne, StaysOne}
use Rattle.stream_task.specs.Polls.{Task, Polls, Ends, is_pending}
use Rattle.stream_task.specs.Session.{is_shut, unit_of}
use Rattle.stream_task.specs.declared.session.TxnState.{TxnState}
use Rattle.stream_task.specs.declared.session.TxnState.TheVariants.{Auto, Reading, Writing}
use Rattle.stream_task.specs.declared.task.Poll.{Poll}
use Rattle.stream_task.specs.declared.task.Stepped.{Stepped}

-- the state of the stream of each number, where there is one
abbrev pub States : Type 0
States = ℕ → Option TxnState

abbrev pub numbered : ℕ → StreamNo
numbered n = record { 0 = n }

-- the state of one number has become `now`, and the others are as before
pub record Put (old new : States) (n : ℕ) (now : Option TxnState) : Type 0 where
  pub here : new n ≡ now
  pub others : (k : ℕ) → k ≢ n → new k ≡ old k

-- ---- the stream of a number, by its state

-- it agrees with the turn and the engine; where there is none, the turn isn't its own
abbrev pub AgreesAt : {D : Type 0} → Bool → D → Lives D → Turns → ℕ → Option TxnState → Type 0
AgreesAt told db live t n None = t.turn ≢ Some (numbered n)
AgreesAt told db live t n (Some state) = AgreesAs told db live t (numbered n) state

-- it may ask for the turn, or wait for it
abbrev pub is_open : Option TxnState → Bool
is_open None = false
is_open (Some state) = not (is_shut state)

abbrev pub is_writing : Option TxnState → Bool
is_writing (Some (Writing unit)) = true
is_writing other = false

-- its open unit
abbrev pub unit_at : Option TxnState → Option ℕ
unit_at None = None
unit_at (Some state) = unit_of state

-- a reader began at a version that there has been
abbrev pub BeganBy : ℕ → Option TxnState → Type 0
BeganBy version (Some (Reading unit had)) = had ≤ version
BeganBy version other = Unit {0}

-- the unit is the open one of a stream
pub record IsOwned (states : States) (unit : ℕ) : Type 0 where
  pub stream : ℕ
  pub opened : unit_at (states stream) ≡ Some unit

-- ---- all of them

-- The streams, the table of turns and the live transactions agree, where `next` is the number of the next unit. Only what
-- `AgreesAs` says of the committed database rests on an engine that tells.
pub record Together {D : Type 0} (told shared : Bool) (db : D) (live : Lives D) (t : Turns) (next : ℕ) (states : States) : Type 0 where
  pub agree : (n : ℕ) → AgreesAt told db live t n (states n)
  -- a stream that isn't shut has a place
  pub places : (n : ℕ) → is_open (states n) ≡ true → IsTrue (has (numbered n) t.reserved)
  pub began : (n : ℕ) → BeganBy t.version (states n)
  -- each live transaction is the open unit of a stream, and of no other
  pub owned : (unit : ℕ) → IsSome (live unit) → IsOwned states unit
  pub apart : (m n unit : ℕ) → unit_at (states m) ≡ Some unit → unit_at (states n) ≡ Some unit → m ≡ n
  pub below : AreBelow live next
  pub writers : WritesByTurn live t
  pub quiet : LivesByTurn shared live t
  pub one : shared ≡ false → HasOne live

-- ---- in the words of the streams

-- the turn is held by the stream that writes
abbrev pub TurnIsWriters : Turns → States → Type 0
TurnIsWriters t states = (n : ℕ) → (t.turn ≡ Some (numbered n)) ↔ (is_writing (states n) ≡ true)

-- the live transactions are the open units
abbrev pub LiveAreOpen : {D : Type 0} → Lives D → States → Type 0
LiveAreOpen live states = (unit : ℕ) → IsSome (live unit) ↔ IsOwned states unit

-- the transaction lives and writes
pub record IsLiveWriter {D : Type 0} (live : Lives D) (unit : ℕ) : Type 0 where
  pub view : View D
  pub lives : live unit ≡ Some view
  pub writes : view.is_writer ≡ true

-- a stream writes in the unit
pub record IsWritersUnit (states : States) (unit : ℕ) : Type 0 where
  pub stream : ℕ
  pub writing : states stream ≡ Some (Writing unit)

-- the live transactions that write are the units in which a stream writes
abbrev pub WritersAreWriting : {D : Type 0} → Lives D → States → Type 0
WritersAreWriting live states = (unit : ℕ) → IsLiveWriter live unit ↔ IsWritersUnit states unit

-- where the engine doesn't share, no stream reads in a unit that isn't to write
abbrev pub NoReaders : Bool → States → Type 0
NoReaders shared states = shared ≡ false → (n unit had : ℕ) → states n ≢ Some (Reading unit had)

-- ---- what is kept

-- What a poll of a stream of these finds, of what it needs.
pub record MayPoll {D : Type 0} (told shared : Bool) (db : D) (live : Lives D) (t : Turns) (next : ℕ) (stream : StreamNo) (state : TxnState) : Type 0 where
  pub agrees : AgreesAs told db live t stream state
  pub reserved : is_shut state ≡ false → IsTrue (has stream t.reserved)
  pub below : AreBelow live next
  pub writers : WritesByTurn live t
  pub quiet : LivesByTurn shared live t

abbrev pub EachMayPoll : (D : Type 0) → Bool → Bool → Type 0
EachMayPoll D told shared = (db : D) (live : Lives D) (t : Turns) (next : ℕ) (states : States) (stream : StreamNo) (state : TxnState)
    → Together told shared db live t next states → states stream.0 ≡ Some state → MayPoll told shared db live t next stream state

-- at the beginning there is no stream, nothing lives, and nobody holds the turn
abbrev pub BeginsTogether : (D : Type 0) → Bool → Bool → Type 0
BeginsTogether D told shared = (db : D) (live : Lives D) (next : ℕ) → NoneLive live → Together told shared db live no_turns next (λ n. None)

-- a stream joins that has a place
abbrev pub JoinsTogether : (D : Type 0) → Bool → Bool → Type 0
JoinsTogether D told shared = (db : D) (live : Lives D) (t : Turns) (next : ℕ) (states states' : States) (stream : StreamNo)
    → Together told shared db live t next states → states stream.0 ≡ None → IsTrue (has stream (with_place t stream).reserved) → Put states states' stream.0 (Some Auto)
    → Together told shared db live (with_place t stream) next states'

-- what a poll of a stream leaves of the engine, the table and the entries
pub record HasPolled {X D : Type 0} (told shared : Bool) (m : Meaning D BoundStmt Answer) (db : X → D) (live : X → Lives D) (faults : X → ℕ) (engine engine' : X) (t t' : Turns) (old new : Noted) (task task' : Task) (result : Poll Stepped) : Type 0 where
  pub adds : AddsOne told m db live faults task.stream engine engine' t t' old new (is_pending result) (λ added. Polls shared (seen_in t old.next) task added result task')
  pub agrees : AgreesAs told (db engine') (live engine') t' task'.stream task'.session.state
  pub stream : task'.stream ≡ task.stream
  pub below : AreBelow (live engine') new.next
  pub writers : WritesByTurn (live engine') t'
  pub one : StaysOne shared (live engine) (live engine') t'

abbrev pub PollsTogether : {X D : Type 0} → Bool → Bool → Meaning D BoundStmt Answer → (X → D) → (X → Lives D) → (X → ℕ) → Type 0
PollsTogether {X} told shared m db live faults = (engine engine' : X) (t t' : Turns) (old new : Noted) (task task' : Task) (result : Poll Stepped) (states states' : States)
    → Together told shared (db engine) (live engine) t old.next states → states task.stream.0 ≡ Some task.session.state
    → HasPolled told shared m db live faults engine engine' t t' old new task task' result → Put states states' task.stream.0 (Some task'.session.state)
    → Together told shared (db engine') (live engine') t' new.next states'

-- what the end of a stream leaves of them
pub record HasEnded {X D : Type 0} (told shared : Bool) (m : Meaning D BoundStmt Answer) (db : X → D) (live : X → Lives D) (faults : X → ℕ) (engine engine' : X) (t t' : Turns) (old new : Noted) (task : Task) (why : Undo) : Type 0 where
  pub ends : Ends told m db live faults task.stream engine engine' t t' old new why task.session.state
  pub below : AreBelow (live engine') new.next
  pub writers : WritesByTurn (live engine') t'
  pub one : StaysOne shared (live engine) (live engine') t'

-- the stream that ended is shut, or is let go of
abbrev pub EndsTogether : {X D : Type 0} → Bool → Bool → Meaning D BoundStmt Answer → (X → D) → (X → Lives D) → (X → ℕ) → Type 0
EndsTogether {X} told shared m db live faults = (engine engine' : X) (t t' : Turns) (old new : Noted) (task : Task) (why : Undo) (now : Option TxnState) (states states' : States)
    → Together told shared (db engine) (live engine) t old.next states → states task.stream.0 ≡ Some task.session.state
    → HasEnded told shared m db live faults engine engine' t t' old new task why → is_open now ≡ false → Put states states' task.stream.0 now
    → Together told shared (db engine') (live engine') t' new.next states'
