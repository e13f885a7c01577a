-- The machine of views, turns and versions: at most one writer, whose view started as the committed database; a reader keeps its view; what is undone or fails leaves nothing.
use Rattle.std.specs.Prelude.{◌≡◌, ◌≢◌, ℕ, suc, ◌+◌, ◌<◌, Bool, true, false, cond, not, ◌&&◌, ◌||◌, List, [], ◌∷◌, Option, Some, None}
use Rattle.serial_order.specs.Journal.{Entry, Alone, Began, Ran, Denied, Ended, Failed, Deny, Stale, Held, Commit, ReadOnly, Undone}
use Rattle.serial_order.specs.Serial.{Meaning}

-- a live unit: its view began as the database after `start` commits
pub record Live (D : Type 0) : Type 0 where
  pub stream : ℕ
  pub start : ℕ
  pub view : D
  pub is_writer : Bool

-- the committed database, its version, the number of the next unit, and the live units by their numbers
pub record State (D : Type 0) : Type 0 where
  pub db : D
  pub version : ℕ
  pub next : ℕ
  pub live : ℕ → Option (Live D)

-- the state before the first entry
abbrev pub start : {D : Type 0} → D → State D
start db = record { db = db; version = 0; next = 1; live = λ number. None }

-- the stream has no live unit
abbrev pub IsFree : {D : Type 0} → State D → ℕ → Type 0
IsFree {D} state stream = (number : ℕ) (unit : Live D) → state.live number ≡ Some unit → unit.stream ≢ stream

-- no live unit but this one is a writer
abbrev pub NoWriterBut : {D : Type 0} → State D → ℕ → Type 0
NoWriterBut {D} state but = (number : ℕ) (unit : Live D) → state.live number ≡ Some unit → number ≢ but → unit.is_writer ≡ false

-- no live unit is a writer
abbrev pub NoWriter : {D : Type 0} → State D → Type 0
NoWriter {D} state = (number : ℕ) (unit : Live D) → state.live number ≡ Some unit → unit.is_writer ≡ false

-- the stream's one live unit, with its number
pub record HasUnit {D : Type 0} (state : State D) (own number : ℕ) (unit : Live D) : Type 0 where
  pub is : state.live number ≡ Some unit
  pub stream : unit.stream ≡ own
  pub only : (other : ℕ) (its : Live D) → state.live other ≡ Some its → its.stream ≡ own → other ≡ number

-- nothing changed
pub record IsSame {D : Type 0} (old new : State D) : Type 0 where
  pub db : new.db ≡ old.db
  pub version : new.version ≡ old.version
  pub next : new.next ≡ old.next
  pub live : (number : ℕ) → new.live number ≡ old.live number

-- the live units are as before, but for what now stands at this number
pub record IsAt {D : Type 0} (old new : State D) (number : ℕ) (now : Option (Live D)) : Type 0 where
  pub here : new.live number ≡ now
  pub others : (other : ℕ) → other ≢ number → new.live other ≡ old.live other

-- a unit that stands there is of this stream
abbrev pub IsOfStream : {D : Type 0} → Option (Live D) → ℕ → Type 0
IsOfStream {D} place stream = (unit : Live D) → place ≡ Some unit → unit.stream ≡ stream

-- a statement alone ran on the committed database; a write waits until no unit is a writer
pub record IsAlone {D S A : Type 0} (meaning : Meaning D S A) (old new : State D) (stream : ℕ) (stmt : S) (gave : A) (has_written : Bool) : Type 0 where
  pub free : IsFree old stream
  pub class : (meaning.is_read stmt || meaning.is_write stmt) ≡ true
  pub turn : meaning.is_write stmt ≡ true → NoWriter old
  pub answer : gave ≡ (meaning.exec old.db stmt).1
  pub wrote : has_written ≡ (meaning.is_write stmt && not (meaning.is_refused gave))
  pub db : new.db ≡ (meaning.exec old.db stmt).0
  pub version : new.version ≡ old.version + cond has_written 1 0
  pub next : new.next ≡ old.next
  pub live : (number : ℕ) → new.live number ≡ old.live number

-- a unit began, as a reader or as the one writer; its view is the committed database
pub record IsBegan {D : Type 0} (old new : State D) (unit stream : ℕ) : Type 0 where
  pub write : Bool
  pub number : unit ≡ old.next
  pub fresh : old.live unit ≡ None
  pub free : IsFree old stream
  pub turn : write ≡ true → NoWriter old
  pub db : new.db ≡ old.db
  pub version : new.version ≡ old.version
  pub next : new.next ≡ suc old.next
  pub live : IsAt old new unit (Some (record { stream = stream; start = old.version; view = old.db; is_writer = write }))

-- a statement ran on its unit's view; one that writes makes its unit the one writer, if the view began at the current version
pub record IsRan {D S A : Type 0} (meaning : Meaning D S A) (old new : State D) (number : ℕ) (stmt : S) (gave : A) : Type 0 where
  pub unit : Live D
  pub is : old.live number ≡ Some unit
  pub class : (meaning.is_read stmt || meaning.is_write stmt) ≡ true
  pub current : meaning.is_write stmt ≡ true → unit.start ≡ old.version
  pub turn : meaning.is_write stmt ≡ true → NoWriterBut old number
  pub answer : gave ≡ (meaning.exec unit.view stmt).1
  pub db : new.db ≡ old.db
  pub version : new.version ≡ old.version
  pub next : new.next ≡ old.next
  pub live : IsAt old new number (Some (record { stream = unit.stream; start = unit.start; view = (meaning.exec unit.view stmt).0; is_writer = unit.is_writer || meaning.is_write stmt }))

-- a unit may be denied to write where commits were made since it began, or beside another stream's live unit
abbrev pub MayDeny : {D : Type 0} → State D → Live D → Deny → Type 0
MayDeny state unit (Stale had now) = (had ≡ unit.start) × (now ≡ state.version) × (had < now)
MayDeny {D} state unit (Held by) = (number : ℕ) × (other : Live D) × (state.live number ≡ Some other) × (other.stream ≡ by) × (by ≢ unit.stream)

-- a statement was denied, and nothing changed
pub record IsDenied {D : Type 0} (old new : State D) (number : ℕ) (deny : Deny) : Type 0 where
  pub unit : Live D
  pub is : old.live number ≡ Some unit
  pub why : MayDeny old unit deny
  pub same : IsSame old new

-- a writer committed: its view is the committed database, of the next version
pub record IsCommitted {D : Type 0} (old new : State D) (number : ℕ) : Type 0 where
  pub unit : Live D
  pub is : old.live number ≡ Some unit
  pub writer : unit.is_writer ≡ true
  pub db : new.db ≡ unit.view
  pub version : new.version ≡ suc old.version
  pub next : new.next ≡ old.next
  pub live : IsAt old new number None

-- a unit of which this holds ended, and left nothing
pub record IsDropped {D : Type 0} (old new : State D) (number : ℕ) (Holds : Live D → Type 0) : Type 0 where
  pub unit : Live D
  pub is : old.live number ≡ Some unit
  pub cause : Holds unit
  pub db : new.db ≡ old.db
  pub version : new.version ≡ old.version
  pub next : new.next ≡ old.next
  pub live : IsAt old new number None

-- a call failed on a stream without a unit, and nothing changed
pub record IsFailed {D : Type 0} (old new : State D) (stream : ℕ) : Type 0 where
  pub free : IsFree old stream
  pub same : IsSame old new

-- this entry may lead from the old state to the new one
unfoldable pub Step : {D S A : Type 0} → Meaning D S A → State D → Entry S A → State D → Type 0
Step meaning old (Alone stream stmt answer wrote) new = IsAlone meaning old new stream stmt answer wrote
Step meaning old (Began unit stream) new = IsBegan old new unit stream
Step meaning old (Ran unit stmt answer) new = IsRan meaning old new unit stmt answer
Step meaning old (Denied unit deny) new = IsDenied old new unit deny
Step meaning old (Ended unit Commit) new = IsCommitted old new unit
Step meaning old (Ended unit ReadOnly) new = IsDropped old new unit (λ its. its.is_writer ≡ false)
Step meaning old (Ended unit (Undone undo)) new = IsDropped old new unit (λ its. Unit {0})
Step meaning old (Failed stream None cause) new = IsFailed old new stream
Step meaning old (Failed stream (Some unit) cause) new = IsDropped old new unit (λ its. its.stream ≡ stream)

-- the entries of this journal, one after the other, may lead from the old state to the new one
unfoldable pub Run : {D S A : Type 0} → Meaning D S A → State D → List (Entry S A) → State D → Type 0
Run meaning old [] new = new ≡ old
Run {D} meaning old (entry ∷ rest) new = (mid : State D) × Step meaning old entry mid × Run meaning mid rest new

-- no unit is live
abbrev pub NoLive : {D : Type 0} → State D → Type 0
NoLive {D} state = (number : ℕ) → state.live number ≡ None

-- with one turn no unit is live where another begins or a statement runs alone
unfoldable pub HasTurn : {D S A : Type 0} → State D → Entry S A → Type 0
HasTurn state (Alone stream stmt answer wrote) = NoLive state
HasTurn state (Began unit stream) = NoLive state
HasTurn state entry = Unit {0}

-- a run with one turn
unfoldable pub RunByTurns : {D S A : Type 0} → Meaning D S A → State D → List (Entry S A) → State D → Type 0
RunByTurns meaning old [] new = new ≡ old
RunByTurns {D} meaning old (entry ∷ rest) new = (mid : State D) × Step meaning old entry mid × HasTurn old entry × RunByTurns meaning mid rest new
