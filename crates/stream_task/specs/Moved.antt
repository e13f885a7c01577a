-- What an entry of a stream does to the table of turns, and what it says of the table and the engine before it.
use Rattle.std.specs.Prelude.{◌≡◌, ◌≢◌, ◌+◌, ◌≤◌, ◌⊎◌, ℕ, Bool, true, false, cond, IsTrue, IsSome, Option, Some, None}
use Rattle.hrana_value.specs.declared.StreamNo.{StreamNo}
use Rattle.txn_table.specs.Turns.{Turns, queued, without, given_back, grant_of, after_grant, after_commit, after_end}
use Rattle.txn_table.specs.declared.table.Need.{Need}
use Rattle.txn_table.specs.declared.table.Grant.{Grant}
use Rattle.txn_table.specs.declared.table.Grant.TheVariants as grant
use Rattle.engine_core.specs.Engine.{is_write, IsReadOrWrite}
use Rattle.engine_core.specs.Transactions.{Lives, NoWriter, NoneLive, NoOtherWriter, StartsAt, MayCommit}
use Rattle.engine_core.specs.declared.statement.BoundStmt.{BoundStmt}
use Rattle.engine_core.specs.declared.entries.How.TheVariants as how
use Rattle.engine_core.specs.declared.entries.Deny.TheVariants as deny
use Rattle.engine_core.specs.declared.entries.Entry.{Entry}
use Rattle.engine_core.specs.declared.entries.Entry.TheVariants as entry
use Rattle.stream_task.specs.declared.turns.Turn.{Turn}
use Rattle.stream_task.specs.declared.turns.Turn.TheVariants.{Taken, Held, Denied}
use Rattle.stream_task.specs.declared.session.TxnState.{TxnState}
use Rattle.stream_task.specs.declared.session.TxnState.TheVariants.{Reading, Writing}
use Rattle.stream_task.specs.Table.{wrote}

-- ---- what holds of a stream, its unit and the turn, before each poll and after it

-- the stream holds the turn, and its unit alone writes; where the engine tells, it started as what is still committed
pub record WritesIn {D : Type 0} (told : Bool) (db : D) (live : Lives D) (t : Turns) (stream : StreamNo) (unit : ℕ) : Type 0 where
  pub turn : t.turn ≡ Some stream
  pub own : MayCommit told db live unit
  pub only : NoOtherWriter live unit

-- The unit lives, and the stream doesn't hold the turn. Where the engine tells and nothing was committed since, it started as
-- what is still committed.
pub record ReadsIn {D : Type 0} (told : Bool) (db : D) (live : Lives D) (t : Turns) (stream : StreamNo) (unit had : ℕ) : Type 0 where
  pub turn : t.turn ≢ Some stream
  pub lives : IsSome (live unit)
  pub current : IsTrue told → t.version ≤ had → StartsAt db live unit

-- a stream in this state agrees with the turn and the engine
abbrev pub AgreesAs : {D : Type 0} → Bool → D → Lives D → Turns → StreamNo → TxnState → Type 0
AgreesAs told db live t stream (Writing unit) = WritesIn told db live t stream unit
AgreesAs told db live t stream (Reading unit had) = ReadsIn told db live t stream unit had
AgreesAs told db live t stream state = t.turn ≢ Some stream

-- every live transaction has a number below this one
abbrev pub AreBelow : {D : Type 0} → Lives D → ℕ → Type 0
AreBelow live next = (n : ℕ) → next ≤ n → live n ≡ None

-- nobody writes where nobody holds the turn
abbrev pub WritesByTurn : {D : Type 0} → Lives D → Turns → Type 0
WritesByTurn live t = t.turn ≡ None → NoWriter live

-- where the engine doesn't share, nothing lives where nobody holds the turn
abbrev pub LivesByTurn : {D : Type 0} → Bool → Lives D → Turns → Type 0
LivesByTurn shared live t = shared ≡ false → t.turn ≡ None → NoneLive live

-- no two transactions live
abbrev pub HasOne : {D : Type 0} → Lives D → Type 0
HasOne live = (a b : ℕ) → IsSome (live a) → IsSome (live b) → a ≡ b

-- Where the engine doesn't share and no two transactions live, it stays so, and none lives where nobody holds the turn.
abbrev pub StaysOne : {D : Type 0} → Bool → Lives D → Lives D → Turns → Type 0
StaysOne shared live live' t' = shared ≡ false → HasOne live → HasOne live' × (t'.turn ≡ None → NoneLive live')

-- ---- what an entry does to the turn

-- who holds the turn after an entry. `writes` says of a unit that began whether it is to write.
abbrev pub turn_by : StreamNo → Bool → Option Entry → Option StreamNo → Option StreamNo
turn_by stream writes (Some (entry.Began unit by)) turn = cond writes (Some stream) turn
turn_by stream writes (Some (entry.Ran unit stmt given)) turn = cond (is_write stmt.class) (Some stream) turn
turn_by stream writes (Some (entry.Ended unit how.Committed)) turn = None
turn_by stream writes (Some (entry.Ended unit (how.Undone why))) turn = given_back turn stream
turn_by stream writes (Some (entry.Failed by (Some unit) cause)) turn = given_back turn stream
turn_by stream writes added turn = turn

-- how many commits there are after it
abbrev pub version_by : Option Entry → ℕ → ℕ
version_by (Some (entry.Alone by stmt given true)) version = version + 1
version_by (Some (entry.Ended unit how.Committed)) version = version + 1
version_by added version = version

-- the stream waits, at the end of the waiters unless it waits already
abbrev pub waiting : StreamNo → Turns → Turns
waiting stream t = record t { waiters = queued stream t.waiters }

-- of those who wait nobody left but this stream
abbrev pub WaitersStay : StreamNo → Turns → Turns → Type 0
WaitersStay stream t t' = (t'.waiters ≡ t.waiters) ⊎ (t'.waiters ≡ without stream t.waiters)

-- Where no entry was added the table is as it was, but that the stream may wait. A stream that adds an entry isn't told to wait, and
-- nobody else is.
abbrev pub Rests : StreamNo → Bool → Option Entry → Turns → Turns → Type 0
Rests stream waits None t t' = t' ≡ cond waits (waiting stream t) t
Rests stream waits (Some e) t t' = (waits ≡ false) × WaitersStay stream t t'

-- ---- what an entry says of what was before

-- a statement that writes in a unit has the turn, or takes it where nobody holds it, and nobody else writes
pub record MayWrite {D : Type 0} (told : Bool) (db : D) (live : Lives D) (t : Turns) (stream : StreamNo) (unit : ℕ) : Type 0 where
  pub turn : (t.turn ≡ Some stream) ⊎ (t.turn ≡ None)
  pub only : NoOtherWriter live unit
  pub current : IsTrue told → StartsAt db live unit

pub record RanFrom {D : Type 0} (told : Bool) (db : D) (live : Lives D) (t : Turns) (stream : StreamNo) (unit : ℕ) (stmt : BoundStmt) : Type 0 where
  pub class : IsReadOrWrite stmt.class
  pub lives : IsSome (live unit)
  pub writes : is_write stmt.class ≡ true → MayWrite told db live t stream unit

-- a unit that is no more has lived, and where the stream held the turn nobody else writes
pub record GoneFrom {D : Type 0} (live : Lives D) (t : Turns) (stream : StreamNo) (unit : ℕ) : Type 0 where
  pub lives : IsSome (live unit)
  pub only : t.turn ≡ Some stream → NoOtherWriter live unit

pub record AloneFrom {D : Type 0} (live : Lives D) (t : Turns) (stmt : BoundStmt) : Type 0 where
  pub class : IsReadOrWrite stmt.class
  pub free : is_write stmt.class ≡ true → t.turn ≡ None

pub record BeganFrom {D : Type 0} (writes : Bool) (live : Lives D) (next : ℕ) (t : Turns) (unit : ℕ) : Type 0 where
  pub number : unit ≡ next
  pub fresh : live unit ≡ None
  pub free : writes ≡ true → t.turn ≡ None

abbrev pub ComesFrom : {D : Type 0} → Bool → Bool → D → Lives D → ℕ → Turns → StreamNo → Option Entry → Type 0
ComesFrom told writes db live next t stream None = Unit {0}
ComesFrom told writes db live next t stream (Some (entry.Alone by stmt given w)) = (by ≡ stream) × (w ≡ wrote stmt given) × AloneFrom live t stmt
ComesFrom told writes db live next t stream (Some (entry.Began unit by)) = (by ≡ stream) × BeganFrom writes live next t unit
ComesFrom told writes db live next t stream (Some (entry.Ran unit stmt given)) = RanFrom told db live t stream unit stmt
ComesFrom told writes db live next t stream (Some (entry.Denied unit deny)) = IsSome (live unit)
ComesFrom told writes db live next t stream (Some (entry.Ended unit how.Committed)) = WritesIn told db live t stream unit
ComesFrom told writes db live next t stream (Some (entry.Ended unit how.Read)) = GoneFrom live t stream unit × (t.turn ≢ Some stream)
ComesFrom told writes db live next t stream (Some (entry.Ended unit (how.Undone why))) = GoneFrom live t stream unit
ComesFrom told writes db live next t stream (Some (entry.Failed by None cause)) = by ≡ stream
ComesFrom told writes db live next t stream (Some (entry.Failed by (Some unit) cause)) = (by ≡ stream) × GoneFrom live t stream unit

-- The entry comes from what was before, and the table went by it. Who has a place stays.
pub record Moved {D : Type 0} (told writes : Bool) (db : D) (live : Lives D) (next : ℕ) (stream : StreamNo) (waits : Bool) (added : Option Entry) (t t' : Turns) : Type 0 where
  pub from : ComesFrom told writes db live next t stream added
  pub turn : t'.turn ≡ turn_by stream writes added t.turn
  pub version : t'.version ≡ version_by added t.version
  pub reserved : t'.reserved ≡ t.reserved
  pub rests : Rests stream waits added t t'

-- ---- the turn, as a poll asks for it and gives it back

-- what a stream is granted that wants this, and what it is told
abbrev pub turn_for : Grant → Turn
turn_for (grant.Now version) = Taken
turn_for (grant.Wait holder) = Held
turn_for (grant.Stale had now) = Denied (deny.Stale had now)
turn_for (grant.Held holder) = Denied (deny.Held holder)

abbrev pub turn_given : Turns → Option Need → Turn
turn_given t None = Taken
turn_given t (Some n) = turn_for (grant_of t n)

abbrev pub table_given : Turns → StreamNo → Option Need → Turns
table_given t stream None = t
table_given t stream (Some n) = after_grant t stream (grant_of t n)

-- the table after the entry of a stream that has the turn, or needs none
abbrev pub settled : StreamNo → Entry → Turns → Turns
settled stream (entry.Alone by stmt given true) t = after_commit t
settled stream (entry.Alone by stmt given false) t = after_end t stream
settled stream (entry.Ended unit how.Committed) t = after_commit t
settled stream (entry.Ended unit end) t = after_end t stream
settled stream (entry.Failed by unit cause) t = after_end t stream
settled stream e t = t

-- an entry that commits is of the stream that holds the turn
abbrev pub CommitsByTurn : StreamNo → Entry → Turns → Type 0
CommitsByTurn stream (entry.Alone by stmt given true) t = t.turn ≡ Some stream
CommitsByTurn stream (entry.Ended unit how.Committed) t = t.turn ≡ Some stream
CommitsByTurn stream e t = Unit {0}
