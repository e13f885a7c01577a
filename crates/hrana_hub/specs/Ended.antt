-- Ends of streams from outside, and the entries of the units that they end.
use Rattle.std.specs.Prelude.{◌≡◌, ◌≢◌, ℕ, false, true, List, [], ◌∷◌, ◌++◌, Option, None, Some, option_to_list}
use Rattle.std.specs.List.{All}
use Rattle.hrana_value.specs.declared.StreamNo.{StreamNo}
use Rattle.txn_table.specs.Turns.{Turns, has}
use Rattle.engine_core.specs.declared.entries.Entry.{Entry}
use Rattle.engine_core.specs.declared.entries.Undo.{Undo}
use Rattle.stream_task.specs.Adds.{undone_of}
use Rattle.hrana_hub.specs.Maps.{Numbered, at, without}
use Rattle.stream_task.specs.Together.{numbered}
use Rattle.hrana_hub.specs.State.{Conn, Stream, State, Seen}

-- the entry of the unit that a stream has open
abbrev pub end_of : Undo → Option Stream → List Entry
end_of why None = []
end_of why (Some x) = option_to_list (undone_of why x.task.session.state)

-- it holds no turn, waits for none, and has no place
pub record HasLeft (t : Turns) (stream : StreamNo) : Type 0 where
  pub turn : t.turn ≢ Some stream
  pub waits : has stream t.waiters ≡ false
  pub place : has stream t.reserved ≡ false

-- There is no stream of this number: it has no request that waits and no open unit, holds no turn, and waits for none.
pub record IsGone (h : Seen) (n : ℕ) : Type 0 where
  pub stream : at n h.state.streams ≡ None
  pub turn : h.turns.turn ≢ Some (numbered n)
  pub waits : has (numbered n) h.turns.waiters ≡ false

-- ---- some streams, in this order

abbrev pub ends_of : Undo → List ℕ → Numbered Stream → List Entry
ends_of why [] streams = []
ends_of why (n ∷ numbers) streams = end_of why (at n streams) ++ ends_of why numbers (without n streams)

abbrev pub let_go : List ℕ → Numbered Stream → Numbered Stream
let_go [] streams = streams
let_go (n ∷ numbers) streams = let_go numbers (without n streams)

-- the connection is gone, and its streams with it
abbrev pub without_conn : ℕ → Conn → State → State
without_conn c k s = record s { conns = without c s.conns; streams = let_go k.streams s.streams }

-- ---- all streams, in rising number

abbrev pub all_ends : Undo → Numbered Stream → List Entry
all_ends why [] = []
all_ends why (entry ∷ entries) = end_of why (Some entry.1) ++ all_ends why entries

abbrev pub at_its_end : State → State
at_its_end s = record s { conns = []; streams = []; exchanges = []; stopped = true }

-- ---- a lost exchange

-- its stream is gone with it
abbrev pub without_lost : ℕ → ℕ → State → State
without_lost c n s = record s { streams = without n s.streams; exchanges = without c s.exchanges }

-- ---- what a lost connection frees

abbrev pub FreesExchange : ℕ → Option ℕ → Seen → Type 0
FreesExchange c None new = Unit {0}
FreesExchange c (Some n) new = (at c new.state.exchanges ≡ None) × IsGone new n

abbrev pub Frees : ℕ → Option Conn → Option ℕ → Seen → Type 0
Frees c None stream new = FreesExchange c stream new
Frees c (Some k) stream new = (at c new.state.conns ≡ None) × All (IsGone new) k.streams
