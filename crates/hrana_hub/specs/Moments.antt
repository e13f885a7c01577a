-- Moments: when a stream is due, and what is left of it then.
use Rattle.std.specs.Prelude.{◌≡◌, ◌≢◌, ◌≤◌, ◌-◌, ◌&&◌, ◌||◌, not, nat_le, cond, ℕ, Bool, true, false, List, [], ◌∷◌, ◌++◌, Option, None, Some}
use Rattle.txn_table.specs.Turns.{has}
use Rattle.engine_core.specs.declared.entries.Entry.{Entry}
use Rattle.engine_core.specs.declared.entries.Undo.TheVariants as undo
use Rattle.stream_task.specs.Polls.{is_waiting, ended}
use Rattle.stream_task.specs.Together.{numbered}
use Rattle.stream_task.specs.declared.session.TxnState.{TxnState}
use Rattle.stream_task.specs.declared.session.TxnState.TheVariants.{Deferred, Reading, Writing}
use Rattle.hrana_hub.specs.declared.events.Event.{Event}
use Rattle.hrana_hub.specs.declared.events.Event.TheVariants.{Lost, Moment}
use Rattle.hrana_hub.specs.declared.limits.TheConstants.{EXPIRY_MS}
use Rattle.hrana_hub.specs.Maps.{Numbered, at, those_left, first_that}
use Rattle.hrana_hub.specs.State.{Stream, State, Seen, of_exchanges}
use Rattle.hrana_hub.specs.Ended.{end_of, Frees}

-- ---- a stream that is due

-- a transaction was begun, and is neither ended nor lost
abbrev pub is_begun : TxnState → Bool
is_begun Deferred = true
is_begun (Reading unit had) = true
is_begun (Writing unit) = true
is_begun state = false

-- it holds a transaction, or is a stream of exchanges, and has nothing to do
abbrev pub may_expire : Stream → Bool
may_expire x = (of_exchanges x || is_begun x.task.session.state) && not (is_waiting x.task.asks)

-- and its last answer is so old
abbrev pub is_due : ℕ → Stream → Bool
is_due now x = may_expire x && nat_le EXPIRY_MS (now - x.last_answer)

-- a stream of a connection is dead then, and does no more than answer
abbrev pub expired : Stream → Stream
expired x = record x { task = ended undo.Expired x.task }

-- a stream of exchanges is gone
abbrev pub left_of : Stream → Option Stream
left_of x = cond (of_exchanges x) None (Some (expired x))

-- a stream after the moment
abbrev pub after : ℕ → Stream → Option Stream
after now x = cond (is_due now x) (left_of x) (Some x)

-- the first from this number on that is due
abbrev pub first_due : ℕ → ℕ → Numbered Stream → Option ℕ
first_due now from streams = first_that (λ n. nat_le from n) (is_due now) streams

-- ---- all streams, in rising number

-- the entries of the units that are taken back
abbrev pub expiries : ℕ → Numbered Stream → List Entry
expiries now [] = []
expiries now (entry ∷ entries) = cond (is_due now entry.1) (end_of undo.Expired (Some entry.1)) [] ++ expiries now entries

abbrev pub at_moment : ℕ → State → State
at_moment now s = record s { streams = those_left (after now) s.streams; now = now }

-- ---- what a moment frees

-- the stream that was due is dead or gone, and has nothing to do; it holds no turn, and waits for none
pub record HasExpired (h : Seen) (n : ℕ) (x : Stream) : Type 0 where
  pub stream : at n h.state.streams ≡ left_of x
  pub turn : h.turns.turn ≢ Some (numbered n)
  pub waits : has (numbered n) h.turns.waiters ≡ false

-- so it is with each that was due
abbrev pub Expire : ℕ → Seen → Seen → Type 0
Expire now old new = (n : ℕ) (x : Stream) → at n old.state.streams ≡ Some x → is_due now x ≡ true → HasExpired new n x

-- a moment below the last one changes nothing
abbrev pub MomentFrees : ℕ → Seen → Seen → Type 0
MomentFrees now old new = old.state.now ≤ now → Expire now old new

-- A lost connection is gone, and so are its streams, or that of its exchange. What a moment finds due is dead or gone.
abbrev pub LossFrees : Event → Seen → Seen → Type 0
LossFrees (Lost c) old new = Frees c (at c old.state.conns) (at c old.state.exchanges) new
LossFrees (Moment now) old new = MomentFrees now old new
LossFrees event old new = Unit {0}
