-- Laws over runs of the hub.
use Rattle.std.specs.Prelude.{◌≡◌, ◌≤◌, ◌+◌, ℕ, Bool, true, false, nat_eq, cond, length, Contains, List, [], ◌∷◌, Option, None, Some}
use Rattle.std.specs.List.{All}
use Rattle.http_wire.specs.declared.outs.Outs.{Outs}
use Rattle.engine_core.specs.Draws.{Draw}
use Rattle.engine_core.specs.declared.entries.Entry.{Entry}
use Rattle.engine_core.specs.declared.entries.Entry.TheVariants as entry
use Rattle.engine_core.specs.declared.entries.How.TheVariants as how
use Rattle.stream_task.specs.Session.{is_shut}
use Rattle.hrana_hub.specs.declared.events.Event.{Event}
use Rattle.hrana_hub.specs.declared.events.Event.TheVariants.{Poll}
use Rattle.hrana_hub.specs.declared.limits.TheConstants.{MAX_CONNECTIONS, MAX_SESSIONS, MAX_STREAMS, MAX_OUTSTANDING}
use Rattle.stream_task.specs.declared.limits.TheConstants.{MAX_STORED_TEXTS, MAX_STORED_BYTES}
use Rattle.hrana_hub.specs.Maps.{Numbered, at}
use Rattle.hrana_hub.specs.State.{Conn, Stream, State, of_exchanges}
use Rattle.hrana_hub.specs.Exchanges.{sessions_in}
use Rattle.stream_task.specs.Texts.{stored_bytes}
use Rattle.hrana_hub.specs.Run.{Run, RunFrom}
use Rattle.hrana_hub.specs.Step.{Step, fits}

-- P holds after every run
abbrev pub InEveryRun : (State → Type 0) → Type 0
InEveryRun P = (token : Option (List ℕ)) (shared : Bool) (events : List Event) (drawn : List (List Draw)) (entries : List (List Entry)) (outs : List Outs) (s : State) → Run token shared events drawn entries outs s → P s

-- ---- limits

-- no limit of a connection is passed
pub record IsWithin (k : Conn) : Type 0 where
  pub streams : length k.streams ≤ MAX_STREAMS
  pub requests : k.outstanding ≤ MAX_OUTSTANDING
  pub texts : length k.texts ≤ MAX_STORED_TEXTS
  pub bytes : stored_bytes k.texts ≤ MAX_STORED_BYTES

pub record LimitsHold (s : State) : Type 0 where
  pub connections : length s.conns + length s.exchanges ≤ MAX_CONNECTIONS
  pub sessions : sessions_in s.streams ≤ MAX_SESSIONS
  pub each : (c : ℕ) (k : Conn) → at c s.conns ≡ Some k → IsWithin k

-- ---- requests that wait

-- the connection of the stream is known, and lists it
pub record IsListed (s : State) (n : ℕ) (x : Stream) : Type 0 where
  pub k : Conn
  pub known : at x.conn s.conns ≡ Some k
  pub lists : Contains k.streams n

-- how many requests of a connection wait, on all its streams
abbrev pub waits_of : ℕ → Numbered Stream → ℕ
waits_of c [] = 0
waits_of c (entry ∷ entries) = cond (nat_eq entry.1.conn c) (length entry.1.waits) 0 + waits_of c entries

-- Each request that waits on a stream of a connection has one id. Such a stream doesn't outlive its connection, which counts the requests that wait; once it
-- was closed, no fewer than those.
pub record WaitsAreCounted (s : State) : Type 0 where
  pub paired : (n : ℕ) (x : Stream) → at n s.streams ≡ Some x → of_exchanges x ≡ false → length x.waits ≡ length x.task.asks
  pub listed : (n : ℕ) (x : Stream) → at n s.streams ≡ Some x → of_exchanges x ≡ false → IsListed s n x
  pub counted : (c : ℕ) (k : Conn) → at c s.conns ≡ Some k → k.closing ≡ false → k.outstanding ≡ waits_of c s.streams
  pub at_most : (c : ℕ) (k : Conn) → at c s.conns ≡ Some k → waits_of c s.streams ≤ k.outstanding

-- ---- the dead

-- the entry of a unit that was taken back
abbrev pub IsUndone : Entry → Type 0
IsUndone (entry.Ended unit (how.Undone why)) = Unit {0}
IsUndone e = ⊥

-- the stream does no more than answer, or there is none
abbrev pub is_dead : Option Stream → Bool
is_dead None = true
is_dead (Some x) = is_shut x.task.session.state

-- The polls of a dead stream add no entry. An event that is no poll adds only those of units taken back.
abbrev pub MayAdd : State → Event → List Entry → Type 0
MayAdd s (Poll stream) added = is_dead (at stream.0 s.streams) ≡ true → added ≡ []
MayAdd s event added = All IsUndone added

-- Whatever comes after the state: a number that was given out and has no stream never has one again, a stream that is dead stays
-- so until it is gone, and neither adds an entry.
pub record DeadStay (token : Option (List ℕ)) (shared : Bool) (s : State) : Type 0 where
  pub gone : (events : List Event) (drawn : List (List Draw)) (entries : List (List Entry)) (outs : List Outs) (new : State) → RunFrom token shared s events drawn entries outs new
      → (n : ℕ) → n ≤ s.opened → at n s.streams ≡ None → at n new.streams ≡ None
  pub dead : (events : List Event) (drawn : List (List Draw)) (entries : List (List Entry)) (outs : List Outs) (new : State) → RunFrom token shared s events drawn entries outs new
      → (n : ℕ) → n ≤ s.opened → is_dead (at n s.streams) ≡ true → is_dead (at n new.streams) ≡ true
  pub adds : (event : Event) (draws : List Draw) (added : List Entry) (out : Outs) (new : State) → fits s event ≡ true → Step token shared s event draws added out new → MayAdd s event added

abbrev pub DeadAddNothing : Type 0
DeadAddNothing = (token : Option (List ℕ)) (shared : Bool) (events : List Event) (drawn : List (List Draw)) (entries : List (List Entry)) (outs : List Outs) (s : State) → Run token shared events drawn entries outs s → DeadStay token shared s
