-- What the hub knows between two events.
use Rattle.std.specs.Prelude.{◌≡◌, ◌≤◌, ℕ, ℤ, Bool, false, is_some, List, [], Option, None, Some}
use Rattle.txn_table.specs.Turns.{Turns}
use Rattle.baton_store.specs.Batons.{Batons}
use Rattle.engine_core.specs.Noted.{Noted}
use Rattle.stream_task.specs.Polls.{Task}
use Rattle.stream_task.specs.Together.{States}
use Rattle.stream_task.specs.declared.session.TxnState.{TxnState}
use Rattle.stream_task.specs.declared.texts.StoredText.{StoredText}
use Rattle.hrana_hub.specs.declared.sessions.Session.{Session}
use Rattle.hrana_hub.specs.Maps.{Numbered, Ids, at}

pub record Conn : Type 0 where
  -- a hello of it was accepted
  pub greeted : Bool
  -- it was closed, and isn't lost yet
  pub closing : Bool
  pub texts : List StoredText
  -- its streams by their ids, until the close of each has arrived
  pub ids : Ids
  -- the numbers of its streams, in the order in which they were opened
  pub streams : List ℕ
  -- how many of its requests wait for their reply
  pub outstanding : ℕ

pub record Stream : Type 0 where
  -- the connection that opened it
  pub conn : ℕ
  -- the ids of the requests that it was asked and hasn't answered, in order
  pub waits : List ℤ
  -- the moment of its last answer, at first that of its opening
  pub last_answer : ℕ
  -- what a stream of exchanges waits for; a stream of a connection has none
  pub session : Option Session
  pub task : Task

pub record State : Type 0 where
  pub conns : Numbered Conn
  pub streams : Numbered Stream
  -- the streams of the exchanges that aren't answered yet, by their connections
  pub exchanges : Numbered ℕ
  -- how many batons were issued
  pub issued : ℕ
  -- how many streams were opened, so the number of the last one
  pub opened : ℕ
  -- the number of the next unit
  pub next : ℕ
  -- how many commits there were
  pub version : ℕ
  pub events : ℕ
  -- the greatest moment so far
  pub now : ℕ
  pub stopped : Bool

abbrev pub first_state : State
first_state = record { conns = []; streams = []; exchanges = []; issued = 0; opened = 0; next = 1; version = 0; events = 0; now = 0; stopped = false }

-- what contracts see of a hub
pub record Seen : Type 0 where
  pub token : Option (List ℕ)
  pub state : State
  pub turns : Turns
  pub store : Batons
  pub noted : Noted

abbrev pub with_state : State → Seen → Seen
with_state s h = record { token = h.token; state = s; turns = h.turns; store = h.store; noted = h.noted }

-- nothing changed but the places for entries, which are never fewer
pub record OnlyPlaces (old new : Seen) : Type 0 where
  pub token : new.token ≡ old.token
  pub state : new.state ≡ old.state
  pub turns : new.turns ≡ old.turns
  pub store : new.store ≡ old.store
  pub list : new.noted.list ≡ old.noted.list
  pub next : new.noted.next ≡ old.noted.next
  pub places : old.noted.spare ≤ new.noted.spare

abbrev pub state_in : Option Stream → Option TxnState
state_in None = None
state_in (Some x) = Some x.task.session.state

-- the state of each stream's transaction
abbrev pub states_of : Numbered Stream → States
states_of streams n = state_in (at n streams)

-- it is a stream of exchanges, and not of a connection
abbrev pub of_exchanges : Stream → Bool
of_exchanges x = is_some x.session
