-- What the calls beside `step` answer.
use Rattle.std.specs.Prelude.{ℕ, Bool, true, false, not, ◌&&◌, ◌||◌, is_some, nat_lt, Option, None, Some}
use Rattle.stream_task.specs.Polls.{is_waiting}
use Rattle.hrana_hub.specs.Maps.{Numbered, at, first_that}
use Rattle.hrana_hub.specs.State.{Conn, Stream, State, of_exchanges}
use Rattle.hrana_hub.specs.Step.{has_room, is_free}

-- a connection that isn't known may come
abbrev pub room_at : Option Conn → Bool
room_at None = true
room_at (Some k) = not k.closing && has_room k

-- nothing is taken from a connection whose exchange isn't answered
abbrev pub has_room_for : State → ℕ → Bool
has_room_for s c = room_at (at c s.conns) && is_free (at c s.exchanges)

abbrev pub is_known : State → ℕ → Bool
is_known s c = is_some (at c s.conns) || is_some (at c s.exchanges)

abbrev pub is_heard : Option Conn → Bool
is_heard None = false
is_heard (Some k) = not k.closing

-- the stream has something to do, and is one of exchanges, or its connection isn't closing
abbrev pub is_ready : Numbered Conn → Stream → Bool
is_ready conns x = is_waiting x.task.asks && (of_exchanges x || is_heard (at x.conn conns))

-- the first of these that is above the number and ready
abbrev pub first_ready : ℕ → Numbered Conn → Numbered Stream → Option ℕ
first_ready after conns streams = first_that (λ n. nat_lt after n) (is_ready conns) streams
