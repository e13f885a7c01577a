-- One poll of a stream, as the hub has it.
use Rattle.std.specs.Prelude.{◌≡◌, ◌≢◌, ◌↔◌, ◌-◌, ℕ, ℤ, pos, Bool, true, false, not, nat_eq, cond, List, [], ◌∷◌, filter, Option, None, Some, option_to_list}
use Rattle.hrana_value.specs.declared.StreamNo.{StreamNo}
use Rattle.stream_requests.specs.declared.replies.Reply.{Reply}
use Rattle.ws_messages.specs.Server.{answering}
use Rattle.http_wire.specs.declared.outs.Outs.{Outs}
use Rattle.engine_core.specs.declared.entries.Entry.{Entry}
use Rattle.stream_task.specs.Adds.{next_by}
use Rattle.stream_task.specs.Moved.{version_by}
use Rattle.stream_task.specs.Polls.{Task, Polls, with_asks}
use Rattle.stream_task.specs.Table.{Seen}
use Rattle.stream_task.specs.Together.{States, numbered, is_writing}
use Rattle.stream_task.specs.declared.session.TxnState.{TxnState}
use Rattle.stream_task.specs.declared.session.TxnState.TheVariants.{Closed}
use Rattle.stream_task.specs.declared.task.Poll.{Poll}
use Rattle.stream_task.specs.declared.task.Poll.TheVariants.{Ready}
use Rattle.stream_task.specs.declared.task.Stepped.{Stepped}
use Rattle.stream_task.specs.declared.task.Stepped.TheVariants as stepped
use Rattle.hrana_hub.specs.Maps.{Numbered, put, without}
use Rattle.hrana_hub.specs.State.{Conn, Stream, State, states_of}
use Rattle.hrana_hub.specs.Arrivals.{nothing, tells, shut, with_conn}

-- who writes is read off the states of the streams, number by number
abbrev pub IsWriter : States → Option StreamNo → Type 0
IsWriter states by = (n : ℕ) → (by ≡ Some (numbered n)) ↔ (is_writing (states n) ≡ true)

-- ---- what a poll gives

abbrev pub reply_in : Poll Stepped → Option Reply
reply_in (Ready (stepped.Replied reply)) = Some reply
reply_in other = None

-- the id of the request that is answered
abbrev pub first_id : List ℤ → ℤ
first_id [] = pos 0
first_id (id ∷ ids) = id

abbrev pub later_ids : List ℤ → List ℤ
later_ids [] = []
later_ids (id ∷ ids) = ids

abbrev pub answer : ℕ → List ℤ → Option Reply → Outs
answer c ids None = nothing
answer c ids (Some reply) = tells c (answering (first_id ids) reply)

-- ---- what a poll leaves

abbrev pub is_closed : TxnState → Bool
is_closed Closed = true
is_closed other = false

-- the reply says that the stream is closed
abbrev pub is_over : Option Reply → Task → Bool
is_over None task = false
is_over (Some reply) task = is_closed task.session.state

abbrev pub still_wait : Option Reply → List ℤ → List ℤ
still_wait None ids = ids
still_wait (Some reply) ids = later_ids ids

-- the moment of the last answer
abbrev pub answered_at : ℕ → Option Reply → ℕ → ℕ
answered_at now None before = before
answered_at now (Some reply) before = now

abbrev pub polled : ℕ → Option Reply → Task → Stream → Stream
polled now reply task x = record x { waits = still_wait reply x.waits; last_answer = answered_at now reply x.last_answer; task = task }

abbrev pub with_task : Task → Stream → Stream
with_task task x = record x { task = task }

-- the stream once its first request was answered
abbrev pub passed : ℕ → Stream → Stream
passed now x = record x { waits = later_ids x.waits; last_answer = now }

abbrev pub streams_left : Bool → ℕ → Stream → Numbered Stream → Numbered Stream
streams_left over n x streams = cond over (without n streams) (put n x streams)

abbrev pub without_stream : ℕ → List ℕ → List ℕ
without_stream n streams = filter (λ stream. not (nat_eq stream n)) streams

abbrev pub replies : Option Reply → ℕ
replies None = 0
replies (Some reply) = 1

-- the connection after a reply. A stream that is closed is let go of.
abbrev pub replied : ℕ → Bool → Option Reply → Conn → Conn
replied n over reply k = record { greeted = k.greeted; closing = k.closing; texts = k.texts; ids = k.ids; streams = cond over (without_stream n k.streams) k.streams; outstanding = k.outstanding - replies reply }

abbrev pub with_entry : Option Entry → State → State
with_entry added s = record s { next = next_by s.next added; version = version_by added s.version }

abbrev pub with_streams : Numbered Stream → State → State
with_streams streams s = record s { streams = streams }

abbrev pub after_poll : ℕ → ℕ → Conn → Stream → Option Entry → Option Reply → Task → State → State
after_poll n c k x added reply task s =
    with_entry added (with_conn c (replied n (is_over reply task) reply k) (with_streams (streams_left (is_over reply task) n (polled s.now reply task x) s.streams) s))

-- what a poll sees of the others
abbrev pub seen_of : Option StreamNo → State → Seen
seen_of by s = record { by = by; version = s.version; next = s.next }

-- A poll of a stream with a request that waits, on a connection that isn't closing. It found memory.
pub record Polled (shared : Bool) (s : State) (n c : ℕ) (x : Stream) (k : Conn) (added : List Entry) (out : Outs) (new : State) : Type 0 where
  pub by : Option StreamNo
  pub writer : IsWriter (states_of s.streams) by
  pub entry : Option Entry
  pub result : Poll Stepped
  pub task : Task
  pub polls : Polls shared (seen_of by s) x.task entry result task
  pub found : result ≢ Ready stepped.Broke
  pub one : added ≡ option_to_list entry
  pub given : out ≡ answer c x.waits (reply_in result)
  pub left : new ≡ after_poll n c k x entry (reply_in result) task s

-- ---- want of memory

-- the stream's requests are dropped
abbrev pub dropped : Task → Stream → Stream
dropped task x = record x { waits = []; task = with_asks task task.session.state [] }

-- there was none for the poll, or none for the reply that it made
abbrev pub FellShort : Poll Stepped → Type 0
FellShort (Ready stepped.Broke) = Unit {0}
FellShort (Ready (stepped.Replied reply)) = Unit {0}
FellShort other = ⊥

-- The connection is closed with 1011. The poll's entry stands, if the engine was called.
pub record PollFell (shared : Bool) (s : State) (n c : ℕ) (x : Stream) (k : Conn) (added : List Entry) (out : Outs) (new : State) : Type 0 where
  pub by : Option StreamNo
  pub writer : IsWriter (states_of s.streams) by
  pub entry : Option Entry
  pub result : Poll Stepped
  pub task : Task
  pub polls : Polls shared (seen_of by s) x.task entry result task
  pub short : FellShort result
  pub one : added ≡ option_to_list entry
  pub given : out ≡ record { conn = c; out = None; close = Some 1011 }
  pub left : new ≡ with_entry entry (with_conn c (shut k) (with_streams (put n (dropped task x) s.streams) s))
