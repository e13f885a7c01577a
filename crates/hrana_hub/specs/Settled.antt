-- A poll of a stream before what it gave is told, and what is left once it is told.
use Rattle.std.specs.Prelude.{◌≡◌, ◌≢◌, ℕ, Bool, List, [], Option, Some, option_to_list, MatchBool}
use Rattle.hrana_value.specs.declared.StreamNo.{StreamNo}
use Rattle.stream_requests.specs.declared.replies.Reply.{Reply}
use Rattle.http_wire.specs.declared.outs.Outs.{Outs}
use Rattle.engine_core.specs.declared.entries.Entry.{Entry}
use Rattle.stream_task.specs.Polls.{Task, Polls}
use Rattle.stream_task.specs.declared.task.Poll.{Poll}
use Rattle.stream_task.specs.declared.task.Poll.TheVariants.{Ready}
use Rattle.stream_task.specs.declared.task.Stepped.{Stepped}
use Rattle.stream_task.specs.declared.task.Stepped.TheVariants as stepped
use Rattle.hrana_hub.specs.Maps.{put}
use Rattle.hrana_hub.specs.State.{Conn, Stream, State, states_of}
use Rattle.hrana_hub.specs.Arrivals.{shut, with_conn}
use Rattle.hrana_hub.specs.Polled.{Polled, PollFell, IsWriter, seen_of, reply_in, answer, is_over, is_closed, with_task, passed, polled, streams_left, replied, with_entry, with_streams, dropped, FellShort}
use Rattle.hrana_hub.specs.Step.{is_short, closes_short}

-- ---- the poll

-- The stream has the task that the poll left. The ids of its requests are as before.
pub record PollsStream (shared : Bool) (s : State) (n : ℕ) (x : Stream) (added : List Entry) (result : Poll Stepped) (new : State) : Type 0 where
  pub by : Option StreamNo
  pub writer : IsWriter (states_of s.streams) by
  pub entry : Option Entry
  pub task : Task
  pub polls : Polls shared (seen_of by s) x.task entry result task
  pub one : added ≡ option_to_list entry
  pub left : new ≡ with_entry entry (with_streams (put n (with_task task x) s.streams) s)

-- ---- what it gave

-- a stream that is over isn't let go of yet
abbrev pub after_passed : ℕ → ℕ → Conn → Stream → Reply → State → State
after_passed n c k x reply s = with_conn c (replied n (is_closed x.task.session.state) (Some reply) k) (with_streams (put n (passed s.now x) s.streams) s)

abbrev pub after_told : ℕ → ℕ → Conn → Stream → Option Reply → State → State
after_told n c k x reply s = with_conn c (replied n (is_over reply x.task) reply k) (with_streams (streams_left (is_over reply x.task) n (polled s.now reply x.task x) s.streams) s)

pub record Tells (s : State) (n c : ℕ) (x : Stream) (k : Conn) (result : Poll Stepped) (out : Outs) (new : State) : Type 0 where
  pub found : result ≢ Ready stepped.Broke
  pub given : out ≡ answer c x.waits (reply_in result)
  pub left : new ≡ after_told n c k x (reply_in result) s

abbrev pub after_fall : ℕ → ℕ → Conn → Stream → State → State
after_fall n c k x s = with_conn c (shut k) (with_streams (put n (dropped x.task x) s.streams) s)

-- there was no memory for it
pub record Drops (s : State) (n c : ℕ) (x : Stream) (k : Conn) (result : Poll Stepped) (out : Outs) (new : State) : Type 0 where
  pub short : FellShort result
  pub given : out ≡ closes_short c
  pub left : new ≡ after_fall n c k x s

-- no entry is added
pub record Settles (s : State) (n c : ℕ) (x : Stream) (k : Conn) (result : Poll Stepped) (added : List Entry) (out : Outs) (new : State) : Type 0 where
  pub none : added ≡ []
  pub does : MatchBool (is_short out) (Drops s n c x k result out new) (Tells s n c x k result out new)

-- ---- both

abbrev pub PollEnds : Bool → State → ℕ → ℕ → Stream → Conn → List Entry → Outs → State → Type 0
PollEnds shared s n c x k added out new = MatchBool (is_short out) (PollFell shared s n c x k added out new) (Polled shared s n c x k added out new)
