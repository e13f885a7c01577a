-- A poll of a stream whose exchange runs, before what it gave is told, and what is left once it is told.
use Rattle.std.specs.Prelude.{◌≡◌, ◌≢◌, ◌<◌, ◌^◌, ℕ, Bool, List, [], None, Some, Result, Ok, Err, MatchBool}
use Rattle.hrana_value.specs.declared.failures.NoMemory.{NoMemory}
use Rattle.stream_requests.specs.Results.{IsPipelineReply}
use Rattle.stream_task.specs.Session.{is_shut}
use Rattle.http_wire.specs.declared.outs.Outs.{Outs}
use Rattle.engine_core.specs.declared.entries.Entry.{Entry}
use Rattle.stream_task.specs.declared.task.Poll.{Poll}
use Rattle.stream_task.specs.declared.task.Poll.TheVariants.{Ready}
use Rattle.stream_task.specs.declared.task.Stepped.{Stepped}
use Rattle.stream_task.specs.declared.task.Stepped.TheVariants as stepped
use Rattle.hrana_hub.specs.declared.sessions.Running.{Running as Exchange}
use Rattle.hrana_hub.specs.Maps.{at, put}
use Rattle.baton_store.specs.Batons.{with_baton}
use Rattle.stream_task.specs.Together.{numbered}
use Rattle.hrana_hub.specs.declared.sessions.Session.TheVariants.{Resting}
use Rattle.hrana_hub.specs.State.{Stream, State, Seen}
use Rattle.hrana_hub.specs.Askers.{running_of}
use Rattle.hrana_hub.specs.Exchanges.{SessionPolled, SessionFell, replies_to, gives_up, concludes, empty_503, in_session, issues, without_exchange, next_baton}
use Rattle.hrana_hub.specs.Polled.{reply_in, FellShort, passed, dropped, with_streams}
use Rattle.hrana_hub.specs.Step.{is_short}

-- one baton more may be issued: no more than one was for each event before this
pub record MayIssue (s : State) : Type 0 where
  pub batons : s.issued < s.events
  pub few : s.events < 2 ^ 62

-- this exchange of the stream runs
pub record IsRunning (s : State) (n : ℕ) (x : Stream) (e : Exchange) : Type 0 where
  pub known : at n s.streams ≡ Some x
  pub runs : running_of x ≡ Some e

-- an exchange of it runs, which came in on this connection
pub record IsRunningFor (c : ℕ) (close : Bool) (x : Stream) : Type 0 where
  pub e : Exchange
  pub runs : running_of x ≡ Some e
  pub conn : e.conn ≡ c
  pub closes : e.close ≡ close

-- a reply that the poll gave is one to a request over HTTP
abbrev pub HasPipelineReply : Poll Stepped → Type 0
HasPipelineReply (Ready (stepped.Replied reply)) = IsPipelineReply reply
HasPipelineReply other = Unit {0}

-- the exchange is answered, or there was no memory for its answer
abbrev pub Concludes : ℕ → Stream → Exchange → State → List Entry → Result Outs NoMemory → State → Type 0
Concludes n x e s added (Ok out) new = (added ≡ []) × (out ≡ (concludes (is_shut x.task.session.state) n x e s).given) × (new ≡ (concludes (is_shut x.task.session.state) n x e s).state)
Concludes n x e s added (Err short) new = (added ≡ []) × (new ≡ s)

-- it rests without a baton, and its requests are dropped
abbrev pub given_up : ℕ → Stream → Stream
given_up now x = in_session (Resting None) (passed now (dropped x.task x))

-- it rests with this baton
abbrev pub rested : List ℕ → ℕ → Stream → Stream
rested text now x = in_session (Resting (Some (record { text = text; at = now }))) (passed now x)

-- a baton was issued to the stream, and the exchange of the connection is over
pub record HandsOut (old : Seen) (n c : ℕ) (drawn : List ℕ) (x : Stream) (new : Seen) : Type 0 where
  pub state : new.state ≡ issues (without_exchange c (with_streams (put n (rested (next_baton drawn old.state) old.state.now x) old.state.streams) old.state))
  pub store : new.store ≡ with_baton old.store (numbered n) drawn old.state.now
  pub token : new.token ≡ old.token
  pub turns : new.turns ≡ old.turns
  pub noted : new.noted ≡ old.noted

-- what the poll gave is told
pub record Tells (s : State) (n : ℕ) (x : Stream) (e : Exchange) (result : Poll Stepped) (out : Outs) (new : State) : Type 0 where
  pub found : result ≢ Ready stepped.Broke
  pub given : out ≡ (replies_to (reply_in result) n x e s).given
  pub left : new ≡ (replies_to (reply_in result) n x e s).state

-- there was no memory for it
pub record GivesUp (s : State) (n : ℕ) (x : Stream) (e : Exchange) (result : Poll Stepped) (out : Outs) (new : State) : Type 0 where
  pub short : FellShort result
  pub given : out ≡ empty_503 e.conn e.close
  pub left : new ≡ gives_up n x e s

-- no entry is added
pub record Settles (s : State) (n : ℕ) (x : Stream) (e : Exchange) (result : Poll Stepped) (added : List Entry) (out : Outs) (new : State) : Type 0 where
  pub none : added ≡ []
  pub does : MatchBool (is_short out) (GivesUp s n x e result out new) (Tells s n x e result out new)

-- both
abbrev pub Ends : Bool → State → ℕ → Stream → Exchange → List Entry → Outs → State → Type 0
Ends shared s n x e added out new = MatchBool (is_short out) (SessionFell shared s n x e added out new) (SessionPolled shared s n x e added out new)
