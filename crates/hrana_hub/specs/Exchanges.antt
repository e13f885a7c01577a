-- Exchanges over HTTP: what each does to its stream, and how it is answered.
use Rattle.std.specs.Prelude.{◌≡◌, ◌≢◌, ◌+◌, ◌<◌, ◌⊎◌, ℕ, Bool, true, false, nat_le, cond, List, [], ◌∷◌, ◌++◌, Option, None, Some, option_to_list}
use Rattle.hrana_value.specs.declared.StreamNo.{StreamNo}
use Rattle.hrana_stmt.specs.declared.codes.Code.{Code}
use Rattle.hrana_stmt.specs.declared.codes.Code.TheVariants as code
use Rattle.stream_requests.specs.declared.asks.Ask.{Ask}
use Rattle.stream_requests.specs.declared.replies.Reply.{Reply}
use Rattle.http_wire.specs.declared.asks.HttpAsk.{HttpAsk}
use Rattle.http_wire.specs.declared.outs.HttpAnswer.{HttpAnswer}
use Rattle.http_wire.specs.declared.outs.Outs.{Outs}
use Rattle.http_wire.specs.declared.outs.Out.TheVariants.{Answer}
use Rattle.pipeline_body.specs.declared.bodies.PipelineBody.{PipelineBody}
use Rattle.pipeline_body.specs.declared.exchange.Asked.{Asked}
use Rattle.pipeline_body.specs.declared.exchange.Asked.TheVariants.{Answered, Pipeline}
use Rattle.pipeline_body.specs.Exchanges.{IsAsked, empty_answer, error_answer, pipeline_answer, begins, asked_in, answered, is_over}
use Rattle.baton_store.specs.Text.{text_of}
use Rattle.baton_store.specs.declared.limits.TheConstants.{BATON_LIFE_MS}
use Rattle.engine_core.specs.Draws.{Draw, words, failed}
use Rattle.engine_core.specs.declared.entries.Entry.{Entry}
use Rattle.stream_task.specs.Doing.{work_of}
use Rattle.stream_task.specs.Polls.{Polls, Task, new_task}
use Rattle.stream_task.specs.Session.{is_shut}
use Rattle.stream_task.specs.Together.{numbered}
use Rattle.stream_task.specs.declared.task.Poll.{Poll}
use Rattle.stream_task.specs.declared.task.Poll.TheVariants.{Ready}
use Rattle.stream_task.specs.declared.task.Stepped.{Stepped}
use Rattle.stream_task.specs.declared.task.Stepped.TheVariants as stepped
use Rattle.stream_task.specs.declared.work.Work.{Work}
use Rattle.hrana_hub.specs.declared.limits.TheConstants.{MAX_SESSIONS}
use Rattle.hrana_hub.specs.declared.sessions.Issued.{Issued}
use Rattle.hrana_hub.specs.declared.sessions.Running.{Running as Exchange}
use Rattle.hrana_hub.specs.declared.sessions.Session.{Session}
use Rattle.hrana_hub.specs.declared.sessions.Session.TheVariants.{Resting, Running}
use Rattle.hrana_hub.specs.Askers.{asks_these}
use Rattle.hrana_hub.specs.Maps.{Numbered, at, put, placed, without}
use Rattle.hrana_hub.specs.State.{Stream, State, states_of, of_exchanges}
use Rattle.hrana_hub.specs.Arrivals.{Went, quiet, accepts}
use Rattle.hrana_hub.specs.Polled.{IsWriter, seen_of, reply_in, with_entry, with_streams, with_task, passed, dropped, FellShort}

-- ---- what is given

abbrev pub answers_with : ℕ → HttpAnswer → Outs
answers_with c answer = record { conn = c; out = Some (Answer answer); close = None }

abbrev pub answering : ℕ → HttpAnswer → State → Went
answering c answer s = record { given = answers_with c answer; state = s }

-- there was no memory
abbrev pub empty_503 : ℕ → Bool → Outs
empty_503 c close = answers_with c (empty_answer 503 None close)

abbrev pub refusing : ℕ → ℕ → Code → Bool → State → Went
refusing c status why close s = answering c (error_answer status why close) s

-- ---- a stream of exchanges

abbrev pub in_session : Session → Stream → Stream
in_session session x = record x { session = Some session }

-- it waits for the exchange that brings this baton
abbrev pub rests : ℕ → Stream → Option Issued → State → State
rests n x baton s = with_streams (put n (in_session (Resting baton) x) s.streams) s

-- an exchange of it runs
abbrev pub runs : ℕ → Stream → Exchange → State → State
runs n x e s = with_streams (put n (in_session (Running e) x) s.streams) s

-- it is gone
abbrev pub leaves : ℕ → State → State
leaves n s = with_streams (without n s.streams) s

abbrev pub without_exchange : ℕ → State → State
without_exchange c s = record s { exchanges = without c s.exchanges }

-- ---- the answer to a pipeline

abbrev pub next_baton : List ℕ → State → List ℕ
next_baton drawn s = text_of (s.issued + 1) drawn

abbrev pub issues : State → State
issues s = record s { issued = s.issued + 1 }

-- the answer with a new baton, issued at this moment
abbrev pub hands_out : ℕ → Stream → Exchange → State → Went
hands_out n x e s = answering e.conn (pipeline_answer e.exchange.results (Some (next_baton e.words s)) e.close)
    (issues (without_exchange e.conn (rests n (passed s.now x) (Some (record { text = next_baton e.words s; at = s.now })) s)))

-- the answer of a stream that was closed, or broke: it has no baton, and the stream is gone with it
abbrev pub takes_leave : ℕ → Exchange → State → Went
takes_leave n e s = answering e.conn (pipeline_answer e.exchange.results None e.close) (without_exchange e.conn (leaves n s))

abbrev pub concludes : Bool → ℕ → Stream → Exchange → State → Went
concludes true n x e s = takes_leave n e s
concludes false n x e s = hands_out n x e s

-- the exchange is answered where each of its requests has its result
abbrev pub proceeds_if : Bool → ℕ → Stream → Exchange → State → Went
proceeds_if true n x e s = concludes (is_shut x.task.session.state) n x e s
proceeds_if false n x e s = quiet (runs n x e s)

abbrev pub proceeds : ℕ → Stream → Exchange → State → Went
proceeds n x e s = proceeds_if (is_over e.exchange) n x e s

-- ---- a poll of a stream whose exchange runs

abbrev pub with_reply : Reply → Exchange → Exchange
with_reply reply e = record { conn = e.conn; words = e.words; close = e.close; exchange = answered reply e.exchange }

abbrev pub replies_to : Option Reply → ℕ → Stream → Exchange → State → Went
replies_to None n x e s = quiet (with_streams (put n x s.streams) s)
replies_to (Some reply) n x e s = proceeds n x (with_reply reply e) s

-- it found memory
pub record SessionPolled (shared : Bool) (s : State) (n : ℕ) (x : Stream) (e : Exchange) (added : List Entry) (out : Outs) (new : State) : Type 0 where
  pub by : Option StreamNo
  pub writer : IsWriter (states_of s.streams) by
  pub entry : Option Entry
  pub result : Poll Stepped
  pub task : Task
  pub polls : Polls shared (seen_of by s) x.task entry result task
  pub found : result ≢ Ready stepped.Broke
  pub one : added ≡ option_to_list entry
  pub given : out ≡ (replies_to (reply_in result) n (with_task task x) e (with_entry entry s)).given
  pub left : new ≡ (replies_to (reply_in result) n (with_task task x) e (with_entry entry s)).state

-- the requests are dropped, and there is no baton: the stream expires by the moment of this answer
abbrev pub gives_up : ℕ → Stream → Exchange → State → State
gives_up n x e s = without_exchange e.conn (rests n (passed s.now (dropped x.task x)) None s)

-- There was no memory for the poll, or none for what it replied. The poll's entry stands, if the engine was called.
pub record SessionFell (shared : Bool) (s : State) (n : ℕ) (x : Stream) (e : Exchange) (added : List Entry) (out : Outs) (new : State) : Type 0 where
  pub by : Option StreamNo
  pub writer : IsWriter (states_of s.streams) by
  pub entry : Option Entry
  pub result : Poll Stepped
  pub task : Task
  pub polls : Polls shared (seen_of by s) x.task entry result task
  pub short : FellShort result
  pub one : added ≡ option_to_list entry
  pub given : out ≡ empty_503 e.conn e.close
  pub left : new ≡ gives_up n (with_task task x) e (with_entry entry s)

-- ---- an exchange that comes

-- a stream of exchanges that opens at this moment
abbrev pub fresh_session : ℕ → ℕ → ℕ → Stream
fresh_session now c n = record { conn = c; waits = []; last_answer = now; session = Some (Resting None); task = new_task (numbered n) true }

abbrev pub with_session : ℕ → State → State
with_session c s = record s { streams = placed (s.opened + 1) (fresh_session s.now c (s.opened + 1)) s.streams; opened = s.opened + 1 }

abbrev pub works_of : List Ask → List Work
works_of [] = []
works_of (what ∷ asks) = option_to_list (work_of what) ++ works_of asks

abbrev pub with_exchange : ℕ → ℕ → State → State
with_exchange c n s = record s { exchanges = placed c n s.exchanges }

-- Where nothing is left to poll the exchange is answered at once.
abbrev pub starts_if : Bool → ℕ → Stream → List Ask → Exchange → State → Went
starts_if true n x asks e s = hands_out n x e s
starts_if false n x asks e s = quiet (with_exchange e.conn n (runs n (asks_these (works_of asks) x) e s))

abbrev pub starts : ℕ → Stream → List Ask → Exchange → State → Went
starts n x asks e s = starts_if (is_over e.exchange) n x asks e s

-- it went so
pub record Does (went : Went) (out : Outs) (new : State) : Type 0 where
  pub given : out ≡ went.given
  pub left : new ≡ went.state

-- the stream of this number waits for the exchange that brings this text, and not for too long
pub record Awaits (s : State) (text : List ℕ) (n : ℕ) (x : Stream) : Type 0 where
  pub baton : Issued
  pub known : at n s.streams ≡ Some x
  pub rests : x.session ≡ Some (Resting (Some baton))
  pub text_is : baton.text ≡ text
  pub young : s.now < baton.at + BATON_LIFE_MS

-- the exchange goes on with the stream that waits for it
pub record GoesOn (s : State) (text : List ℕ) (asks : List Ask) (e : Exchange) (out : Outs) (new : State) : Type 0 where
  pub stream : ℕ
  pub x : Stream
  pub awaits : Awaits s text stream x
  pub does : Does (starts stream x asks e s) out new

-- no stream waits for it
pub record IsDead (s : State) (text : List ℕ) (e : Exchange) (out : Outs) (new : State) : Type 0 where
  pub none : (n : ℕ) (x : Stream) → Awaits s text n x → ⊥
  pub does : Does (refusing e.conn 400 code.BatonDead e.close s) out new

-- how many streams of exchanges there are
abbrev pub sessions_in : Numbered Stream → ℕ
sessions_in [] = 0
sessions_in (entry ∷ entries) = cond (of_exchanges entry.1) 1 0 + sessions_in entries

abbrev pub opens_unless : Bool → List Ask → Exchange → State → Went
opens_unless true asks e s = refusing e.conn 503 code.TooManyStreams e.close s
opens_unless false asks e s = starts (s.opened + 1) (fresh_session s.now e.conn (s.opened + 1)) asks e (with_session e.conn s)

-- by its baton
abbrev pub GoesBy : Option (List ℕ) → List Ask → Exchange → State → Outs → State → Type 0
GoesBy None asks e s out new = Does (opens_unless (nat_le MAX_SESSIONS (sessions_in s.streams)) asks e s) out new
GoesBy (Some text) asks e s out new = GoesOn s text asks e out new ⊎ IsDead s text e out new

-- by the words that were drawn for it
abbrev pub GoesDrawn : Draw → PipelineBody → ℕ → Bool → State → Outs → State → Type 0
GoesDrawn failed body c close s out new = Does (refusing c 503 code.NoToken close s) out new
GoesDrawn (words drawn) body c close s out new = GoesBy body.baton (asked_in body.asks) (record { conn = c; words = drawn; close = close; exchange = begins body.asks }) s out new

-- by what is asked
abbrev pub GoesAsked : Asked → ℕ → Bool → State → List Draw → Outs → State → Type 0
GoesAsked (Answered answer) c close s draws out new = (draws ≡ []) × Does (answering c answer s) out new
GoesAsked (Pipeline body) c close s draws out new = (draw : Draw) × (draws ≡ draw ∷ []) × GoesDrawn draw body c close s out new

-- it found memory
pub record IsHeard (token : Option (List ℕ)) (s : State) (c : ℕ) (ask : HttpAsk) (draws : List Draw) (out : Outs) (new : State) : Type 0 where
  pub asked : Asked
  pub is_asked : IsAsked (accepts token ask.bearer) ask asked
  pub goes : GoesAsked asked c ask.close s draws out new
