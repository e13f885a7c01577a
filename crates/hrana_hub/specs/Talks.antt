-- What a run says of the stream of exchanges of a number: the exchanges that were accepted for it, the entries that its polls
-- added, and the answers that were given.
use Rattle.std.specs.Prelude.{◌≡◌, ◌≢◌, ◌+◌, ◌<◌, ℕ, Bool, true, false, List, [], ◌∷◌, ◌++◌, length, Option, Some, None}
use Rattle.hrana_value.specs.declared.StreamNo.{StreamNo}
use Rattle.stream_requests.specs.declared.replies.Reply.{Reply}
use Rattle.http_wire.specs.declared.asks.HttpAsk.{HttpAsk}
use Rattle.http_wire.specs.declared.outs.Outs.{Outs}
use Rattle.http_wire.specs.declared.outs.Out.{Out}
use Rattle.http_wire.specs.declared.outs.Out.TheVariants.{Message, Answer}
use Rattle.pipeline_body.specs.declared.bodies.PipeAsk.{PipeAsk}
use Rattle.pipeline_body.specs.declared.bodies.PipelineBody.{PipelineBody}
use Rattle.pipeline_body.specs.declared.exchange.Asked.TheVariants.{Pipeline}
use Rattle.pipeline_body.specs.Exchanges.{IsAsked, route_answer, asked_in, results_of, pipeline_answer}
use Rattle.engine_core.specs.Draws.{Draw, words}
use Rattle.engine_core.specs.declared.entries.Entry.{Entry}
use Rattle.stream_task.specs.Laws.{replies}
use Rattle.stream_task.specs.declared.work.Work.{Work}
use Rattle.hrana_hub.specs.declared.events.Event.{Event}
use Rattle.hrana_hub.specs.declared.events.Event.TheVariants.{Exchange, Poll}
use Rattle.hrana_hub.specs.declared.limits.TheConstants.{MAX_SESSIONS}
use Rattle.hrana_hub.specs.declared.sessions.Session.{Session}
use Rattle.hrana_hub.specs.declared.sessions.Session.TheVariants.{Resting, Running}
use Rattle.hrana_hub.specs.Maps.{at}
use Rattle.hrana_hub.specs.State.{Stream, State}
use Rattle.hrana_hub.specs.Arrivals.{accepts}
use Rattle.hrana_hub.specs.Exchanges.{Awaits, answers_with, empty_503, sessions_in, works_of}
use Rattle.hrana_hub.specs.Run.{Run, RunFrom, start, more}
use Rattle.hrana_hub.specs.Stories.{AreVersions, new_session}

-- ---- what one event says

-- an exchange that was accepted: where it came in, what its body asks, and whether the connection is closed after the answer
pub record Accepted : Type 0 where
  pub conn : ℕ
  pub asks : List PipeAsk
  pub close : Bool

pub record Talk : Type 0 where
  -- the exchanges accepted for the stream, in the order in which they came
  pub accepted : List Accepted
  -- the entries that its polls added
  pub used : List Entry
  -- the answers
  pub answers : List Outs

abbrev pub no_talk : Talk
no_talk = record { accepted = []; used = []; answers = [] }

abbrev pub then : Talk → Talk → Talk
then t u = record { accepted = t.accepted ++ u.accepted; used = t.used ++ u.used; answers = t.answers ++ u.answers }

-- by the stream that waits for the baton, or by the next that opens, where one more may
abbrev pub IsBy : State → ℕ → Option (List ℕ) → Type 0
IsBy s n None = (n ≡ s.opened + 1) × (sessions_in s.streams < MAX_SESSIONS)
IsBy s n (Some text) = (x : Stream) × Awaits s text n x

-- the exchange has this body, words were drawn for it, and it is accepted for the stream of this number
pub record Accepts (token : Option (List ℕ)) (s : State) (ask : HttpAsk) (draws : List Draw) (n : ℕ) (body : PipelineBody) : Type 0 where
  pub routed : route_answer ask ≡ None
  pub asked : IsAsked (accepts token ask.bearer) ask (Pipeline body)
  pub drawn : List ℕ
  pub one : draws ≡ words drawn ∷ []
  pub by : IsBy s n body.baton

abbrev pub answers_in : Outs → Option Out → List Outs
answers_in out None = []
answers_in out (Some (Message text)) = []
answers_in out (Some (Answer answer)) = out ∷ []

-- the event is no poll of the stream, and no exchange that is accepted for it
abbrev pub PassesBy : Option (List ℕ) → State → List Draw → ℕ → Event → Type 0
PassesBy token s draws n (Poll stream) = stream.0 ≢ n
PassesBy token s draws n (Exchange c ask) = (body : PipelineBody) → Accepts token s ask draws n body → ⊥
PassesBy token s draws n event = Unit {0}

pub data Says (token : Option (List ℕ)) (n : ℕ) (draws : List Draw) (added : List Entry) (out : Outs) (s : State) : Event → Talk → Type 0 where
  polls : (stream : StreamNo) → stream.0 ≡ n → Says token n draws added out s (Poll stream) (record { accepted = []; used = added; answers = answers_in out out.out })
  takes : (c : ℕ) (ask : HttpAsk) (body : PipelineBody) → Accepts token s ask draws n body
      → Says token n draws added out s (Exchange c ask) (record { accepted = record { conn = c; asks = body.asks; close = ask.close } ∷ []; used = []; answers = answers_in out out.out })
  passes : (event : Event) → PassesBy token s draws n event → Says token n draws added out s event no_talk

-- ---- what a run says

abbrev pub IsTalk : {token : Option (List ℕ)} {shared : Bool} {first : State} {events : List Event} {drawn : List (List Draw)} {entries : List (List Entry)} {outs : List Outs} {s : State} → ℕ → RunFrom token shared first events drawn entries outs s → Talk → Type 0
IsTalk n start t = t ≡ no_talk
IsTalk {token} n (more {s = old} run event draws added out new fits step) t = (before now : Talk) × IsTalk n run before × Says token n draws added out old event now × (t ≡ then before now)

-- ---- the law of answers

abbrev pub works_in : List Accepted → List Work
works_in [] = []
works_in (a ∷ later) = works_of (asked_in a.asks) ++ works_in later

-- The first of the exchanges have these answers, one each, in order: the results of its requests, by the replies to those that its
-- stream was asked. Where the stream may have fallen, the last may be the empty 503 instead: there was no memory.
pub data AreAnswers : Bool → List Accepted → List Reply → List Outs → Type 0 where
  no_more : (may_fall : Bool) (left : List Accepted) (told : List Reply) → AreAnswers may_fall left told []
  results : (may_fall : Bool) (a : Accepted) (left : List Accepted) (mine told : List Reply) (baton : Option (List ℕ)) (answers : List Outs) → length mine ≡ length (asked_in a.asks) → AreAnswers may_fall left told answers
      → AreAnswers may_fall (a ∷ left) (mine ++ told) (answers_with a.conn (pipeline_answer (results_of a.asks mine) baton a.close) ∷ answers)
  falls : (a : Accepted) (left : List Accepted) (told : List Reply) → AreAnswers true (a ∷ left) told (empty_503 a.conn a.close ∷ [])

-- it waits for its next exchange, or one of it runs
abbrev pub GoesOn : Option Session → Type 0
GoesOn None = ⊥
GoesOn (Some (Resting None)) = ⊥
GoesOn (Some (Resting (Some baton))) = Unit {0}
GoesOn (Some (Running e)) = Unit {0}

abbrev pub running : Option Session → ℕ
running (Some (Running e)) = 1
running session = 0

-- Each exchange but the one that runs has its answer, with the results of its requests. The replies are those that the requests mean, by the entries that the polls added;
-- what the others mean is left to the requests that wait.
pub record Tells (shared : Bool) (had : ℕ → ℕ) (t : Talk) (x : Stream) : Type 0 where
  pub told : List Reply
  pub answers : AreAnswers false t.accepted told t.answers
  pub all : length t.accepted ≡ length t.answers + running x.session
  pub means : (later : List Work) (rest : List Entry) → replies shared had (works_in t.accepted ++ later) new_session (t.used ++ rest) ≡ told ++ replies shared had (x.task.asks ++ later) x.task.session rest

-- The answers are of the first of the exchanges, and the replies in them are the first that the requests mean.
pub record HasTold (shared : Bool) (had : ℕ → ℕ) (t : Talk) : Type 0 where
  pub told : List Reply
  pub answers : AreAnswers true t.accepted told t.answers
  pub means : (later : List Work) (rest : List Entry) → (more : List Reply) × (replies shared had (works_in t.accepted ++ later) new_session (t.used ++ rest) ≡ told ++ more)

-- In every run the exchanges of each stream are answered in their order: while it goes on none is left out, and whatever came of it,
-- those that were answered are the first of them.
pub record InOrder (shared : Bool) (had : ℕ → ℕ) (t : Talk) (s : State) (n : ℕ) : Type 0 where
  pub whole : (x : Stream) → at n s.streams ≡ Some x → GoesOn x.session → Tells shared had t x
  pub front : HasTold shared had t

pub record HasTalk {token : Option (List ℕ)} {shared : Bool} {first : State} {events : List Event} {drawn : List (List Draw)} {entries : List (List Entry)} {outs : List Outs} {s : State} (n : ℕ) (had : ℕ → ℕ) (run : RunFrom token shared first events drawn entries outs s) : Type 0 where
  pub talk : Talk
  pub is_talk : IsTalk n run talk
  pub in_order : InOrder shared had talk s n

abbrev pub AnswersInOrder : Type 0
AnswersInOrder = (token : Option (List ℕ)) (shared : Bool) (events : List Event) (drawn : List (List Draw)) (entries : List (List Entry)) (outs : List Outs) (s : State) (run : Run token shared events drawn entries outs s) (had : ℕ → ℕ)
    → AreVersions had run → (n : ℕ) → HasTalk n had run
