-- The story of a run: the events of its lines, and then `Stop`.
use Rattle.std.specs.Prelude.{◌≡◌, ℕ, Bool, true, List, [], ◌++◌, Option, length}
use Rattle.engine_core.specs.Bytes.{IsPrefix}
use Rattle.engine_core.specs.Causes.{RoseBy}
use Rattle.engine_core.specs.Draws.{Draw}
use Rattle.engine_core.specs.declared.entries.Entry.{Entry}
use Rattle.engine_core.specs.declared.status.Status.{Status}
use Rattle.http_wire.specs.declared.outs.Outs.{Outs}
use Rattle.hrana_hub.specs.declared.events.Event.{Event}
use Rattle.hrana_hub.specs.declared.events.Event.TheVariants.{Stop}
use Rattle.hrana_hub.specs.Arrivals.{nothing}
use Rattle.hrana_hub.specs.Run.{Run}
use Rattle.hrana_hub.specs.State.{State}
use Rattle.hrana_hub.specs.Stories as streams
use Rattle.hrana_hub.specs.Step.{Step, fits}
use Rattle.hrana_hub.specs.Batons.{no_tokens}
use Rattle.hrana_hub.specs.Talks.{HasTalk}
use Rattle.hrana_hub.specs.Versions.{HasVersions}
use Rattle.hrana_serve.specs.Script.{ReadsAs}
use Rattle.hrana_serve.specs.Replay.{join, StopsAs, StopsAt, WritesAs, AnswersNoted}

pub record Story : Type 0 where
  -- the lines that were run, and their events
  pub lines : List (List ℕ)
  pub events : List Event
  -- what was drawn for each event, what it added, and what it gave
  pub drawn : List (List Draw)
  pub entries : List (List Entry)
  pub outs : List Outs
  -- the state after them
  pub state : State
  -- what `Stop` added, and the state then
  pub ended : List Entry
  pub last : State

-- The story is one of these lines: so many events of some of the first, and then `Stop`. Words were drawn for it as K has them, in
-- order, and the entries that it added are J.
pub record IsStoryOf (token : Option (List ℕ)) (shared : Bool) (all : List (List ℕ)) (count : ℕ) (K : List Draw) (J : List Entry) (story : Story) : Type 0 where
  pub front : IsPrefix story.lines all
  pub reads : ReadsAs story.lines story.events
  pub counted : count ≡ length story.events
  pub run : Run token shared story.events story.drawn story.entries story.outs story.state
  pub fitted : fits story.state Stop ≡ true
  pub stop : Step token shared story.state Stop [] story.ended nothing story.last
  pub drew : K ≡ join story.drawn
  pub joined : J ≡ join story.entries ++ story.ended

-- there is a story that ends as the status says
pub record HasStory (token : Option (List ℕ)) (shared : Bool) (all : List (List ℕ)) (end : Status) (count : ℕ) (K : List Draw) (J : List Entry) : Type 0 where
  pub story : Story
  pub is_story : IsStoryOf token shared all count K J story
  pub stops : StopsAs end story.lines all story.state

-- there is one in which no entry of an event whose outs were written is unsaved
pub record HasAnswered (token : Option (List ℕ)) (shared : Bool) (all : List (List ℕ)) (count : ℕ) (unsaved : List Entry) (held holds : Option (List ℕ)) (K : List Draw) (J : List Entry) : Type 0 where
  pub story : Story
  pub is_story : IsStoryOf token shared all count K J story
  pub answers : AnswersNoted story.entries story.outs story.ended unsaved held holds

-- there is one in which the line of this number is the first bad one
pub record IsFirstBad (token : Option (List ℕ)) (shared : Bool) (all : List (List ℕ)) (number : ℕ) (count : ℕ) (K : List Draw) (J : List Entry) : Type 0 where
  pub story : Story
  pub is_story : IsStoryOf token shared all count K J story
  pub stops : StopsAt story.lines all story.state number

-- one story that ends as the status says, whose outs were written so far, and in which no entry of an event whose outs were written is unsaved
pub record Replayed (token : Option (List ℕ)) (shared : Bool) (all : List (List ℕ)) (end : Status) (count : ℕ) (unsaved : List Entry) (held holds : Option (List ℕ)) (K : List Draw) (J : List Entry) : Type 0 where
  pub story : Story
  pub is_story : IsStoryOf token shared all count K J story
  pub stops : StopsAs end story.lines all story.state
  pub writes : WritesAs end story.outs held holds
  pub answers : AnswersNoted story.entries story.outs story.ended unsaved held holds

-- There is one in which the replies of each stream are those of its requests, in their order, by the versions at which its units
-- began: it has such versions, and they are the run's whichever function `had` tells them.
pub record HasReplies (token : Option (List ℕ)) (shared : Bool) (all : List (List ℕ)) (count : ℕ) (K : List Draw) (J : List Entry) : Type 0 where
  pub story : Story
  pub is_story : IsStoryOf token shared all count K J story
  pub versions : HasVersions is_story.run
  pub in_order : (had : ℕ → ℕ) → streams.AreVersions had is_story.run → (n : ℕ) → streams.InOrder shared had (streams.story n is_story.run) story.state n
  -- and each exchange of a stream has the results of its requests, in their order
  pub answered : (had : ℕ → ℕ) → streams.AreVersions had is_story.run → (n : ℕ) → HasTalk n had is_story.run

-- there is one in which no more answers say that no words could be drawn than the tokens' count rose by
pub record HasFewRefusals (token : Option (List ℕ)) (shared : Bool) (all : List (List ℕ)) (count : ℕ) (before now : ℕ) (K : List Draw) (J : List Entry) : Type 0 where
  pub story : Story
  pub is_story : IsStoryOf token shared all count K J story
  pub cause : RoseBy (no_tokens story.outs) before now
