-- What a run says of the stream of a number: the requests that were accepted for it, the entries that its polls added, and
-- the replies that they gave.
use Rattle.std.specs.Prelude.{◌≡◌, ◌&&◌, ℕ, ℤ, Bool, true, false, not, nat_eq, cond, List, [], ◌∷◌, ◌++◌, drop, length, map, All, Option, Some, None}
use Rattle.stream_requests.specs.declared.replies.Reply.{Reply}
use Rattle.ws_messages.specs.Server.{answering}
use Rattle.http_wire.specs.declared.outs.Outs.{Outs}
use Rattle.http_wire.specs.declared.outs.Out.{Out}
use Rattle.http_wire.specs.declared.outs.Out.TheVariants.{Message, Answer}
use Rattle.engine_core.specs.Draws.{Draw}
use Rattle.engine_core.specs.declared.entries.Entry.{Entry}
use Rattle.engine_core.specs.declared.entries.Entry.TheVariants as entry
use Rattle.stream_task.specs.Doing.{Session}
use Rattle.stream_task.specs.Laws.{replies}
use Rattle.stream_task.specs.declared.session.TxnState.TheVariants.{Auto}
use Rattle.stream_task.specs.declared.work.Work.{Work}
use Rattle.hrana_hub.specs.declared.events.Event.{Event}
use Rattle.hrana_hub.specs.declared.events.Event.TheVariants.{Text, Poll, Moment}
use Rattle.hrana_hub.specs.Maps.{at}
use Rattle.hrana_hub.specs.State.{Conn, Stream, State, of_exchanges}
use Rattle.hrana_hub.specs.Arrivals.{text_of}
use Rattle.hrana_hub.specs.Moments.{is_begun}
use Rattle.hrana_hub.specs.Run.{Run, RunFrom, start, more}

-- the ids of the requests that wait, and the requests
abbrev pub ids_in : Option Stream → List ℤ
ids_in None = []
ids_in (Some x) = x.waits

abbrev pub asks_in : Option Stream → List Work
asks_in None = []
asks_in (Some x) = x.task.asks

-- what came behind what was there before
abbrev pub behind : {A : Type 0} → List A → List A → List A
behind old new = drop (length old) new

-- the text of the message that is given
abbrev pub text_in : Option Out → List (List ℕ)
text_in None = []
text_in (Some (Message text)) = text ∷ []
text_in (Some (Answer answer)) = []

-- ---- what one event brings, adds and gives, for the stream of a number

abbrev pub ids_by : ℕ → Event → State → State → List ℤ
ids_by n (Text c text) old new = behind (ids_in (at n old.streams)) (ids_in (at n new.streams))
ids_by n event old new = []

abbrev pub asks_by : ℕ → Event → State → State → List Work
asks_by n (Text c text) old new = behind (asks_in (at n old.streams)) (asks_in (at n new.streams))
asks_by n event old new = []

abbrev pub used_by : ℕ → Event → List Entry → List Entry
used_by n (Poll stream) added = cond (nat_eq stream.0 n) added []
used_by n event added = []

abbrev pub told_by : ℕ → Event → Outs → List (List ℕ)
told_by n (Poll stream) out = cond (nat_eq stream.0 n) (text_in out.out) []
told_by n event out = []

-- the stream holds a transaction
abbrev pub is_begun_in : Option Stream → Bool
is_begun_in None = false
is_begun_in (Some x) = is_begun x.task.session.state

-- a moment at which the stream expires: it held a transaction before, and not after
abbrev pub expires_by : ℕ → Event → State → State → Bool
expires_by n (Moment moment) old new = is_begun_in (at n old.streams) && not (is_begun_in (at n new.streams))
expires_by n event old new = false

abbrev pub new_session : Session
new_session = record { state = Auto; texts = [] }

abbrev pub session_in : Option Stream → Session
session_in None = new_session
session_in (Some x) = x.task.session

-- ---- the story

-- what was accepted for the stream and added by its polls from its opening on, or since it expired, up to where it expired
pub record Chapter : Type 0 where
  -- the session that it began with
  pub start : Session
  pub asks : List Work
  pub used : List Entry

pub record Story : Type 0 where
  -- the ids of the requests accepted for the stream, in the order in which they arrived
  pub ids : List ℤ
  -- the chapters that ended when it expired
  pub before : List Chapter
  -- this chapter: the session that it began with, the requests, and the entries that its polls added
  pub start : Session
  pub asks : List Work
  pub used : List Entry
  -- the texts of the messages that its polls gave
  pub texts : List (List ℕ)

abbrev pub no_story : Story
no_story = record { ids = []; before = []; start = new_session; asks = []; used = []; texts = [] }

-- where it expires a new chapter begins, with the session that is left
abbrev pub turned : Bool → Session → Story → Story
turned false session t = t
turned true session t = record { ids = t.ids; before = t.before ++ record { start = t.start; asks = t.asks; used = t.used } ∷ []; start = session; asks = []; used = []; texts = t.texts }

abbrev pub told_on : ℕ → Story → Event → State → List Entry → Outs → State → Story
told_on n t event old added out new = turned (expires_by n event old new) (session_in (at n new.streams)) (record {
  ids = t.ids ++ ids_by n event old new;
  before = t.before;
  start = t.start;
  asks = t.asks ++ asks_by n event old new;
  used = t.used ++ used_by n event added;
  texts = t.texts ++ told_by n event out;
})

-- what the requests mean, chapter by chapter, by the entries of each
abbrev pub meant : Bool → (ℕ → ℕ) → List Chapter → Session → List Work → List Entry → List Reply
meant shared had [] session asks used = replies shared had asks session used
meant shared had (chapter ∷ chapters) session asks used = replies shared had chapter.asks chapter.start chapter.used ++ meant shared had chapters session asks used

abbrev pub story : {token : Option (List ℕ)} {shared : Bool} {first : State} {events : List Event} {drawn : List (List Draw)} {entries : List (List Entry)} {outs : List Outs} {s : State} → ℕ → RunFrom token shared first events drawn entries outs s → Story
story n start = no_story
story n (more {s = old} run event draws added out new fits step) = told_on n (story n run) event old added out new

-- ---- the versions at which units began

abbrev pub BeganAt : (ℕ → ℕ) → ℕ → Entry → Type 0
BeganAt had version (entry.Began unit by) = had unit ≡ version
BeganAt had version e = Unit {0}

-- each unit of the run began at this version: that of the state then
abbrev pub AreVersions : {token : Option (List ℕ)} {shared : Bool} {first : State} {events : List Event} {drawn : List (List Draw)} {entries : List (List Entry)} {outs : List Outs} {s : State} → (ℕ → ℕ) → RunFrom token shared first events drawn entries outs s → Type 0
AreVersions had start = Unit {0}
AreVersions had (more {s = old} run event draws added out new fits step) = AreVersions had run × All (BeganAt had old.version) added

-- ---- the law of replies

-- the text that answers the request of this id
abbrev pub answer_text : ℤ × Reply → List ℕ
answer_text told = text_of (answering told.0 told.1)

-- The messages told replies to the first of the accepted requests, by their ids in order, and the ids that wait are the others.
-- The replies are those that the requests mean, by the entries that the polls added; what the others mean is left to the requests
-- that wait, by the entries still to come. More requests may come behind.
pub record Tells (shared : Bool) (had : ℕ → ℕ) (t : Story) (x : Stream) : Type 0 where
  pub told : List (ℤ × Reply)
  pub texts : t.texts ≡ map answer_text told
  pub ids : t.ids ≡ map (λ r. r.0) told ++ x.waits
  pub means : (later : List Work) (rest : List Entry) → meant shared had t.before t.start (t.asks ++ later) (t.used ++ rest) ≡ map (λ r. r.1) told ++ replies shared had (x.task.asks ++ later) x.task.session rest

-- The messages told replies to the first of the accepted requests, by their ids in order, and these are what they mean.
pub record HasTold (shared : Bool) (had : ℕ → ℕ) (t : Story) : Type 0 where
  pub told : List (ℤ × Reply)
  pub texts : t.texts ≡ map answer_text told
  pub others : List ℤ
  pub ids : t.ids ≡ map (λ r. r.0) told ++ others
  pub means : (later : List Work) (rest : List Entry) → (more : List Reply) × (meant shared had t.before t.start (t.asks ++ later) (t.used ++ rest) ≡ map (λ r. r.1) told ++ more)

-- its connection isn't closing
pub record IsHeard (s : State) (x : Stream) : Type 0 where
  pub k : Conn
  pub known : at x.conn s.conns ≡ Some k
  pub unshut : k.closing ≡ false

-- In every run the replies of each stream of a connection stand in the order of its requests: while it is there and its connection isn't
-- closing none is left out, and whatever came of it, those that were told are the first of them.
pub record InOrder (shared : Bool) (had : ℕ → ℕ) (t : Story) (s : State) (n : ℕ) : Type 0 where
  pub whole : (x : Stream) → at n s.streams ≡ Some x → of_exchanges x ≡ false → IsHeard s x → Tells shared had t x
  pub front : HasTold shared had t

abbrev pub RepliesInOrder : Type 0
RepliesInOrder = (token : Option (List ℕ)) (shared : Bool) (events : List Event) (drawn : List (List Draw)) (entries : List (List Entry)) (outs : List Outs) (s : State) (run : Run token shared events drawn entries outs s) (had : ℕ → ℕ)
    → AreVersions had run → (n : ℕ) → InOrder shared had (story n run) s n
