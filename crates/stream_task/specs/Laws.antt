-- The laws that join what polls do and what requests mean.
use Rattle.std.specs.Prelude.{◌≡◌, ◌≢◌, ℕ, Bool, true, false, List, [], ◌∷◌, ◌++◌, length, Option, Some, None, option_to_list}
use Rattle.hrana_value.specs.declared.StreamNo.{StreamNo}
use Rattle.hrana_batch.specs.Means.{BatchMeans}
use Rattle.hrana_batch.specs.declared.batches.Batch.{Batch}
use Rattle.stream_requests.specs.declared.replies.Reply.{Reply}
use Rattle.stream_requests.specs.declared.replies.Reply.TheVariants as reply
use Rattle.stream_requests.specs.Results.{IsPipelineReply}
use Rattle.engine_core.specs.declared.entries.Entry.{Entry}
use Rattle.engine_core.specs.declared.entries.Entry.TheVariants as entry
use Rattle.stream_task.specs.Session.{is_shut}
use Rattle.stream_task.specs.Table.{Seen, IsVersioned}
use Rattle.stream_task.specs.Doing.{Session}
use Rattle.stream_task.specs.Means.{means, steps_mean, Meant, said, cut}
use Rattle.stream_task.specs.Advance.{PollsWork, session_left}
use Rattle.stream_task.specs.Polls.{Polls, Task}
use Rattle.stream_task.specs.declared.session.TxnState.{TxnState}
use Rattle.stream_task.specs.declared.session.TxnState.TheVariants.{Closed}
use Rattle.stream_task.specs.declared.work.Kind.TheVariants as kind
use Rattle.stream_task.specs.declared.work.Work.{Work}
use Rattle.stream_task.specs.declared.work.Work.TheVariants as work
use Rattle.stream_task.specs.declared.advance.Advanced.{Advanced}
use Rattle.stream_task.specs.declared.advance.Advanced.TheVariants.{Waits, Ran, Replied, Broke}
use Rattle.stream_task.specs.declared.task.Poll.{Poll}
use Rattle.stream_task.specs.declared.task.Poll.TheVariants.{Ready}
use Rattle.stream_task.specs.declared.task.Stepped.{Stepped}
use Rattle.stream_task.specs.declared.task.Stepped.TheVariants as stepped

-- ---- one poll

-- A poll leaves what the request means, with the entry that it adds in front: that is what the request which is left means
-- in the session that is left, by the entries that later polls add. Where memory was short, the request has no reply.
abbrev pub IsAfter : Bool → (ℕ → ℕ) → Session → Meant → Advanced → List Entry → Type 0
IsAfter shared had next meant (Waits left) rest = meant ≡ means shared had next left rest
IsAfter shared had next meant (Ran left state) rest = meant ≡ means shared had next left rest
IsAfter shared had next meant (Replied r state) rest = meant ≡ said r next rest
IsAfter shared had next meant (Broke state) rest = Unit {0}

-- `had` is the version at which each unit began
abbrev pub PollMeans : Type 0
PollMeans = (shared : Bool) (had : ℕ → ℕ) (stream : StreamNo) (seen : Seen) (s : Session) (w : Work) (added : Option Entry) (result : Advanced)
    → IsVersioned had seen added → PollsWork shared stream seen s w added result
    → (rest : List Entry) → IsAfter shared had (session_left s w result) (means shared had s w (option_to_list added ++ rest)) result rest

-- ---- the polls of a request

-- The polls of one request, up to the one that replies, with the entries that they added. Between two polls other streams
-- change who writes, the version and the number of the next unit.
pub data Polled (shared : Bool) (had : ℕ → ℕ) (stream : StreamNo) : Session → Work → List Entry → Reply → Session → Type 0 where
  waited : (s : Session) (w : Work) (seen : Seen) (added : Option Entry) (left : Work) (used : List Entry) (reply : Reply) (end : Session)
      → IsVersioned had seen added → PollsWork shared stream seen s w added (Waits left)
      → Polled shared had stream s left used reply end
      → Polled shared had stream s w (option_to_list added ++ used) reply end
  ran : (s : Session) (w : Work) (seen : Seen) (added : Option Entry) (left : Work) (next : TxnState) (used : List Entry) (reply : Reply) (end : Session)
      → IsVersioned had seen added → PollsWork shared stream seen s w added (Ran left next)
      → Polled shared had stream (session_left s w (Ran left next)) left used reply end
      → Polled shared had stream s w (option_to_list added ++ used) reply end
  replied : (s : Session) (w : Work) (seen : Seen) (added : Option Entry) (reply : Reply) (next : TxnState)
      → IsVersioned had seen added → PollsWork shared stream seen s w added (Replied reply next)
      → Polled shared had stream s w (option_to_list added ++ []) reply (session_left s w (Replied reply next))

-- the reply to a request is what it means, by the entries that its polls added, in order
abbrev pub AskMeans : Type 0
AskMeans = (shared : Bool) (had : ℕ → ℕ) (stream : StreamNo) (s : Session) (w : Work) (used : List Entry) (reply : Reply) (end : Session)
    → Polled shared had stream s w used reply end → means shared had s w used ≡ said reply end []

-- ---- the polls of a stream

abbrev pub then_replies : Meant → (Session → List Entry → List Reply) → List Reply
then_replies (said r s rest) next = r ∷ next s rest
then_replies meant next = []

-- the replies that these requests have in turn, by the entries that their polls add, up to the first that isn't done
abbrev pub replies : Bool → (ℕ → ℕ) → List Work → Session → List Entry → List Reply
replies shared had [] s es = []
replies shared had (w ∷ ws) s es = then_replies (means shared had s w es) (λ next rest. replies shared had ws next rest)

abbrev pub said_by : Poll Stepped → List Reply
said_by (Ready (stepped.Replied r)) = r ∷ []
said_by answer = []

-- A poll answers the first of the replies that the stream's requests have, and leaves the others: they are those of the
-- requests that are left, in the session that is left, by the entries that later polls add. More requests may come behind.
-- The requests of a poll that met want of memory have no replies.
abbrev pub TaskMeans : Type 0
TaskMeans = (shared : Bool) (had : ℕ → ℕ) (seen : Seen) (old : Task) (added : Option Entry) (result : Poll Stepped) (new : Task)
    → IsVersioned had seen added → Polls shared seen old added result new → result ≢ Ready stepped.Broke
    → (more : List Work) (rest : List Entry)
    → replies shared had (old.asks ++ more) old.session (option_to_list added ++ rest) ≡ said_by result ++ replies shared had (new.asks ++ more) new.session rest

-- A dead or closed stream stays so, and its polls add no entry.
abbrev pub ShutAddsNothing : Type 0
ShutAddsNothing = (shared : Bool) (seen : Seen) (old : Task) (added : Option Entry) (result : Poll Stepped) (new : Task)
    → is_shut old.session.state ≡ true → Polls shared seen old added result new → (added ≡ None) × (is_shut new.session.state ≡ true)

-- ---- closes

abbrev pub is_close : Work → Bool
is_close work.Close = true
is_close w = false

-- none of the requests is a close
abbrev pub HasNoClose : List Work → Type 0
HasNoClose [] = Unit {0}
HasNoClose (w ∷ ws) = (is_close w ≡ false) × HasNoClose ws

-- no request stands behind a close
abbrev pub ClosesLast : List Work → Type 0
ClosesLast [] = Unit {0}
ClosesLast (w ∷ ws) = (is_close w ≡ true → ws ≡ []) × ClosesLast ws

-- A poll brings no close, and puts nothing behind one. Where it leaves the stream closed, the first request was a close, and
-- that is answered.
pub record ByCloses (old : Task) (result : Poll Stepped) (new : Task) : Type 0 where
  pub none : HasNoClose old.asks → HasNoClose new.asks
  pub last : ClosesLast old.asks → ClosesLast new.asks
  pub closed : new.session.state ≡ Closed → (old.asks ≡ work.Close ∷ new.asks) × (result ≡ Ready (stepped.Replied reply.Closed))

-- what closes a stream is a close alone
abbrev pub ClosesAlone : Type 0
ClosesAlone = (shared : Bool) (seen : Seen) (old : Task) (added : Option Entry) (result : Poll Stepped) (new : Task)
    → old.session.state ≢ Closed → Polls shared seen old added result new → ByCloses old result new

-- ---- units that begin

abbrev pub IsNext : Seen → Option Entry → Type 0
IsNext seen (Some (entry.Began unit by)) = unit ≡ seen.next
IsNext seen added = Unit {0}

-- a unit that a poll begins has the next number
abbrev pub BegunAreNext : Type 0
BegunAreNext = (shared : Bool) (seen : Seen) (old : Task) (added : Option Entry) (result : Poll Stepped) (new : Task)
    → Polls shared seen old added result new → IsNext seen added

-- ---- batches

-- Where a batch is answered with its outcomes, they are those that the batch means, for whether the session was in
-- autocommit at the turn of each step. So are those of its first steps, where the entries ended before the batch did.
abbrev pub OutcomesAreMeant : Batch → Meant → Type 0
OutcomesAreMeant batch (said (reply.Batch result) s rest) = (length result.outcomes ≡ length batch.steps) × ((autos : List Bool) × BatchMeans batch autos result.outcomes)
OutcomesAreMeant batch (cut done s) = (autos : List Bool) × BatchMeans batch autos done
OutcomesAreMeant batch meant = Unit {0}

abbrev pub BatchesAreMeant : Type 0
BatchesAreMeant = (shared : Bool) (had : ℕ → ℕ) (batch : Batch) (s : Session) (es : List Entry) → OutcomesAreMeant batch (steps_mean shared had kind.Batch batch.steps [] s es)

-- ---- pipelines

-- each reply that a poll gives is one to a request that a pipeline may ask
abbrev pub PollsReplyToPipelines : Type 0
PollsReplyToPipelines = (shared : Bool) (seen : Seen) (old new : Task) (added : Option Entry) (reply : Reply)
    → Polls shared seen old added (Ready (stepped.Replied reply)) new → IsPipelineReply reply
