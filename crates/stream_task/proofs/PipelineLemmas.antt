-- Each reply that a poll gives is one to a request that a pipeline may ask.
use Rattle.std.proofs.Common.{◌≡◌, ℕ, Bool, List, [], ◌∷◌, ◌++◌, Option, Some, None, sym, subst, inl, inr}
use Rattle.std.proofs.lemmas.Bool.{cases_Bool}
use Rattle.hrana_value.specs.declared.StreamNo.{StreamNo}
use Rattle.hrana_stmt.specs.declared.codes.Code.{Code}
use Rattle.hrana_batch.specs.declared.batches.Step.{Step}
use Rattle.hrana_batch.specs.declared.outcomes.Outcome.{Outcome}
use Rattle.hrana_batch.specs.declared.outcomes.Outcome.TheVariants as outcome
use Rattle.stream_requests.specs.declared.replies.Reply.{Reply}
use Rattle.stream_requests.specs.Results.{IsPipelineReply}
use Rattle.sql_text.specs.Spans.{unclosed_at}
use Rattle.engine_core.specs.declared.entries.Entry.{Entry}
use Rattle.stream_task.specs.Session.{is_auto, is_shut}
use Rattle.stream_task.specs.Checks.{text_of}
use Rattle.stream_task.specs.Texts.{store_refusal}
use Rattle.stream_task.specs.Table.{Seen}
use Rattle.stream_task.specs.Steps.{is_skipped}
use Rattle.stream_task.specs.Doing.{Session, steps_of_text}
use Rattle.stream_task.specs.Means.{executed, reply_of, ends_with}
use Rattle.stream_task.specs.Advance.{Does, PollsWork, todo_of, open_todo, shut_todo, running_todo, sequence_todo, closed_todo, store_todo, steps_rest, replied_or, outcome_leaves, Leaves}
use Rattle.stream_task.specs.Polls.{Task, PollsAsks, answer_of}
use Rattle.stream_task.specs.Laws.{PollsReplyToPipelines}
use Rattle.stream_task.specs.declared.session.TxnState.{TxnState}
use Rattle.stream_task.specs.declared.session.TxnState.TheVariants.{Closed}
use Rattle.stream_task.specs.declared.texts.StoredText.{StoredText}
use Rattle.stream_task.specs.declared.table.Went.{Went}
use Rattle.stream_task.specs.declared.table.Went.TheVariants as went
use Rattle.stream_task.specs.declared.work.Kind.{Kind}
use Rattle.stream_task.specs.declared.work.Kind.TheVariants.{Batch, Sequence}
use Rattle.stream_task.specs.declared.work.Running.{Running}
use Rattle.stream_task.specs.declared.work.Running.TheVariants.{Statement, Steps}
use Rattle.stream_task.specs.declared.work.Work.{Work}
use Rattle.stream_task.specs.declared.work.Work.TheVariants as work
use Rattle.stream_task.specs.declared.todo.Todo.{Todo}
use Rattle.stream_task.specs.declared.todo.Todo.TheVariants as todo
use Rattle.stream_task.specs.declared.advance.Advanced.{Advanced}
use Rattle.stream_task.specs.declared.advance.Advanced.TheVariants.{Waits, Ran, Replied, Broke}
use Rattle.stream_task.specs.declared.task.Poll.TheVariants.{Ready}
use Rattle.stream_task.specs.declared.task.Stepped.TheVariants as stepped

-- a request that is answered has a reply to a pipeline
abbrev RepliesToPipeline : Advanced → Type 0
RepliesToPipeline (Replied r next) = IsPipelineReply r
RepliesToPipeline a = Unit {0}

-- it is this, which is so
replies_as : (a expected : Advanced) → a ≡ expected → RepliesToPipeline expected → RepliesToPipeline a
replies_as a expected e h = subst RepliesToPipeline (sym e) h

steps_reply : (k : Kind) (done : List Outcome) → IsPipelineReply (reply_of k done)
steps_reply Batch done = tt
steps_reply Sequence done = tt

-- ---- what is to do

abbrev AnswersPipeline : Todo → Type 0
AnswersPipeline (todo.Answer a) = RepliesToPipeline a
AnswersPipeline other = Unit {0}

running_answers : (k : Kind) (left : List Step) (done : List Outcome) (state : TxnState) → AnswersPipeline (running_todo state (Steps k (record { left = left; done = done })))
running_answers k [] done state = steps_reply k done
running_answers k (x ∷ xs) done state = elim (cases_Bool (is_skipped x.condition done (is_auto state))) [
  | inl y ↦ rw y (running_answers k xs (done ++ outcome.Skipped ∷ []) state)
  | inr n ↦ rw n tt
]

closed_answers : (text : List ℕ) (at : Option ℕ) (state : TxnState) → AnswersPipeline (closed_todo state text at)
closed_answers text (Some at) state = tt
closed_answers text None state = running_answers Sequence (steps_of_text text) [] state

sequence_answers : (text : Option (List ℕ)) (state : TxnState) → AnswersPipeline (sequence_todo state text)
sequence_answers None state = tt
sequence_answers (Some text) state = closed_answers text (unclosed_at text) state

store_answers : (text : StoredText) (refusal : Option Code) (state : TxnState) → AnswersPipeline (store_todo state text refusal)
store_answers text (Some c) state = tt
store_answers text None state = tt

open_answers : (s : Session) (w : Work) → AnswersPipeline (open_todo s w)
open_answers s (work.Running (Statement stmt)) = tt
open_answers s (work.Running (Steps k r)) = running_answers k r.left r.done s.state
open_answers s (work.Sequence text) = sequence_answers (text_of s.texts text) s.state
open_answers s work.GetAutocommit = tt
open_answers s (work.StoreSql text) = store_answers text (store_refusal s.texts text) s.state
open_answers s (work.CloseSql id) = tt
open_answers s work.Close = tt

shut_answers : (state : TxnState) (w : Work) → AnswersPipeline (shut_todo state w)
shut_answers Closed w = tt
shut_answers state work.Close = tt
shut_answers state w = tt

todo_answers : (s : Session) (w : Work) → AnswersPipeline (todo_of s w)
todo_answers s w = elim (cases_Bool (is_shut s.state)) [
  | inl y ↦ rw y (shut_answers s.state w)
  | inr n ↦ rw n (open_answers s w)
]

-- ---- after a statement

executed_reply : (o : Outcome) → IsPipelineReply (executed o)
executed_reply (outcome.Done given) = tt
executed_reply (outcome.Failed error) = tt
executed_reply outcome.Skipped = tt

rest_replies : (k : Kind) (left : List Step) (done : List Outcome) (u : TxnState) → RepliesToPipeline (steps_rest k left done u)
rest_replies k [] done u = steps_reply k done
rest_replies k (x ∷ xs) done u = tt

end_replies : (k : Kind) (o : Outcome) (u : TxnState) (more : Advanced) → RepliesToPipeline more → RepliesToPipeline (replied_or (ends_with k o) u more)
end_replies Sequence (outcome.Failed error) u more h = tt
end_replies k o u more h = h

outcome_replies : (running : Running) (o : Outcome) (u : TxnState) → RepliesToPipeline (outcome_leaves running o u)
outcome_replies (Statement stmt) o u = executed_reply o
outcome_replies (Steps k r) o u = end_replies k o u _ (rest_replies k _ _ u)

stopped_replies : (running : Running) (c : Code) (u : TxnState) (a : Advanced) → Leaves running (went.Stopped c u) a → RepliesToPipeline a
stopped_replies running c u (Replied r next) h = replies_as (Replied r next) _ h tt
stopped_replies running c u a h = tt

statement_replies : (running : Running) (w : Went) (a : Advanced) → Leaves running w a → RepliesToPipeline a
statement_replies running went.Waits a h = replies_as a _ h tt
statement_replies running (went.Still u) a h = replies_as a _ h tt
statement_replies running (went.Out o u) a h = replies_as a _ h (outcome_replies running o u)
statement_replies running (went.Stopped c u) a h = stopped_replies running c u a h
statement_replies running (went.Short u) a h = replies_as a _ h tt

-- ---- a request, and a stream

does_replies : (shared : Bool) (stream : StreamNo) (seen : Seen) (s : Session) (t : Todo) (added : Option Entry) (a : Advanced) → AnswersPipeline t → Does shared stream seen s t added a → RepliesToPipeline a
does_replies shared stream seen s (todo.Answer expected) added a t h = replies_as a expected h.answer t
does_replies shared stream seen s (todo.Poll running) added a t h = statement_replies running h.went a h.leaves
does_replies shared stream seen s (todo.StoreSql text) added a t h = replies_as a _ h.answer tt
does_replies shared stream seen s (todo.CloseSql id) added a t h = replies_as a _ h.answer tt
does_replies shared stream seen s todo.Close added a t h = replies_as a _ h.answer tt

work_replies : (shared : Bool) (stream : StreamNo) (seen : Seen) (s : Session) (w : Work) (added : Option Entry) (a : Advanced) → PollsWork shared stream seen s w added a → RepliesToPipeline a
work_replies shared stream seen s w added a (inl h) = does_replies shared stream seen s (todo_of s w) added a (todo_answers s w) h
work_replies shared stream seen s w added a (inr h) = replies_as a _ h.answer tt

answer_replies : (a : Advanced) (r : Reply) → Ready (stepped.Replied r) ≡ answer_of a → RepliesToPipeline a → IsPipelineReply r
answer_replies (Replied given next) r e h = let same : given ≡ r = cc in subst IsPipelineReply same h
answer_replies (Waits w) r e h = absurd (cc)
answer_replies (Ran w next) r e h = absurd (cc)
answer_replies (Broke next) r e h = absurd (cc)

first_replies : (shared : Bool) (seen : Seen) (old : Task) (asks : List Work) (added : Option Entry) (r : Reply) (new : Task) → PollsAsks shared seen old asks added (Ready (stepped.Replied r)) new → IsPipelineReply r
first_replies shared seen old [] added r new h = let e = h.answer in absurd (cc)
first_replies shared seen old (w ∷ rest) added r new h = answer_replies h.advanced r h.answer (work_replies shared old.stream seen old.session w added h.advanced h.polls)

pub reply_to_pipelines : PollsReplyToPipelines
reply_to_pipelines shared seen old new added r h = first_replies shared seen old old.asks added r new h
