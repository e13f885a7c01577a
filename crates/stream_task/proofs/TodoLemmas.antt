-- What a poll is to do, and what it leaves.
use Rattle.std.proofs.Common.{◌≡◌, ◌⊎◌, ℕ, Bool, true, false, List, [], ◌∷◌, ◌++◌, Option, Some, None, refl, sym, ◌∙◌, subst, inl, inr, arith}
use Rattle.std.proofs.lemmas.Bool.{cases_Bool}
use Rattle.hrana_stmt.specs.declared.codes.Code.{Code}
use Rattle.hrana_batch.specs.declared.batches.Step.{Step}
use Rattle.hrana_batch.specs.declared.outcomes.Outcome.{Outcome}
use Rattle.hrana_batch.specs.declared.outcomes.Outcome.TheVariants.{Skipped}
use Rattle.stream_requests.specs.declared.replies.Reply.{Reply}
use Rattle.stream_requests.specs.declared.replies.Reply.TheVariants as reply
use Rattle.sql_text.specs.Spans.{unclosed_at}
use Rattle.stream_task.specs.Session.{is_auto, is_shut}
use Rattle.stream_task.specs.Checks.{text_of}
use Rattle.stream_task.specs.Texts.{store_refusal}
use Rattle.stream_task.specs.Table.{is_waiting, state_after}
use Rattle.stream_task.specs.Steps.{is_skipped}
use Rattle.stream_task.specs.Doing.{Session, session_in, steps_of_text}
use Rattle.stream_task.specs.Means.{ends_with, reply_of}
use Rattle.stream_task.specs.Advance.{StartsIn, todo_of, open_todo, shut_todo, running_todo, sequence_todo, closed_todo, store_todo, steps_rest, replied_or, outcome_leaves, waits_on, state_left, texts_replied, texts_left, Leaves}
use Rattle.stream_task.specs.declared.session.TxnState.{TxnState}
use Rattle.stream_task.specs.declared.session.TxnState.TheVariants.{Closed}
use Rattle.stream_task.specs.declared.texts.StoredText.{StoredText}
use Rattle.stream_task.specs.declared.table.Went.{Went}
use Rattle.stream_task.specs.declared.table.Went.TheVariants as went
use Rattle.stream_task.specs.declared.work.Kind.{Kind}
use Rattle.stream_task.specs.declared.work.Kind.TheVariants.{Sequence}
use Rattle.stream_task.specs.declared.work.Running.{Running}
use Rattle.stream_task.specs.declared.work.Running.TheVariants.{Statement, Steps}
use Rattle.stream_task.specs.declared.work.Work.{Work}
use Rattle.stream_task.specs.declared.work.Work.TheVariants as work
use Rattle.stream_task.specs.declared.todo.Todo.{Todo}
use Rattle.stream_task.specs.declared.todo.Todo.TheVariants as todo
use Rattle.stream_task.specs.declared.advance.Advanced.{Advanced}
use Rattle.stream_task.specs.declared.advance.Advanced.TheVariants.{Waits, Ran, Replied, Broke}

-- ---- what is to do

-- the state after an answer: as it was, or closed, where it was shut
abbrev pub Answered : TxnState → Advanced → Type 0
Answered state (Replied r next) = (next ≡ state) ⊎ ((is_shut state ≡ true) × (next ≡ Closed))
Answered state other = ⊥

abbrev pub StartsTodo : Session → Todo → Type 0
StartsTodo s (todo.Answer a) = Answered s.state a
StartsTodo s (todo.Poll running) = StartsIn (is_auto s.state) running × (is_shut s.state ≡ false)
StartsTodo s other = is_shut s.state ≡ false

running_starts : (k : Kind) (left : List Step) (done : List Outcome) (s : Session) → is_shut s.state ≡ false → StartsTodo s (running_todo s.state (Steps k (record { left = left; done = done })))
running_starts k [] done s o = inl refl
running_starts k (x ∷ xs) done s o = elim (cases_Bool (is_skipped x.condition done (is_auto s.state))) [
  | inl y ↦ rw y (running_starts k xs (done ++ Skipped ∷ []) s o)
  | inr n ↦ rw n ((omega arith, n), o)
]

closed_starts : (text : List ℕ) (at : Option ℕ) (s : Session) → is_shut s.state ≡ false → StartsTodo s (closed_todo s.state text at)
closed_starts text (Some at) s o = inl refl
closed_starts text None s o = running_starts Sequence (steps_of_text text) [] s o

sequence_starts : (text : Option (List ℕ)) (s : Session) → is_shut s.state ≡ false → StartsTodo s (sequence_todo s.state text)
sequence_starts None s o = inl refl
sequence_starts (Some text) s o = closed_starts text (unclosed_at text) s o

store_starts : (s : Session) (text : StoredText) (refusal : Option Code) → is_shut s.state ≡ false → StartsTodo s (store_todo s.state text refusal)
store_starts s text (Some c) o = inl refl
store_starts s text None o = o

open_starts : (s : Session) (w : Work) → is_shut s.state ≡ false → StartsTodo s (open_todo s w)
open_starts s (work.Running (Statement stmt)) o = (tt, o)
open_starts s (work.Running (Steps k r)) o = running_starts k r.left r.done s o
open_starts s (work.Sequence text) o = sequence_starts (text_of s.texts text) s o
open_starts s work.GetAutocommit o = inl refl
open_starts s (work.StoreSql text) o = store_starts s text (store_refusal s.texts text) o
open_starts s (work.CloseSql id) o = o
open_starts s work.Close o = o

shut_starts : (texts : List StoredText) (state : TxnState) (w : Work) → is_shut state ≡ true → StartsTodo (session_in texts state) (shut_todo state w)
shut_starts texts Closed w y = inl refl
shut_starts texts state work.Close y = inr (y, refl)
shut_starts texts state w y = inl refl

pub todo_starts : (s : Session) (w : Work) → StartsTodo s (todo_of s w)
todo_starts s w = elim (cases_Bool (is_shut s.state)) [
  | inl y ↦ rw y (shut_starts s.texts s.state w y)
  | inr n ↦ rw n (open_starts s w n)
]

pub answer_rests : (state : TxnState) (a : Advanced) → Answered state a → waits_on a ≡ false
answer_rests state (Replied r next) h = refl
answer_rests state (Waits w) h = absurd h
answer_rests state (Ran w next) h = absurd h
answer_rests state (Broke next) h = absurd h

-- ---- what is done to the texts

abbrev is_of_texts : Work → Bool
is_of_texts (work.StoreSql text) = true
is_of_texts (work.CloseSql id) = true
is_of_texts w = false

-- it stores the text of its request, lets go of the one of its request, or leaves the texts
abbrev pub TextsBy : Work → Todo → Type 0
TextsBy w (todo.StoreSql text) = w ≡ work.StoreSql text
TextsBy w (todo.CloseSql id) = w ≡ work.CloseSql id
TextsBy w (todo.Answer a) = (texts : List StoredText) → texts_left texts w a ≡ texts
TextsBy w other = (texts : List StoredText) (a : Advanced) → texts_left texts w a ≡ texts

replied_keeps : (w : Work) (r : Reply) (texts : List StoredText) → is_of_texts w ≡ false → texts_replied texts r w ≡ texts
replied_keeps (work.StoreSql text) r texts p = absurd (cc)
replied_keeps (work.CloseSql id) r texts p = absurd (cc)
replied_keeps w reply.SqlStored texts p = refl
replied_keeps w reply.SqlClosed texts p = refl
replied_keeps w r texts p = refl

texts_keep : (w : Work) (texts : List StoredText) (a : Advanced) → is_of_texts w ≡ false → texts_left texts w a ≡ texts
texts_keep w texts (Replied r next) p = replied_keeps w r texts p
texts_keep w texts a p = refl

running_texts : (w : Work) (k : Kind) (left : List Step) (done : List Outcome) (state : TxnState) → is_of_texts w ≡ false → TextsBy w (running_todo state (Steps k (record { left = left; done = done })))
running_texts w k [] done state p = λ texts. replied_keeps w (reply_of k done) texts p
running_texts w k (x ∷ xs) done state p = elim (cases_Bool (is_skipped x.condition done (is_auto state))) [
  | inl y ↦ rw y (running_texts w k xs (done ++ Skipped ∷ []) state p)
  | inr n ↦ rw n (λ texts a. texts_keep w texts a p)
]

closed_texts : (w : Work) (text : List ℕ) (at : Option ℕ) (state : TxnState) → is_of_texts w ≡ false → TextsBy w (closed_todo state text at)
closed_texts w text (Some at) state p = λ texts. refl
closed_texts w text None state p = running_texts w Sequence (steps_of_text text) [] state p

sequence_texts : (w : Work) (text : Option (List ℕ)) (state : TxnState) → is_of_texts w ≡ false → TextsBy w (sequence_todo state text)
sequence_texts w None state p = λ texts. refl
sequence_texts w (Some text) state p = closed_texts w text (unclosed_at text) state p

store_texts : (state : TxnState) (text : StoredText) (refusal : Option Code) → TextsBy (work.StoreSql text) (store_todo state text refusal)
store_texts state text (Some c) = λ texts. refl
store_texts state text None = refl

open_texts : (s : Session) (w : Work) → TextsBy w (open_todo s w)
open_texts s (work.Running (Statement stmt)) = λ texts a. texts_keep (work.Running (Statement stmt)) texts a refl
open_texts s (work.Running (Steps k r)) = running_texts (work.Running (Steps k r)) k r.left r.done s.state refl
open_texts s (work.Sequence text) = sequence_texts (work.Sequence text) (text_of s.texts text) s.state refl
open_texts s work.GetAutocommit = λ texts. refl
open_texts s (work.StoreSql text) = store_texts s.state text (store_refusal s.texts text)
open_texts s (work.CloseSql id) = refl
open_texts s work.Close = λ texts a. texts_keep work.Close texts a refl

shut_texts : (state : TxnState) (w : Work) → TextsBy w (shut_todo state w)
shut_texts Closed w = λ texts. refl
shut_texts state work.Close = λ texts. refl
shut_texts state w = λ texts. refl

pub todo_texts : (s : Session) (w : Work) → TextsBy w (todo_of s w)
todo_texts s w = elim (cases_Bool (is_shut s.state)) [
  | inl y ↦ rw y (shut_texts s.state w)
  | inr n ↦ rw n (open_texts s w)
]

-- ---- what is left

-- what is said of an outcome: nobody waits, and the state is this one
pub record Rests (s u : TxnState) (a : Advanced) : Type 0 where
  pub waits : waits_on a ≡ false
  pub state : state_left s a ≡ u

rest_rests : (k : Kind) (left : List Step) (done : List Outcome) (s u : TxnState) → Rests s u (steps_rest k left done u)
rest_rests k [] done s u = record { waits = refl; state = refl }
rest_rests k (x ∷ xs) done s u = record { waits = refl; state = refl }

replied_rests : (end : Option Reply) (s u : TxnState) (a : Advanced) → Rests s u a → Rests s u (replied_or end u a)
replied_rests (Some r) s u a h = record { waits = refl; state = refl }
replied_rests None s u a h = h

outcome_rests : (running : Running) (o : Outcome) (s u : TxnState) → Rests s u (outcome_leaves running o u)
outcome_rests (Statement stmt) o s u = record { waits = refl; state = refl }
outcome_rests (Steps k r) o s u = replied_rests (ends_with k o) s u _ (rest_rests k _ _ s u)

broke_rests : (running : Running) (c : Code) (s u : TxnState) (a : Advanced) → Leaves running (went.Stopped c u) a → Rests s u a
broke_rests running c s u (Broke left) h = record { waits = refl; state = h }
broke_rests running c s u (Waits w) h = absurd (cc)
broke_rests running c s u (Ran w next) h = absurd (cc)
broke_rests running c s u (Replied r next) h = subst (Rests s u) (sym h) (record { waits = refl; state = refl })

-- what a poll of a statement leaves waits where the statement waits, and has its state
pub record LeavesAs (s : TxnState) (w : Went) (a : Advanced) : Type 0 where
  pub waits : is_waiting w ≡ waits_on a
  pub state : state_after s w ≡ state_left s a

rests_as : (s u : TxnState) (w : Went) (a : Advanced) → is_waiting w ≡ false → state_after s w ≡ u → Rests s u a → LeavesAs s w a
rests_as s u w a f e h = record { waits = f ∙ sym h.waits; state = e ∙ sym h.state }

pub leaves_as : (running : Running) (s : TxnState) (w : Went) (a : Advanced) → Leaves running w a → LeavesAs s w a
leaves_as running s went.Waits a h = subst (LeavesAs s went.Waits) (sym h) (record { waits = refl; state = refl })
leaves_as running s (went.Still u) a h = subst (LeavesAs s (went.Still u)) (sym h) (record { waits = refl; state = refl })
leaves_as running s (went.Out o u) a h = subst (LeavesAs s (went.Out o u)) (sym h) (rests_as s u _ _ refl refl (outcome_rests running o s u))
leaves_as running s (went.Stopped c u) a h = rests_as s u _ a refl refl (broke_rests running c s u a h)
leaves_as running s (went.Short u) a h = subst (LeavesAs s (went.Short u)) (sym h) (record { waits = refl; state = refl })
