-- What a poll of a request leaves of the request's meaning.
use Rattle.std.proofs.Common.{◌≡◌, ℕ, Bool, false, List, [], ◌∷◌, ◌++◌, Option, Some, None, option_to_list, refl, sym, ap, ◌∙◌, subst, inl, inr}
use Rattle.std.proofs.lemmas.Bool.{cases_Bool}
use Rattle.hrana_value.specs.declared.StreamNo.{StreamNo}
use Rattle.hrana_stmt.specs.declared.codes.Code.{Code}
use Rattle.hrana_stmt.specs.declared.statements.Stmt.{Stmt}
use Rattle.hrana_batch.specs.declared.batches.Step.{Step}
use Rattle.hrana_batch.specs.declared.outcomes.Outcome.{Outcome}
use Rattle.hrana_batch.specs.declared.outcomes.Outcome.TheVariants.{Skipped}
use Rattle.stream_requests.specs.declared.replies.Reply.{Reply}
use Rattle.stream_requests.specs.declared.replies.Reply.TheVariants as reply
use Rattle.sql_text.specs.Spans.{unclosed_at}
use Rattle.engine_core.specs.declared.entries.Entry.{Entry}
use Rattle.engine_core.specs.declared.entries.Undo.TheVariants as undo
use Rattle.stream_task.specs.Session.{is_auto, is_shut, unit_of}
use Rattle.stream_task.specs.Checks.{ready_of, text_of}
use Rattle.stream_task.specs.Texts.{store_refusal, without_text}
use Rattle.stream_task.specs.Table.{Seen, IsVersioned}
use Rattle.stream_task.specs.Adds.{undone_of}
use Rattle.stream_task.specs.Steps.{is_skipped, StartsAt}
use Rattle.stream_task.specs.Doing.{Session, session_in, in_state, steps_of_text}
use Rattle.stream_task.specs.Means.{Meant, said, means, open_means, shut_means, running_means, steps_mean, then_means, said_or, execute_means, ready_means, close_means, sequence_means, closed_means, store_means, ends_with, failed}
use Rattle.stream_task.specs.Advance.{StartsIn, todo_of, open_todo, shut_todo, running_todo, sequence_todo, closed_todo, store_todo, statement_of, steps_go_on, replied_or, outcome_leaves, state_left, session_left, Leaves, Does, Answers}
use Rattle.stream_task.specs.Laws.{IsAfter, PollMeans, AskMeans, waited, ran, replied}
use Rattle.stream_task.specs.declared.session.TxnState.{TxnState}
use Rattle.stream_task.specs.declared.session.TxnState.TheVariants.{Reading, Writing, Closed}
use Rattle.stream_task.specs.declared.texts.StoredText.{StoredText}
use Rattle.stream_task.specs.declared.table.Went.{Went}
use Rattle.stream_task.specs.declared.table.Went.TheVariants as went
use Rattle.stream_task.specs.declared.work.Kind.{Kind}
use Rattle.stream_task.specs.declared.work.Kind.TheVariants.{Sequence}
use Rattle.stream_task.specs.declared.work.Running.{Running}
use Rattle.stream_task.specs.declared.work.Running.TheVariants.{Statement, Steps}
use Rattle.stream_task.specs.declared.work.Work.{Work}
use Rattle.stream_task.specs.declared.work.Work.TheVariants as work
use Rattle.stream_task.specs.declared.todo.Todo.{Todo}
use Rattle.stream_task.specs.declared.todo.Todo.TheVariants as todo
use Rattle.stream_task.specs.declared.advance.Advanced.{Advanced}
use Rattle.stream_task.specs.declared.advance.Advanced.TheVariants.{Waits, Ran, Replied, Broke}
use Rattle.stream_task.proofs.TodoLemmas.{StartsTodo, todo_starts, TextsBy, todo_texts}
use Rattle.stream_task.proofs.MeansLemmas.{StatementLeaves, statement_leaves}

means_open : (shared : Bool) (had : ℕ → ℕ) (s : Session) (w : Work) (es : List Entry) → is_shut s.state ≡ false → means shared had s w es ≡ open_means shared had s w es
means_open shared had s w es o = rw o refl

-- ---- what is to do, and what is meant

-- what a request means, by what a poll of it is to do
abbrev MeansTodo : Bool → (ℕ → ℕ) → Session → Meant → Todo → List Entry → Type 0
MeansTodo shared had s meant (todo.Answer (Replied r next)) es = meant ≡ said r (in_state s next) es
MeansTodo shared had s meant (todo.Answer other) es = ⊥
MeansTodo shared had s meant (todo.Poll running) es = meant ≡ running_means shared had s running es
MeansTodo shared had s meant (todo.StoreSql text) es = meant ≡ said reply.SqlStored (session_in (s.texts ++ text ∷ []) s.state) es
MeansTodo shared had s meant (todo.CloseSql id) es = meant ≡ said reply.SqlClosed (session_in (without_text id s.texts) s.state) es
MeansTodo shared had s meant todo.Close es = meant ≡ close_means (unit_of s.state) s es

steps_todo_means : (shared : Bool) (had : ℕ → ℕ) (k : Kind) (left : List Step) (done : List Outcome) (s : Session) (es : List Entry)
    → MeansTodo shared had s (steps_mean shared had k left done s es) (running_todo s.state (Steps k (record { left = left; done = done }))) es
steps_todo_means shared had k [] done s es = refl
steps_todo_means shared had k (x ∷ xs) done s es = elim (cases_Bool (is_skipped x.condition done (is_auto s.state))) [
  | inl y ↦ rw y (steps_todo_means shared had k xs (done ++ Skipped ∷ []) s es)
  | inr n ↦ rw n (rw n refl)
]

closed_todo_means : (shared : Bool) (had : ℕ → ℕ) (text : List ℕ) (at : Option ℕ) (s : Session) (es : List Entry)
    → MeansTodo shared had s (closed_means shared had text at s es) (closed_todo s.state text at) es
closed_todo_means shared had text (Some at) s es = refl
closed_todo_means shared had text None s es = steps_todo_means shared had Sequence (steps_of_text text) [] s es

sequence_todo_means : (shared : Bool) (had : ℕ → ℕ) (text : Option (List ℕ)) (s : Session) (es : List Entry)
    → MeansTodo shared had s (sequence_means shared had text s es) (sequence_todo s.state text) es
sequence_todo_means shared had None s es = refl
sequence_todo_means shared had (Some text) s es = closed_todo_means shared had text (unclosed_at text) s es

store_todo_means : (shared : Bool) (had : ℕ → ℕ) (refusal : Option Code) (text : StoredText) (s : Session) (es : List Entry)
    → MeansTodo shared had s (store_means refusal text s es) (store_todo s.state text refusal) es
store_todo_means shared had (Some c) text s es = refl
store_todo_means shared had None text s es = refl

open_todo_means : (shared : Bool) (had : ℕ → ℕ) (s : Session) (w : Work) (es : List Entry) → MeansTodo shared had s (open_means shared had s w es) (open_todo s w) es
open_todo_means shared had s (work.Running (Statement stmt)) es = refl
open_todo_means shared had s (work.Running (Steps k r)) es = steps_todo_means shared had k r.left r.done s es
open_todo_means shared had s (work.Sequence text) es = sequence_todo_means shared had (text_of s.texts text) s es
open_todo_means shared had s work.GetAutocommit es = refl
open_todo_means shared had s (work.StoreSql text) es = store_todo_means shared had (store_refusal s.texts text) text s es
open_todo_means shared had s (work.CloseSql id) es = refl
open_todo_means shared had s work.Close es = refl

shut_todo_means : (shared : Bool) (had : ℕ → ℕ) (texts : List StoredText) (state : TxnState) (w : Work) (es : List Entry)
    → MeansTodo shared had (session_in texts state) (shut_means state (session_in texts state) w es) (shut_todo state w) es
shut_todo_means shared had texts Closed w es = refl
shut_todo_means shared had texts state work.Close es = refl
shut_todo_means shared had texts state w es = refl

todo_means : (shared : Bool) (had : ℕ → ℕ) (s : Session) (w : Work) (es : List Entry) → MeansTodo shared had s (means shared had s w es) (todo_of s w) es
todo_means shared had s w es = elim (cases_Bool (is_shut s.state)) [
  | inl y ↦ rw y (shut_todo_means shared had s.texts s.state w es)
  | inr n ↦ rw n (open_todo_means shared had s w es)
]

-- ---- after a statement

-- what is left of a request that leaves the texts
abbrev KeptAfter : Bool → (ℕ → ℕ) → Session → Meant → Advanced → List Entry → Type 0
KeptAfter shared had s meant result rest = IsAfter shared had (in_state s (state_left s.state result)) meant result rest

-- the steps that are left mean what is left of them once the first ones are passed over
go_on_after : (shared : Bool) (had : ℕ → ℕ) (k : Kind) (left : List Step) (done : List Outcome) (s : Session) (u : TxnState) (rest : List Entry) → is_shut u ≡ false
    → KeptAfter shared had s (steps_mean shared had k left done (in_state s u) rest) (steps_go_on k (record { left = left; done = done }) u) rest
go_on_after shared had k [] done s u rest o = refl
go_on_after shared had k (x ∷ xs) done s u rest o = elim (cases_Bool (is_skipped x.condition done (is_auto u))) [
  | inl y ↦ rw y (go_on_after shared had k xs (done ++ Skipped ∷ []) s u rest o)
  | inr n ↦ rw n (sym (means_open shared had (in_state s u) (work.Running (Steps k (record { left = x ∷ xs; done = done }))) rest o ∙ rw n refl))
]

replied_after : (shared : Bool) (had : ℕ → ℕ) (end : Option Reply) (s : Session) (u : TxnState) (rest : List Entry) (more : Meant) (result : Advanced)
    → KeptAfter shared had s more result rest → KeptAfter shared had s (said_or end (in_state s u) rest more) (replied_or end u result) rest
replied_after shared had (Some r) s u rest more result h = refl
replied_after shared had None s u rest more result h = h

broke_after : (shared : Bool) (had : ℕ → ℕ) (running : Running) (c : Code) (u : TxnState) (s : Session) (meant : Meant) (rest : List Entry) (result : Advanced)
    → meant ≡ said (failed c) (in_state s u) rest → Leaves running (went.Stopped c u) result → KeptAfter shared had s meant result rest
broke_after shared had running c u s meant rest (Broke left) m h = tt
broke_after shared had running c u s meant rest (Waits w) m h = absurd (cc)
broke_after shared had running c u s meant rest (Ran w next) m h = absurd (cc)
broke_after shared had running c u s meant rest (Replied r next) m h = subst (λ x. KeptAfter shared had s meant x rest) (sym h) m

statement_after : (shared : Bool) (had : ℕ → ℕ) (s : Session) (stmt : Stmt) (es rest : List Entry) (w : Went) (result : Advanced) → is_shut s.state ≡ false
    → StatementLeaves shared had stmt.want_rows (ready_of s.texts stmt) s.state es rest w → Leaves (Statement stmt) w result → KeptAfter shared had s (running_means shared had s (Statement stmt) es) result rest
statement_after shared had s stmt es rest went.Waits result o m h = subst (λ x. KeptAfter shared had s (running_means shared had s (Statement stmt) es) x rest) (sym h)
    (ap (λ x. running_means shared had s (Statement stmt) x) m ∙ sym (means_open shared had s (work.Running (Statement stmt)) rest o))
statement_after shared had s stmt es rest (went.Still u) result o m h = subst (λ x. KeptAfter shared had s (running_means shared had s (Statement stmt) es) x rest) (sym h)
    (ap (execute_means s.texts) m.0 ∙ sym (means_open shared had (in_state s u) (work.Running (Statement stmt)) rest m.2))
statement_after shared had s stmt es rest (went.Out x u) result o m h = subst (λ y. KeptAfter shared had s (running_means shared had s (Statement stmt) es) y rest) (sym h) (ap (execute_means s.texts) m.0)
statement_after shared had s stmt es rest (went.Stopped c u) result o m h = broke_after shared had (Statement stmt) c u s _ rest result (ap (execute_means s.texts) m) h
statement_after shared had s stmt es rest (went.Short u) result o m h = subst (λ x. KeptAfter shared had s (running_means shared had s (Statement stmt) es) x rest) (sym h) tt

-- the first step runs
runs_first : (shared : Bool) (had : ℕ → ℕ) (k : Kind) (x : Step) (xs : List Step) (done : List Outcome) (s : Session) (es : List Entry) → is_skipped x.condition done (is_auto s.state) ≡ false
    → steps_mean shared had k (x ∷ xs) done s es
    ≡ then_means k done s.texts (ready_means shared had x.stmt.want_rows (ready_of s.texts x.stmt) es s.state) (λ o next rest. steps_mean shared had k xs (done ++ o ∷ []) next rest)
runs_first shared had k x xs done s es n = rw n refl

steps_after : (shared : Bool) (had : ℕ → ℕ) (s : Session) (k : Kind) (x : Step) (xs : List Step) (done : List Outcome) (es rest : List Entry) (w : Went) (result : Advanced)
    → is_shut s.state ≡ false → is_skipped x.condition done (is_auto s.state) ≡ false
    → StatementLeaves shared had x.stmt.want_rows (ready_of s.texts x.stmt) s.state es rest w → Leaves (Steps k (record { left = x ∷ xs; done = done })) w result
    → KeptAfter shared had s (steps_mean shared had k (x ∷ xs) done s es) result rest
steps_after shared had s k x xs done es rest went.Waits result o n m h = subst (λ y. KeptAfter shared had s (steps_mean shared had k (x ∷ xs) done s es) y rest) (sym h)
    (ap (λ y. steps_mean shared had k (x ∷ xs) done s y) m ∙ sym (means_open shared had s (work.Running (Steps k (record { left = x ∷ xs; done = done }))) rest o))
steps_after shared had s k x xs done es rest (went.Still u) result o n m h = subst (λ y. KeptAfter shared had s (steps_mean shared had k (x ∷ xs) done s es) y rest) (sym h)
    (runs_first shared had k x xs done s es n ∙ ap (λ t. then_means k done s.texts t (λ o next rest. steps_mean shared had k xs (done ++ o ∷ []) next rest)) m.0
    ∙ sym (runs_first shared had k x xs done (in_state s u) rest (ap (is_skipped x.condition done) (sym m.1) ∙ n))
    ∙ sym (means_open shared had (in_state s u) (work.Running (Steps k (record { left = x ∷ xs; done = done }))) rest m.2))
steps_after shared had s k x xs done es rest (went.Out out u) result o n m h = subst (λ y. KeptAfter shared had s (steps_mean shared had k (x ∷ xs) done s es) y rest) (sym h)
    (subst (λ y. KeptAfter shared had s y (outcome_leaves (Steps k (record { left = x ∷ xs; done = done })) out u) rest)
    (sym (runs_first shared had k x xs done s es n ∙ ap (λ t. then_means k done s.texts t (λ o next rest. steps_mean shared had k xs (done ++ o ∷ []) next rest)) m.0))
    (replied_after shared had (ends_with k out) s u rest _ _ (go_on_after shared had k xs (done ++ out ∷ []) s u rest m.1)))
steps_after shared had s k x xs done es rest (went.Stopped c u) result o n m h = broke_after shared had (Steps k (record { left = x ∷ xs; done = done })) c u s _ rest result
    (runs_first shared had k x xs done s es n ∙ ap (λ t. then_means k done s.texts t (λ o next rest. steps_mean shared had k xs (done ++ o ∷ []) next rest)) m) h
steps_after shared had s k x xs done es rest (went.Short u) result o n m h = subst (λ y. KeptAfter shared had s (steps_mean shared had k (x ∷ xs) done s es) y rest) (sym h) tt

running_after : (shared : Bool) (had : ℕ → ℕ) (s : Session) (running : Running) (stmt : Stmt) (es rest : List Entry) (w : Went) (result : Advanced)
    → statement_of running ≡ Some stmt → StartsIn (is_auto s.state) running → is_shut s.state ≡ false
    → StatementLeaves shared had stmt.want_rows (ready_of s.texts stmt) s.state es rest w → Leaves running w result → KeptAfter shared had s (running_means shared had s running es) result rest
running_after shared had s (Statement q) stmt es rest w result f n o m h = let same : q ≡ stmt = cc in
    statement_after shared had s q es rest w result o (subst (λ (y : Stmt). StatementLeaves shared had y.want_rows (ready_of s.texts y) s.state es rest w) (sym same) m) h
running_after shared had s (Steps k r) stmt es rest w result f n o m h = by_left r.left r.done f n.1 h
  where
    by_left : (left : List Step) (done : List Outcome) → statement_of (Steps k (record { left = left; done = done })) ≡ Some stmt → StartsAt (is_auto s.state) left done
        → Leaves (Steps k (record { left = left; done = done })) w result → KeptAfter shared had s (steps_mean shared had k left done s es) result rest
    by_left [] done f n h = absurd (cc)
    by_left (x ∷ xs) done f n h = let same : x.stmt ≡ stmt = cc in
        steps_after shared had s k x xs done es rest w result o n (subst (λ (y : Stmt). StatementLeaves shared had y.want_rows (ready_of s.texts y) s.state es rest w) (sym same) m) h

-- ---- one poll

close_after : (shared : Bool) (had : ℕ → ℕ) (texts : List StoredText) (state : TxnState) (rest : List Entry)
    → close_means (unit_of state) (session_in texts state) (option_to_list (undone_of undo.Close state) ++ rest) ≡ said reply.Closed (session_in texts Closed) rest
close_after shared had texts (Reading unit began) rest = refl
close_after shared had texts (Writing unit) rest = refl
close_after shared had texts state rest = refl

-- a poll that only answers
answered_after : (shared : Bool) (had : ℕ → ℕ) (s : Session) (w : Work) (added : Option Entry) (expected result : Advanced) (meant : List Entry → Meant) (rest : List Entry)
    → Answers expected added result → IsAfter shared had (session_left s w expected) (meant rest) expected rest → IsAfter shared had (session_left s w result) (meant (option_to_list added ++ rest)) result rest
answered_after shared had s w added expected result meant rest h m =
    subst (λ x. IsAfter shared had (session_left s w result) (meant (option_to_list x ++ rest)) result rest) (sym h.no_entry)
    (subst (λ x. IsAfter shared had (session_left s w x) (meant rest) x rest) (sym h.answer) m)

does_after : (shared : Bool) (had : ℕ → ℕ) (stream : StreamNo) (seen : Seen) (s : Session) (w : Work) (t : Todo) (added : Option Entry) (result : Advanced) (meant : List Entry → Meant)
    → ((es : List Entry) → MeansTodo shared had s (meant es) t es) → StartsTodo s t → TextsBy w t → IsVersioned had seen added → Does shared stream seen s t added result
    → (rest : List Entry) → IsAfter shared had (session_left s w result) (meant (option_to_list added ++ rest)) result rest
does_after shared had stream seen s w (todo.Answer (Replied r next)) added result meant m b texts v h rest =
    answered_after shared had s w added _ result meant rest h (m rest ∙ ap (λ x. said r (session_in x next) rest) (sym (texts s.texts)))
does_after shared had stream seen s w (todo.Answer (Waits left)) added result meant m b texts v h rest = absurd (m [])
does_after shared had stream seen s w (todo.Answer (Ran left next)) added result meant m b texts v h rest = absurd (m [])
does_after shared had stream seen s w (todo.Answer (Broke next)) added result meant m b texts v h rest = absurd (m [])
does_after shared had stream seen s w (todo.Poll running) added result meant m b texts v h rest =
    subst (λ x. IsAfter shared had (session_in x (state_left s.state result)) (meant (option_to_list added ++ rest)) result rest) (sym (texts s.texts result))
    (subst (λ x. KeptAfter shared had s x result rest) (sym (m (option_to_list added ++ rest)))
    (running_after shared had s running h.stmt (option_to_list added ++ rest) rest h.went result h.first b.0 b.1
    (statement_leaves shared had stream seen s.state s.texts h.stmt added h.went rest b.1 v h.polls) h.leaves))
does_after shared had stream seen s w (todo.StoreSql text) added result meant m b texts v h rest =
    answered_after shared had s w added _ result meant rest h (m rest ∙ ap (λ x. said reply.SqlStored (session_left s x (Replied reply.SqlStored s.state)) rest) (sym texts))
does_after shared had stream seen s w (todo.CloseSql id) added result meant m b texts v h rest =
    answered_after shared had s w added _ result meant rest h (m rest ∙ ap (λ x. said reply.SqlClosed (session_left s x (Replied reply.SqlClosed s.state)) rest) (sym texts))
does_after shared had stream seen s w todo.Close added result meant m b texts v h rest =
    subst (λ x. IsAfter shared had (session_left s w x) (meant (option_to_list added ++ rest)) x rest) (sym h.answer)
    (m (option_to_list added ++ rest) ∙ ap (λ x. close_means (unit_of s.state) s (option_to_list x ++ rest)) h.undone ∙ close_after shared had s.texts s.state rest)

pub poll_means : PollMeans
poll_means shared had stream seen s w added result v h rest = elim h [
  | inl does ↦ does_after shared had stream seen s w (todo_of s w) added result (λ es. means shared had s w es) (λ es. todo_means shared had s w es) (todo_starts s w) (todo_texts s w) v does rest
  | inr falls ↦ subst (λ x. IsAfter shared had (session_left s w x) (means shared had s w (option_to_list added ++ rest)) x rest) (sym falls.answer) tt
]

-- ---- the polls of a request

pub ask_means : AskMeans
ask_means shared had stream s w used r end (waited s1 w1 seen added left used1 r1 end1 v p more) = poll_means shared had stream seen s1 w1 added (Waits left) v p used1 ∙ ask_means shared had stream s1 left used1 r1 end1 more
ask_means shared had stream s w used r end (ran s1 w1 seen added left next used1 r1 end1 v p more) = poll_means shared had stream seen s1 w1 added (Ran left next) v p used1 ∙ ask_means shared had stream (session_left s1 w1 (Ran left next)) left used1 r1 end1 more
ask_means shared had stream s w used r end (replied s1 w1 seen added r1 next v p) = poll_means shared had stream seen s1 w1 added (Replied r1 next) v p []
