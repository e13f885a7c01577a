-- What a poll of a stream leaves of the replies that its requests have.
use Rattle.std.proofs.Common.{◌≡◌, ◌≢◌, ℕ, Bool, true, List, [], ◌∷◌, ◌++◌, Option, None, option_to_list, refl, sym, ap, ◌∙◌, inl, inr}
use Rattle.hrana_value.specs.declared.StreamNo.{StreamNo}
use Rattle.engine_core.specs.declared.entries.Entry.{Entry}
use Rattle.stream_task.specs.Session.{is_shut}
use Rattle.stream_task.specs.Table.{Seen, IsVersioned}
use Rattle.stream_task.specs.Doing.{Session}
use Rattle.stream_task.specs.Means.{Meant}
use Rattle.stream_task.specs.Advance.{Does, PollsWork, todo_of, shut_todo, state_left, session_left}
use Rattle.stream_task.specs.Polls.{Task, PollsAsks, answer_of, task_after}
use Rattle.stream_task.specs.Laws.{IsAfter, then_replies, replies, said_by, TaskMeans, ShutAddsNothing}
use Rattle.stream_task.specs.declared.session.TxnState.{TxnState}
use Rattle.stream_task.specs.declared.session.TxnState.TheVariants.{Closed}
use Rattle.stream_task.specs.declared.work.Work.{Work}
use Rattle.stream_task.specs.declared.work.Work.TheVariants as work
use Rattle.stream_task.specs.declared.todo.Todo.{Todo}
use Rattle.stream_task.specs.declared.todo.Todo.TheVariants as todo
use Rattle.stream_task.specs.declared.advance.Advanced.{Advanced}
use Rattle.stream_task.specs.declared.advance.Advanced.TheVariants.{Waits, Ran, Replied, Broke}
use Rattle.stream_task.specs.declared.task.Poll.{Poll}
use Rattle.stream_task.specs.declared.task.Poll.TheVariants.{Ready}
use Rattle.stream_task.specs.declared.task.Stepped.{Stepped}
use Rattle.stream_task.specs.declared.task.Stepped.TheVariants as stepped
use Rattle.stream_task.proofs.RequestLemmas.{poll_means}

after_leaves : (shared : Bool) (had : ℕ → ℕ) (task : Task) (w : Work) (ws more : List Work) (meant : Meant) (a : Advanced) (rest : List Entry) → IsAfter shared had (session_left task.session w a) meant a rest → answer_of a ≢ Ready stepped.Broke
    → then_replies meant (λ next es. replies shared had (ws ++ more) next es) ≡ said_by (answer_of a) ++ replies shared had ((task_after task w ws a).asks ++ more) (task_after task w ws a).session rest
after_leaves shared had task w ws more meant (Waits left) rest m n = ap (λ x. then_replies x (λ next es. replies shared had (ws ++ more) next es)) m
after_leaves shared had task w ws more meant (Ran left next) rest m n = ap (λ x. then_replies x (λ next es. replies shared had (ws ++ more) next es)) m
after_leaves shared had task w ws more meant (Replied r next) rest m n = ap (λ x. then_replies x (λ next es. replies shared had (ws ++ more) next es)) m
after_leaves shared had task w ws more meant (Broke next) rest m n = absurd (n refl)

asks_leave : (shared : Bool) (had : ℕ → ℕ) (seen : Seen) (old : Task) (asks : List Work) (added : Option Entry) (result : Poll Stepped) (new : Task)
    → old.asks ≡ asks → IsVersioned had seen added → PollsAsks shared seen old asks added result new → result ≢ Ready stepped.Broke
    → (more : List Work) (rest : List Entry)
    → replies shared had (asks ++ more) old.session (option_to_list added ++ rest) ≡ said_by result ++ replies shared had (new.asks ++ more) new.session rest
asks_leave shared had seen old [] added result new e v h n more rest =
    ap (λ x. replies shared had more old.session (option_to_list x ++ rest)) h.no_entry
    ∙ ap (λ x. replies shared had (x ++ more) old.session rest) (sym e)
    ∙ ap (λ (x : Task). replies shared had (x.asks ++ more) x.session rest) (sym h.same)
    ∙ ap (λ x. said_by x ++ replies shared had (new.asks ++ more) new.session rest) (sym h.answer)
asks_leave shared had seen old (w ∷ ws) added result new e v h n more rest =
    after_leaves shared had old w ws more _ h.advanced rest (poll_means shared had old.stream seen old.session w added h.advanced v h.polls rest) (λ b. n (h.answer ∙ b))
    ∙ ap (λ (x : Task). said_by (answer_of h.advanced) ++ replies shared had (x.asks ++ more) x.session rest) (sym h.after)
    ∙ ap (λ x. said_by x ++ replies shared had (new.asks ++ more) new.session rest) (sym h.answer)

pub task_means : TaskMeans
task_means shared had seen old added result new v h n more rest = asks_leave shared had seen old old.asks added result new refl v h n more rest

-- ---- dead and closed streams

-- an answer that leaves the stream shut
abbrev IsShutAnswer : Todo → Type 0
IsShutAnswer (todo.Answer (Replied r next)) = is_shut next ≡ true
IsShutAnswer t = ⊥

shut_answer : (state : TxnState) (w : Work) → is_shut state ≡ true → IsShutAnswer (shut_todo state w)
shut_answer Closed w y = refl
shut_answer state work.Close y = refl
shut_answer state w y = y

does_nothing : (shared : Bool) (stream : StreamNo) (seen : Seen) (s : Session) (t : Todo) (added : Option Entry) (a : Advanced) → IsShutAnswer t → Does shared stream seen s t added a → (added ≡ None) × (is_shut (state_left s.state a) ≡ true)
does_nothing shared stream seen s (todo.Answer (Replied r next)) added a y h = (h.no_entry, ap (λ x. is_shut (state_left s.state x)) h.answer ∙ y)
does_nothing shared stream seen s (todo.Answer (Waits w)) added a y h = absurd y
does_nothing shared stream seen s (todo.Answer (Ran w next)) added a y h = absurd y
does_nothing shared stream seen s (todo.Answer (Broke next)) added a y h = absurd y
does_nothing shared stream seen s (todo.Poll running) added a y h = absurd y
does_nothing shared stream seen s (todo.StoreSql text) added a y h = absurd y
does_nothing shared stream seen s (todo.CloseSql id) added a y h = absurd y
does_nothing shared stream seen s todo.Close added a y h = absurd y

shut_work : (shared : Bool) (stream : StreamNo) (seen : Seen) (s : Session) (w : Work) (added : Option Entry) (a : Advanced) → is_shut s.state ≡ true → PollsWork shared stream seen s w added a → (added ≡ None) × (is_shut (state_left s.state a) ≡ true)
shut_work shared stream seen s w added a y (inl h) = does_nothing shared stream seen s (todo_of s w) added a (rw y (shut_answer s.state w y)) h
shut_work shared stream seen s w added a y (inr h) = (h.no_entry, ap (λ x. is_shut (state_left s.state x)) h.answer ∙ y)

shut_asks : (shared : Bool) (seen : Seen) (old : Task) (asks : List Work) (added : Option Entry) (result : Poll Stepped) (new : Task) → is_shut old.session.state ≡ true → PollsAsks shared seen old asks added result new → (added ≡ None) × (is_shut new.session.state ≡ true)
shut_asks shared seen old [] added result new y h = (h.no_entry, ap (λ (x : Task). is_shut x.session.state) h.same ∙ y)
shut_asks shared seen old (w ∷ ws) added result new y h =
    let polled = shut_work shared old.stream seen old.session w added h.advanced y h.polls in (polled.0, ap (λ (x : Task). is_shut x.session.state) h.after ∙ polled.1)

pub shut_adds_nothing : ShutAddsNothing
shut_adds_nothing shared seen old added result new y h = shut_asks shared seen old old.asks added result new y h
