-- A stream is closed by a close alone, and no poll puts a request behind one.
use Rattle.std.proofs.Common.{◌≡◌, ◌≢◌, ◌⊎◌, ℕ, Bool, true, false, List, [], ◌∷◌, ◌++◌, Option, Some, None, Result, Ok, Err, refl, sym, ap, ◌∙◌, subst, inl, inr}
use Rattle.std.proofs.lemmas.Bool.{cases_Bool}
use Rattle.hrana_value.specs.declared.StreamNo.{StreamNo}
use Rattle.hrana_stmt.specs.declared.codes.Code.{Code}
use Rattle.hrana_stmt.specs.declared.statements.Stmt.{Stmt}
use Rattle.hrana_batch.specs.declared.batches.Step.{Step}
use Rattle.hrana_batch.specs.declared.outcomes.Outcome.{Outcome}
use Rattle.hrana_batch.specs.declared.outcomes.Outcome.TheVariants.{Skipped}
use Rattle.stream_requests.specs.declared.replies.Reply.{Reply}
use Rattle.stream_requests.specs.declared.replies.Reply.TheVariants as reply
use Rattle.sql_text.specs.Spans.{unclosed_at}
use Rattle.sql_text.specs.declared.prepared.Prepared.{Prepared}
use Rattle.engine_core.specs.declared.entries.Entry.{Entry}
use Rattle.engine_core.specs.declared.entries.Entry.TheVariants as entry
use Rattle.stream_task.specs.Session.{is_auto, is_shut}
use Rattle.stream_task.specs.Checks.{ready_of, text_of}
use Rattle.stream_task.specs.Texts.{store_refusal}
use Rattle.stream_task.specs.Table.{Seen, plan, takes, takes_alone, begun_by, takes_begun, takes_ran, takes_upgrade, takes_ended, state_after, left_by}
use Rattle.stream_task.specs.Steps.{is_skipped}
use Rattle.stream_task.specs.Adds.{PollsStatement, ReadyPolls, PlanPolls, Falls}
use Rattle.stream_task.specs.Doing.{Session, steps_of_text}
use Rattle.stream_task.specs.Means.{ends_with}
use Rattle.stream_task.specs.Advance.{Does, PollsWork, todo_of, open_todo, shut_todo, running_todo, sequence_todo, closed_todo, store_todo, steps_rest, replied_or, outcome_leaves, Leaves, state_left}
use Rattle.stream_task.specs.Polls.{Task, PollsAsks, answer_of, asks_left}
use Rattle.stream_task.specs.Laws.{is_close, HasNoClose, ClosesLast, ByCloses, ClosesAlone}
use Rattle.stream_task.specs.declared.session.TxnState.{TxnState}
use Rattle.stream_task.specs.declared.session.TxnState.TheVariants.{Closed}
use Rattle.stream_task.specs.declared.texts.StoredText.{StoredText}
use Rattle.stream_task.specs.declared.table.Row.{Row}
use Rattle.stream_task.specs.declared.table.Row.TheVariants as row
use Rattle.stream_task.specs.declared.table.Plan.{Plan}
use Rattle.stream_task.specs.declared.table.Plan.TheVariants.{Refuses, Becomes, Adds}
use Rattle.stream_task.specs.declared.table.Went.{Went}
use Rattle.stream_task.specs.declared.table.Went.TheVariants as went
use Rattle.stream_task.specs.declared.work.Kind.{Kind}
use Rattle.stream_task.specs.declared.work.Kind.TheVariants.{Sequence}
use Rattle.stream_task.specs.declared.work.Running.{Running}
use Rattle.stream_task.specs.declared.work.Running.TheVariants.{Statement, Steps}
use Rattle.stream_task.specs.declared.work.Work.{Work}
use Rattle.stream_task.specs.declared.work.Work.TheVariants as work
use Rattle.stream_task.specs.declared.todo.Todo.{Todo}
use Rattle.stream_task.specs.declared.todo.Todo.TheVariants as todo
use Rattle.stream_task.specs.declared.advance.Advanced.{Advanced}
use Rattle.stream_task.specs.declared.advance.Advanced.TheVariants.{Waits, Ran, Replied, Broke}
use Rattle.stream_task.specs.declared.task.Poll.{Poll}
use Rattle.stream_task.specs.declared.task.Poll.TheVariants.{Ready}
use Rattle.stream_task.specs.declared.task.Stepped.{Stepped}
use Rattle.stream_task.specs.declared.task.Stepped.TheVariants as stepped
use Rattle.stream_task.proofs.MeansLemmas.{becomes_open}
use Rattle.stream_task.proofs.TodoLemmas.{leaves_as}

-- ---- closed or not

abbrev is_closed : TxnState → Bool
is_closed Closed = true
is_closed state = false

never : {P : Type 0} → false ≡ true → P
never e = absurd (cc)

unclosed : (state : TxnState) → state ≢ Closed → is_closed state ≡ false
unclosed Closed n = absurd (n refl)
unclosed state n = refl

never_closed : (state : TxnState) → is_closed state ≡ false → state ≢ Closed
never_closed state o e = never (sym o ∙ ap is_closed e)

open_unclosed : (state : TxnState) → is_shut state ≡ false → is_closed state ≡ false
open_unclosed Closed o = o
open_unclosed state o = refl

-- ---- what an entry leaves of a session that isn't closed

abbrev Stays : Option Went → Type 0
Stays None = Unit {0}
Stays (Some went.Waits) = Unit {0}
Stays (Some (went.Still u)) = is_closed u ≡ false
Stays (Some (went.Out o u)) = is_closed u ≡ false
Stays (Some (went.Stopped c u)) = is_closed u ≡ false
Stays (Some (went.Short u)) = Unit {0}

stays_alone : (rows : Bool) (s : TxnState) (e : Entry) → is_closed s ≡ false → Stays (takes_alone rows s e)
stays_alone rows s (entry.Alone by ran given wrote) o = o
stays_alone rows s (entry.Failed by None why) o = o
stays_alone rows s e o = tt

stays_begun : (s : TxnState) (begun : ℕ → Went) (b : Option (Result ℕ Code)) → is_closed s ≡ false → ((unit : ℕ) → Stays (Some (begun unit))) → Stays (takes_begun s begun b)
stays_begun s begun None o k = tt
stays_begun s begun (Some (Ok unit)) o k = k unit
stays_begun s begun (Some (Err c)) o k = o

stays_ran : (rows : Bool) (s : TxnState) (e : Entry) → is_closed s ≡ false → Stays (takes_ran rows s e)
stays_ran rows s (entry.Ran unit ran given) o = o
stays_ran rows s (entry.Failed by (Some unit) why) o = refl
stays_ran rows s e o = tt

stays_upgrade : (rows : Bool) (s : TxnState) (own : ℕ) (e : Entry) → is_closed s ≡ false → Stays (takes_upgrade rows s own e)
stays_upgrade rows s own (entry.Denied unit why) o = o
stays_upgrade rows s own (entry.Ran unit ran given) o = refl
stays_upgrade rows s own (entry.Failed by (Some unit) why) o = refl
stays_upgrade rows s own e o = tt

stays_ended : (e : Entry) → Stays (takes_ended e)
stays_ended (entry.Ended unit end) = refl
stays_ended (entry.Failed by (Some unit) why) = refl
stays_ended e = tt

stays_row : (had : ℕ → ℕ) (rows : Bool) (s : TxnState) (r : Row) (e : Entry) → is_closed s ≡ false → Stays (takes had rows s r e)
stays_row had rows s row.Alone e o = stays_alone rows s e o
stays_row had rows s row.ReadAlone e o = stays_alone rows s e o
stays_row had rows s row.Begin e o = stays_begun s _ (begun_by e) o (λ unit. refl)
stays_row had rows s row.BeginFirst e o = stays_begun s _ (begun_by e) o (λ unit. refl)
stays_row had rows s row.ReadFirst e o = stays_begun s _ (begun_by e) o (λ unit. refl)
stays_row had rows s (row.Run unit) e o = stays_ran rows s e o
stays_row had rows s (row.Upgrade unit began) e o = stays_upgrade rows s unit e o
stays_row had rows s (row.Commit unit) e o = stays_ended e
stays_row had rows s (row.EndRead unit) e o = stays_ended e
stays_row had rows s (row.Undo unit) e o = stays_ended e

-- ---- a statement

stays_plan : (shared : Bool) (stream : StreamNo) (seen : Seen) (s : TxnState) (rows : Bool) (ready : Prepared) (p : Plan) (added : Option Entry) (w : Went) → plan shared s ready.class ≡ p → is_closed s ≡ false → PlanPolls stream seen s rows ready p added w → Stays (Some w)
stays_plan shared stream seen s rows ready (Refuses c) added w p o h = subst (λ x. Stays (Some x)) (sym h.1) o
stays_plan shared stream seen s rows ready (Becomes u) added w p o h = subst (λ x. Stays (Some x)) (sym h.1) (open_unclosed u (becomes_open shared s ready.class u p))
stays_plan shared stream seen s rows ready (Adds r) None w p o h = subst (λ x. Stays (Some x)) (sym h.waits) tt
stays_plan shared stream seen s rows ready (Adds r) (Some e) w p o h = subst Stays h.means (stays_row (λ unit. seen.version) rows s r e o)

stays_ready : (shared : Bool) (stream : StreamNo) (seen : Seen) (s : TxnState) (rows : Bool) (ready : Result Prepared Code) (added : Option Entry) (w : Went) → is_closed s ≡ false → ReadyPolls shared stream seen s rows ready added w → Stays (Some w)
stays_ready shared stream seen s rows (Err c) added w o h = subst (λ x. Stays (Some x)) (sym h.1) o
stays_ready shared stream seen s rows (Ok ready) added w o h = stays_plan shared stream seen s rows ready (plan shared s ready.class) added w refl o h

some_one : {A : Type 0} {x y : A} → ◌≡◌ {A = Option A} (Some x) (Some y) → x ≡ y
some_one e = cc

left_stays : (w : Went) (left : TxnState) → left_by w ≡ Some left → Stays (Some w) → is_closed left ≡ false
left_stays went.Waits left e h = absurd (cc)
left_stays (went.Still u) left e h = ap is_closed (sym (some_one e)) ∙ h
left_stays (went.Out o u) left e h = ap is_closed (sym (some_one e)) ∙ h
left_stays (went.Stopped c u) left e h = ap is_closed (sym (some_one e)) ∙ h
left_stays (went.Short u) left e h = absurd (cc)

falls_unclosed : (shared : Bool) (stream : StreamNo) (seen : Seen) (s : TxnState) (rows : Bool) (ready : Result Prepared Code) (added : Option Entry) (left : TxnState) → is_closed s ≡ false → Falls shared stream seen s rows ready added left → is_closed left ≡ false
falls_unclosed shared stream seen s rows ready None left o h = ap is_closed h ∙ o
falls_unclosed shared stream seen s rows ready (Some e) left o h = left_stays h.went left h.left_is (stays_ready shared stream seen s rows ready (Some e) h.went o h.polls)

statement_unclosed : (shared : Bool) (stream : StreamNo) (seen : Seen) (s : TxnState) (texts : List StoredText) (stmt : Stmt) (added : Option Entry) (w : Went) → is_closed s ≡ false → PollsStatement shared stream seen s texts stmt added w → is_closed (state_after s w) ≡ false
statement_unclosed shared stream seen s texts stmt added went.Waits o h = o
statement_unclosed shared stream seen s texts stmt added (went.Still u) o h = stays_ready shared stream seen s stmt.want_rows (ready_of texts stmt) added (went.Still u) o h
statement_unclosed shared stream seen s texts stmt added (went.Out x u) o h = stays_ready shared stream seen s stmt.want_rows (ready_of texts stmt) added (went.Out x u) o h
statement_unclosed shared stream seen s texts stmt added (went.Stopped c u) o h = stays_ready shared stream seen s stmt.want_rows (ready_of texts stmt) added (went.Stopped c u) o h
statement_unclosed shared stream seen s texts stmt added (went.Short u) o h = falls_unclosed shared stream seen s stmt.want_rows (ready_of texts stmt) added u o h

-- ---- what is to do

-- an answer leaves the state as it was, or answers a close; and it is a close that is to be done
abbrev FitsTodo : TxnState → Work → Todo → Type 0
FitsTodo state w (todo.Answer (Replied r next)) = (next ≡ state) ⊎ ((w ≡ work.Close) × (r ≡ reply.Closed))
FitsTodo state w (todo.Answer other) = ⊥
FitsTodo state w todo.Close = w ≡ work.Close
FitsTodo state w other = Unit {0}

running_fits : (w : Work) (k : Kind) (left : List Step) (done : List Outcome) (state : TxnState) → FitsTodo state w (running_todo state (Steps k (record { left = left; done = done })))
running_fits w k [] done state = inl refl
running_fits w k (x ∷ xs) done state = elim (cases_Bool (is_skipped x.condition done (is_auto state))) [
  | inl y ↦ rw y (running_fits w k xs (done ++ Skipped ∷ []) state)
  | inr n ↦ rw n tt
]

closed_fits : (w : Work) (text : List ℕ) (at : Option ℕ) (state : TxnState) → FitsTodo state w (closed_todo state text at)
closed_fits w text (Some at) state = inl refl
closed_fits w text None state = running_fits w Sequence (steps_of_text text) [] state

sequence_fits : (w : Work) (text : Option (List ℕ)) (state : TxnState) → FitsTodo state w (sequence_todo state text)
sequence_fits w None state = inl refl
sequence_fits w (Some text) state = closed_fits w text (unclosed_at text) state

store_fits : (w : Work) (text : StoredText) (refusal : Option Code) (state : TxnState) → FitsTodo state w (store_todo state text refusal)
store_fits w text (Some c) state = inl refl
store_fits w text None state = tt

open_fits : (s : Session) (w : Work) → FitsTodo s.state w (open_todo s w)
open_fits s (work.Running (Statement stmt)) = tt
open_fits s (work.Running (Steps k r)) = running_fits (work.Running (Steps k r)) k r.left r.done s.state
open_fits s (work.Sequence text) = sequence_fits (work.Sequence text) (text_of s.texts text) s.state
open_fits s work.GetAutocommit = inl refl
open_fits s (work.StoreSql text) = store_fits (work.StoreSql text) text (store_refusal s.texts text) s.state
open_fits s (work.CloseSql id) = tt
open_fits s work.Close = refl

shut_fits : (state : TxnState) (w : Work) → FitsTodo state w (shut_todo state w)
shut_fits Closed w = inl refl
shut_fits state work.Close = inr (refl, refl)
shut_fits state w = inl refl

todo_fits : (s : Session) (w : Work) → FitsTodo s.state w (todo_of s w)
todo_fits s w = elim (cases_Bool (is_shut s.state)) [
  | inl y ↦ rw y (shut_fits s.state w)
  | inr n ↦ rw n (open_fits s w)
]

-- ---- what runs on is no close

abbrev is_left : Advanced → Bool
is_left (Waits w) = is_close w
is_left (Ran w next) = is_close w
is_left a = false

rest_left : (k : Kind) (left : List Step) (done : List Outcome) (u : TxnState) → is_left (steps_rest k left done u) ≡ false
rest_left k [] done u = refl
rest_left k (x ∷ xs) done u = refl

replied_left : (end : Option Reply) (u : TxnState) (a : Advanced) → is_left a ≡ false → is_left (replied_or end u a) ≡ false
replied_left (Some r) u a h = refl
replied_left None u a h = h

outcome_left : (running : Running) (o : Outcome) (u : TxnState) → is_left (outcome_leaves running o u) ≡ false
outcome_left (Statement stmt) o u = refl
outcome_left (Steps k r) o u = replied_left (ends_with k o) u _ (rest_left k _ _ u)

stopped_left : (running : Running) (c : Code) (u : TxnState) (a : Advanced) → Leaves running (went.Stopped c u) a → is_left a ≡ false
stopped_left running c u (Broke left) h = refl
stopped_left running c u (Waits w) h = absurd (cc)
stopped_left running c u (Ran w next) h = absurd (cc)
stopped_left running c u (Replied r next) h = refl

runs_left : (running : Running) (w : Went) (a : Advanced) → Leaves running w a → is_left a ≡ false
runs_left running went.Waits a h = ap is_left h
runs_left running (went.Still u) a h = ap is_left h
runs_left running (went.Out o u) a h = ap is_left h ∙ outcome_left running o u
runs_left running (went.Stopped c u) a h = stopped_left running c u a h
runs_left running (went.Short u) a h = ap is_left h

-- ---- a request

record ByClose (state : TxnState) (w : Work) (a : Advanced) : Type 0 where
  left : is_left a ≡ false
  closed : state_left state a ≡ Closed → (w ≡ work.Close) × (a ≡ Replied reply.Closed Closed)

-- the state is not closed
stays_by : (state : TxnState) (w : Work) (a : Advanced) → is_left a ≡ false → is_closed (state_left state a) ≡ false → ByClose state w a
stays_by state w a l o = record { left = l; closed = λ e. absurd (never_closed (state_left state a) o e) }

answer_by : (state : TxnState) (w : Work) (r : Reply) (next : TxnState) → is_closed state ≡ false → (next ≡ state) ⊎ ((w ≡ work.Close) × (r ≡ reply.Closed)) → ByClose state w (Replied r next)
answer_by state w r next o (inl same) = stays_by state w (Replied r next) refl (ap is_closed same ∙ o)
answer_by state w r next o (inr close) = record { left = refl; closed = λ e. (close.0, ap (λ x. Replied x next) close.1 ∙ ap (λ x. Replied reply.Closed x) e) }

does_by : (shared : Bool) (stream : StreamNo) (seen : Seen) (s : Session) (w : Work) (t : Todo) (added : Option Entry) (a : Advanced) → is_closed s.state ≡ false → FitsTodo s.state w t → Does shared stream seen s t added a → ByClose s.state w a
does_by shared stream seen s w (todo.Answer (Replied r next)) added a o f h = subst (ByClose s.state w) (sym h.answer) (answer_by s.state w r next o f)
does_by shared stream seen s w (todo.Answer (Waits left)) added a o f h = absurd f
does_by shared stream seen s w (todo.Answer (Ran left next)) added a o f h = absurd f
does_by shared stream seen s w (todo.Answer (Broke next)) added a o f h = absurd f
does_by shared stream seen s w (todo.Poll running) added a o f h =
    stays_by s.state w a (runs_left running h.went a h.leaves)
    (ap is_closed (sym (leaves_as running s.state h.went a h.leaves).state) ∙ statement_unclosed shared stream seen s.state s.texts h.stmt added h.went o h.polls)
does_by shared stream seen s w (todo.StoreSql text) added a o f h = subst (ByClose s.state w) (sym h.answer) (stays_by s.state w (Replied reply.SqlStored s.state) refl o)
does_by shared stream seen s w (todo.CloseSql id) added a o f h = subst (ByClose s.state w) (sym h.answer) (stays_by s.state w (Replied reply.SqlClosed s.state) refl o)
does_by shared stream seen s w todo.Close added a o f h = subst (ByClose s.state w) (sym h.answer) (record { left = refl; closed = λ e. (f, refl) })

work_by : (shared : Bool) (stream : StreamNo) (seen : Seen) (s : Session) (w : Work) (added : Option Entry) (a : Advanced) → is_closed s.state ≡ false → PollsWork shared stream seen s w added a → ByClose s.state w a
work_by shared stream seen s w added a o (inl h) = does_by shared stream seen s w (todo_of s w) added a o (todo_fits s w) h
work_by shared stream seen s w added a o (inr h) = subst (ByClose s.state w) (sym h.answer) (stays_by s.state w (Broke s.state) refl o)

-- ---- the requests of a stream

none_left : (w : Work) (rest : List Work) (a : Advanced) → is_left a ≡ false → HasNoClose (w ∷ rest) → HasNoClose (asks_left rest a)
none_left w rest (Waits left) l h = (l, h.1)
none_left w rest (Ran left next) l h = (l, h.1)
none_left w rest (Replied r next) l h = h.1
none_left w rest (Broke next) l h = tt

last_left : (w : Work) (rest : List Work) (a : Advanced) → is_left a ≡ false → ClosesLast (w ∷ rest) → ClosesLast (asks_left rest a)
last_left w rest (Waits left) l h = ((λ e. never (sym l ∙ e)), h.1)
last_left w rest (Ran left next) l h = ((λ e. never (sym l ∙ e)), h.1)
last_left w rest (Replied r next) l h = h.1
last_left w rest (Broke next) l h = tt

closed_left : (state : TxnState) (w : Work) (rest : List Work) (a : Advanced) → ByClose state w a → state_left state a ≡ Closed → (w ∷ rest ≡ work.Close ∷ asks_left rest a) × (answer_of a ≡ Ready (stepped.Replied reply.Closed))
closed_left state w rest a h e = (let by = h.closed e in (ap (λ x. x ∷ rest) by.0 ∙ ap (λ x. work.Close ∷ asks_left rest x) (sym by.1), ap answer_of by.1))

first_closes : (shared : Bool) (seen : Seen) (old : Task) (asks : List Work) (added : Option Entry) (result : Poll Stepped) (new : Task) → old.asks ≡ asks → is_closed old.session.state ≡ false → PollsAsks shared seen old asks added result new → ByCloses old result new
first_closes shared seen old [] added result new i o h = record {
  none = λ n. subst (λ (t : Task). HasNoClose t.asks) (sym h.same) n;
  last = λ l. subst (λ (t : Task). ClosesLast t.asks) (sym h.same) l;
  closed = λ e. absurd (never_closed old.session.state o (ap (λ (t : Task). t.session.state) (sym h.same) ∙ e));
}
first_closes shared seen old (w ∷ rest) added result new i o h =
    let by = work_by shared old.stream seen old.session w added h.advanced o h.polls in
    let asks : new.asks ≡ asks_left rest h.advanced = ap (λ (t : Task). t.asks) h.after in
    record {
      none = λ n. subst HasNoClose (sym asks) (none_left w rest h.advanced by.left (subst HasNoClose i n));
      last = λ l. subst ClosesLast (sym asks) (last_left w rest h.advanced by.left (subst ClosesLast i l));
      closed = λ e. (let c = closed_left old.session.state w rest h.advanced by (ap (λ (t : Task). t.session.state) (sym h.after) ∙ e) in (i ∙ c.0 ∙ ap (λ ws. work.Close ∷ ws) (sym asks), h.answer ∙ c.1));
    }

pub closes_alone : ClosesAlone
closes_alone shared seen old added result new n h = first_closes shared seen old old.asks added result new refl (unclosed old.session.state n) h
