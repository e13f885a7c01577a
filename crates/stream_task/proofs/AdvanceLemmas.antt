-- One poll of a request, by what was added.
use Rattle.std.proofs.Common.{◌≡◌, ◌≢◌, ◌⊎◌, ℕ, ℤ, Bool, true, false, Option, Some, None, refl, sym, ap, ◌∙◌, subst, inl, inr, arith, append-nil}
use Rattle.hrana_value.specs.declared.StreamNo.{StreamNo}
use Rattle.hrana_stmt.specs.declared.statements.Stmt.{Stmt}
use Rattle.stream_requests.specs.declared.replies.Reply.TheVariants as reply
use Rattle.serial_order.specs.Serial.{Meaning}
use Rattle.txn_table.specs.Turns.{Turns}
use Rattle.engine_core.specs.Transactions.{Lives}
use Rattle.engine_core.specs.Noted.{Noted}
use Rattle.engine_core.specs.declared.statement.BoundStmt.{BoundStmt}
use Rattle.engine_core.specs.declared.entries.Answer.{Answer}
use Rattle.engine_core.specs.declared.entries.Entry.{Entry}
use Rattle.stream_task.specs.Table.{Seen, state_after}
use Rattle.stream_task.specs.Adds.{AddsOne, PollsStatement}
use Rattle.stream_task.specs.Moved.{AgreesAs}
use Rattle.stream_task.specs.Doing.{Session}
use Rattle.stream_task.specs.Advance.{statement_of, StartsIn, Leaves, PollsRunning, PollsWork, Closes, Does, IsTodo, todo_of, waits_on, state_left, texts_left}
use Rattle.stream_task.specs.Session.{is_auto, is_shut}
use Rattle.stream_task.specs.declared.session.TxnState.{TxnState}
use Rattle.stream_task.specs.declared.session.TxnState.TheVariants.{Dead, Closed}
use Rattle.stream_task.specs.declared.texts.StoredText.{StoredText}
use Rattle.stream_task.specs.declared.table.Went.{Went}
use Rattle.stream_task.specs.declared.work.Running.{Running}
use Rattle.stream_task.specs.declared.work.Work.{Work}
use Rattle.stream_task.specs.declared.work.Work.TheVariants as work
use Rattle.stream_task.specs.declared.todo.Todo.{Todo}
use Rattle.stream_task.specs.declared.todo.Todo.TheVariants as todo
use Rattle.stream_task.specs.declared.advance.Advanced.{Advanced}
use Rattle.stream_task.specs.declared.advance.Advanced.TheVariants.{Waits, Ran, Replied, Broke}
use Rattle.stream_task.proofs.TodoLemmas.{Answered, StartsTodo, todo_starts, TextsBy, todo_texts, answer_rests, leaves_as}

-- P holds of more, and the stream waits as much
pub adds_more : {X D : Type 0} (told : Bool) (m : Meaning D BoundStmt Answer) (db : X → D) (live : X → Lives D) (faults : X → ℕ) (stream : StreamNo) (engine engine' : X) (t t' : Turns) (old new : Noted) (w w' : Bool) (P Q : Option Entry → Type 0)
    → w ≡ w' → ((e : Option Entry) → P e → Q e) → AddsOne told m db live faults stream engine engine' t t' old new w P → AddsOne told m db live faults stream engine engine' t t' old new w' Q
adds_more told m db live faults stream engine engine' t t' old new w w' P Q e h a =
    subst (λ x. AddsOne told m db live faults stream engine engine' t t' old new x Q) e
    (record { added = a.added; grew = a.grew; next = a.next; writes = a.writes; effects = a.effects; untouched = a.untouched; moved = a.moved; cause = a.cause; refused = a.refused; holds = h a.added a.holds })

-- nothing was done
pub adds_none : {X D : Type 0} (told : Bool) (m : Meaning D BoundStmt Answer) (db : X → D) (live : X → Lives D) (faults : X → ℕ) (stream : StreamNo) (engine : X) (t : Turns) (old : Noted) (w : Bool) (P : Option Entry → Type 0)
    → w ≡ false → P None → AddsOne told m db live faults stream engine engine t t old old w P
adds_none told m db live faults stream engine t old w P e h = subst (λ x. AddsOne told m db live faults stream engine engine t t old old x P) (sym e)
    (record {
      added = None;
      grew = sym (append-nil old.list);
      next = refl;
      writes = false;
      effects = record { database = refl; lives = λ n. refl };
      untouched = refl;
      moved = record { from = tt; turn = refl; version = refl; reserved = refl; rests = refl };
      cause = omega arith;
      refused = tt;
      holds = h;
    })

pub running_polls : (shared : Bool) (stream : StreamNo) (seen : Seen) (s : Session) (running : Running) (stmt : Stmt) (w : Went) (a : Advanced) → statement_of running ≡ Some stmt → Leaves running w a
    → (e : Option Entry) → PollsStatement shared stream seen s.state s.texts stmt e w → PollsRunning shared stream seen s running e a
running_polls shared stream seen s running stmt w a f l e p = record { stmt = stmt; first = f; went = w; polls = p; leaves = l }

pub agrees_left : {D : Type 0} (told : Bool) (db : D) (live : Lives D) (t : Turns) (stream : StreamNo) (running : Running) (state : TxnState) (w : Went) (a : Advanced)
    → Leaves running w a → AgreesAs told db live t stream (state_after state w) → AgreesAs told db live t stream (state_left state a)
agrees_left told db live t stream running state w a l h = subst (AgreesAs told db live t stream) (leaves_as running state w a l).state h

-- ---- a poll that only answers

shut_agrees : {D : Type 0} (told : Bool) (db : D) (live : Lives D) (t : Turns) (stream : StreamNo) (state : TxnState) → is_shut state ≡ true → AgreesAs told db live t stream state → t.turn ≢ Some stream
shut_agrees told db live t stream (Dead why) y h = h
shut_agrees told db live t stream Closed y h = h
shut_agrees told db live t stream state y h = absurd (cc)

pub answer_agrees : {D : Type 0} (told : Bool) (db : D) (live : Lives D) (t : Turns) (stream : StreamNo) (state : TxnState) (a : Advanced)
    → Answered state a ⊎ (a ≡ Broke state) → AgreesAs told db live t stream state → AgreesAs told db live t stream (state_left state a)
answer_agrees told db live t stream state (Replied r next) (inl (inl same)) h = subst (AgreesAs told db live t stream) (sym same) h
answer_agrees told db live t stream state (Replied r next) (inl (inr shut)) h = subst (AgreesAs told db live t stream) (sym shut.1) (shut_agrees told db live t stream state shut.0 h)
answer_agrees told db live t stream state (Waits w) (inl f) h = absurd f
answer_agrees told db live t stream state (Ran w next) (inl f) h = absurd f
answer_agrees told db live t stream state (Broke next) (inl f) h = absurd f
answer_agrees told db live t stream state a (inr e) h = subst (λ x. AgreesAs told db live t stream (state_left state x)) (sym e) h

pub answer_waits : (state : TxnState) (a : Advanced) → Answered state a ⊎ (a ≡ Broke state) → waits_on a ≡ false
answer_waits state a (inl h) = answer_rests state a h
answer_waits state a (inr e) = ap waits_on e

-- ---- by what is to do

pub answer_is : (s : Session) (w : Work) (t : Todo) (a : Advanced) → IsTodo s.state (todo_of s w) t → t ≡ todo.Answer a → Answered s.state a ⊎ (a ≡ Broke s.state)
answer_is s w t a (inl e) i = inl (let same : todo_of s w ≡ todo.Answer a = sym e ∙ i in subst (StartsTodo s) same (todo_starts s w))
answer_is s w t a (inr e) i = inr (cc)

pub answer_polls : (shared : Bool) (stream : StreamNo) (seen : Seen) (s : Session) (w : Work) (t : Todo) (a : Advanced) → IsTodo s.state (todo_of s w) t → t ≡ todo.Answer a → PollsWork shared stream seen s w None a
answer_polls shared stream seen s w t a (inl e) i = inl (subst (λ x. Does shared stream seen s x None a) (sym i ∙ e) (record { no_entry = refl; answer = refl }))
answer_polls shared stream seen s w t a (inr e) i = inr (record { no_entry = refl; answer = cc })

pub answer_texts : (s : Session) (w : Work) (t : Todo) (a : Advanced) → IsTodo s.state (todo_of s w) t → t ≡ todo.Answer a → texts_left s.texts w a ≡ s.texts
answer_texts s w t a (inl e) i = (let same : todo_of s w ≡ todo.Answer a = sym e ∙ i in subst (TextsBy w) same (todo_texts s w)) s.texts
answer_texts s w t a (inr e) i = let same : a ≡ Broke s.state = cc in ap (texts_left s.texts w) same

poll_is : (s : Session) (w : Work) (t : Todo) (running : Running) → IsTodo s.state (todo_of s w) t → t ≡ todo.Poll running → todo_of s w ≡ todo.Poll running
poll_is s w t running (inl e) i = sym e ∙ i
poll_is s w t running (inr e) i = absurd (cc)

pub poll_starts : (s : Session) (w : Work) (t : Todo) (running : Running) → IsTodo s.state (todo_of s w) t → t ≡ todo.Poll running → StartsIn (is_auto s.state) running × (is_shut s.state ≡ false)
poll_starts s w t running h i = subst (StartsTodo s) (poll_is s w t running h i) (todo_starts s w)

pub poll_polls : (shared : Bool) (stream : StreamNo) (seen : Seen) (s : Session) (w : Work) (t : Todo) (running : Running) (a : Advanced) → IsTodo s.state (todo_of s w) t → t ≡ todo.Poll running
    → (e : Option Entry) → PollsRunning shared stream seen s running e a → PollsWork shared stream seen s w e a
poll_polls shared stream seen s w t running a h i e p = inl (subst (λ x. Does shared stream seen s x e a) (sym (poll_is s w t running h i)) p)

pub poll_texts : (s : Session) (w : Work) (t : Todo) (running : Running) (a : Advanced) → IsTodo s.state (todo_of s w) t → t ≡ todo.Poll running → texts_left s.texts w a ≡ s.texts
poll_texts s w t running a h i = subst (TextsBy w) (poll_is s w t running h i) (todo_texts s w) s.texts a

-- what is to do isn't that there was no memory
is_todo : (s : Session) (w : Work) (t u : Todo) → IsTodo s.state (todo_of s w) t → t ≡ u → u ≢ todo.Answer (Broke s.state) → todo_of s w ≡ u
is_todo s w t u (inl e) i n = sym e ∙ i
is_todo s w t u (inr e) i n = absurd (n (sym i ∙ e))

pub store_is : (s : Session) (w : Work) (t : Todo) (text : StoredText) → IsTodo s.state (todo_of s w) t → t ≡ todo.StoreSql text → todo_of s w ≡ todo.StoreSql text
store_is s w t text h i = is_todo s w t (todo.StoreSql text) h i (λ e. absurd (cc))

pub store_work : (s : Session) (w : Work) (t : Todo) (text : StoredText) → IsTodo s.state (todo_of s w) t → t ≡ todo.StoreSql text → w ≡ work.StoreSql text
store_work s w t text h i = subst (TextsBy w) (store_is s w t text h i) (todo_texts s w)

-- a text was stored, or there was no memory
pub store_agrees : {D : Type 0} (told : Bool) (db : D) (live : Lives D) (t : Turns) (stream : StreamNo) (state : TxnState) (a : Advanced)
    → (a ≡ Replied reply.SqlStored state) ⊎ (a ≡ Broke state) → AgreesAs told db live t stream state → AgreesAs told db live t stream (state_left state a)
store_agrees told db live t stream state a (inl e) h = subst (λ x. AgreesAs told db live t stream (state_left state x)) (sym e) h
store_agrees told db live t stream state a (inr e) h = subst (λ x. AgreesAs told db live t stream (state_left state x)) (sym e) h

pub store_waits : (state : TxnState) (a : Advanced) → (a ≡ Replied reply.SqlStored state) ⊎ (a ≡ Broke state) → waits_on a ≡ false
store_waits state a (inl e) = ap waits_on e
store_waits state a (inr e) = ap waits_on e

pub store_polls : (shared : Bool) (stream : StreamNo) (seen : Seen) (s : Session) (w : Work) (t : Todo) (text : StoredText) (a : Advanced) → IsTodo s.state (todo_of s w) t → t ≡ todo.StoreSql text
    → (a ≡ Replied reply.SqlStored s.state) ⊎ (a ≡ Broke s.state) → PollsWork shared stream seen s w None a
store_polls shared stream seen s w t text a h i (inl e) = inl (subst (λ x. Does shared stream seen s x None a) (sym (store_is s w t text h i)) (record { no_entry = refl; answer = e }))
store_polls shared stream seen s w t text a h i (inr e) = inr (record { no_entry = refl; answer = e })

close_sql_is : (s : Session) (w : Work) (t : Todo) (id : ℤ) → IsTodo s.state (todo_of s w) t → t ≡ todo.CloseSql id → todo_of s w ≡ todo.CloseSql id
close_sql_is s w t id h i = is_todo s w t (todo.CloseSql id) h i (λ e. absurd (cc))

pub close_sql_work : (s : Session) (w : Work) (t : Todo) (id : ℤ) → IsTodo s.state (todo_of s w) t → t ≡ todo.CloseSql id → w ≡ work.CloseSql id
close_sql_work s w t id h i = subst (TextsBy w) (close_sql_is s w t id h i) (todo_texts s w)

pub close_sql_polls : (shared : Bool) (stream : StreamNo) (seen : Seen) (s : Session) (w : Work) (t : Todo) (id : ℤ) (a : Advanced) → IsTodo s.state (todo_of s w) t → t ≡ todo.CloseSql id
    → a ≡ Replied reply.SqlClosed s.state → PollsWork shared stream seen s w None a
close_sql_polls shared stream seen s w t id a h i e = inl (subst (λ x. Does shared stream seen s x None a) (sym (close_sql_is s w t id h i)) (record { no_entry = refl; answer = e }))

close_is : (s : Session) (w : Work) (t : Todo) → IsTodo s.state (todo_of s w) t → t ≡ todo.Close → todo_of s w ≡ todo.Close
close_is s w t (inl e) i = sym e ∙ i
close_is s w t (inr e) i = absurd (cc)

pub close_polls : (shared : Bool) (stream : StreamNo) (seen : Seen) (s : Session) (w : Work) (t : Todo) (a : Advanced) → IsTodo s.state (todo_of s w) t → t ≡ todo.Close
    → (e : Option Entry) → Closes s.state e a → PollsWork shared stream seen s w e a
close_polls shared stream seen s w t a h i e p = inl (subst (λ x. Does shared stream seen s x e a) (sym (close_is s w t h i)) p)
