-- A unit that a poll begins has the next number.
use Rattle.std.proofs.Common.{◌≡◌, ℕ, Bool, List, [], ◌∷◌, Option, Some, None, Result, Ok, Err, sym, subst, inl, inr}
use Rattle.hrana_value.specs.declared.StreamNo.{StreamNo}
use Rattle.hrana_stmt.specs.declared.codes.Code.{Code}
use Rattle.hrana_stmt.specs.declared.statements.Stmt.{Stmt}
use Rattle.sql_text.specs.declared.prepared.Prepared.{Prepared}
use Rattle.engine_core.specs.declared.statement.BoundStmt.{BoundStmt}
use Rattle.engine_core.specs.declared.entries.Entry.{Entry}
use Rattle.engine_core.specs.declared.entries.Entry.TheVariants as entry
use Rattle.engine_core.specs.declared.entries.Undo.{Undo}
use Rattle.stream_task.specs.Table.{Seen, plan, MayAdd, MayBeAlone, MayBegin, MayRun, MayCommit, MayUpgrade}
use Rattle.stream_task.specs.Checks.{ready_of}
use Rattle.stream_task.specs.Adds.{PollsStatement, ReadyPolls, PlanPolls, Falls, undone_of}
use Rattle.stream_task.specs.Doing.{Session}
use Rattle.stream_task.specs.Advance.{Does, PollsWork, todo_of}
use Rattle.stream_task.specs.Polls.{Task, PollsAsks}
use Rattle.stream_task.specs.Laws.{IsNext, BegunAreNext}
use Rattle.stream_task.specs.declared.session.TxnState.{TxnState}
use Rattle.stream_task.specs.declared.session.TxnState.TheVariants.{Reading, Writing}
use Rattle.stream_task.specs.declared.texts.StoredText.{StoredText}
use Rattle.stream_task.specs.declared.table.Row.{Row}
use Rattle.stream_task.specs.declared.table.Row.TheVariants as row
use Rattle.stream_task.specs.declared.table.Plan.{Plan}
use Rattle.stream_task.specs.declared.table.Plan.TheVariants.{Refuses, Becomes, Adds}
use Rattle.stream_task.specs.declared.table.Went.{Went}
use Rattle.stream_task.specs.declared.table.Went.TheVariants.{Waits, Still, Out, Stopped, Short}
use Rattle.stream_task.specs.declared.work.Work.{Work}
use Rattle.stream_task.specs.declared.todo.Todo.{Todo}
use Rattle.stream_task.specs.declared.todo.Todo.TheVariants as todo
use Rattle.stream_task.specs.declared.advance.Advanced.{Advanced}
use Rattle.stream_task.specs.declared.task.Poll.{Poll}
use Rattle.stream_task.specs.declared.task.Stepped.{Stepped}

none_next : (seen : Seen) (added : Option Entry) → added ≡ None → IsNext seen added
none_next seen added e = subst (IsNext seen) (sym e) tt

-- ---- an entry that a row may add

next_alone : (seen : Seen) (stream : StreamNo) (stmt : BoundStmt) (e : Entry) → MayBeAlone stream stmt e → IsNext seen (Some e)
next_alone seen stream stmt (entry.Began unit by) m = absurd m
next_alone seen stream stmt e m = tt

next_begun : (seen : Seen) (stream : StreamNo) (e : Entry) → MayBegin stream seen.next e → IsNext seen (Some e)
next_begun seen stream (entry.Began unit by) m = m.0
next_begun seen stream e m = tt

next_ran : (seen : Seen) (stream : StreamNo) (stmt : BoundStmt) (own : ℕ) (e : Entry) → MayRun stream stmt own e → IsNext seen (Some e)
next_ran seen stream stmt own (entry.Began unit by) m = absurd m
next_ran seen stream stmt own e m = tt

next_commit : (seen : Seen) (stream : StreamNo) (own : ℕ) (e : Entry) → MayCommit stream own e → IsNext seen (Some e)
next_commit seen stream own (entry.Began unit by) m = absurd m
next_commit seen stream own e m = tt

next_upgrade : (seen : Seen) (stream : StreamNo) (stmt : BoundStmt) (own had : ℕ) (e : Entry) → MayUpgrade seen stream stmt own had e → IsNext seen (Some e)
next_upgrade seen stream stmt own had (entry.Began unit by) m = absurd m.2
next_upgrade seen stream stmt own had e m = tt

next_row : (seen : Seen) (stream : StreamNo) (stmt : BoundStmt) (r : Row) (e : Entry) → MayAdd seen stream stmt r e → IsNext seen (Some e)
next_row seen stream stmt row.Alone e m = next_alone seen stream stmt e m
next_row seen stream stmt row.ReadAlone e m = next_alone seen stream stmt e m
next_row seen stream stmt row.Begin e m = next_begun seen stream e m
next_row seen stream stmt row.BeginFirst e m = next_begun seen stream e m
next_row seen stream stmt row.ReadFirst e m = next_begun seen stream e m
next_row seen stream stmt (row.Run own) e m = next_ran seen stream stmt own e m
next_row seen stream stmt (row.Upgrade own had) e m = next_upgrade seen stream stmt own had e m
next_row seen stream stmt (row.Commit own) e m = next_commit seen stream own e m
next_row seen stream stmt (row.EndRead own) e m = subst (λ x. IsNext seen (Some x)) (sym m) tt
next_row seen stream stmt (row.Undo own) e m = subst (λ x. IsNext seen (Some x)) (sym m) tt

-- ---- a statement

next_plan : (stream : StreamNo) (seen : Seen) (state : TxnState) (rows : Bool) (ready : Prepared) (p : Plan) (added : Option Entry) (went : Went) → PlanPolls stream seen state rows ready p added went → IsNext seen added
next_plan stream seen state rows ready (Refuses c) added went h = none_next seen added h.0
next_plan stream seen state rows ready (Becomes next) added went h = none_next seen added h.0
next_plan stream seen state rows ready (Adds r) None went h = tt
next_plan stream seen state rows ready (Adds r) (Some e) went h = next_row seen stream h.stmt r e h.may

next_ready : (shared : Bool) (stream : StreamNo) (seen : Seen) (state : TxnState) (rows : Bool) (ready : Result Prepared Code) (added : Option Entry) (went : Went) → ReadyPolls shared stream seen state rows ready added went → IsNext seen added
next_ready shared stream seen state rows (Err c) added went h = none_next seen added h.0
next_ready shared stream seen state rows (Ok ready) added went h = next_plan stream seen state rows ready (plan shared state ready.class) added went h

next_falls : (shared : Bool) (stream : StreamNo) (seen : Seen) (state : TxnState) (rows : Bool) (ready : Result Prepared Code) (added : Option Entry) (left : TxnState) → Falls shared stream seen state rows ready added left → IsNext seen added
next_falls shared stream seen state rows ready None left h = tt
next_falls shared stream seen state rows ready (Some e) left h = next_ready shared stream seen state rows ready (Some e) h.went h.polls

next_statement : (shared : Bool) (stream : StreamNo) (seen : Seen) (state : TxnState) (texts : List StoredText) (stmt : Stmt) (added : Option Entry) (went : Went) → PollsStatement shared stream seen state texts stmt added went → IsNext seen added
next_statement shared stream seen state texts stmt added (Short left) h = next_falls shared stream seen state stmt.want_rows (ready_of texts stmt) added left h
next_statement shared stream seen state texts stmt added Waits h = next_ready shared stream seen state stmt.want_rows (ready_of texts stmt) added Waits h
next_statement shared stream seen state texts stmt added (Still next) h = next_ready shared stream seen state stmt.want_rows (ready_of texts stmt) added (Still next) h
next_statement shared stream seen state texts stmt added (Out o next) h = next_ready shared stream seen state stmt.want_rows (ready_of texts stmt) added (Out o next) h
next_statement shared stream seen state texts stmt added (Stopped c next) h = next_ready shared stream seen state stmt.want_rows (ready_of texts stmt) added (Stopped c next) h

-- ---- a request, and a stream

next_undone : (seen : Seen) (why : Undo) (state : TxnState) → IsNext seen (undone_of why state)
next_undone seen why (Reading unit had) = tt
next_undone seen why (Writing unit) = tt
next_undone seen why state = tt

next_does : (shared : Bool) (stream : StreamNo) (seen : Seen) (s : Session) (t : Todo) (added : Option Entry) (result : Advanced) → Does shared stream seen s t added result → IsNext seen added
next_does shared stream seen s (todo.Answer a) added result h = none_next seen added h.no_entry
next_does shared stream seen s (todo.Poll running) added result h = next_statement shared stream seen s.state s.texts h.stmt added h.went h.polls
next_does shared stream seen s (todo.StoreSql text) added result h = none_next seen added h.no_entry
next_does shared stream seen s (todo.CloseSql id) added result h = none_next seen added h.no_entry
next_does shared stream seen s todo.Close added result h = subst (IsNext seen) (sym h.undone) (next_undone seen _ s.state)

next_work : (shared : Bool) (stream : StreamNo) (seen : Seen) (s : Session) (w : Work) (added : Option Entry) (result : Advanced) → PollsWork shared stream seen s w added result → IsNext seen added
next_work shared stream seen s w added result (inl h) = next_does shared stream seen s (todo_of s w) added result h
next_work shared stream seen s w added result (inr h) = none_next seen added h.no_entry

next_asks : (shared : Bool) (seen : Seen) (old : Task) (asks : List Work) (added : Option Entry) (result : Poll Stepped) (new : Task) → PollsAsks shared seen old asks added result new → IsNext seen added
next_asks shared seen old [] added result new h = none_next seen added h.no_entry
next_asks shared seen old (w ∷ rest) added result new h = next_work shared old.stream seen old.session w added h.advanced h.polls

pub begun_are_next : BegunAreNext
begun_are_next shared seen old added result new h = next_asks shared seen old old.asks added result new h
