-- The entries that a row may add.
use Rattle.std.proofs.Common.{◌≡◌, ◌<◌, ◌-◌, ◌^◌, ℕ, Bool, true, false, Option, Some, None, Result, Ok, Err, refl, sym, arith}
use Rattle.std.specs.Option.{IsSome}
use Rattle.hrana_value.specs.declared.StreamNo.{StreamNo}
use Rattle.txn_table.specs.Turns.{Turns}
use Rattle.txn_table.proofs.StreamLemmas.{true_not_false}
use Rattle.engine_core.specs.Engine.{is_write}
use Rattle.engine_core.specs.Noted.{IsNumbered}
use Rattle.engine_core.specs.declared.statement.BoundStmt.{BoundStmt}
use Rattle.engine_core.specs.declared.entries.Answer.{Answer}
use Rattle.engine_core.specs.declared.entries.How.TheVariants as how
use Rattle.engine_core.specs.declared.entries.Deny.TheVariants as deny
use Rattle.engine_core.specs.declared.entries.Entry.{Entry}
use Rattle.engine_core.specs.declared.entries.Entry.TheVariants as entry
use Rattle.stream_task.specs.Act.{IsGranted}
use Rattle.stream_task.specs.Moved.{CommitsByTurn}
use Rattle.stream_task.specs.Statement.{HasTurn}
use Rattle.stream_task.specs.Table.{Seen, MayAdd, MayBeAlone, MayBegin, MayRun, MayCommit, MayUpgrade, wrote, takes, takes_alone, takes_ran, takes_upgrade, takes_ended, takes_begun, begun_by}
use Rattle.hrana_stmt.specs.declared.codes.Code.{Code}
use Rattle.stream_task.specs.declared.table.Went.{Went}
use Rattle.stream_task.specs.declared.session.TxnState.{TxnState}
use Rattle.stream_task.specs.declared.table.Row.{Row}
use Rattle.stream_task.specs.declared.table.Row.TheVariants as row

-- ---- each entry that may come of a row means something to it

some_alone : (want_rows : Bool) (state : TxnState) (s : StreamNo) (q : BoundStmt) (e : Entry) → MayBeAlone s q e → IsSome (takes_alone want_rows state e)
some_alone want_rows state s q (entry.Alone by p a w) h = refl
some_alone want_rows state s q (entry.Failed by None why) h = refl
some_alone want_rows state s q e h = absurd h

some_begun : (s : StreamNo) (next : ℕ) (e : Entry) → MayBegin s next e → IsSome (begun_by e)
some_begun s next (entry.Began u by) h = refl
some_begun s next (entry.Failed by None why) h = refl
some_begun s next e h = absurd h

some_ran : (want_rows : Bool) (state : TxnState) (s : StreamNo) (q : BoundStmt) (u : ℕ) (e : Entry) → MayRun s q u e → IsSome (takes_ran want_rows state e)
some_ran want_rows state s q u (entry.Ran v p a) h = refl
some_ran want_rows state s q u (entry.Failed by (Some v) why) h = refl
some_ran want_rows state s q u e h = absurd h

some_commit : (s : StreamNo) (u : ℕ) (e : Entry) → MayCommit s u e → IsSome (takes_ended e)
some_commit s u (entry.Ended v how.Committed) h = refl
some_commit s u (entry.Failed by (Some v) why) h = refl
some_commit s u e h = absurd h

some_upgrade : (want_rows : Bool) (state : TxnState) (seen : Seen) (s : StreamNo) (q : BoundStmt) (u had : ℕ) (e : Entry) → MayUpgrade seen s q u had e → IsSome (takes_upgrade want_rows state u e)
some_upgrade want_rows state seen s q u had (entry.Denied v (deny.Stale began now)) h = refl
some_upgrade want_rows state seen s q u had (entry.Denied v (deny.Held by)) h = refl
some_upgrade want_rows state seen s q u had (entry.Ran v p a) h = refl
some_upgrade want_rows state seen s q u had (entry.Failed by (Some v) why) h = refl
some_upgrade want_rows state seen s q u had e h = absurd h.2

some_begin : (state : TxnState) (f : ℕ → Went) (o : Option (Result ℕ Code)) → IsSome o → IsSome (takes_begun state f o)
some_begin state f None h = absurd (true_not_false (sym h))
some_begin state f (Some (Ok u)) h = refl
some_begin state f (Some (Err c)) h = refl

pub some_taken : (had : ℕ → ℕ) (want_rows : Bool) (state : TxnState) (seen : Seen) (s : StreamNo) (q : BoundStmt) (r : Row) (e : Entry) → MayAdd seen s q r e → IsSome (takes had want_rows state r e)
some_taken had want_rows state seen s q row.Alone e h = some_alone want_rows state s q e h
some_taken had want_rows state seen s q row.ReadAlone e h = some_alone want_rows state s q e h
some_taken had want_rows state seen s q row.Begin e h = some_begin state _ (begun_by e) (some_begun s seen.next e h)
some_taken had want_rows state seen s q row.BeginFirst e h = some_begin state _ (begun_by e) (some_begun s seen.next e h)
some_taken had want_rows state seen s q row.ReadFirst e h = some_begin state _ (begun_by e) (some_begun s seen.next e h)
some_taken had want_rows state seen s q (row.Run u) e h = some_ran want_rows state s q u e h
some_taken had want_rows state seen s q (row.Upgrade u v) e h = some_upgrade want_rows state seen s q u v e h
some_taken had want_rows state seen s q (row.Commit u) e h = some_commit s u e h
some_taken had want_rows state seen s q (row.EndRead u) e h = rw h refl
some_taken had want_rows state seen s q (row.Undo u) e h = rw h refl

-- ---- a unit that begins has the next number

numbered_alone : (s : StreamNo) (q : BoundStmt) (next : ℕ) (e : Entry) → MayBeAlone s q e → IsNumbered next e
numbered_alone s q next (entry.Began u by) h = absurd h
numbered_alone s q next e h = tt

numbered_begun : (s : StreamNo) (next : ℕ) (e : Entry) → next < 2 ^ 64 - 1 → MayBegin s next e → IsNumbered next e
numbered_begun s next (entry.Began u by) few h = (h.0, few)
numbered_begun s next e few h = tt

numbered_ran : (s : StreamNo) (q : BoundStmt) (u next : ℕ) (e : Entry) → MayRun s q u e → IsNumbered next e
numbered_ran s q u next (entry.Began v by) h = absurd h
numbered_ran s q u next e h = tt

numbered_commit : (s : StreamNo) (u next : ℕ) (e : Entry) → MayCommit s u e → IsNumbered next e
numbered_commit s u next (entry.Began v by) h = absurd h
numbered_commit s u next e h = tt

numbered_upgrade : (seen : Seen) (s : StreamNo) (q : BoundStmt) (u had next : ℕ) (e : Entry) → MayUpgrade seen s q u had e → IsNumbered next e
numbered_upgrade seen s q u had next (entry.Began v by) h = absurd h.2
numbered_upgrade seen s q u had next e h = tt

pub numbered : (seen : Seen) (s : StreamNo) (q : BoundStmt) (r : Row) (e : Entry) → seen.next < 2 ^ 64 - 1 → MayAdd seen s q r e → IsNumbered seen.next e
numbered seen s q row.Alone e few h = numbered_alone s q seen.next e h
numbered seen s q row.ReadAlone e few h = numbered_alone s q seen.next e h
numbered seen s q row.Begin e few h = numbered_begun s seen.next e few h
numbered seen s q row.BeginFirst e few h = numbered_begun s seen.next e few h
numbered seen s q row.ReadFirst e few h = numbered_begun s seen.next e few h
numbered seen s q (row.Run u) e few h = numbered_ran s q u seen.next e h
numbered seen s q (row.Upgrade u v) e few h = numbered_upgrade seen s q u v seen.next e h
numbered seen s q (row.Commit u) e few h = numbered_commit s u seen.next e h
numbered seen s q (row.EndRead u) e few h = rw h tt
numbered seen s q (row.Undo u) e few h = rw h tt

-- ---- an entry that commits is of the stream that holds the turn

wrote_read : (q : BoundStmt) (a : Answer) → is_write q.class ≡ false → wrote q a ≡ true → ⊥
wrote_read q a r w = let e : false ≡ true = rw r at w in true_not_false (sym e)

holds_alone : (s : StreamNo) (q : BoundStmt) (t : Turns) (e : Entry) → t.turn ≡ Some s → MayBeAlone s q e → CommitsByTurn s e t
holds_alone s q t (entry.Alone by p a true) o h = o
holds_alone s q t (entry.Ended u end) o h = absurd h
holds_alone s q t e o h = tt

reads_alone : (s : StreamNo) (q : BoundStmt) (t : Turns) (e : Entry) → is_write q.class ≡ false → MayBeAlone s q e → CommitsByTurn s e t
reads_alone s q t (entry.Alone by p a true) r h = absurd (wrote_read q a r (sym h.written))
reads_alone s q t (entry.Ended u end) r h = absurd h
reads_alone s q t e r h = tt

holds_begun : (s : StreamNo) (next : ℕ) (t : Turns) (e : Entry) → MayBegin s next e → CommitsByTurn s e t
holds_begun s next t (entry.Alone by p a w) h = absurd h
holds_begun s next t (entry.Ended u end) h = absurd h
holds_begun s next t e h = tt

holds_ran : (s : StreamNo) (q : BoundStmt) (u : ℕ) (t : Turns) (e : Entry) → MayRun s q u e → CommitsByTurn s e t
holds_ran s q u t (entry.Alone by p a w) h = absurd h
holds_ran s q u t (entry.Ended v end) h = absurd h
holds_ran s q u t e h = tt

holds_commit : (s : StreamNo) (u : ℕ) (t : Turns) (e : Entry) → t.turn ≡ Some s → MayCommit s u e → CommitsByTurn s e t
holds_commit s u t (entry.Alone by p a w) o h = absurd h
holds_commit s u t (entry.Ended v how.Committed) o h = o
holds_commit s u t e o h = tt

holds_upgrade : (seen : Seen) (s : StreamNo) (q : BoundStmt) (u had : ℕ) (t : Turns) (e : Entry) → MayUpgrade seen s q u had e → CommitsByTurn s e t
holds_upgrade seen s q u had t (entry.Alone by p a w) h = absurd h.2
holds_upgrade seen s q u had t (entry.Ended v end) h = absurd h.2
holds_upgrade seen s q u had t e h = tt

pub commits_by_turn : (seen : Seen) (s : StreamNo) (q : BoundStmt) (r : Row) (t : Turns) (e : Entry) → HasTurn s q t r → MayAdd seen s q r e → CommitsByTurn s e t
commits_by_turn seen s q row.Alone t e o h = holds_alone s q t e o h
commits_by_turn seen s q row.ReadAlone t e o h = reads_alone s q t e o h
commits_by_turn seen s q row.Begin t e o h = holds_begun s seen.next t e h
commits_by_turn seen s q row.BeginFirst t e o h = holds_begun s seen.next t e h
commits_by_turn seen s q row.ReadFirst t e o h = holds_begun s seen.next t e h
commits_by_turn seen s q (row.Run u) t e o h = holds_ran s q u t e h
commits_by_turn seen s q (row.Upgrade u v) t e o h = holds_upgrade seen s q u v t e h
commits_by_turn seen s q (row.Commit u) t e o h = holds_commit s u t e o h
commits_by_turn seen s q (row.EndRead u) t e o h = rw h tt
commits_by_turn seen s q (row.Undo u) t e o h = rw h tt

-- ---- what is granted where nothing was committed and nobody writes

pub granted_first : (r : Row) → IsGranted r None 0
granted_first (row.Upgrade u v) = (refl, omega arith)
granted_first r = tt
