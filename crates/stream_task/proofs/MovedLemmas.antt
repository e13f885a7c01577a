-- What an entry does to the turn, by the row that added it.
use Rattle.std.proofs.Common.{◌≡◌, ◌≢◌, ◌≤◌, ◌+◌, ℕ, Bool, true, false, cond, Option, Some, None, refl, sym, ap, ◌∙◌, subst, arith, inl, inr}
use Rattle.hrana_value.specs.declared.StreamNo.{StreamNo}
use Rattle.sql_text.specs.declared.class.Class.{Class}
use Rattle.sql_text.specs.declared.class.Class.TheVariants as class
use Rattle.txn_table.specs.Turns.{Turns, given_back}
use Rattle.txn_table.proofs.StreamLemmas.{true_not_false}
use Rattle.engine_core.specs.Engine.{is_write}
use Rattle.engine_core.specs.Transactions.{Lives}
use Rattle.engine_core.specs.declared.statement.BoundStmt.{BoundStmt}
use Rattle.engine_core.specs.declared.entries.Deny.TheVariants as deny
use Rattle.engine_core.specs.declared.entries.How.TheVariants as how
use Rattle.engine_core.specs.declared.entries.Entry.{Entry}
use Rattle.engine_core.specs.declared.entries.Entry.TheVariants as entry
use Rattle.stream_task.specs.Moved.{WaitersStay, settled, turn_by, version_by, turn_given, table_given, AgreesAs}
use Rattle.stream_task.specs.Table.{Seen, MayAdd, MayBeAlone, MayBegin, MayRun, MayCommit, MayUpgrade, need_of, begins_writer}
use Rattle.stream_task.specs.declared.session.TxnState.{TxnState}
use Rattle.stream_task.specs.declared.session.TxnState.TheVariants.{Auto, Deferred, Reading, Writing}
use Rattle.stream_task.specs.declared.table.Row.{Row}
use Rattle.stream_task.specs.declared.table.Row.TheVariants as row
use Rattle.stream_task.specs.declared.turns.Turn.TheVariants.{Taken}
use Rattle.stream_task.proofs.TurnLemmas.{none_some, given_own, given_other, TookTurn, took_alone, took_begin, took_upgrade, current_upgrade}
use Rattle.stream_task.proofs.OriginLemmas.{Stands, write_is, read_no_write}

-- the table went by the entry
pub record Moves (s : StreamNo) (writes : Bool) (e : Entry) (t t' : Turns) : Type 0 where
  pub turn : t'.turn ≡ turn_by s writes (Some e) t.turn
  pub version : t'.version ≡ version_by (Some e) t.version
  pub reserved : t'.reserved ≡ t.reserved
  pub waiters : WaitersStay s t t'

-- ---- the turn was taken for it

-- the turn was taken, and given back
back : (s : StreamNo) (t held : Turns) → TookTurn s t held → given_back held.turn s ≡ t.turn
back s t held k = ap (λ o. given_back o s) k.turn ∙ given_own s ∙ sym k.free

moves_alone : (s : StreamNo) (q : BoundStmt) (writes : Bool) (e : Entry) (t held : Turns) → TookTurn s t held → MayBeAlone s q e → Moves s writes e t (settled s e held)
moves_alone s q writes (entry.Alone by p a true) t held k h = record { turn = sym k.free; version = ap (λ n. n + 1) k.version; reserved = k.reserved; waiters = inr k.waiters }
moves_alone s q writes (entry.Alone by p a false) t held k h = record { turn = back s t held k; version = k.version; reserved = k.reserved; waiters = inr k.waiters }
moves_alone s q writes (entry.Failed by None why) t held k h = record { turn = back s t held k; version = k.version; reserved = k.reserved; waiters = inr k.waiters }
moves_alone s q writes e t held k h = absurd h

moves_begin : (s : StreamNo) (next : ℕ) (e : Entry) (t held : Turns) → TookTurn s t held → MayBegin s next e → Moves s true e t (settled s e held)
moves_begin s next (entry.Began u by) t held k h = record { turn = k.turn; version = k.version; reserved = k.reserved; waiters = inr k.waiters }
moves_begin s next (entry.Failed by None why) t held k h = record { turn = back s t held k; version = k.version; reserved = k.reserved; waiters = inr k.waiters }
moves_begin s next e t held k h = absurd h

-- a reader that was granted the turn isn't denied
pub not_denied : (seen : Seen) (s : StreamNo) (q : BoundStmt) (u had : ℕ) (e : Entry) → seen.by ≡ None → seen.version ≤ had → MayUpgrade seen s q u had e → MayRun s q u e
not_denied seen s q u had (entry.Denied v (deny.Stale began now)) free current h = absurd (omega (arith, h.3, current))
not_denied seen s q u had (entry.Denied v (deny.Held by)) free current h = absurd (none_some (sym free ∙ h.1))
not_denied seen s q u had (entry.Alone by p a w) free current h = h.2
not_denied seen s q u had (entry.Began v by) free current h = h.2
not_denied seen s q u had (entry.Ran v p a) free current h = h.2
not_denied seen s q u had (entry.Ended v end) free current h = h.2
not_denied seen s q u had (entry.Failed by v why) free current h = h.2

moves_upgrade : (s : StreamNo) (q : BoundStmt) (u : ℕ) (writes : Bool) (e : Entry) (t held : Turns) → TookTurn s t held → is_write q.class ≡ true → MayRun s q u e → Moves s writes e t (settled s e held)
moves_upgrade s q u writes (entry.Ran v p a) t held k w h =
    let is : is_write p.class ≡ true = ap (λ (x : BoundStmt). is_write x.class) h.1 ∙ w in
    record { turn = k.turn ∙ sym (ap (λ b. cond b (Some s) t.turn) is); version = k.version; reserved = k.reserved; waiters = inr k.waiters }
moves_upgrade s q u writes (entry.Failed by (Some v) why) t held k w h = record {
  turn = ap (λ o. given_back o s) k.turn ∙ given_own s ∙ sym (ap (λ o. given_back o s) k.free);
  version = k.version;
  reserved = k.reserved;
  waiters = inr k.waiters;
}
moves_upgrade s q u writes e t held k w h = absurd h

-- ---- the turn wasn't wanted

moves_read : (s : StreamNo) (q : BoundStmt) (writes : Bool) (e : Entry) (t : Turns) → t.turn ≢ Some s → is_write q.class ≡ false → MayBeAlone s q e → Moves s writes e t (settled s e t)
moves_read s q writes (entry.Alone by p a true) t ne r h = absurd (true_not_false (h.written ∙ rw r refl))
moves_read s q writes (entry.Alone by p a false) t ne r h = record { turn = given_other t.turn s ne; version = refl; reserved = refl; waiters = inl refl }
moves_read s q writes (entry.Failed by None why) t ne r h = record { turn = given_other t.turn s ne; version = refl; reserved = refl; waiters = inl refl }
moves_read s q writes e t ne r h = absurd h

moves_begin_read : (s : StreamNo) (next : ℕ) (e : Entry) (t : Turns) → t.turn ≢ Some s → MayBegin s next e → Moves s false e t (settled s e t)
moves_begin_read s next (entry.Began u by) t ne h = record { turn = refl; version = refl; reserved = refl; waiters = inl refl }
moves_begin_read s next (entry.Failed by None why) t ne h = record { turn = given_other t.turn s ne; version = refl; reserved = refl; waiters = inl refl }
moves_begin_read s next e t ne h = absurd h

pub kept_turn : (s : StreamNo) (b : Bool) (o : Option StreamNo) → o ≡ Some s → o ≡ cond b (Some s) o
kept_turn s true o e = e
kept_turn s false o e = refl

moves_ran : (s : StreamNo) (q : BoundStmt) (u : ℕ) (writes : Bool) (e : Entry) (t : Turns) → ((b : Bool) → is_write q.class ≡ b → t.turn ≡ cond b (Some s) t.turn) → MayRun s q u e → Moves s writes e t (settled s e t)
moves_ran s q u writes (entry.Ran v p a) t keeps h =
    let same : is_write q.class ≡ is_write p.class = sym (ap (λ (x : BoundStmt). is_write x.class) h.1) in
    record { turn = keeps (is_write p.class) same; version = refl; reserved = refl; waiters = inl refl }
moves_ran s q u writes (entry.Failed by (Some v) why) t keeps h = record { turn = refl; version = refl; reserved = refl; waiters = inl refl }
moves_ran s q u writes e t keeps h = absurd h

pub reader_keeps : (s : StreamNo) (c : Class) (o : Option StreamNo) → c ≡ class.Read → (b : Bool) → is_write c ≡ b → o ≡ cond b (Some s) o
reader_keeps s c o r true e = absurd (true_not_false (sym e ∙ read_no_write c r))
reader_keeps s c o r false e = refl

moves_commit : (s : StreamNo) (u : ℕ) (writes : Bool) (e : Entry) (t : Turns) → MayCommit s u e → Moves s writes e t (settled s e t)
moves_commit s u writes (entry.Ended v how.Committed) t h = record { turn = refl; version = refl; reserved = refl; waiters = inl refl }
moves_commit s u writes (entry.Failed by (Some v) why) t h = record { turn = refl; version = refl; reserved = refl; waiters = inl refl }
moves_commit s u writes e t h = absurd h

moves_end_read : (s : StreamNo) (u : ℕ) (writes : Bool) (t : Turns) → t.turn ≢ Some s → Moves s writes (entry.Ended u how.Read) t (settled s (entry.Ended u how.Read) t)
moves_end_read s u writes t ne = record { turn = given_other t.turn s ne; version = refl; reserved = refl; waiters = inl refl }

-- the entry of a row, once the turn was asked for
pub moves : {D : Type 0} (shared told : Bool) (db : D) (live : Lives D) (t : Turns) (s : StreamNo) (q : BoundStmt) (st : TxnState) (r : Row) (seen : Seen) (e : Entry)
    → Stands shared q.class st r → AgreesAs told db live t s st → turn_given t (need_of r) ≡ Taken → seen.by ≡ t.turn → seen.version ≡ t.version → MayAdd seen s q r e
    → Moves s (begins_writer r) e t (settled s e (table_given t s (need_of r)))
moves shared told db live t s q Auto row.Alone seen e h a took by v m = moves_alone s q false e t _ (took_alone s t took) m
moves shared told db live t s q Auto row.ReadAlone seen e h a took by v m = moves_read s q false e t a (read_no_write q.class h.1) m
moves shared told db live t s q Auto row.Begin seen e h a took by v m = moves_begin s seen.next e t _ (took_begin s t took) m
moves shared told db live t s q Deferred row.BeginFirst seen e h a took by v m = moves_begin s seen.next e t _ (took_begin s t took) m
moves shared told db live t s q Deferred row.ReadFirst seen e h a took by v m = moves_begin_read s seen.next e t a m
moves shared told db live t s q (Reading u had) (row.Run w) seen e h a took by v m = moves_ran s q w false e t (reader_keeps s q.class t.turn h.1) m
moves shared told db live t s q (Reading u had) (row.Upgrade w began) seen e h a took by v m =
    let k = took_upgrade s t began took in
    moves_upgrade s q w false e t _ k (write_is q.class h.2) (not_denied seen s q w began e (by ∙ k.free) (rw v (current_upgrade t began took)) m)
moves shared told db live t s q (Reading u had) (row.EndRead w) seen e h a took by v m =
    subst (λ (x : Entry). Moves s false x t (settled s x t)) (sym m) (moves_end_read s w false t a.turn)
moves shared told db live t s q (Reading u had) (row.Undo w) seen e h a took by v m =
    subst (λ (x : Entry). Moves s false x t (settled s x t)) (sym m) (record { turn = refl; version = refl; reserved = refl; waiters = inl refl })
moves shared told db live t s q (Writing u) (row.Run w) seen e h a took by v m = moves_ran s q w false e t (λ b is. kept_turn s b t.turn a.turn) m
moves shared told db live t s q (Writing u) (row.Commit w) seen e h a took by v m = moves_commit s w false e t m
moves shared told db live t s q (Writing u) (row.Undo w) seen e h a took by v m =
    subst (λ (x : Entry). Moves s false x t (settled s x t)) (sym m) (record { turn = refl; version = refl; reserved = refl; waiters = inl refl })
moves shared told db live t s q st r seen e h a took by v m = absurd h
