-- The stream agrees with the engine and the turn after the entry of a row, and what the entry says of what was before.
use Rattle.std.proofs.Common.{◌≡◌, ◌≢◌, ◌≤◌, ◌||◌, ℕ, Bool, true, false, cond, Option, Some, None, IsTrue, refl, sym, ap, ◌∙◌, subst, arith, inl, inr}
use Rattle.hrana_value.specs.declared.StreamNo.{StreamNo}
use Rattle.sql_text.specs.declared.class.Class.TheVariants as class
use Rattle.serial_order.specs.Serial.{Meaning}
use Rattle.txn_table.specs.Turns.{Turns, given_back}
use Rattle.txn_table.proofs.StreamLemmas.{true_not_false, or_true}
use Rattle.engine_core.specs.Engine.{is_write, IsReadOrWrite}
use Rattle.engine_core.specs.Transactions.{Lives, View, NoWriter, StartsAt}
use Rattle.engine_core.specs.declared.statement.BoundStmt.{BoundStmt}
use Rattle.engine_core.specs.declared.entries.Answer.{Answer}
use Rattle.engine_core.specs.declared.entries.How.TheVariants as how
use Rattle.engine_core.specs.declared.entries.Entry.{Entry}
use Rattle.engine_core.specs.declared.entries.Entry.TheVariants as entry
use Rattle.stream_task.specs.Effect.{Effect}
use Rattle.stream_task.specs.Moved.{ComesFrom, AloneFrom, RanFrom, GoneFrom, AgreesAs, WritesIn, ReadsIn, AreBelow, WritesByTurn, turn_given}
use Rattle.stream_task.specs.Table.{Seen, MayAdd, MayBeAlone, MayBegin, MayRun, MayCommit, wrote, need_of, begins_writer, takes, takes_alone, takes_begun, takes_ran, takes_upgrade, takes_ended, begun_by, left_by, is_waiting, state_after, IsTaken, empty_result}
use Rattle.hrana_batch.specs.declared.outcomes.Outcome.TheVariants as outcome
use Rattle.stream_task.specs.declared.session.TxnState.{TxnState}
use Rattle.stream_task.specs.declared.session.TxnState.TheVariants.{Auto, Deferred, Reading, Writing}
use Rattle.stream_task.specs.declared.table.Row.{Row}
use Rattle.stream_task.specs.declared.table.Row.TheVariants as row
use Rattle.stream_task.specs.declared.table.Went.{Went}
use Rattle.stream_task.specs.declared.table.Went.TheVariants.{Waits, Still, Out, Stopped, Short}
use Rattle.stream_task.specs.declared.turns.Turn.TheVariants.{Taken}
use Rattle.stream_task.proofs.TurnLemmas.{some_one, not_held, given_back_is, took_alone, took_begin, took_upgrade, current_upgrade}
use Rattle.stream_task.proofs.OriginLemmas.{Stands, write_is, read_no_write, read_fits, write_fits, some_is, own_lives, own_starts, no_other}
use Rattle.stream_task.proofs.MovedLemmas.{Moves, not_denied, kept_turn, reader_keeps}

-- ---- what an entry says of what was before

from_alone : {D : Type 0} (told writes : Bool) (db : D) (live : Lives D) (next : ℕ) (t : Turns) (s : StreamNo) (q : BoundStmt) (e : Entry) → AloneFrom live t q → MayBeAlone s q e → ComesFrom told writes db live next t s (Some e)
from_alone told writes db live next t s q (entry.Alone by p a w) f h = (h.own, h.written ∙ ap (λ (x : BoundStmt). wrote x a) (sym h.same), subst (λ (x : BoundStmt). AloneFrom live t x) (sym h.same) f)
from_alone told writes db live next t s q (entry.Failed by None why) f h = h
from_alone told writes db live next t s q e f h = absurd h

from_begun : {D : Type 0} (told writes : Bool) (db : D) (live : Lives D) (next : ℕ) (t : Turns) (s : StreamNo) (e : Entry) → live next ≡ None → (writes ≡ true → t.turn ≡ None) → MayBegin s next e → ComesFrom told writes db live next t s (Some e)
from_begun told writes db live next t s (entry.Began u by) fresh free h = (h.1, record { number = h.0; fresh = ap live h.0 ∙ fresh; free = free })
from_begun told writes db live next t s (entry.Failed by None why) fresh free h = h
from_begun told writes db live next t s e fresh free h = absurd h

from_ran : {D : Type 0} (told writes : Bool) (db : D) (live : Lives D) (next : ℕ) (t : Turns) (s : StreamNo) (q : BoundStmt) (u : ℕ) (e : Entry) → RanFrom told db live t s u q → GoneFrom live t s u → MayRun s q u e → ComesFrom told writes db live next t s (Some e)
from_ran told writes db live next t s q u (entry.Ran v p a) f g h =
    subst (λ n. RanFrom told db live t s n p) (sym h.0) (subst (λ (x : BoundStmt). RanFrom told db live t s u x) (sym h.1) f)
from_ran told writes db live next t s q u (entry.Failed by (Some v) why) f g h = (h.0, subst (λ n. GoneFrom live t s n) (sym h.1) g)
from_ran told writes db live next t s q u e f g h = absurd h

from_commit : {D : Type 0} (told writes : Bool) (db : D) (live : Lives D) (next : ℕ) (t : Turns) (s : StreamNo) (u : ℕ) (e : Entry) → WritesIn told db live t s u → GoneFrom live t s u → MayCommit s u e → ComesFrom told writes db live next t s (Some e)
from_commit told writes db live next t s u (entry.Ended v how.Committed) f g h = subst (λ n. WritesIn told db live t s n) (sym h) f
from_commit told writes db live next t s u (entry.Failed by (Some v) why) f g h = (h.0, subst (λ n. GoneFrom live t s n) (sym h.1) g)
from_commit told writes db live next t s u e f g h = absurd h

pub reader_gone : {D : Type 0} (told : Bool) (db : D) (live : Lives D) (t : Turns) (s : StreamNo) (u had : ℕ) → ReadsIn told db live t s u had → GoneFrom live t s u
reader_gone told db live t s u had a = record { lives = a.lives; only = λ e. absurd (a.turn e) }

pub writer_gone : {D : Type 0} (told : Bool) (db : D) (live : Lives D) (t : Turns) (s : StreamNo) (u : ℕ) → WritesIn told db live t s u → GoneFrom live t s u
writer_gone told db live t s u a = record { lives = own_lives told db live u a.own; only = λ e. a.only }

reader_ran : {D : Type 0} (told : Bool) (db : D) (live : Lives D) (t : Turns) (s : StreamNo) (u had : ℕ) (q : BoundStmt) → q.class ≡ class.Read → ReadsIn told db live t s u had → RanFrom told db live t s u q
reader_ran told db live t s u had q r a = record { class = read_fits q.class r; lives = a.lives; writes = λ w. absurd (true_not_false (sym w ∙ read_no_write q.class r)) }

writer_ran : {D : Type 0} (told : Bool) (db : D) (live : Lives D) (t : Turns) (s : StreamNo) (u : ℕ) (q : BoundStmt) → IsReadOrWrite q.class → WritesIn told db live t s u → RanFrom told db live t s u q
writer_ran told db live t s u q c a = record {
  class = c;
  lives = own_lives told db live u a.own;
  writes = λ w. record { turn = inl a.turn; only = a.only; current = own_starts told db live u a.own };
}

upgrade_ran : {D : Type 0} (told : Bool) (db : D) (live : Lives D) (t : Turns) (s : StreamNo) (u had : ℕ) (q : BoundStmt) → q.class ≡ class.Write → ReadsIn told db live t s u had → t.turn ≡ None → NoWriter live → t.version ≤ had → RanFrom told db live t s u q
upgrade_ran told db live t s u had q w a free none now = record {
  class = write_fits q.class w;
  lives = a.lives;
  writes = λ _. record { turn = inr free; only = no_other live u none; current = λ told_is. a.current told_is now };
}

pub comes_from : {D : Type 0} (shared told : Bool) (db : D) (live : Lives D) (t : Turns) (s : StreamNo) (q : BoundStmt) (st : TxnState) (r : Row) (seen : Seen) (e : Entry)
    → Stands shared q.class st r → AgreesAs told db live t s st → AreBelow live seen.next → WritesByTurn live t → turn_given t (need_of r) ≡ Taken → seen.by ≡ t.turn → seen.version ≡ t.version → MayAdd seen s q r e
    → ComesFrom told (begins_writer r) db live seen.next t s (Some e)
comes_from shared told db live t s q Auto row.Alone seen e h a below writers took by v m =
    from_alone told false db live seen.next t s q e (record { class = h; free = λ w. (took_alone s t took).free }) m
comes_from shared told db live t s q Auto row.ReadAlone seen e h a below writers took by v m =
    from_alone told false db live seen.next t s q e (record { class = read_fits q.class h.1; free = λ w. absurd (true_not_false (sym w ∙ read_no_write q.class h.1)) }) m
comes_from shared told db live t s q Auto row.Begin seen e h a below writers took by v m = from_begun told true db live seen.next t s e (below seen.next (omega arith)) (λ _. (took_begin s t took).free) m
comes_from shared told db live t s q Deferred row.BeginFirst seen e h a below writers took by v m = from_begun told true db live seen.next t s e (below seen.next (omega arith)) (λ _. (took_begin s t took).free) m
comes_from shared told db live t s q Deferred row.ReadFirst seen e h a below writers took by v m =
    from_begun told false db live seen.next t s e (below seen.next (omega arith)) (λ w. absurd (true_not_false (sym w))) m
comes_from shared told db live t s q (Reading u had) (row.Run w) seen e h a below writers took by v m =
    let b : ReadsIn told db live t s w had = subst (λ n. ReadsIn told db live t s n had) (sym h.0) a in
    from_ran told false db live seen.next t s q w e (reader_ran told db live t s w had q h.1 b) (reader_gone told db live t s w had b) m
comes_from shared told db live t s q (Reading u had) (row.Upgrade w began) seen e h a below writers took by v m =
    let k = took_upgrade s t began took in
    let b : ReadsIn told db live t s w had = subst (λ n. ReadsIn told db live t s n had) (sym h.0) a in
    let now : t.version ≤ had = subst (λ n. t.version ≤ n) h.1 (current_upgrade t began took) in
    from_ran told false db live seen.next t s q w e (upgrade_ran told db live t s w had q h.2 b k.free (writers k.free) now) (reader_gone told db live t s w had b)
    (not_denied seen s q w began e (by ∙ k.free) (rw v (current_upgrade t began took)) m)
comes_from shared told db live t s q (Reading u had) (row.EndRead w) seen e h a below writers took by v m =
    subst (λ (x : Entry). ComesFrom told false db live seen.next t s (Some x)) (sym m) (subst (λ n. GoneFrom live t s n) (sym h) (reader_gone told db live t s u had a), a.turn)
comes_from shared told db live t s q (Reading u had) (row.Undo w) seen e h a below writers took by v m =
    subst (λ (x : Entry). ComesFrom told false db live seen.next t s (Some x)) (sym m) (subst (λ n. GoneFrom live t s n) (sym h) (reader_gone told db live t s u had a))
comes_from shared told db live t s q (Writing u) (row.Run w) seen e h a below writers took by v m =
    let b : WritesIn told db live t s w = subst (λ n. WritesIn told db live t s n) (sym h.0) a in
    from_ran told false db live seen.next t s q w e (writer_ran told db live t s w q h.1 b) (writer_gone told db live t s w b) m
comes_from shared told db live t s q (Writing u) (row.Commit w) seen e h a below writers took by v m =
    let b : WritesIn told db live t s w = subst (λ n. WritesIn told db live t s n) (sym h) a in
    from_commit told false db live seen.next t s w e b (writer_gone told db live t s w b) m
comes_from shared told db live t s q (Writing u) (row.Undo w) seen e h a below writers took by v m =
    subst (λ (x : Entry). ComesFrom told false db live seen.next t s (Some x)) (sym m) (subst (λ n. GoneFrom live t s n) (sym h) (writer_gone told db live t s u a))
comes_from shared told db live t s q st r seen e h a below writers took by v m = absurd h

-- ---- the stream agrees in the state that an entry leaves

abbrev pub AgreesLeft : {D : Type 0} → Bool → D → Lives D → Turns → StreamNo → Option TxnState → Type 0
AgreesLeft told db live t s None = Unit {0}
AgreesLeft told db live t s (Some state) = AgreesAs told db live t s state

abbrev pub meant_left : Option Went → Option TxnState
meant_left None = None
meant_left (Some went) = left_by went

after_alone : {D : Type 0} (told : Bool) (db : D) (live : Lives D) (t t' : Turns) (s : StreamNo) (q : BoundStmt) (want : Bool) (e : Entry) → t.turn ≢ Some s → Moves s false e t t' → MayBeAlone s q e → AgreesLeft told db live t' s (meant_left (takes_alone want Auto e))
after_alone told db live t t' s q want (entry.Alone by p a w) ne v h = λ x. ne (sym v.turn ∙ x)
after_alone told db live t t' s q want (entry.Failed by None why) ne v h = λ x. ne (sym v.turn ∙ x)
after_alone told db live t t' s q want e ne v h = absurd h

begun_writer : {D : Type 0} (told : Bool) (m : Meaning D BoundStmt Answer) (db : D) (live : Lives D) (db' : D) (live' : Lives D) (t t' : Turns) (s by : StreamNo) (u : ℕ)
    → NoWriter live → Effect told m true db live db' live' (entry.Began u by) → Moves s true (entry.Began u by) t t' → WritesIn told db' live' t' s u
begun_writer told m db live db' live' t t' s by u none x v = record {
  turn = v.turn;
  own = record { view = record { start = db; view = db; is_writer = true }; lives = x.lives.here; writes = refl; start = λ _. sym x.database };
  only = λ k w e ne. none k w (sym (x.lives.others k ne) ∙ e);
}

after_begin : {D : Type 0} (told : Bool) (m : Meaning D BoundStmt Answer) (db : D) (live : Lives D) (db' : D) (live' : Lives D) (t t' : Turns) (s : StreamNo) (next : ℕ) (e : Entry)
    → NoWriter live → t.turn ≢ Some s → Effect told m true db live db' live' e → Moves s true e t t' → MayBegin s next e
    → AgreesLeft told db' live' t' s (meant_left (takes_begun Auto (λ unit. Out (outcome.Done empty_result) (Writing unit)) (begun_by e)))
after_begin told m db live db' live' t t' s next (entry.Began u by) none ne x v h = begun_writer told m db live db' live' t t' s by u none x v
after_begin told m db live db' live' t t' s next (entry.Failed by None why) none ne x v h = λ y. ne (sym v.turn ∙ y)
after_begin told m db live db' live' t t' s next e none ne x v h = absurd h

after_first : {D : Type 0} (told : Bool) (m : Meaning D BoundStmt Answer) (db : D) (live : Lives D) (db' : D) (live' : Lives D) (t t' : Turns) (s : StreamNo) (next : ℕ) (e : Entry)
    → NoWriter live → t.turn ≢ Some s → Effect told m true db live db' live' e → Moves s true e t t' → MayBegin s next e
    → AgreesLeft told db' live' t' s (meant_left (takes_begun Deferred (λ unit. Still (Writing unit)) (begun_by e)))
after_first told m db live db' live' t t' s next (entry.Began u by) none ne x v h = begun_writer told m db live db' live' t t' s by u none x v
after_first told m db live db' live' t t' s next (entry.Failed by None why) none ne x v h = λ y. ne (sym v.turn ∙ y)
after_first told m db live db' live' t t' s next e none ne x v h = absurd h

after_reader : {D : Type 0} (told : Bool) (m : Meaning D BoundStmt Answer) (db : D) (live : Lives D) (db' : D) (live' : Lives D) (t t' : Turns) (s : StreamNo) (next : ℕ) (had : ℕ → ℕ) (e : Entry)
    → t.turn ≢ Some s → Effect told m false db live db' live' e → Moves s false e t t' → MayBegin s next e
    → AgreesLeft told db' live' t' s (meant_left (takes_begun Deferred (λ unit. Still (Reading unit (had unit))) (begun_by e)))
after_reader {D} told m db live db' live' t t' s next had (entry.Began u by) ne x v h = record {
  turn = λ y. ne (sym v.turn ∙ y);
  lives = some_is (live' u) _ x.lives.here;
  current = λ told_is now w e. ap (λ (z : View D). z.start) (some_one (sym e ∙ x.lives.here)) ∙ sym x.database;
}
after_reader told m db live db' live' t t' s next had (entry.Failed by None why) ne x v h = λ y. ne (sym v.turn ∙ y)
after_reader told m db live db' live' t t' s next had e ne x v h = absurd h

after_dead : (t t' : Turns) (s : StreamNo) → t'.turn ≡ given_back t.turn s → t'.turn ≢ Some s
after_dead t t' s v y = given_back_is t.turn s (sym v ∙ y)

ran_reader : {D : Type 0} (told : Bool) (m : Meaning D BoundStmt Answer) (db : D) (live : Lives D) (db' : D) (live' : Lives D) (t t' : Turns) (s : StreamNo) (u had : ℕ) (p : BoundStmt) (a : Answer)
    → p.class ≡ class.Read → ReadsIn told db live t s u had → Effect told m false db live db' live' (entry.Ran u p a) → Moves s false (entry.Ran u p a) t t' → ReadsIn told db' live' t' s u had
ran_reader {D} told m db live db' live' t t' s u had p a r b x v = record {
  turn = λ y. b.turn (reader_keeps s p.class t.turn r (is_write p.class) refl ∙ sym v.turn ∙ y);
  lives = some_is (live' u) _ x.lives.now.here;
  current = λ told_is now w e.
      ap (λ (z : View D). z.start) (some_one (sym e ∙ x.lives.now.here)) ∙ b.current told_is (subst (λ n. n ≤ had) v.version now) x.lives.was x.lives.is ∙ sym x.database;
}

after_run_reading : {D : Type 0} (told : Bool) (m : Meaning D BoundStmt Answer) (db : D) (live : Lives D) (db' : D) (live' : Lives D) (t t' : Turns) (s : StreamNo) (q : BoundStmt) (u had : ℕ) (want : Bool) (e : Entry)
    → q.class ≡ class.Read → ReadsIn told db live t s u had → Effect told m false db live db' live' e → Moves s false e t t' → MayRun s q u e
    → AgreesLeft told db' live' t' s (meant_left (takes_ran want (Reading u had) e))
after_run_reading told m db live db' live' t t' s q u had want (entry.Ran v p a) r b x w h =
    subst (λ n. ReadsIn told db' live' t' s n had) h.0
    (ran_reader told m db live db' live' t t' s v had p a (ap (λ (y : BoundStmt). y.class) h.1 ∙ r) (subst (λ n. ReadsIn told db live t s n had) (sym h.0) b) x w)
after_run_reading told m db live db' live' t t' s q u had want (entry.Failed by (Some v) why) r b x w h = after_dead t t' s w.turn
after_run_reading told m db live db' live' t t' s q u had want e r b x w h = absurd h

ran_writer : {D : Type 0} (told : Bool) (m : Meaning D BoundStmt Answer) (db : D) (live : Lives D) (db' : D) (live' : Lives D) (t t' : Turns) (s : StreamNo) (u : ℕ) (p : BoundStmt) (a : Answer)
    → WritesIn told db live t s u → Effect told m false db live db' live' (entry.Ran u p a) → Moves s false (entry.Ran u p a) t t' → WritesIn told db' live' t' s u
ran_writer {D} told m db live db' live' t t' s u p a b x v =
    let same : x.lives.was ≡ b.own.view = some_one (sym x.lives.is ∙ b.own.lives) in
    record {
      turn = v.turn ∙ sym (kept_turn s (is_write p.class) t.turn b.turn) ∙ b.turn;
      own = record {
        view = _;
        lives = x.lives.now.here;
        writes = ap (λ (z : View D). z.is_writer || m.is_write p) same ∙ ap (λ y. y || m.is_write p) b.own.writes;
        start = λ told_is. ap (λ (z : View D). z.start) same ∙ b.own.start told_is ∙ sym x.database;
      };
      only = λ k w e ne. b.only k w (sym (x.lives.now.others k ne) ∙ e) ne;
    }

after_run_writing : {D : Type 0} (told : Bool) (m : Meaning D BoundStmt Answer) (db : D) (live : Lives D) (db' : D) (live' : Lives D) (t t' : Turns) (s : StreamNo) (q : BoundStmt) (u : ℕ) (want : Bool) (e : Entry)
    → WritesIn told db live t s u → Effect told m false db live db' live' e → Moves s false e t t' → MayRun s q u e
    → AgreesLeft told db' live' t' s (meant_left (takes_ran want (Writing u) e))
after_run_writing told m db live db' live' t t' s q u want (entry.Ran v p a) b x w h =
    subst (λ n. WritesIn told db' live' t' s n) h.0
    (ran_writer told m db live db' live' t t' s v p a (subst (λ n. WritesIn told db live t s n) (sym h.0) b) x w)
after_run_writing told m db live db' live' t t' s q u want (entry.Failed by (Some v) why) b x w h = after_dead t t' s w.turn
after_run_writing told m db live db' live' t t' s q u want e b x w h = absurd h

-- a reader became the writer
ran_upgrade : {D : Type 0} (told : Bool) (m : Meaning D BoundStmt Answer) (db : D) (live : Lives D) (db' : D) (live' : Lives D) (t t' : Turns) (s : StreamNo) (u : ℕ) (p : BoundStmt) (a : Answer)
    → ((y : BoundStmt) → m.is_write y ≡ is_write y.class) → is_write p.class ≡ true → NoWriter live → (IsTrue told → StartsAt db live u) → Effect told m false db live db' live' (entry.Ran u p a) → Moves s false (entry.Ran u p a) t t' → WritesIn told db' live' t' s u
ran_upgrade {D} told m db live db' live' t t' s u p a law w none starts x v = record {
  turn = v.turn ∙ ap (λ b. cond b (Some s) t.turn) w;
  own = record {
    view = _;
    lives = x.lives.now.here;
    writes = ap (λ y. x.lives.was.is_writer || y) (law p ∙ w) ∙ or_true x.lives.was.is_writer;
    start = λ told_is. starts told_is x.lives.was x.lives.is ∙ sym x.database;
  };
  only = λ k y e ne. none k y (sym (x.lives.now.others k ne) ∙ e);
}

after_upgrade : {D : Type 0} (told : Bool) (m : Meaning D BoundStmt Answer) (db : D) (live : Lives D) (db' : D) (live' : Lives D) (t t' : Turns) (s : StreamNo) (q : BoundStmt) (u : ℕ) (st : TxnState) (want : Bool) (e : Entry)
    → ((y : BoundStmt) → m.is_write y ≡ is_write y.class) → is_write q.class ≡ true → NoWriter live → (IsTrue told → StartsAt db live u) → Effect told m false db live db' live' e → Moves s false e t t' → MayRun s q u e
    → AgreesLeft told db' live' t' s (meant_left (takes_upgrade want st u e))
after_upgrade told m db live db' live' t t' s q u st want (entry.Ran v p a) law w none starts x y h =
    subst (λ n. WritesIn told db' live' t' s n) h.0
    (ran_upgrade told m db live db' live' t t' s v p a law (ap (λ (z : BoundStmt). is_write z.class) h.1 ∙ w) none (λ told_is. subst (λ n. StartsAt db live n) (sym h.0) (starts told_is)) x y)
after_upgrade told m db live db' live' t t' s q u st want (entry.Failed by (Some v) why) law w none starts x y h = after_dead t t' s y.turn
after_upgrade told m db live db' live' t t' s q u st want e law w none starts x y h = absurd h

after_commit : {D : Type 0} (told : Bool) (db : D) (live : Lives D) (t t' : Turns) (s : StreamNo) (u : ℕ) (e : Entry) → Moves s false e t t' → MayCommit s u e → AgreesLeft told db live t' s (meant_left (takes_ended e))
after_commit told db live t t' s u (entry.Ended v how.Committed) y h = not_held t'.turn s y.turn
after_commit told db live t t' s u (entry.Failed by (Some v) why) y h = after_dead t t' s y.turn
after_commit told db live t t' s u e y h = absurd h

pub agrees_left : {D : Type 0} (shared told : Bool) (m : Meaning D BoundStmt Answer) (db : D) (live : Lives D) (db' : D) (live' : Lives D) (t t' : Turns) (s : StreamNo) (q : BoundStmt) (st : TxnState) (r : Row) (seen : Seen) (had : ℕ → ℕ) (want : Bool) (e : Entry)
    → ((y : BoundStmt) → m.is_write y ≡ is_write y.class) → Stands shared q.class st r → AgreesAs told db live t s st → WritesByTurn live t → turn_given t (need_of r) ≡ Taken → seen.by ≡ t.turn → seen.version ≡ t.version → MayAdd seen s q r e
    → Effect told m (begins_writer r) db live db' live' e → Moves s (begins_writer r) e t t'
    → AgreesLeft told db' live' t' s (meant_left (takes had want st r e))
agrees_left shared told m db live db' live' t t' s q Auto row.Alone seen had want e law h a writers took by ver may x v = after_alone told db' live' t t' s q want e a v may
agrees_left shared told m db live db' live' t t' s q Auto row.ReadAlone seen had want e law h a writers took by ver may x v = after_alone told db' live' t t' s q want e a v may
agrees_left shared told m db live db' live' t t' s q Auto row.Begin seen had want e law h a writers took by ver may x v =
    after_begin told m db live db' live' t t' s seen.next e (writers (took_begin s t took).free) a x v may
agrees_left shared told m db live db' live' t t' s q Deferred row.BeginFirst seen had want e law h a writers took by ver may x v =
    after_first told m db live db' live' t t' s seen.next e (writers (took_begin s t took).free) a x v may
agrees_left shared told m db live db' live' t t' s q Deferred row.ReadFirst seen had want e law h a writers took by ver may x v =
    after_reader told m db live db' live' t t' s seen.next had e a x v may
agrees_left shared told m db live db' live' t t' s q (Reading u began) (row.Run w) seen had want e law h a writers took by ver may x v =
    after_run_reading told m db live db' live' t t' s q u began want e h.1 a x v (subst (λ n. MayRun s q n e) h.0 may)
agrees_left shared told m db live db' live' t t' s q (Reading u began) (row.Upgrade w from) seen had want e law h a writers took by ver may x v =
    let k = took_upgrade s t from took in
    let current : t.version ≤ began = subst (λ n. t.version ≤ n) h.1 (current_upgrade t from took) in
    after_upgrade told m db live db' live' t t' s q w (Reading u began) want e law (write_is q.class h.2) (writers k.free) (λ told_is. subst (λ n. StartsAt db live n) (sym h.0) (a.current told_is current)) x v
    (not_denied seen s q w from e (by ∙ k.free) (rw ver (current_upgrade t from took)) may)
agrees_left shared told m db live db' live' t t' s q (Reading u began) (row.EndRead w) seen had want e law h a writers took by ver may x v =
    subst (λ (y : Entry). Moves s false y t t' → AgreesLeft told db' live' t' s (meant_left (takes_ended y))) (sym may) (λ z k. a.turn (sym z.turn ∙ k)) v
agrees_left shared told m db live db' live' t t' s q (Reading u began) (row.Undo w) seen had want e law h a writers took by ver may x v =
    subst (λ (y : Entry). Moves s false y t t' → AgreesLeft told db' live' t' s (meant_left (takes_ended y))) (sym may) (λ z. after_dead t t' s z.turn) v
agrees_left shared told m db live db' live' t t' s q (Writing u) (row.Run w) seen had want e law h a writers took by ver may x v =
    after_run_writing told m db live db' live' t t' s q u want e a x v (subst (λ n. MayRun s q n e) h.0 may)
agrees_left shared told m db live db' live' t t' s q (Writing u) (row.Commit w) seen had want e law h a writers took by ver may x v = after_commit told db' live' t t' s w e v may
agrees_left shared told m db live db' live' t t' s q (Writing u) (row.Undo w) seen had want e law h a writers took by ver may x v =
    subst (λ (y : Entry). Moves s false y t t' → AgreesLeft told db' live' t' s (meant_left (takes_ended y))) (sym may) (λ z. after_dead t t' s z.turn) v
agrees_left shared told m db live db' live' t t' s q st r seen had want e law h a writers took by ver may x v = absurd h

-- the state after what came of an entry
short_left : {D : Type 0} (told : Bool) (db : D) (live : Lives D) (t : Turns) (s : StreamNo) (o : Option Went) (left : TxnState) → AgreesLeft told db live t s (meant_left o) → IsTaken o (Short left) → AgreesAs told db live t s left
short_left told db live t s None left a h = absurd h
short_left told db live t s (Some w) left a h = subst (λ (y : Option TxnState). AgreesLeft told db live t s y) h a

went_left : {D : Type 0} (told : Bool) (db : D) (live : Lives D) (t : Turns) (s : StreamNo) (o : Option Went) (w : Went) → AgreesLeft told db live t s (meant_left o) → o ≡ Some w → AgreesLeft told db live t s (left_by w)
went_left told db live t s o w a e = subst (λ (y : Option Went). AgreesLeft told db live t s (meant_left y)) e a

pub agrees_after : {D : Type 0} (told : Bool) (db : D) (live : Lives D) (t : Turns) (s : StreamNo) (st : TxnState) (o : Option Went) (went : Went) → AgreesLeft told db live t s (meant_left o) → is_waiting went ≡ false → IsTaken o went → AgreesAs told db live t s (state_after st went)
agrees_after told db live t s st o Waits a goes h = absurd (true_not_false goes)
agrees_after told db live t s st o (Still next) a goes h = went_left told db live t s o (Still next) a h
agrees_after told db live t s st o (Out x next) a goes h = went_left told db live t s o (Out x next) a h
agrees_after told db live t s st o (Stopped c next) a goes h = went_left told db live t s o (Stopped c next) a h
agrees_after told db live t s st o (Short left) a goes h = short_left told db live t s o left a h
