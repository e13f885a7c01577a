-- The entry of a poll of a statement.
use Rattle.std.proofs.Common.{◌⊎◌, inl, inr, ◌≡◌, ◌≤◌, ◌++◌, ◌∷◌, [], List, ℕ, Bool, true, false, Option, Some, None, Result, Ok, refl, sym, ap, ◌∙◌, subst, arith, append-nil}
use Rattle.std.specs.Option.{IsSome}
use Rattle.serial_order.proofs.Check.{some_and}
use Rattle.hrana_value.specs.declared.StreamNo.{StreamNo}
use Rattle.hrana_stmt.specs.declared.codes.Code.{Code}
use Rattle.hrana_stmt.specs.declared.statements.Stmt.{Stmt}
use Rattle.sql_text.specs.declared.class.Class.{Class}
use Rattle.sql_text.specs.declared.prepared.Prepared.{Prepared}
use Rattle.serial_order.specs.Serial.{Meaning}
use Rattle.txn_table.specs.Turns.{Turns, given_back, after_end}
use Rattle.txn_table.proofs.StreamLemmas.{true_not_false}
use Rattle.engine_core.specs.Causes.{RoseBy}
use Rattle.engine_core.specs.Engine.{is_write}
use Rattle.engine_core.specs.Noted.{Noted, next_after}
use Rattle.engine_core.specs.Transactions.{Lives, NoneLive}
use Rattle.engine_core.specs.declared.statement.BoundStmt.{BoundStmt}
use Rattle.engine_core.specs.declared.entries.Answer.{Answer}
use Rattle.engine_core.specs.declared.entries.Deny.{Deny}
use Rattle.engine_core.specs.declared.entries.Deny.TheVariants as deny
use Rattle.engine_core.specs.declared.entries.How.TheVariants as how
use Rattle.engine_core.specs.declared.entries.Undo.{Undo}
use Rattle.engine_core.specs.declared.entries.Entry.{Entry}
use Rattle.engine_core.specs.declared.entries.Entry.TheVariants as entry
use Rattle.stream_task.specs.Adds.{AddsOne, Acts, RowPolls, PlanPolls, seen_in, PollsStatement, ReadyPolls, Falls, undone_of}
use Rattle.stream_task.specs.Checks.{IsReadyOf, ready_of}
use Rattle.stream_task.specs.Effect.{Effect}
use Rattle.stream_task.specs.Moved.{ComesFrom, GoneFrom, AgreesAs, AreBelow, WritesByTurn, LivesByTurn, StaysOne, turn_given, table_given, settled}
use Rattle.stream_task.specs.Session.{unit_of}
use Rattle.stream_task.specs.Statement.{HasPushed, Denies, RunsRow, RowEnds, RowGoes, RowFalls}
use Rattle.stream_task.specs.Table.{Seen, plan, need_of, wants_turn, begins_writer, MayAdd, MayBegin, MayBeAlone, MayRun, MayCommit, MayUpgrade, takes, left_by, is_waiting, state_after, IsTaken}
use Rattle.stream_task.specs.declared.session.TxnState.{TxnState}
use Rattle.stream_task.specs.declared.session.TxnState.TheVariants.{Deferred, Reading, Writing}
use Rattle.stream_task.specs.declared.texts.StoredText.{StoredText}
use Rattle.stream_task.specs.declared.table.Row.{Row}
use Rattle.stream_task.specs.declared.table.Row.TheVariants as row
use Rattle.stream_task.specs.declared.table.Plan.{Plan}
use Rattle.stream_task.specs.declared.table.Plan.TheVariants.{Adds}
use Rattle.stream_task.specs.declared.table.Went.{Went}
use Rattle.stream_task.specs.declared.table.Went.TheVariants.{Waits, Still, Out, Stopped, Short}
use Rattle.stream_task.specs.declared.turns.Turn.TheVariants.{Taken, Denied}
use Rattle.stream_task.proofs.TurnLemmas.{none_some, took_alone, took_begin, took_upgrade, IsDenied, alone_not_denied, begin_not_denied, upgrade_denied}
use Rattle.stream_task.proofs.OriginLemmas.{Stands, stands, is_granted}
use Rattle.stream_task.proofs.MovedLemmas.{Moves, moves}
use Rattle.stream_task.proofs.AgreeLemmas.{comes_from, agrees_left, agrees_after, reader_gone, writer_gone}
use Rattle.stream_task.proofs.KeepLemmas.{below_after, writers_after, one_after, BeginsAlone}

-- ---- what came of a row

-- the version stays when the turn is taken
version_kept : (s : StreamNo) (t : Turns) (r : Row) → turn_given t (need_of r) ≡ Taken → (table_given t s (need_of r)).version ≡ t.version
version_kept s t row.Alone e = (took_alone s t e).version
version_kept s t row.Begin e = (took_begin s t e).version
version_kept s t row.BeginFirst e = (took_begin s t e).version
version_kept s t (row.Upgrade u had) e = (took_upgrade s t had e).version
version_kept s t r e = refl

free_for : (s : StreamNo) (t : Turns) (r : Row) → turn_given t (need_of r) ≡ Taken → wants_turn r ≡ true → t.turn ≡ None
free_for s t row.Alone e w = (took_alone s t e).free
free_for s t row.Begin e w = (took_begin s t e).free
free_for s t row.BeginFirst e w = (took_begin s t e).free
free_for s t r e w = absurd (true_not_false (sym w))

ends_short : (s : StreamNo) (seen : Seen) (st : TxnState) (want : Bool) (ready : Prepared) (r : Row) (e : Entry) (o : Option Went) (left : TxnState)
    → ((w : Went) → o ≡ Some w → Acts s seen st want ready r e w) → IsTaken o (Short left) → RowFalls s seen st want ready r (Some e) left
ends_short s seen st want ready r e o left acts h =
    let w = some_and (λ (w : Went). left_by w ≡ Some left) o h in
    record { went = w.0; acts = acts w.0 w.1; left_is = w.2 }

row_ends : (s : StreamNo) (seen : Seen) (st : TxnState) (want : Bool) (ready : Prepared) (r : Row) (e : Entry) (o : Option Went) (went : Went)
    → ((w : Went) → o ≡ Some w → Acts s seen st want ready r e w) → is_waiting went ≡ false → IsTaken o went → RowEnds s seen st want ready r went (Some e)
row_ends s seen st want ready r e o Waits acts goes h = absurd (true_not_false goes)
row_ends s seen st want ready r e o (Still next) acts goes h = acts (Still next) h
row_ends s seen st want ready r e o (Out x next) acts goes h = acts (Out x next) h
row_ends s seen st want ready r e o (Stopped c next) acts goes h = acts (Stopped c next) h
row_ends s seen st want ready r e o (Short left) acts goes h = ends_short s seen st want ready r e o left acts h

-- ---- a row that ran

-- the facts that a poll by a row starts from
pub record Starts {D : Type 0} (shared told : Bool) (db : D) (live : Lives D) (t : Turns) (next : ℕ) (s : StreamNo) (q : BoundStmt) (st : TxnState) (r : Row) : Type 0 where
  pub row : plan shared st q.class ≡ Adds r
  pub agrees : AgreesAs told db live t s st
  pub below : AreBelow live next
  pub writers : WritesByTurn live t
  pub quiet : LivesByTurn shared live t

began_alone : {D : Type 0} (shared : Bool) (live : Lives D) (s : StreamNo) (q : BoundStmt) (w : Bool) (e : Entry) → MayBeAlone s q e → BeginsAlone shared w live (Some e)
began_alone shared live s q w (entry.Began u by) h = absurd h
began_alone shared live s q w e h = tt

began_begun : {D : Type 0} (shared : Bool) (live : Lives D) (s : StreamNo) (next : ℕ) (w : Bool) (e : Entry) → (shared ≡ false → NoneLive live × (w ≡ true)) → MayBegin s next e → BeginsAlone shared w live (Some e)
began_begun shared live s next w (entry.Began u by) f h = f
began_begun shared live s next w e f h = tt

began_ran : {D : Type 0} (shared : Bool) (live : Lives D) (s : StreamNo) (q : BoundStmt) (u : ℕ) (w : Bool) (e : Entry) → MayRun s q u e → BeginsAlone shared w live (Some e)
began_ran shared live s q u w (entry.Began v by) h = absurd h
began_ran shared live s q u w e h = tt

began_upgrade : {D : Type 0} (shared : Bool) (live : Lives D) (seen : Seen) (s : StreamNo) (q : BoundStmt) (u had : ℕ) (w : Bool) (e : Entry) → MayUpgrade seen s q u had e → BeginsAlone shared w live (Some e)
began_upgrade shared live seen s q u had w (entry.Began v by) h = absurd h.2
began_upgrade shared live seen s q u had w e h = tt

began_commit : {D : Type 0} (shared : Bool) (live : Lives D) (s : StreamNo) (u : ℕ) (w : Bool) (e : Entry) → MayCommit s u e → BeginsAlone shared w live (Some e)
began_commit shared live s u w (entry.Began v by) h = absurd h
began_commit shared live s u w e h = tt

begins_alone : {D : Type 0} (shared : Bool) (live : Lives D) (t : Turns) (s : StreamNo) (q : BoundStmt) (st : TxnState) (r : Row) (seen : Seen) (e : Entry)
    → Stands shared q.class st r → LivesByTurn shared live t → turn_given t (need_of r) ≡ Taken → MayAdd seen s q r e → BeginsAlone shared (begins_writer r) live (Some e)
begins_alone shared live t s q st row.Alone seen e h quiet took m = began_alone shared live s q false e m
begins_alone shared live t s q st row.ReadAlone seen e h quiet took m = began_alone shared live s q false e m
begins_alone shared live t s q st row.Begin seen e h quiet took m = began_begun shared live s seen.next true e (λ n. (quiet n (took_begin s t took).free, refl)) m
begins_alone shared live t s q st row.BeginFirst seen e h quiet took m = began_begun shared live s seen.next true e (λ n. (quiet n (took_begin s t took).free, refl)) m
begins_alone shared live t s q Deferred row.ReadFirst seen e h quiet took m = began_begun shared live s seen.next false e (λ n. absurd (true_not_false (sym h ∙ n))) m
begins_alone shared live t s q st row.ReadFirst seen e h quiet took m = absurd h
begins_alone shared live t s q st (row.Run u) seen e h quiet took m = began_ran shared live s q u false e m
begins_alone shared live t s q st (row.Upgrade u had) seen e h quiet took m = began_upgrade shared live seen s q u had false e m
begins_alone shared live t s q st (row.Commit u) seen e h quiet took m = began_commit shared live s u false e m
begins_alone shared live t s q st (row.EndRead u) seen e h quiet took m = rw m tt
begins_alone shared live t s q st (row.Undo u) seen e h quiet took m = rw m tt

-- what the entry of a row that ran says of before and after
pub record RanFacts {D : Type 0} (shared told : Bool) (m : Meaning D BoundStmt Answer) (db : D) (live : Lives D) (db' : D) (live' : Lives D) (t t' : Turns) (old new : Noted) (s : StreamNo) (st : TxnState) (want : Bool) (q : BoundStmt) (r : Row) (e : Entry) (went : Went) : Type 0 where
  pub may : MayAdd (seen_in t old.next) s q r e
  pub from : ComesFrom told (begins_writer r) db live old.next t s (Some e)
  pub table : Moves s (begins_writer r) e t t'
  pub taken : IsTaken (takes (λ unit. t.version) want st r e) went
  pub agrees : AgreesAs told db' live' t' s (state_after st went)
  pub below : AreBelow live' new.next
  pub writers : WritesByTurn live' t'
  pub one : StaysOne shared live live' t'

pub ran_facts : {X D : Type 0} (shared told : Bool) (m : Meaning D BoundStmt Answer) (db : X → D) (live : X → Lives D) (faults : X → ℕ) (s : StreamNo) (engine engine' : X) (t held t' : Turns) (old new : Noted) (st : TxnState) (want : Bool) (q : BoundStmt) (r : Row) (went : Went)
    → ((y : BoundStmt) → m.is_write y ≡ is_write y.class) → Starts shared told (db engine) (live engine) t old.next s q st r → turn_given t (need_of r) ≡ Taken → held ≡ table_given t s (need_of r)
    → (ran : RunsRow told m db live faults s engine engine' held t' old new st want q r went)
    → RanFacts shared told m (db engine) (live engine) (db engine') (live engine') t t' old new s st want q r ran.e went
ran_facts shared told m db live faults s engine engine' t held t' old new st want q r went law start took table ran =
    let stood : Stands shared q.class st r = stands shared q.class st r start.row in
    let seen : Seen = seen_in t old.next in
    let may : MayAdd seen s q r ran.e = ran.may t.turn t.version (is_granted t r took) in
    let left : t' ≡ settled s ran.e (table_given t s (need_of r)) = ran.turn ∙ ap (λ (x : Turns). settled s ran.e x) table in
    let moved : Moves s (begins_writer r) ran.e t t' =
    subst (λ (x : Turns). Moves s (begins_writer r) ran.e t x) (sym left) (moves shared told (db engine) (live engine) t s q st r seen ran.e stood start.agrees took refl refl may) in
    let from : ComesFrom told (begins_writer r) (db engine) (live engine) old.next t s (Some ran.e) =
    comes_from shared told (db engine) (live engine) t s q st r seen ran.e stood start.agrees start.below start.writers took refl refl may in
    let version : held.version ≡ t.version = ap (λ (x : Turns). x.version) table ∙ version_kept s t r took in
    let taken : IsTaken (takes (λ unit. t.version) want st r ran.e) went = subst (λ (v : ℕ). IsTaken (takes (λ unit. v) want st r ran.e) went) version ran.taken in
    record {
      may = may;
      from = from;
      table = moved;
      taken = taken;
      agrees = agrees_after told (db engine') (live engine') t' s st (takes (λ unit. t.version) want st r ran.e) went
          (agrees_left shared told m (db engine) (live engine) (db engine') (live engine') t t' s q st r seen (λ unit. t.version) want ran.e law stood start.agrees start.writers took refl refl may ran.effect moved)
          ran.goes taken;
      below = subst (λ (n : ℕ). AreBelow (live engine') n) (sym ran.pushed.next)
          (below_after told m (begins_writer r) (db engine) (live engine) (db engine') (live engine') old.next t s (Some ran.e) ran.effect from start.below);
      writers = writers_after told m (begins_writer r) (db engine) (live engine) (db engine') (live engine') old.next t t' s (Some ran.e) law ran.effect from moved.turn start.writers;
      one = one_after shared told m (begins_writer r) (db engine) (live engine) (db engine') (live engine') old.next t t' s (Some ran.e) ran.effect from moved.turn
          (begins_alone shared (live engine) t s q st r seen ran.e stood start.quiet took may) start.quiet;
    }

pub adds_ran : {X D : Type 0} (shared told : Bool) (m : Meaning D BoundStmt Answer) (db : X → D) (live : X → Lives D) (faults : X → ℕ) (s : StreamNo) (engine engine' : X) (t held t' : Turns) (old new : Noted) (st : TxnState) (want : Bool) (q : BoundStmt) (r : Row) (went : Went)
    → turn_given t (need_of r) ≡ Taken → (ran : RunsRow told m db live faults s engine engine' held t' old new st want q r went)
    → RanFacts shared told m (db engine) (live engine) (db engine') (live engine') t t' old new s st want q r ran.e went
    → AddsOne told m db live faults s engine engine' t t' old new (is_waiting went) (RowGoes s (seen_in t old.next) st want q r went)
adds_ran shared told m db live faults s engine engine' t held t' old new st want q r went took ran facts = record {
  added = Some ran.e;
  grew = ran.pushed.grew;
  next = ran.pushed.next;
  writes = begins_writer r;
  effects = ran.effect;
  untouched = tt;
  moved = record { from = facts.from; turn = facts.table.turn; version = facts.table.version; reserved = facts.table.reserved; rests = (ran.goes, facts.table.waiters) };
  cause = ran.cause;
  refused = ran.refused;
  holds = λ ready is_ready.
      row_ends s (seen_in t old.next) st want ready r ran.e (takes (λ unit. t.version) want st r ran.e) went
      (λ w means. record { stmt = q; is_ready = is_ready; free = free_for s t r took; may = facts.may; means = means })
      ran.goes facts.taken;
}

-- ---- a reader that may not write

-- only a reader that is to write is denied, and the table stays
pub record DeniedBy (s : StreamNo) (t : Turns) (r : Row) (why : Deny) : Type 0 where
  pub unit : ℕ
  pub had : ℕ
  pub is : r ≡ row.Upgrade unit had
  pub by_table : IsDenied t had why
  pub stays : table_given t s (need_of r) ≡ t

pub denied_by : (s : StreamNo) (t : Turns) (r : Row) (why : Deny) → turn_given t (need_of r) ≡ Denied why → DeniedBy s t r why
denied_by s t row.Alone why e = absurd (alone_not_denied t why e)
denied_by s t row.Begin why e = absurd (begin_not_denied t why e)
denied_by s t row.BeginFirst why e = absurd (begin_not_denied t why e)
denied_by s t (row.Upgrade u had) why e = let d = upgrade_denied s t had why e in record { unit = u; had = had; is = refl; by_table = d.0; stays = d.1 }
denied_by s t r why e = absurd (cc)

unit_lives : {D : Type 0} (shared told : Bool) (db : D) (live : Lives D) (t : Turns) (s : StreamNo) (c : Class) (st : TxnState) (u had : ℕ) → Stands shared c st (row.Upgrade u had) → AgreesAs told db live t s st → IsSome (live u)
unit_lives shared told db live t s c (Reading v began) u had h a = subst (λ n. IsSome (live n)) (sym h.0) a.lives
unit_lives shared told db live t s c st u had h a = absurd h

pub denied_lives : {D : Type 0} (shared told : Bool) (db : D) (live : Lives D) (t : Turns) (next : ℕ) (s : StreamNo) (q : BoundStmt) (st : TxnState) (r : Row) (why : Deny)
    → Starts shared told db live t next s q st r → (d : DeniedBy s t r why) → IsSome (live d.unit)
denied_lives shared told db live t next s q st r why start d =
    unit_lives shared told db live t s q.class st d.unit d.had (subst (λ (x : Row). Stands shared q.class st x) d.is (stands shared q.class st r start.row)) start.agrees

may_deny : (t : Turns) (next : ℕ) (s : StreamNo) (q : BoundStmt) (u had : ℕ) (why : Deny) → IsDenied t had why → MayUpgrade (seen_in t next) s q u had (entry.Denied u why)
may_deny t next s q u had (deny.Stale began now) d = (refl, d.0, d.1, d.2)
may_deny t next s q u had (deny.Held by) d = (refl, d.0, d.1)

rose_none : (n : ℕ) → RoseBy 0 n n
rose_none n = omega arith

pub adds_denied : {X D : Type 0} (told : Bool) (m : Meaning D BoundStmt Answer) (db : X → D) (live : X → Lives D) (faults : X → ℕ) (s : StreamNo) (engine : X) (t t' : Turns) (old new : Noted) (st : TxnState) (want : Bool) (q : BoundStmt) (r : Row) (why : Deny) (went : Went)
    → (d : DeniedBy s t r why) → IsSome (live engine d.unit) → t' ≡ t → Denies st r why old new went
    → AddsOne told m db live faults s engine engine t t' old new (is_waiting went) (RowGoes s (seen_in t old.next) st want q r went)
adds_denied told m db live faults s engine t t' old new st want q r why Waits d lives stays h = absurd (cc)
adds_denied told m db live faults s engine t t' old new st want q r why (Still next) d lives stays h = absurd (cc)
adds_denied told m db live faults s engine t t' old new st want q r why (Stopped c next) d lives stays h = absurd (cc)
adds_denied told m db live faults s engine t t' old new st want q r why (Short left) d lives stays h = record {
  added = None;
  grew = ap (λ (x : Noted). x.list) h.1 ∙ sym (append-nil old.list);
  next = ap (λ (x : Noted). x.next) h.1;
  writes = false;
  effects = record { database = refl; lives = λ n. refl };
  untouched = refl;
  moved = record { from = tt; turn = ap (λ (x : Turns). x.turn) stays; version = ap (λ (x : Turns). x.version) stays; reserved = ap (λ (x : Turns). x.reserved) stays; rests = stays };
  cause = rose_none (faults engine);
  refused = tt;
  holds = λ ready is_ready. h.0;
}
adds_denied told m db live faults s engine t t' old new st want q r why (Out x next) d lives stays h =
    let pushed : HasPushed old new (entry.Denied d.unit why) = h.1 d.unit d.had d.is in
    record {
      added = Some (entry.Denied d.unit why);
      grew = pushed.grew;
      next = pushed.next;
      writes = false;
      effects = record { database = refl; lives = λ n. refl };
      untouched = tt;
      moved = record { from = lives; turn = ap (λ (x : Turns). x.turn) stays; version = ap (λ (x : Turns). x.version) stays; reserved = ap (λ (x : Turns). x.reserved) stays; rests = (refl, inl (ap (λ (x : Turns). x.waiters) stays)) };
      cause = rose_none (faults engine);
      refused = tt;
      holds = λ ready is_ready.
          subst (λ (y : Row). Acts s (seen_in t old.next) st want ready y (entry.Denied d.unit why) (Out x next)) (sym d.is)
          (record {
            stmt = q;
            is_ready = is_ready;
            free = λ w. absurd (true_not_false (sym w));
            may = may_deny t old.next s q d.unit d.had why d.by_table;
            means = ap Some (sym h.0);
          });
    }

pub agrees_denied : {D : Type 0} (told : Bool) (db : D) (live : Lives D) (t t' : Turns) (old new : Noted) (s : StreamNo) (st : TxnState) (r : Row) (why : Deny) (went : Went)
    → AgreesAs told db live t s st → t' ≡ t → Denies st r why old new went → AgreesAs told db live t' s (state_after st went)
agrees_denied told db live t t' old new s st r why Waits a stays h = subst (λ (x : Turns). AgreesAs told db live x s st) (sym stays) a
agrees_denied told db live t t' old new s st r why (Still next) a stays h = absurd (cc)
agrees_denied told db live t t' old new s st r why (Stopped c next) a stays h = absurd (cc)
agrees_denied told db live t t' old new s st r why (Short left) a stays h =
    subst (λ (y : TxnState). AgreesAs told db live t' s y) (sym h.0) (subst (λ (x : Turns). AgreesAs told db live x s st) (sym stays) a)
agrees_denied told db live t t' old new s st r why (Out o next) a stays h =
    let same : st ≡ next = cc in
    subst (λ (y : TxnState). AgreesAs told db live t' s y) same (subst (λ (x : Turns). AgreesAs told db live x s st) (sym stays) a)

pub below_denied : {D : Type 0} (live : Lives D) (old new : Noted) (s : StreamNo) (t : Turns) (st : TxnState) (r : Row) (why : Deny) (went : Went) → DeniedBy s t r why → AreBelow live old.next → Denies st r why old new went → AreBelow live new.next
below_denied live old new s t st r why Waits d below h = absurd (cc)
below_denied live old new s t st r why (Still next) d below h = absurd (cc)
below_denied live old new s t st r why (Stopped c next) d below h = absurd (cc)
below_denied live old new s t st r why (Short left) d below h = subst (λ (n : ℕ). AreBelow live n) (sym (ap (λ (x : Noted). x.next) h.1)) below
below_denied live old new s t st r why (Out o next) d below h = subst (λ (n : ℕ). AreBelow live n) (sym (h.1 d.unit d.had d.is).next) below

-- ---- a statement that passed its checks

pub adds_weaker : {X D : Type 0} (told : Bool) (m : Meaning D BoundStmt Answer) (db : X → D) (live : X → Lives D) (faults : X → ℕ) (s : StreamNo) (engine engine' : X) (t t' : Turns) (old new : Noted) (waits : Bool) (P Q : Option Entry → Type 0)
    → ((added : Option Entry) → P added → Q added) → AddsOne told m db live faults s engine engine' t t' old new waits P → AddsOne told m db live faults s engine engine' t t' old new waits Q
adds_weaker told m db live faults s engine engine' t t' old new waits P Q h a = record {
  added = a.added;
  grew = a.grew;
  next = a.next;
  writes = a.writes;
  effects = a.effects;
  untouched = a.untouched;
  moved = a.moved;
  cause = a.cause;
  refused = a.refused;
  holds = h a.added a.holds;
}

ready_polls : (shared : Bool) (s : StreamNo) (seen : Seen) (st : TxnState) (want : Bool) (expected : Result Prepared Code) (ready : Prepared) (r : Row) (added : Option Entry) (went : Went)
    → expected ≡ Ok ready → plan shared st ready.class ≡ Adds r → RowPolls s seen st want ready r added went → ReadyPolls shared s seen st want expected added went
ready_polls shared s seen st want expected ready r added went passed planned h =
    subst (λ (x : Result Prepared Code). ReadyPolls shared s seen st want x added went) (sym passed)
    (subst (λ (x : Plan). PlanPolls s seen st want ready x added went) (sym planned) h)

falls : (shared : Bool) (s : StreamNo) (seen : Seen) (st : TxnState) (want : Bool) (expected : Result Prepared Code) (ready : Prepared) (r : Row) (added : Option Entry) (left : TxnState)
    → expected ≡ Ok ready → plan shared st ready.class ≡ Adds r → RowFalls s seen st want ready r added left → Falls shared s seen st want expected added left
falls shared s seen st want expected ready r None left passed planned h = h
falls shared s seen st want expected ready r (Some e) left passed planned h =
    record { went = h.went; polls = ready_polls shared s seen st want expected ready r (Some e) h.went passed planned h.acts; left_is = h.left_is }

pub statement_polls : (shared : Bool) (s : StreamNo) (seen : Seen) (st : TxnState) (texts : List StoredText) (stmt : Stmt) (ready : Prepared) (r : Row) (went : Went) (added : Option Entry)
    → ready_of texts stmt ≡ Ok ready → plan shared st ready.class ≡ Adds r → RowEnds s seen st stmt.want_rows ready r went added → PollsStatement shared s seen st texts stmt added went
statement_polls shared s seen st texts stmt ready r Waits added passed planned h = ready_polls shared s seen st stmt.want_rows (ready_of texts stmt) ready r added Waits passed planned h
statement_polls shared s seen st texts stmt ready r (Still next) added passed planned h = ready_polls shared s seen st stmt.want_rows (ready_of texts stmt) ready r added (Still next) passed planned h
statement_polls shared s seen st texts stmt ready r (Out o next) added passed planned h = ready_polls shared s seen st stmt.want_rows (ready_of texts stmt) ready r added (Out o next) passed planned h
statement_polls shared s seen st texts stmt ready r (Stopped c next) added passed planned h = ready_polls shared s seen st stmt.want_rows (ready_of texts stmt) ready r added (Stopped c next) passed planned h
statement_polls shared s seen st texts stmt ready r (Short left) added passed planned h = falls shared s seen st stmt.want_rows (ready_of texts stmt) ready r added left passed planned h

pub statement_row : (shared : Bool) (s : StreamNo) (seen : Seen) (st : TxnState) (texts : List StoredText) (stmt : Stmt) (q : BoundStmt) (r : Row) (went : Went)
    → IsReadyOf (ready_of texts stmt) q → plan shared st q.class ≡ Adds r → (added : Option Entry) → RowGoes s seen st stmt.want_rows q r went added → PollsStatement shared s seen st texts stmt added went
statement_row shared s seen st texts stmt q r went passed planned added h =
    statement_polls shared s seen st texts stmt passed.ready r went added passed.passed (subst (λ (c : Class). plan shared st c ≡ Adds r) passed.is_ready.class planned) (h passed.ready passed.is_ready)

-- ---- the end of a unit

-- the unit of this state is taken back
pub record Undoes {D : Type 0} (shared told : Bool) (m : Meaning D BoundStmt Answer) (db : D) (live : Lives D) (db' : D) (live' : Lives D) (t t' : Turns) (old new : Noted) (s : StreamNo) (unit : ℕ) (why : Undo) : Type 0 where
  pub from : ComesFrom told false db live old.next t s (Some (entry.Ended unit (how.Undone why)))
  pub table : Moves s false (entry.Ended unit (how.Undone why)) t t'
  pub effect : Effect told m false db live db' live' (entry.Ended unit (how.Undone why))
  pub next : new.next ≡ old.next
  pub below : AreBelow live' new.next
  pub writers : WritesByTurn live' t'
  pub one : StaysOne shared live live' t'

unit_gone : {D : Type 0} (told : Bool) (db : D) (live : Lives D) (t : Turns) (s : StreamNo) (st : TxnState) (u : ℕ) → unit_of st ≡ Some u → AgreesAs told db live t s st → GoneFrom live t s u
unit_gone told db live t s (Reading v had) u e a = let same : v ≡ u = cc in subst (λ n. GoneFrom live t s n) same (reader_gone told db live t s v had a)
unit_gone told db live t s (Writing v) u e a = let same : v ≡ u = cc in subst (λ n. GoneFrom live t s n) same (writer_gone told db live t s v a)
unit_gone told db live t s st u e a = absurd (none_some e)

pub undoes : {D : Type 0} (shared told : Bool) (m : Meaning D BoundStmt Answer) (db : D) (live : Lives D) (db' : D) (live' : Lives D) (t t' : Turns) (old new : Noted) (s : StreamNo) (st : TxnState) (u : ℕ) (why : Undo) (e : Entry)
    → ((y : BoundStmt) → m.is_write y ≡ is_write y.class) → unit_of st ≡ Some u → AgreesAs told db live t s st → AreBelow live old.next → WritesByTurn live t → LivesByTurn shared live t
    → e ≡ entry.Ended u (how.Undone why) → ((writes : Bool) → Effect told m writes db live db' live' e) → t' ≡ after_end t s → new.next ≡ next_after old.next e
    → Undoes shared told m db live db' live' t t' old new s u why
undoes shared told m db live db' live' t t' old new s st u why e law unit a below writers quiet is effects ended next =
    let end = entry.Ended u (how.Undone why) in
    let effect : Effect told m false db live db' live' end = subst (λ (x : Entry). Effect told m false db live db' live' x) is (effects false) in
    let from : GoneFrom live t s u = unit_gone told db live t s st u unit a in
    let turn : t'.turn ≡ given_back t.turn s = ap (λ (x : Turns). x.turn) ended in
    let same : new.next ≡ old.next = next ∙ ap (next_after old.next) is in
    record {
      from = from;
      table = record { turn = turn; version = ap (λ (x : Turns). x.version) ended; reserved = ap (λ (x : Turns). x.reserved) ended; waiters = inl (ap (λ (x : Turns). x.waiters) ended) };
      effect = effect;
      next = same;
      below = subst (λ (n : ℕ). AreBelow live' n) (sym same) (below_after told m false db live db' live' old.next t s (Some end) effect from below);
      writers = writers_after told m false db live db' live' old.next t t' s (Some end) law effect from turn writers;
      one = one_after shared told m false db live db' live' old.next t t' s (Some end) effect from turn tt quiet;
    }

pub adds_undone : {X D : Type 0} (shared told : Bool) (m : Meaning D BoundStmt Answer) (db : X → D) (live : X → Lives D) (faults : X → ℕ) (s : StreamNo) (engine engine' : X) (t t' : Turns) (old new : Noted) (u : ℕ) (why : Undo) (e : Entry) (expected : Option Entry)
    → Undoes shared told m (db engine) (live engine) (db engine') (live engine') t t' old new s u why → e ≡ entry.Ended u (how.Undone why) → new.list ≡ old.list ++ e ∷ []
    → faults engine ≤ faults engine' → Some (entry.Ended u (how.Undone why)) ≡ expected
    → AddsOne told m db live faults s engine engine' t t' old new false (λ added. added ≡ expected)
adds_undone shared told m db live faults s engine engine' t t' old new u why e expected facts is grew later expects = record {
  added = Some (entry.Ended u (how.Undone why));
  grew = grew ∙ ap (λ (x : Entry). old.list ++ x ∷ []) is;
  next = facts.next;
  writes = false;
  effects = facts.effect;
  untouched = tt;
  moved = record { from = facts.from; turn = facts.table.turn; version = facts.table.version; reserved = facts.table.reserved; rests = (refl, facts.table.waiters) };
  cause = omega arith;
  refused = tt;
  holds = expects;
}

pub open_unit : (st : TxnState) (u : ℕ) → ((had : ℕ) × (st ≡ Reading u had)) ⊎ (st ≡ Writing u) → unit_of st ≡ Some u
open_unit st u (inl h) = ap unit_of h.1
open_unit st u (inr h) = ap unit_of h

pub undone_open : (why : Undo) (st : TxnState) (u : ℕ) → ((had : ℕ) × (st ≡ Reading u had)) ⊎ (st ≡ Writing u) → Some (entry.Ended u (how.Undone why)) ≡ undone_of why st
undone_open why st u (inl h) = sym (ap (undone_of why) h.1)
undone_open why st u (inr h) = sym (ap (undone_of why) h)
