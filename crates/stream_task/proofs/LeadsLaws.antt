-- The laws of what the streams, the table of turns and the engine stand for.
use Rattle.std.proofs.Common.{◌≡◌, ◌≢◌, ℕ, suc, Bool, false, List, [], ◌++◌, map, Option, Some, None, IsTrue, IsSomeAnd, find, refl, sym, ap, ◌∙◌, subst, option_to_list}
use Rattle.hrana_value.specs.declared.StreamNo.{StreamNo}
use Rattle.serial_order.specs.Journal as law
use Rattle.serial_order.specs.Journal.{Txn, commits, units, is_open as is_open_unit}
use Rattle.serial_order.specs.Serial.{Meaning}
use Rattle.serial_order.specs.Explained.{IsOpenAnd, begins, database_at, view_of}
use Rattle.serial_order.specs.Machine.{Live, State, start, NoLive, Run, RunByTurns}
use Rattle.txn_table.specs.Turns.{Turns, no_turns, with_place}
use Rattle.engine_core.specs.Journal.{entry_of}
use Rattle.engine_core.specs.Noted.{Noted}
use Rattle.engine_core.specs.Transactions.{Lives, View, NoneLive}
use Rattle.engine_core.specs.declared.statement.BoundStmt.{BoundStmt}
use Rattle.engine_core.specs.declared.entries.Answer.{Answer}
use Rattle.engine_core.specs.declared.entries.Undo.{Undo}
use Rattle.engine_core.specs.declared.entries.Entry.{Entry}
use Rattle.stream_task.specs.Adds.{seen_in, undone_of}
use Rattle.stream_task.specs.Leads.{StartsBy, StandsFor, IsOpenUnit, IsKept}
use Rattle.stream_task.specs.Moved.{AgreesAs, turn_by}
use Rattle.stream_task.specs.Polls.{Task}
use Rattle.stream_task.specs.Together.{States, Put, is_open, unit_at, Together, HasPolled, HasEnded}
use Rattle.stream_task.specs.declared.session.TxnState.{TxnState}
use Rattle.stream_task.specs.declared.session.TxnState.TheVariants.{Auto}
use Rattle.stream_task.specs.declared.task.Poll.{Poll}
use Rattle.stream_task.specs.declared.task.Stepped.{Stepped}
use Rattle.stream_task.proofs.TurnLemmas.{none_some}
use Rattle.stream_task.proofs.GoesLemmas.{Goes, goes_polls, goes_undone}
use Rattle.stream_task.proofs.TogetherLemmas.{Classes, did, off_undone, shut_off, may_poll}
use Rattle.stream_task.proofs.MachineLemmas.{unit_is, view_along}
use Rattle.stream_task.proofs.LeadsLemmas.{GoesOn, leads_after}

-- ---- at the beginning, and where a stream joins

pub begins_standing : {D : Type 0} (shared : Bool) (m : Meaning D BoundStmt Answer) → ((machine : State D) → Run m machine [] machine) → ((machine : State D) → RunByTurns m machine [] machine) → (db : D) (live : Lives D) → NoneLive live → StandsFor shared m db [] db live no_turns 1 (λ n. None)
begins_standing shared m run turns db live none = record {
  machine = start db;
  run = run (start db);
  turns = λ alone. turns (start db);
  stands = record {
    database = refl;
    version = refl;
    number = refl;
    units = λ unit. view_along None (live unit) None None (none unit) refl tt;
    streams = λ unit its e. absurd (none_some e);
    starts = λ unit its e. absurd (none_some e);
  };
}

pub version_stands : {D : Type 0} (shared : Bool) (m : Meaning D BoundStmt Answer) (db : D) (live : Lives D) (t t' : Turns) (next : ℕ) (states : States) → t'.version ≡ t.version
    → (first : D) (journal : List Entry) → StandsFor shared m first journal db live t next states → StandsFor shared m first journal db live t' next states
version_stands shared m db live t t' next states same first journal f = record {
  machine = f.machine;
  run = f.run;
  turns = f.turns;
  stands = record {
    database = f.stands.database;
    version = f.stands.version ∙ sym same;
    number = f.stands.number;
    units = f.stands.units;
    streams = f.stands.streams;
    starts = λ unit its e. subst (λ v. StartsBy v (states its.stream) its.start) (sym same) (f.stands.starts unit its e);
  };
}

pub joins_standing : {D : Type 0} (shared : Bool) (m : Meaning D BoundStmt Answer) (db : D) (live : Lives D) (t : Turns) (next : ℕ) (states states' : States) (stream : StreamNo) → states stream.0 ≡ None → Put states states' stream.0 (Some Auto)
    → (first : D) (journal : List Entry) → StandsFor shared m first journal db live t next states → StandsFor shared m first journal db live (with_place t stream) next states'
joins_standing {D} shared m db live t next states states' stream at put first journal f = record {
  machine = f.machine;
  run = f.run;
  turns = f.turns;
  stands = record {
    database = f.stands.database;
    version = f.stands.version;
    number = f.stands.number;
    units = f.stands.units;
    streams = λ unit its e. ap unit_at (put.others its.stream (away unit its e)) ∙ f.stands.streams unit its e;
    starts = λ unit its e. subst (λ x. StartsBy t.version x its.start) (sym (put.others its.stream (away unit its e))) (f.stands.starts unit its e);
  };
}
  where
    away : (unit : ℕ) (its : Live D) → f.machine.live unit ≡ Some its → its.stream ≢ stream.0
    away unit its e i = none_some (sym (ap unit_at (ap states i ∙ at)) ∙ f.stands.streams unit its e)

-- ---- a poll, and an end

pub polls_lead : {X D : Type 0} (told shared : Bool) (m : Meaning D BoundStmt Answer) (db : X → D) (live : X → Lives D) (faults : X → ℕ) (engine engine' : X) (t t' : Turns) (old new : Noted) (task task' : Task) (result : Poll Stepped) (states states' : States) → Classes m → GoesOn m
    → IsTrue told → Together told shared (db engine) (live engine) t old.next states → states task.stream.0 ≡ Some task.session.state → (p : HasPolled told shared m db live faults engine engine' t t' old new task task' result) → Put states states' task.stream.0 (Some task'.session.state)
    → (first : D) (journal : List Entry) → StandsFor shared m first journal (db engine) (live engine) t old.next states → StandsFor shared m first (journal ++ option_to_list p.adds.added) (db engine') (live engine') t' new.next states'
polls_lead told shared m db live faults engine engine' t t' old new task task' result states states' c o y h at p put first journal f =
    leads_after told shared p.adds.writes m (db engine) (live engine) old.next t (db engine') (live engine') new.next t' states states' task.stream task.session.state (Some task'.session.state) p.adds.added first journal y c o h at
    (did told m db live faults task.stream engine engine' t t' old new _ _ p.adds)
    (goes_polls shared (seen_in t old.next) task p.adds.added result task' p.adds.holds)
    put
    (subst (λ x. AgreesAs told (db engine') (live engine') t' x task'.session.state) p.stream p.agrees)
    p.adds.next f

pub ends_lead : {X D : Type 0} (told shared : Bool) (m : Meaning D BoundStmt Answer) (db : X → D) (live : X → Lives D) (faults : X → ℕ) (engine engine' : X) (t t' : Turns) (old new : Noted) (task : Task) (why : Undo) (now : Option TxnState) (states states' : States) → Classes m → GoesOn m
    → IsTrue told → Together told shared (db engine) (live engine) t old.next states → states task.stream.0 ≡ Some task.session.state → HasEnded told shared m db live faults engine engine' t t' old new task why → is_open now ≡ false → Put states states' task.stream.0 now
    → (first : D) (journal : List Entry) → StandsFor shared m first journal (db engine) (live engine) t old.next states → StandsFor shared m first (journal ++ option_to_list (undone_of why task.session.state)) (db engine') (live engine') t' new.next states'
ends_lead told shared m db live faults engine engine' t t' old new task why now states states' c o y h at p shut put first journal f =
    let s = task.stream in
    let state = task.session.state in
    let between = p.ends.between in
    let a = p.ends.adds in
    let own : AgreesAs told (db engine) (live engine) t s state = (may_poll told shared (db engine) (live engine) t old.next states s state h at).agrees in
    let off : between.turn ≢ Some s = off_undone told a.writes (db engine) (live engine) t between s why state own (a.moved.turn ∙ ap (λ x. turn_by s a.writes x t.turn) a.holds) in
    let after : StandsFor shared m first (journal ++ option_to_list a.added) (db engine') (live engine') between new.next states' =
    leads_after told shared a.writes m (db engine) (live engine) old.next t (db engine') (live engine') new.next between states states' s state now a.added first journal y c o h at
    (did told m db live faults s engine engine' t between old new _ _ a)
    (subst (λ x. Goes shared (seen_in t old.next) state x now) (sym a.holds) (goes_undone shared (seen_in t old.next) why state now shut))
    put (shut_off told (db engine') (live engine') between s.0 now shut off) a.next f in
    subst (λ x. StandsFor shared m first (journal ++ option_to_list x) (db engine') (live engine') t' new.next states') a.holds
    (version_stands shared m (db engine') (live engine') between t' new.next states' (ap (λ (x : Turns). x.version) p.ends.lost) first (journal ++ option_to_list a.added) after)

-- ---- what the journal says

pub stands_at_nothing : {D : Type 0} (shared : Bool) (m : Meaning D BoundStmt Answer) (first : D) (journal : List Entry) (db : D) (live : Lives D) (t : Turns) (next : ℕ) (states : States) → (f : StandsFor shared m first journal db live t next states) → ((n : ℕ) → unit_at (states n) ≡ None) → NoLive f.machine × (f.machine.db ≡ db)
stands_at_nothing {D} shared m first journal db live t next states f none = ((λ unit. absent unit (f.machine.live unit) refl), f.stands.database)
  where
    absent : (unit : ℕ) (x : Option (Live D)) → f.machine.live unit ≡ x → x ≡ None
    absent unit None e = refl
    absent unit (Some its) e = absurd (none_some (sym (none its.stream) ∙ f.stands.streams unit its e))

-- what the law says of a unit of the machine: it is open in the journal, with its stream and its version, and its view is meant
abbrev IsMeant : {D : Type 0} → Meaning D BoundStmt Answer → D → List (law.Entry BoundStmt Answer) → Live D → Txn BoundStmt Answer → Type 0
IsMeant m first entries its txn = (its.stream ≡ txn.stream) × (its.start ≡ txn.version) × (its.view ≡ view_of m first (units entries) txn)

open_unit : {D : Type 0} (m : Meaning D BoundStmt Answer) (first : D) (entries : List (law.Entry BoundStmt Answer)) (t : Turns) (states : States) (unit : ℕ) (its : Live D) (v : View D) (txn : Txn BoundStmt Answer)
    → unit_at (states its.stream) ≡ Some unit → StartsBy t.version (states its.stream) its.start → its.view ≡ v.view → IsMeant m first entries its txn → IsOpenUnit m first entries t states unit v txn
open_unit m first entries t states unit its v txn own starts view h = record {
  stream = ap (λ n. unit_at (states n)) (sym h.0) ∙ own;
  starts = subst (λ n. StartsBy t.version (states n) txn.version) h.0 (subst (λ n. StartsBy t.version (states its.stream) n) h.1 starts);
  view = sym view ∙ h.2;
}

and_weaken : (P Q : Txn BoundStmt Answer → Type 0) (o : Option (Txn BoundStmt Answer)) → ((txn : Txn BoundStmt Answer) → P txn → Q txn) → IsSomeAnd o P → IsSomeAnd o Q
and_weaken P Q None f h = h
and_weaken P Q (Some txn) f h = f txn h

open_weaken : (P Q : Txn BoundStmt Answer → Type 0) (entries : List (law.Entry BoundStmt Answer)) (unit : ℕ) → ((txn : Txn BoundStmt Answer) → P txn → Q txn) → IsOpenAnd entries unit P → IsOpenAnd entries unit Q
unfolding IsOpenAnd
open_weaken P Q entries unit f h = and_weaken P Q (find (is_open_unit unit) (units entries)) f h

pub stands_as_kept : {D : Type 0} (shared : Bool) (m : Meaning D BoundStmt Answer) (first : D) (journal : List Entry) (db : D) (live : Lives D) (t : Turns) (next : ℕ) (states : States) → (f : StandsFor shared m first journal db live t next states)
    → f.machine.version ≡ commits (map entry_of journal) → f.machine.next ≡ suc (begins (map entry_of journal)) → f.machine.db ≡ database_at m first (units (map entry_of journal)) (commits (map entry_of journal))
    → ((unit : ℕ) (its : Live D) → f.machine.live unit ≡ Some its → IsOpenAnd (map entry_of journal) unit (λ txn. IsMeant m first (map entry_of journal) its txn)) → IsKept m first (map entry_of journal) db live t next states
stands_as_kept shared m first journal db live t next states f version number database view = record {
  version = sym f.stands.version ∙ version;
  number = sym f.stands.number ∙ number;
  database = sym f.stands.database ∙ database;
  views = λ unit v e.
      (let u = unit_is f.machine unit (live unit) (f.machine.live unit) v (f.stands.units unit) refl e in
      open_weaken (IsMeant m first (map entry_of journal) u.its) (IsOpenUnit m first (map entry_of journal) t states unit v) (map entry_of journal) unit
      (λ txn. open_unit m first (map entry_of journal) t states unit u.its v txn (f.stands.streams unit u.its u.is) (f.stands.starts unit u.its u.is) u.view)
      (view unit u.its u.is));
}
