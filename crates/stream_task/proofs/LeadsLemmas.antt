-- Each entry of a stream is a step of the machine, to a state for which the streams stand after it.
use Rattle.std.proofs.Common.{◌≡◌, ◌≢◌, ◌+◌, ◌&&◌, ◌||◌, ℕ, suc, Bool, true, false, cond, not, List, [], ◌∷◌, ◌++◌, map, Option, Some, None, IsTrue, refl, sym, ap, ap₂, ◌∙◌, subst, arith, inl, inr, append-nil, option_to_list}
use Rattle.std.specs.Option.{IsSome}
use Rattle.std.proofs.lemmas.Bool.{cases_eq}
use Rattle.std.proofs.lemmas.List.{map-append}
use Rattle.hrana_value.specs.declared.StreamNo.{StreamNo}
use Rattle.serial_order.specs.Journal as law
use Rattle.serial_order.specs.Serial.{Meaning}
use Rattle.serial_order.specs.Machine.{Live, State, start, IsFree, IsDropped, MayDeny, Step, HasTurn, Run, RunByTurns}
use Rattle.sql_text.specs.declared.class.Class.{Class}
use Rattle.sql_text.specs.declared.class.Class.TheVariants as class
use Rattle.txn_table.specs.Turns.{Turns}
use Rattle.engine_core.specs.Engine.{is_read, is_write, IsReadOrWrite}
use Rattle.engine_core.specs.Journal.{entry_of, deny_of}
use Rattle.engine_core.specs.Transactions.{Lives, View, SameLive, Became}
use Rattle.engine_core.specs.declared.statement.BoundStmt.{BoundStmt}
use Rattle.engine_core.specs.declared.entries.Answer.{Answer}
use Rattle.engine_core.specs.declared.entries.Broken.{Broken}
use Rattle.engine_core.specs.declared.entries.Deny.{Deny}
use Rattle.engine_core.specs.declared.entries.Deny.TheVariants as deny
use Rattle.engine_core.specs.declared.entries.How.TheVariants as how
use Rattle.engine_core.specs.declared.entries.Undo.{Undo}
use Rattle.engine_core.specs.declared.entries.Entry.{Entry}
use Rattle.engine_core.specs.declared.entries.Entry.TheVariants as entry
use Rattle.stream_task.specs.Adds.{next_by, seen_in}
use Rattle.stream_task.specs.Leads.{IsView, StartsBy, Stands, StandsFor}
use Rattle.stream_task.specs.Moved.{version_by}
use Rattle.stream_task.specs.Session.{unit_of}
use Rattle.stream_task.specs.Together.{States, Put, numbered, AgreesAt, is_writing, unit_at, BeganBy, Together}
use Rattle.stream_task.specs.declared.session.TxnState.{TxnState}
use Rattle.stream_task.proofs.TurnLemmas.{none_some, some_one}
use Rattle.stream_task.proofs.GoesLemmas.{unit_by, IsDenied, Goes}
use Rattle.stream_task.proofs.TogetherLemmas.{Classes, Did, apart_numbers, holds_there, writes_here, lives_after, keeps_version}
use Rattle.stream_task.proofs.MachineLemmas.{view_of, view_along, one_start, writer_start, starts_on, no_commit, Before, live_unit, not_live, none_live, no_writer, no_writer_but, own_stream, free, own_start, own_began, reads_only, holder_unit, holder_other, counted, placed, placed_at, UnitsLeft}

reads_or_writes : (c : Class) → IsReadOrWrite c → (is_read c || is_write c) ≡ true
reads_or_writes class.Read h = refl
reads_or_writes class.Write h = refl
reads_or_writes c h = absurd h

version_alone : (by : StreamNo) (q : BoundStmt) (a : Answer) (w : Bool) (version : ℕ) → version_by (Some (entry.Alone by q a w)) version ≡ version + cond w 1 0
version_alone by q a true version = refl
version_alone by q a false version = omega arith

-- a unit of the machine that is no more
dropped : {D : Type 0} (machine : State D) (unit : ℕ) (its : Live D) (Holds : Live D → Type 0) → machine.live unit ≡ Some its → Holds its → IsDropped machine (placed machine unit None) unit Holds
dropped machine unit its Holds e h = record { unit = its; is = e; cause = h; db = refl; version = refl; next = refl; live = placed_at machine unit None }

not_other : {D : Type 0} (live : Lives D) (was : Option ℕ) (unit k : ℕ) → was ≡ Some unit → was ≢ Some k → k ≢ unit
not_other live was unit k o ne i = ne (o ∙ ap Some (sym i))

-- What an entry is to the machine. The units of the machine are left as the engine's.
pub record Led {D : Type 0} (shared : Bool) (m : Meaning D BoundStmt Answer) (live : Lives D) (t : Turns) (db' : D) (live' : Lives D) (t' : Turns) (next' : ℕ) (s : StreamNo) (state : TxnState) (now : Option TxnState) (machine : State D) (e : Entry) : Type 0 where
  end : State D
  step : Step m machine (entry_of e) end
  turn : shared ≡ false → HasTurn machine (entry_of e)
  database : end.db ≡ db'
  version : end.version ≡ t'.version
  number : end.next ≡ next'
  left : UnitsLeft live live' t.version s (unit_of state) (unit_by (Some e) (unit_of state)) now machine end

-- the version at which the open unit began stays
abbrev Stays : ℕ → TxnState → Option TxnState → Type 0
Stays version state now = (start : ℕ) → BeganBy version (Some state) → StartsBy version (Some state) start → StartsBy version now start

-- What stands before an entry, of an engine that tells, and the state of its stream after it.
pub record Around {D : Type 0} (told shared w : Bool) (m : Meaning D BoundStmt Answer) (db : D) (live : Lives D) (next : ℕ) (t : Turns) (db' : D) (live' : Lives D) (t' : Turns) (states : States) (s : StreamNo) (state : TxnState) (now : Option TxnState) (machine : State D) : Type 0 where
  pub tells : IsTrue told
  pub classes : Classes m
  pub before : Before told shared db live t next states s state machine
  pub after : AgreesAt told db' live' t' s.0 now

module _ {D : Type 0} {told shared w : Bool} {m : Meaning D BoundStmt Answer} {db : D} {live : Lives D} {next : ℕ} {t : Turns} {db' : D} {live' : Lives D} {t' : Turns} {states : States} {s : StreamNo} {state : TxnState} {now : Option TxnState} {machine : State D}
    (around : Around told shared w m db live next t db' live' t' states s state now machine) where
  -- ---- the units that are left

  -- the version at which the open unit began stays
  starts_stay : Stays t.version state now → (unit : ℕ) (its : Live D) → machine.live unit ≡ Some its → unit_of state ≡ Some unit → StartsBy t.version now its.start
  starts_stay stays unit its e o = stays its.start (own_began around.before) (own_start around.before unit its e o)

  left_same : (end : State D) → ((k : ℕ) → end.live k ≡ machine.live k) → SameLive live live' → Stays t.version state now → UnitsLeft live live' t.version s (unit_of state) (unit_of state) now machine end
  left_same end same lives stays = record {
    units = λ k. view_along (live k) (live' k) (machine.live k) (end.live k) (lives k) (same k) (around.before.stands.units k);
    own = λ k its o e. (let is : machine.live k ≡ Some its = sym (same k) ∙ e in (own_stream around.before k its is o, starts_stay stays k its is o));
    others = λ k ne some. same k;
  }

  -- the stream's own unit is no more
  left_gone : (unit : ℕ) → unit_of state ≡ Some unit → Became live live' unit None → UnitsLeft live live' t.version s (unit_of state) None now machine (placed machine unit None)
  left_gone unit o gone =
      let at = placed_at machine unit None in
      record {
        units = λ k. elim (cases_eq k unit) [
          | inl i ↦ view_along None (live' k) None ((placed machine unit None).live k) (ap live' i ∙ gone.here) (ap (placed machine unit None).live i ∙ at.here) tt
          | inr ne ↦ view_along (live k) (live' k) (machine.live k) ((placed machine unit None).live k) (gone.others k ne) (at.others k ne) (around.before.stands.units k)
        ];
        own = λ k its none e. absurd (none_some none);
        others = λ k ne some. at.others k (not_other live (unit_of state) unit k o ne);
      }

  -- one unit of the stream is this now
  left_now : (opened : Option ℕ) (unit : ℕ) (its : Live D) (v : View D) → opened ≡ Some unit → ((k : ℕ) → unit_of state ≢ Some k → IsSome (live k) → k ≢ unit) → Became live live' unit (Some v) → (its.view ≡ v.view) × (its.is_writer ≡ v.is_writer)
      → its.stream ≡ s.0 → StartsBy t.version now its.start → UnitsLeft live live' t.version s (unit_of state) opened now machine (placed machine unit (Some its))
  left_now opened unit its v o apart became same stream starts =
      let at = placed_at machine unit (Some its) in
      record {
        units = λ k. elim (cases_eq k unit) [
          | inl i ↦ view_along (Some v) (live' k) (Some its) ((placed machine unit (Some its)).live k) (ap live' i ∙ became.here) (ap (placed machine unit (Some its)).live i ∙ at.here) same
          | inr ne ↦ view_along (live k) (live' k) (machine.live k) ((placed machine unit (Some its)).live k) (became.others k ne) (at.others k ne) (around.before.stands.units k)
        ];
        own = λ k one i e.
            (let one_is : its ≡ one = some_one (sym at.here ∙ ap (placed machine unit (Some its)).live (some_one (sym o ∙ i)) ∙ e) in
            (ap (λ (x : Live D). x.stream) (sym one_is) ∙ stream, subst (λ (x : Live D). StartsBy t.version now x.start) one_is starts));
        others = λ k ne some. at.others k (apart k ne some);
      }

  -- ---- one statement alone

  lead_alone : (by : StreamNo) (q : BoundStmt) (a : Answer) (wr : Bool) → Did told w m db live next t db' live' t' s (Some (entry.Alone by q a wr)) → Goes shared (seen_in t next) state (Some (entry.Alone by q a wr)) now → Led shared m live t db' live' t' (next_by next (Some (entry.Alone by q a wr))) s state now machine (entry.Alone by q a wr)
  unfolding Step HasTurn
  lead_alone by q a wr d g = record {
    end = counted machine db' t'.version;
    step = record {
      free = subst (λ (x : StreamNo). IsFree machine x.0) (sym d.from.0) (free around.before g.own);
      class = ap₂ (λ r x. r || x) (around.classes.reads q) (around.classes.writes q) ∙ reads_or_writes q.class d.from.2.class;
      turn = λ x. no_writer around.before (around.before.together.writers (d.from.2.free (sym (around.classes.writes q) ∙ x)));
      answer = d.effects.database.answer around.tells ∙ ap (λ x. (m.exec x q).1) (sym around.before.stands.database);
      wrote = d.from.1 ∙ ap₂ (λ x r. x && not r) (sym (around.classes.writes q)) (sym (around.classes.refusals a));
      db = d.effects.database.database ∙ ap (λ x. (m.exec x q).0) (sym around.before.stands.database);
      version = d.version ∙ version_alone by q a wr t.version ∙ ap (λ n. n + cond wr 1 0) (sym around.before.stands.version);
      next = refl;
      live = λ number. refl;
    };
    turn = λ alone. none_live around.before (around.before.together.quiet alone (g.first alone));
    database = refl;
    version = refl;
    number = around.before.stands.number;
    left = left_same (counted machine db' t'.version) (λ k. refl) d.effects.lives g.starts;
  }

  -- ---- a unit begins

  lead_began : (unit : ℕ) (by : StreamNo) → Did told w m db live next t db' live' t' s (Some (entry.Began unit by)) → Goes shared (seen_in t next) state (Some (entry.Began unit by)) now → Led shared m live t db' live' t' (next_by next (Some (entry.Began unit by))) s state now machine (entry.Began unit by)
  unfolding Step HasTurn
  lead_began unit by d g =
      let its : Live D = record { stream = by.0; start = machine.version; view = machine.db; is_writer = w } in
      let placed_here = placed machine unit (Some its) in
      let end : State D = record { db = machine.db; version = machine.version; next = suc machine.next; live = placed_here.live } in
      let at = placed_at machine unit (Some its) in
      let left = left_now (Some unit) unit its (record { start = db; view = db; is_writer = w }) refl (λ k ne some. not_fresh unit k d.from.1.fresh some) d.effects.lives (around.before.stands.database, refl) (ap (λ (x : StreamNo). x.0) d.from.0) (subst (λ n. StartsBy t.version now n) (sym around.before.stands.version) g.starts) in
      record {
        end = end;
        step = record {
          write = w;
          number = d.from.1.number ∙ sym around.before.stands.number;
          fresh = not_live around.before unit d.from.1.fresh;
          free = subst (λ (x : StreamNo). IsFree machine x.0) (sym d.from.0) (free around.before g.own);
          turn = λ x. no_writer around.before (around.before.together.writers (d.from.1.free x));
          db = refl;
          version = refl;
          next = refl;
          live = record { here = at.here; others = at.others };
        };
        turn = λ alone. none_live around.before (around.before.together.quiet alone (g.first alone));
        database = around.before.stands.database ∙ sym d.effects.database;
        version = around.before.stands.version ∙ sym d.version;
        number = (let e : machine.next ≡ next = around.before.stands.number in omega (arith, e));
        left = record { units = left.units; own = left.own; others = left.others };
      }
    where
      not_fresh : (u k : ℕ) → live u ≡ None → IsSome (live k) → k ≢ u
      not_fresh u k none some i = (let v = view_of (live k) some in none_some (sym none ∙ sym (ap live i) ∙ v.1))

  -- ---- a statement in a unit

  lead_ran : (unit : ℕ) (q : BoundStmt) (a : Answer) → Did told w m db live next t db' live' t' s (Some (entry.Ran unit q a)) → Goes shared (seen_in t next) state (Some (entry.Ran unit q a)) now → Led shared m live t db' live' t' (next_by next (Some (entry.Ran unit q a))) s state now machine (entry.Ran unit q a)
  unfolding Step HasTurn
  lead_ran unit q a d g =
      let u = live_unit around.before unit d.effects.lives.was d.effects.lives.is in
      let its : Live D = record { stream = u.its.stream; start = u.its.start; view = (m.exec u.its.view q).0; is_writer = u.its.is_writer || m.is_write q } in
      let starts : StartsBy t.version now u.its.start = starts_stay g.starts unit u.its u.is g.own in
      record {
        end = placed machine unit (Some its);
        step = record {
          unit = u.its;
          is = u.is;
          class = ap₂ (λ r x. r || x) (around.classes.reads q) (around.classes.writes q) ∙ reads_or_writes q.class d.from.class;
          current = λ x. writer_start t.version now u.its.start (writes_now (sym (around.classes.writes q) ∙ x)) starts ∙ sym around.before.stands.version;
          turn = λ x. no_writer_but around.before unit (d.from.writes (sym (around.classes.writes q) ∙ x)).only;
          answer = d.effects.lives.answer around.tells ∙ ap (λ x. (m.exec x q).1) (sym u.view);
          db = refl;
          version = refl;
          next = refl;
          live = placed_at machine unit (Some its);
        };
        turn = λ alone. tt;
        database = around.before.stands.database ∙ sym d.effects.database;
        version = around.before.stands.version ∙ sym d.version;
        number = around.before.stands.number;
        left = left_now (unit_of state) unit its _ g.own (λ k ne some. not_other live (unit_of state) unit k g.own ne) d.effects.lives.now (ap (λ x. (m.exec x q).0) u.view, ap (λ x. x || m.is_write q) u.writer)
            (own_stream around.before unit u.its u.is g.own) starts;
      }
    where
      writes_now : is_write q.class ≡ true → is_writing now ≡ true
      writes_now e = writes_here told db' live' t' s.0 now around.after (d.turn ∙ ap (λ x. cond x (Some s) t.turn) e)

  -- ---- a unit that may not write

  may_deny : (unit : ℕ) (its : Live D) (why : Deny) → machine.live unit ≡ Some its → unit_of state ≡ Some unit → IsDenied (seen_in t next) state (Some (entry.Denied unit why)) → MayDeny machine its (deny_of why)
  may_deny unit its (deny.Stale had last) e o h =
      (one_start t.version unit state had its.start o h.0 (own_start around.before unit its e o), h.1 ∙ sym around.before.stands.version, h.2)
  may_deny unit its (deny.Held by) e o h =
      let other = holder_unit around.before by h.1 in
      (other.0, other.1, other.2, other.3, λ i. holder_other around.before by h.1 h.0 (i ∙ own_stream around.before unit its e o))

  lead_denied : (unit : ℕ) (why : Deny) → Did told w m db live next t db' live' t' s (Some (entry.Denied unit why)) → Goes shared (seen_in t next) state (Some (entry.Denied unit why)) now → Led shared m live t db' live' t' (next_by next (Some (entry.Denied unit why))) s state now machine (entry.Denied unit why)
  unfolding Step HasTurn
  lead_denied unit why d g =
      let v = view_of (live unit) d.from in
      let u = live_unit around.before unit v.0 v.1 in
      record {
        end = machine;
        step = record { unit = u.its; is = u.is; why = may_deny unit u.its why u.is g.own g.denied; same = record { db = refl; version = refl; next = refl; live = λ number. refl } };
        turn = λ alone. tt;
        database = around.before.stands.database ∙ sym d.effects.database;
        version = around.before.stands.version ∙ sym d.version;
        number = around.before.stands.number;
        left = left_same machine (λ k. refl) d.effects.lives g.starts;
      }

  -- ---- the end of a unit

  lead_committed : (unit : ℕ) → Did told w m db live next t db' live' t' s (Some (entry.Ended unit how.Committed)) → Goes shared (seen_in t next) state (Some (entry.Ended unit how.Committed)) now → Led shared m live t db' live' t' (next_by next (Some (entry.Ended unit how.Committed))) s state now machine (entry.Ended unit how.Committed)
  unfolding Step HasTurn
  lead_committed unit d g =
      let u = live_unit around.before unit d.effects.view d.effects.lived in
      let gone = left_gone unit g.own d.effects.gone in
      let at = placed_at machine unit None in
      record {
        end = record { db = db'; version = suc machine.version; next = machine.next; live = (placed machine unit None).live };
        step = record {
          unit = u.its;
          is = u.is;
          writer = u.writer ∙ ap (λ (x : View D). x.is_writer) (some_one (sym d.effects.lived ∙ d.from.own.lives)) ∙ d.from.own.writes;
          db = d.effects.database ∙ sym u.view;
          version = refl;
          next = refl;
          live = record { here = at.here; others = at.others };
        };
        turn = λ alone. tt;
        database = refl;
        version = (let e : t'.version ≡ t.version + 1 = d.version in let i : machine.version ≡ t.version = around.before.stands.version in omega (arith, e, i));
        number = around.before.stands.number;
        left = record { units = gone.units; own = gone.own; others = gone.others };
      }

  lead_read : (unit : ℕ) → Did told w m db live next t db' live' t' s (Some (entry.Ended unit how.Read)) → Goes shared (seen_in t next) state (Some (entry.Ended unit how.Read)) now → Led shared m live t db' live' t' (next_by next (Some (entry.Ended unit how.Read))) s state now machine (entry.Ended unit how.Read)
  unfolding Step HasTurn
  lead_read unit d g =
      let v = view_of (live unit) d.from.0.lives in
      let u = live_unit around.before unit v.0 v.1 in
      record {
        end = placed machine unit None;
        step = dropped machine unit u.its (λ (its : Live D). its.is_writer ≡ false) u.is (u.writer ∙ reads_only around.before unit v.0 g.own d.from.1 v.1);
        turn = λ alone. tt;
        database = around.before.stands.database ∙ sym d.effects.database;
        version = around.before.stands.version ∙ sym d.version;
        number = around.before.stands.number;
        left = left_gone unit g.own d.effects.lives;
      }

  lead_undone : (unit : ℕ) (why : Undo) → Did told w m db live next t db' live' t' s (Some (entry.Ended unit (how.Undone why))) → Goes shared (seen_in t next) state (Some (entry.Ended unit (how.Undone why))) now → Led shared m live t db' live' t' (next_by next (Some (entry.Ended unit (how.Undone why)))) s state now machine (entry.Ended unit (how.Undone why))
  unfolding Step HasTurn
  lead_undone unit why d g =
      let v = view_of (live unit) d.from.lives in
      let u = live_unit around.before unit v.0 v.1 in
      record {
        end = placed machine unit None;
        step = dropped machine unit u.its (λ (its : Live D). Unit {0}) u.is tt;
        turn = λ alone. tt;
        database = around.before.stands.database ∙ sym d.effects.database;
        version = around.before.stands.version ∙ sym d.version;
        number = around.before.stands.number;
        left = left_gone unit g.own d.effects.lives;
      }

  -- ---- a call that broke

  lead_failed : (by : StreamNo) (cause : Broken) → Did told w m db live next t db' live' t' s (Some (entry.Failed by None cause)) → Goes shared (seen_in t next) state (Some (entry.Failed by None cause)) now → Led shared m live t db' live' t' (next_by next (Some (entry.Failed by None cause))) s state now machine (entry.Failed by None cause)
  unfolding Step HasTurn
  lead_failed by cause d g = record {
    end = machine;
    step = record {
      free = subst (λ (x : StreamNo). IsFree machine x.0) (sym d.from) (free around.before g.own);
      same = record { db = refl; version = refl; next = refl; live = λ number. refl };
    };
    turn = λ alone. tt;
    database = around.before.stands.database ∙ sym d.effects.database;
    version = around.before.stands.version ∙ sym d.version;
    number = around.before.stands.number;
    left = left_same machine (λ k. refl) d.effects.lives g.starts;
  }

  lead_broken : (by : StreamNo) (unit : ℕ) (cause : Broken) → Did told w m db live next t db' live' t' s (Some (entry.Failed by (Some unit) cause)) → Goes shared (seen_in t next) state (Some (entry.Failed by (Some unit) cause)) now → Led shared m live t db' live' t' (next_by next (Some (entry.Failed by (Some unit) cause))) s state now machine (entry.Failed by (Some unit) cause)
  unfolding Step HasTurn
  lead_broken by unit cause d g =
      let v = view_of (live unit) d.from.1.lives in
      let u = live_unit around.before unit v.0 v.1 in
      record {
        end = placed machine unit None;
        step = dropped machine unit u.its (λ (its : Live D). its.stream ≡ by.0) u.is (own_stream around.before unit u.its u.is g.own ∙ ap (λ (x : StreamNo). x.0) (sym d.from.0));
        turn = λ alone. tt;
        database = around.before.stands.database ∙ sym d.effects.database;
        version = around.before.stands.version ∙ sym d.version;
        number = around.before.stands.number;
        left = left_gone unit g.own d.effects.lives;
      }

  pub lead : (e : Entry) → Did told w m db live next t db' live' t' s (Some e) → Goes shared (seen_in t next) state (Some e) now → Led shared m live t db' live' t' (next_by next (Some e)) s state now machine e
  lead (entry.Alone by q a wr) d g = lead_alone by q a wr d g
  lead (entry.Began unit by) d g = lead_began unit by d g
  lead (entry.Ran unit q a) d g = lead_ran unit q a d g
  lead (entry.Denied unit why) d g = lead_denied unit why d g
  lead (entry.Ended unit how.Committed) d g = lead_committed unit d g
  lead (entry.Ended unit how.Read) d g = lead_read unit d g
  lead (entry.Ended unit (how.Undone why)) d g = lead_undone unit why d g
  lead (entry.Failed by None cause) d g = lead_failed by cause d g
  lead (entry.Failed by (Some unit) cause) d g = lead_broken by unit cause d g

-- ---- they stand for the state that is left

-- an entry of the stream, or none, and the states of the streams after it
pub record Entered {D : Type 0} (told shared w : Bool) (m : Meaning D BoundStmt Answer) (db : D) (live : Lives D) (next : ℕ) (t : Turns) (db' : D) (live' : Lives D) (t' : Turns) (states states' : States) (s : StreamNo) (state : TxnState) (now : Option TxnState) (machine : State D) (added : Option Entry) : Type 0 where
  pub before : Before told shared db live t next states s state machine
  pub did : Did told w m db live next t db' live' t' s added
  pub goes : Goes shared (seen_in t next) state added now
  pub put : Put states states' s.0 now

-- what the state of its stream says of a unit
abbrev pub IsAtHome : {D : Type 0} → ℕ → States → ℕ → Live D → Type 0
IsAtHome version states unit its = (unit_at (states its.stream) ≡ Some unit) × StartsBy version (states its.stream) its.start

lives_in : {D : Type 0} (o : Option (View D)) (x : Option (Live D)) (its : Live D) → IsView o x → x ≡ Some its → IsSome o
lives_in (Some v) x its h e = refl
lives_in None None its h e = absurd (none_some e)
lives_in None (Some y) its h e = absurd h

module _ {D : Type 0} {told shared w : Bool} {m : Meaning D BoundStmt Answer} {db : D} {live : Lives D} {next : ℕ} {t : Turns} {db' : D} {live' : Lives D} {t' : Turns} {states states' : States} {s : StreamNo} {state : TxnState} {now : Option TxnState} {machine : State D} {added : Option Entry}
    (entered : Entered told shared w m db live next t db' live' t' states states' s state now machine added) where
  home_own : (unit : ℕ) (its : Live D) → unit_by added (unit_of state) ≡ Some unit → its.stream ≡ s.0 → StartsBy t.version now its.start → IsAtHome t'.version states' unit its
  home_own unit its o stream starts =
      let here : states' its.stream ≡ now = ap states' stream ∙ entered.put.here in
      let same : t'.version ≡ t.version = entered.did.version ∙ no_commit added (unit_of state) unit t.version entered.goes.own o in
      (ap unit_at here ∙ entered.goes.unit ∙ o, subst (λ x. StartsBy t'.version x its.start) (sym here) (subst (λ v. StartsBy v now its.start) (sym same) starts))

  home_other : (unit : ℕ) (its : Live D) → unit_of state ≢ Some unit → machine.live unit ≡ Some its → IsAtHome t'.version states' unit its
  home_other unit its ne e =
      let b = entered.before in
      let was : unit_at (states its.stream) ≡ Some unit = b.stands.streams unit its e in
      let away : its.stream ≢ s.0 = λ i. ne (sym (ap unit_at (ap states i ∙ b.at)) ∙ was) in
      let there : states' its.stream ≡ states its.stream = entered.put.others its.stream away in
      let holds = holds_there told db live t its.stream (states its.stream) (b.together.agree its.stream) in
      let same : is_writing (states its.stream) ≡ true → t'.version ≡ t.version = λ writes. keeps_version told w m db live next t db' live' t' s (numbered its.stream) added entered.did (apart_numbers s its.stream away, holds writes) in
      (ap unit_at there ∙ was, subst (λ x. StartsBy t'.version x its.start) (sym there) (starts_on t.version t'.version (states its.stream) its.start same (b.stands.starts unit its e)))

  home : (end : State D) → UnitsLeft live live' t.version s (unit_of state) (unit_by added (unit_of state)) now machine end → (unit : ℕ) (its : Live D) → end.live unit ≡ Some its → IsAtHome t'.version states' unit its
  home end left unit its e = elim (lives_after told w m db live next t db' live' t' s (unit_of state) unit added entered.did entered.goes.own (lives_in (live' unit) (end.live unit) its (left.units unit) e)) [
    | inl own ↦ (let h = left.own unit its own e in home_own unit its own h.0 h.1)
    | inr old ↦ home_other unit its old.0 (sym (left.others unit old.0 old.1) ∙ e)
  ]

  pub stands_after : (end : State D) (next' : ℕ) → end.db ≡ db' → end.version ≡ t'.version → end.next ≡ next' → UnitsLeft live live' t.version s (unit_of state) (unit_by added (unit_of state)) now machine end → Stands db' live' t' next' states' end
  stands_after end next' database version number left = record {
    database = database;
    version = version;
    number = number;
    units = left.units;
    streams = λ unit its e. (home end left unit its e).0;
    starts = λ unit its e. (home end left unit its e).1;
  }

-- ---- how a journal goes on

-- a run goes on by one entry, and so does one by turns
pub record GoesOn {D : Type 0} (m : Meaning D BoundStmt Answer) : Type 0 where
  pub run : (old : State D) (journal : List (law.Entry BoundStmt Answer)) (mid : State D) (e : law.Entry BoundStmt Answer) (new : State D) → Run m old journal mid → Step m mid e new → Run m old (journal ++ e ∷ []) new
  pub turns : (old : State D) (journal : List (law.Entry BoundStmt Answer)) (mid : State D) (e : law.Entry BoundStmt Answer) (new : State D) → RunByTurns m old journal mid → Step m mid e new → HasTurn mid e → RunByTurns m old (journal ++ e ∷ []) new

pub leads_after : {D : Type 0} (told shared w : Bool) (m : Meaning D BoundStmt Answer) (db : D) (live : Lives D) (next : ℕ) (t : Turns) (db' : D) (live' : Lives D) (next' : ℕ) (t' : Turns) (states states' : States) (s : StreamNo) (state : TxnState) (now : Option TxnState) (added : Option Entry) (first : D) (journal : List Entry)
    → IsTrue told → Classes m → GoesOn m → Together told shared db live t next states → states s.0 ≡ Some state → Did told w m db live next t db' live' t' s added → Goes shared (seen_in t next) state added now → Put states states' s.0 now → AgreesAt told db' live' t' s.0 now → next' ≡ next_by next added
    → StandsFor shared m first journal db live t next states → StandsFor shared m first (journal ++ option_to_list added) db' live' t' next' states'
leads_after told shared w m db live next t db' live' next' t' states states' s state now None first journal y c o h at d g put after n f =
    let before : Before told shared db live t next states s state f.machine = record { together = h; at = at; stands = f.stands } in
    let around : Around told shared w m db live next t db' live' t' states s state now f.machine = record { tells = y; classes = c; before = before; after = after } in
    let entered : Entered told shared w m db live next t db' live' t' states states' s state now f.machine None = record { before = before; did = d; goes = g; put = put } in
    let whole : journal ≡ journal ++ [] = sym (append-nil journal) in
    record {
      machine = f.machine;
      run = subst (λ es. Run m (start first) (map entry_of es) f.machine) whole f.run;
      turns = λ alone. subst (λ es. RunByTurns m (start first) (map entry_of es) f.machine) whole (f.turns alone);
      stands = stands_after entered f.machine next' (f.stands.database ∙ sym d.effects.database) (f.stands.version ∙ sym d.version) (f.stands.number ∙ sym n) (left_same around f.machine (λ k. refl) d.effects.lives g.starts);
    }
leads_after told shared w m db live next t db' live' next' t' states states' s state now (Some e) first journal y c o h at d g put after n f =
    let before : Before told shared db live t next states s state f.machine = record { together = h; at = at; stands = f.stands } in
    let around : Around told shared w m db live next t db' live' t' states s state now f.machine = record { tells = y; classes = c; before = before; after = after } in
    let entered : Entered told shared w m db live next t db' live' t' states states' s state now f.machine (Some e) = record { before = before; did = d; goes = g; put = put } in
    let l = lead around e d g in
    let whole : map entry_of journal ++ entry_of e ∷ [] ≡ map entry_of (journal ++ e ∷ []) = sym (map-append entry_of journal (e ∷ [])) in
    record {
      machine = l.end;
      run = subst (λ es. Run m (start first) es l.end) whole (o.run (start first) (map entry_of journal) f.machine (entry_of e) l.end f.run l.step);
      turns = λ alone. subst (λ es. RunByTurns m (start first) es l.end) whole (o.turns (start first) (map entry_of journal) f.machine (entry_of e) l.end (f.turns alone) l.step (l.turn alone));
      stands = stands_after entered l.end next' l.database l.version (l.number ∙ sym n) l.left;
    }
