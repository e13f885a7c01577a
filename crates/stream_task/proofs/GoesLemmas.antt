-- What the entry of a poll is to the open unit of its stream, and what it leaves of the stream's state.
use Rattle.std.proofs.Common.{◌≡◌, ◌<◌, ◌≤◌, ℕ, Bool, true, false, List, [], ◌∷◌, Option, Some, None, Result, Ok, Err, refl, sym, ap, ◌∙◌, subst, arith, inl, inr}
use Rattle.hrana_value.specs.declared.StreamNo.{StreamNo}
use Rattle.hrana_stmt.specs.declared.codes.Code.{Code}
use Rattle.hrana_stmt.specs.declared.statements.Stmt.{Stmt}
use Rattle.sql_text.specs.declared.class.Class.{Class}
use Rattle.sql_text.specs.declared.class.Class.TheVariants as class
use Rattle.sql_text.specs.declared.class.Mode.TheVariants as mode
use Rattle.sql_text.specs.declared.prepared.Prepared.{Prepared}
use Rattle.txn_table.proofs.StreamLemmas.{true_not_false}
use Rattle.engine_core.specs.declared.statement.BoundStmt.{BoundStmt}
use Rattle.engine_core.specs.declared.entries.Deny.TheVariants as deny
use Rattle.engine_core.specs.declared.entries.How.{How}
use Rattle.engine_core.specs.declared.entries.How.TheVariants as how
use Rattle.engine_core.specs.declared.entries.Undo.{Undo}
use Rattle.engine_core.specs.declared.entries.Undo.TheVariants as undo
use Rattle.engine_core.specs.declared.entries.Entry.{Entry}
use Rattle.engine_core.specs.declared.entries.Entry.TheVariants as entry
use Rattle.stream_task.specs.Session.{is_shut, unit_of}
use Rattle.stream_task.specs.Table.{Seen, plan, wants_turn, MayAdd, MayBeAlone, MayBegin, MayRun, MayCommit, MayUpgrade, takes, takes_alone, takes_begun, takes_ran, takes_upgrade, takes_ended, begun_by, state_after, left_by}
use Rattle.stream_task.specs.Adds.{PollsStatement, ReadyPolls, PlanPolls, RowPolls, Falls, undone_of}
use Rattle.stream_task.specs.Checks.{ready_of}
use Rattle.stream_task.specs.Doing.{Session}
use Rattle.stream_task.specs.Advance.{Does, PollsWork, todo_of, state_left}
use Rattle.stream_task.specs.Polls.{Task, Polls, PollsAsks}
use Rattle.stream_task.specs.Together.{unit_at, is_open, is_writing, BeganBy}
use Rattle.stream_task.specs.Leads.{StartsBy}
use Rattle.stream_task.specs.declared.session.TxnState.{TxnState}
use Rattle.stream_task.specs.declared.session.TxnState.TheVariants.{Auto, Deferred, Reading, Writing, Dead, Closed}
use Rattle.stream_task.specs.declared.texts.StoredText.{StoredText}
use Rattle.stream_task.specs.declared.table.Row.{Row}
use Rattle.stream_task.specs.declared.table.Row.TheVariants as row
use Rattle.stream_task.specs.declared.table.Plan.{Plan}
use Rattle.stream_task.specs.declared.table.Plan.TheVariants.{Refuses, Becomes, Adds}
use Rattle.stream_task.specs.declared.table.Went.{Went}
use Rattle.stream_task.specs.declared.table.Went.TheVariants.{Waits, Still, Out, Stopped, Short}
use Rattle.stream_task.specs.declared.todo.Todo.{Todo}
use Rattle.stream_task.specs.declared.todo.Todo.TheVariants as todo
use Rattle.stream_task.specs.declared.work.Work.{Work}
use Rattle.stream_task.specs.declared.advance.Advanced.{Advanced}
use Rattle.stream_task.specs.declared.advance.Advanced.TheVariants as advanced
use Rattle.stream_task.specs.declared.task.Poll.{Poll}
use Rattle.stream_task.specs.declared.task.Stepped.{Stepped}
use Rattle.stream_task.proofs.TurnLemmas.{some_one, none_some}
use Rattle.stream_task.proofs.OriginLemmas.{Stands, stands}
use Rattle.stream_task.proofs.TodoLemmas.{Answered, StartsTodo, todo_starts, leaves_as}

-- the open unit after an entry
abbrev pub unit_by : Option Entry → Option ℕ → Option ℕ
unit_by (Some (entry.Began unit by)) was = Some unit
unit_by (Some (entry.Ended unit end)) was = None
unit_by (Some (entry.Failed by (Some unit) why)) was = None
unit_by added was = was

-- An entry that names a unit which was there names the open one. Where it begins one, runs a statement alone, or is a failure
-- that names none, there was none.
abbrev pub IsOwn : Option ℕ → Option Entry → Type 0
IsOwn was (Some (entry.Alone by stmt given wrote)) = was ≡ None
IsOwn was (Some (entry.Began unit by)) = was ≡ None
IsOwn was (Some (entry.Ran unit stmt given)) = was ≡ Some unit
IsOwn was (Some (entry.Denied unit why)) = was ≡ Some unit
IsOwn was (Some (entry.Ended unit end)) = was ≡ Some unit
IsOwn was (Some (entry.Failed by None why)) = was ≡ None
IsOwn was (Some (entry.Failed by (Some unit) why)) = was ≡ Some unit
IsOwn was None = Unit {0}

-- a unit that begins begins at the current version, and else the version at which the open unit began stays
abbrev pub StartsOn : ℕ → TxnState → Option Entry → Option TxnState → Type 0
StartsOn version state (Some (entry.Began unit by)) next = StartsBy version next version
StartsOn version state added next = (start : ℕ) → BeganBy version (Some state) → StartsBy version (Some state) start → StartsBy version next start

-- who is denied to write reads, and is told the version at which its unit began and the current one, or who writes
abbrev pub IsDenied : Seen → TxnState → Option Entry → Type 0
IsDenied seen state (Some (entry.Denied unit (deny.Stale had now))) = StartsBy seen.version (Some state) had × (now ≡ seen.version) × (had < now)
IsDenied seen state (Some (entry.Denied unit (deny.Held by))) = (is_writing (Some state) ≡ false) × (seen.by ≡ Some by)
IsDenied seen state added = Unit {0}

-- nobody writes where a statement runs alone or a unit begins
abbrev pub IsFirst : Option StreamNo → Option Entry → Type 0
IsFirst by (Some (entry.Alone stream stmt given wrote)) = by ≡ None
IsFirst by (Some (entry.Began unit stream)) = by ≡ None
IsFirst by added = Unit {0}

-- a stream went from this state by the entry to that one, or is gone
pub record Goes (shared : Bool) (seen : Seen) (state : TxnState) (added : Option Entry) (next : Option TxnState) : Type 0 where
  pub own : IsOwn (unit_of state) added
  pub unit : unit_at next ≡ unit_by added (unit_of state)
  pub began : BeganBy seen.version (Some state) → BeganBy seen.version next
  pub starts : StartsOn seen.version state added next
  pub opened : is_open next ≡ true → is_open (Some state) ≡ true
  pub denied : IsDenied seen state added
  pub first : shared ≡ false → IsFirst seen.by added

pub goes_same : (shared : Bool) (seen : Seen) (state : TxnState) → Goes shared seen state None (Some state)
goes_same shared seen state = record { own = tt; unit = refl; began = λ h. h; starts = λ start b e. e; opened = λ h. h; denied = tt; first = λ alone. tt }

never : {P : Type 0} → false ≡ true → P
never e = absurd (cc)

-- ---- an entry that a row adds

lift : (shared : Bool) (seen : Seen) (state : TxnState) (e : Entry) (w went : Went) → ◌≡◌ {A = Option Went} (Some w) (Some went) → Goes shared seen state (Some e) (Some (state_after state w)) → Goes shared seen state (Some e) (Some (state_after state went))
lift shared seen state e w went i h = subst (λ (x : Went). Goes shared seen state (Some e) (Some (state_after state x))) (some_one i) h

goes_alone : (shared : Bool) (seen : Seen) (state : TxnState) (s : StreamNo) (q : BoundStmt) (rows : Bool) (e : Entry) (went : Went) → unit_of state ≡ None → (shared ≡ false → seen.by ≡ None)
    → MayBeAlone s q e → takes_alone rows state e ≡ Some went → Goes shared seen state (Some e) (Some (state_after state went))
goes_alone shared seen state s q rows (entry.Alone by p a w) went none free m t = lift shared seen state _ _ went t (record { own = none; unit = refl; began = λ h. h; starts = λ start b i. i; opened = λ h. h; denied = tt; first = free })
goes_alone shared seen state s q rows (entry.Failed by None why) went none free m t = lift shared seen state _ _ went t (record { own = none; unit = refl; began = λ h. h; starts = λ start b i. i; opened = λ h. h; denied = tt; first = λ alone. tt })
goes_alone shared seen state s q rows e went none free m t = absurd m

-- the state in which a unit is that began
record Begins (seen : Seen) (next : ℕ → TxnState) : Type 0 where
  unit : (n : ℕ) → unit_of (next n) ≡ Some n
  began : (n : ℕ) → BeganBy seen.version (Some (next n))
  starts : (n : ℕ) → StartsBy seen.version (Some (next n)) seen.version

begins_writer : (seen : Seen) → Begins seen (λ n. Writing n)
begins_writer seen = record { unit = λ n. refl; began = λ n. tt; starts = λ n. refl }

begins_reader : (seen : Seen) → Begins seen (λ n. Reading n seen.version)
begins_reader seen = record { unit = λ n. refl; began = λ n. omega arith; starts = λ n. refl }

goes_begun : (shared : Bool) (seen : Seen) (state : TxnState) (s : StreamNo) (begun : ℕ → Went) (e : Entry) (went : Went) → Begins seen (λ n. state_after state (begun n)) → unit_of state ≡ None → is_open (Some state) ≡ true → (shared ≡ false → seen.by ≡ None)
    → MayBegin s seen.next e → takes_begun state begun (begun_by e) ≡ Some went → Goes shared seen state (Some e) (Some (state_after state went))
goes_begun shared seen state s begun (entry.Began unit by) went b none o free m t = lift shared seen state _ _ went t (record { own = none; unit = b.unit unit; began = λ h. b.began unit; starts = b.starts unit; opened = λ h. o; denied = tt; first = free })
goes_begun shared seen state s begun (entry.Failed by None why) went b none o free m t = lift shared seen state _ _ went t (record { own = none; unit = refl; began = λ h. h; starts = λ start b i. i; opened = λ h. h; denied = tt; first = λ alone. tt })
goes_begun shared seen state s begun e went b none o free m t = absurd m

-- the state after a statement in the unit of this one
record Runs (seen : Seen) (own : ℕ) (state in_unit : TxnState) : Type 0 where
  was : unit_of state ≡ Some own
  unit : unit_of in_unit ≡ Some own
  began : BeganBy seen.version (Some state) → BeganBy seen.version (Some in_unit)
  starts : (start : ℕ) → BeganBy seen.version (Some state) → StartsBy seen.version (Some state) start → StartsBy seen.version (Some in_unit) start
  opened : is_open (Some state) ≡ true

runs_on : (seen : Seen) (own : ℕ) (state : TxnState) → unit_of state ≡ Some own → is_open (Some state) ≡ true → Runs seen own state state
runs_on seen own state u o = record { was = u; unit = u; began = λ h. h; starts = λ start b i. i; opened = o }

goes_ran : (shared : Bool) (seen : Seen) (state in_unit : TxnState) (s : StreamNo) (q : BoundStmt) (own : ℕ) (rows : Bool) (e : Entry) (went : Went) → Runs seen own state in_unit
    → MayRun s q own e → takes_ran rows in_unit e ≡ Some went → Goes shared seen state (Some e) (Some (state_after state went))
goes_ran shared seen state in_unit s q own rows (entry.Ran unit p a) went r m t = lift shared seen state _ _ went t (record { own = r.was ∙ ap Some (sym m.0); unit = r.unit ∙ sym r.was; began = r.began; starts = r.starts; opened = λ h. r.opened; denied = tt; first = λ alone. tt })
goes_ran shared seen state in_unit s q own rows (entry.Failed by (Some unit) why) went r m t = lift shared seen state _ _ went t (record { own = r.was ∙ ap Some (sym m.1); unit = refl; began = λ h. tt; starts = λ start b i. tt; opened = λ h. r.opened; denied = tt; first = λ alone. tt })
goes_ran shared seen state in_unit s q own rows e went r m t = absurd m

-- a reader whose unit began at the current version
runs_upgraded : (seen : Seen) (u own had began : ℕ) → own ≡ u → began ≡ had → seen.version ≤ began → Runs seen own (Reading u had) (Writing own)
runs_upgraded seen u own had began i h now = record { was = ap Some (sym i); unit = refl; began = λ b. tt; starts = λ start b e. omega (arith, now, b, e, h); opened = refl }

goes_upgrade : (shared : Bool) (seen : Seen) (s : StreamNo) (q : BoundStmt) (u own had began : ℕ) (rows : Bool) (e : Entry) (went : Went) → own ≡ u → began ≡ had
    → MayUpgrade seen s q own began e → takes_upgrade rows (Reading u had) own e ≡ Some went → Goes shared seen (Reading u had) (Some e) (Some (state_after (Reading u had) went))
goes_upgrade shared seen s q u own had began rows (entry.Denied unit (deny.Stale told now)) went i h m t = lift shared seen (Reading u had) _ _ went t (record { own = ap Some (sym i ∙ sym m.0); unit = refl; began = λ b. b; starts = λ start b e. e; opened = λ o. o; denied = (m.1 ∙ h, m.2, stale m.1 m.2 m.3); first = λ alone. tt })
  where
    stale : told ≡ began → now ≡ seen.version → began < seen.version → told < now
    stale a b l = omega (arith, a, b, l)
goes_upgrade shared seen s q u own had began rows (entry.Denied unit (deny.Held by)) went i h m t = lift shared seen (Reading u had) _ _ went t (record { own = ap Some (sym i ∙ sym m.0); unit = refl; began = λ b. b; starts = λ start b e. e; opened = λ o. o; denied = (refl, m.1); first = λ alone. tt })
goes_upgrade shared seen s q u own had began rows (entry.Ran unit p a) went i h m t = goes_ran shared seen (Reading u had) (Writing own) s q own rows (entry.Ran unit p a) went (runs_upgraded seen u own had began i h m.1) m.2 t
goes_upgrade shared seen s q u own had began rows (entry.Failed by (Some unit) why) went i h m t = goes_ran shared seen (Reading u had) (Writing own) s q own rows (entry.Failed by (Some unit) why) went (runs_upgraded seen u own had began i h m.1) m.2 t
goes_upgrade shared seen s q u own had began rows e went i h m t = absurd m.2

goes_ended : (shared : Bool) (seen : Seen) (state : TxnState) (own : ℕ) (end : How) (went : Went) → unit_of state ≡ Some own → is_open (Some state) ≡ true → takes_ended (entry.Ended own end) ≡ Some went → Goes shared seen state (Some (entry.Ended own end)) (Some (state_after state went))
goes_ended shared seen state own end went u o t = lift shared seen state _ _ went t (record { own = u; unit = refl; began = λ h. tt; starts = λ start b i. tt; opened = λ h. o; denied = tt; first = λ alone. tt })

goes_commit : (shared : Bool) (seen : Seen) (state : TxnState) (s : StreamNo) (own : ℕ) (e : Entry) (went : Went) → unit_of state ≡ Some own → is_open (Some state) ≡ true → MayCommit s own e → takes_ended e ≡ Some went → Goes shared seen state (Some e) (Some (state_after state went))
goes_commit shared seen state s own (entry.Ended unit how.Committed) went u o m t = lift shared seen state _ _ went t (record { own = u ∙ ap Some (sym m); unit = refl; began = λ h. tt; starts = λ start b i. tt; opened = λ h. o; denied = tt; first = λ alone. tt })
goes_commit shared seen state s own (entry.Failed by (Some unit) why) went u o m t = lift shared seen state _ _ went t (record { own = u ∙ ap Some (sym m.1); unit = refl; began = λ h. tt; starts = λ start b i. tt; opened = λ h. o; denied = tt; first = λ alone. tt })
goes_commit shared seen state s own e went u o m t = absurd m

-- the entry is this one
goes_as : (shared : Bool) (seen : Seen) (state : TxnState) (own : ℕ) (end : How) (e : Entry) (went : Went) → unit_of state ≡ Some own → is_open (Some state) ≡ true → e ≡ entry.Ended own end → takes_ended e ≡ Some went → Goes shared seen state (Some e) (Some (state_after state went))
goes_as shared seen state own end e went u o i t = subst (λ (x : Entry). Goes shared seen state (Some x) (Some (state_after state went))) (sym i) (goes_ended shared seen state own end went u o (ap takes_ended (sym i) ∙ t))

shares : {P : Type 0} (shared : Bool) → shared ≡ true → shared ≡ false → P
shares shared e f = absurd (true_not_false (sym e ∙ f))

goes_row : (shared : Bool) (c : Class) (state : TxnState) (r : Row) (seen : Seen) (s : StreamNo) (q : BoundStmt) (rows : Bool) (e : Entry) (went : Went) → Stands shared c state r → (wants_turn r ≡ true → seen.by ≡ None)
    → MayAdd seen s q r e → takes (λ unit. seen.version) rows state r e ≡ Some went → Goes shared seen state (Some e) (Some (state_after state went))
goes_row shared c Auto row.Alone seen s q rows e went h free m t = goes_alone shared seen Auto s q rows e went refl (λ alone. free refl) m t
goes_row shared c Auto row.ReadAlone seen s q rows e went h free m t = goes_alone shared seen Auto s q rows e went refl (shares shared h.0) m t
goes_row shared c Auto row.Begin seen s q rows e went h free m t = goes_begun shared seen Auto s _ e went (begins_writer seen) refl refl (λ alone. free refl) m t
goes_row shared c Deferred row.BeginFirst seen s q rows e went h free m t = goes_begun shared seen Deferred s _ e went (begins_writer seen) refl refl (λ alone. free refl) m t
goes_row shared c Deferred row.ReadFirst seen s q rows e went h free m t = goes_begun shared seen Deferred s _ e went (begins_reader seen) refl refl (shares shared h) m t
goes_row shared c (Reading u had) (row.Run w) seen s q rows e went h free m t = goes_ran shared seen (Reading u had) (Reading u had) s q w rows e went (runs_on seen w (Reading u had) (ap Some (sym h.0)) refl) m t
goes_row shared c (Reading u had) (row.Upgrade w began) seen s q rows e went h free m t = goes_upgrade shared seen s q u w had began rows e went h.0 h.1 m t
goes_row shared c (Reading u had) (row.EndRead w) seen s q rows e went h free m t = goes_as shared seen (Reading u had) w how.Read e went (ap Some (sym h)) refl m t
goes_row shared c (Reading u had) (row.Undo w) seen s q rows e went h free m t = goes_as shared seen (Reading u had) w (how.Undone undo.Rollback) e went (ap Some (sym h)) refl m t
goes_row shared c (Writing u) (row.Run w) seen s q rows e went h free m t = goes_ran shared seen (Writing u) (Writing u) s q w rows e went (runs_on seen w (Writing u) (ap Some (sym h.0)) refl) m t
goes_row shared c (Writing u) (row.Commit w) seen s q rows e went h free m t = goes_commit shared seen (Writing u) s w e went (ap Some (sym h)) refl m t
goes_row shared c (Writing u) (row.Undo w) seen s q rows e went h free m t = goes_as shared seen (Writing u) w (how.Undone undo.Rollback) e went (ap Some (sym h)) refl m t
goes_row shared c state r seen s q rows e went h free m t = absurd h

-- ---- a statement

-- the state after a statement for which no entry is added
still : (shared : Bool) (seen : Seen) (state next : TxnState) (added : Option Entry) (w went : Went) → added ≡ None → went ≡ w → state_after state w ≡ next → Goes shared seen state None (Some next) → Goes shared seen state added (Some (state_after state went))
still shared seen state next added w went a e n h =
    subst (λ x. Goes shared seen state x (Some (state_after state went))) (sym a) (subst (λ (x : TxnState). Goes shared seen state None (Some x)) (sym n ∙ ap (state_after state) (sym e)) h)

becomes_as : (shared : Bool) (seen : Seen) (state p next : TxnState) → Becomes p ≡ Becomes next → Goes shared seen state None (Some p) → Goes shared seen state None (Some next)
becomes_as shared seen state p next e h = let same : p ≡ next = cc in subst (λ x. Goes shared seen state None (Some x)) same h

becomes : (shared : Bool) (seen : Seen) (state next : TxnState) (c : Class) → plan shared state c ≡ Becomes next → Goes shared seen state None (Some next)
becomes shared seen Auto next (class.Begin mode.Deferred) e = becomes_as shared seen Auto Deferred next e (record { own = tt; unit = refl; began = λ h. tt; starts = λ start b i. tt; opened = λ h. refl; denied = tt; first = λ alone. tt })
becomes shared seen Auto next (class.Begin mode.Immediate) e = absurd (cc)
becomes shared seen Auto next class.Commit e = absurd (cc)
becomes shared seen Auto next class.Rollback e = absurd (cc)
becomes shared seen Auto next class.Savepoint e = absurd (cc)
becomes shared seen Auto next class.Barred e = absurd (cc)
becomes shared seen Auto next class.Empty e = absurd (cc)
becomes shared seen Auto next class.Read e = absurd (cc)
becomes shared seen Auto next class.Write e = absurd (cc)
becomes shared seen Deferred next class.Commit e = becomes_as shared seen Deferred Auto next e (record { own = tt; unit = refl; began = λ h. tt; starts = λ start b i. tt; opened = λ h. refl; denied = tt; first = λ alone. tt })
becomes shared seen Deferred next class.Rollback e = becomes_as shared seen Deferred Auto next e (record { own = tt; unit = refl; began = λ h. tt; starts = λ start b i. tt; opened = λ h. refl; denied = tt; first = λ alone. tt })
becomes shared seen Deferred next (class.Begin m) e = absurd (cc)
becomes shared seen Deferred next class.Savepoint e = absurd (cc)
becomes shared seen Deferred next class.Barred e = absurd (cc)
becomes shared seen Deferred next class.Empty e = absurd (cc)
becomes shared seen Deferred next class.Read e = absurd (cc)
becomes shared seen Deferred next class.Write e = absurd (cc)
becomes shared seen (Reading u had) next (class.Begin m) e = absurd (cc)
becomes shared seen (Reading u had) next class.Commit e = absurd (cc)
becomes shared seen (Reading u had) next class.Rollback e = absurd (cc)
becomes shared seen (Reading u had) next class.Savepoint e = absurd (cc)
becomes shared seen (Reading u had) next class.Barred e = absurd (cc)
becomes shared seen (Reading u had) next class.Empty e = absurd (cc)
becomes shared seen (Reading u had) next class.Read e = absurd (cc)
becomes shared seen (Reading u had) next class.Write e = absurd (cc)
becomes shared seen (Writing u) next (class.Begin m) e = absurd (cc)
becomes shared seen (Writing u) next class.Commit e = absurd (cc)
becomes shared seen (Writing u) next class.Rollback e = absurd (cc)
becomes shared seen (Writing u) next class.Savepoint e = absurd (cc)
becomes shared seen (Writing u) next class.Barred e = absurd (cc)
becomes shared seen (Writing u) next class.Empty e = absurd (cc)
becomes shared seen (Writing u) next class.Read e = absurd (cc)
becomes shared seen (Writing u) next class.Write e = absurd (cc)
becomes shared seen (Dead why) next c e = absurd (cc)
becomes shared seen Closed next c e = absurd (cc)

goes_acts : (shared : Bool) (c : Class) (s : StreamNo) (seen : Seen) (state : TxnState) (rows : Bool) (ready : Prepared) (r : Row) (added : Option Entry) (went : Went) → plan shared state c ≡ Adds r → RowPolls s seen state rows ready r added went → Goes shared seen state added (Some (state_after state went))
goes_acts shared c s seen state rows ready r None went p h = still shared seen state state None Waits went refl h.waits refl (goes_same shared seen state)
goes_acts shared c s seen state rows ready r (Some e) went p h = goes_row shared c state r seen s h.stmt rows e went (stands shared c state r p) h.free h.may h.means

goes_plan : (shared : Bool) (c : Class) (s : StreamNo) (seen : Seen) (state : TxnState) (rows : Bool) (ready : Prepared) (p : Plan) (added : Option Entry) (went : Went) → plan shared state c ≡ p → PlanPolls s seen state rows ready p added went → Goes shared seen state added (Some (state_after state went))
goes_plan shared c s seen state rows ready (Refuses code) added went p h = still shared seen state state added _ went h.0 h.1 refl (goes_same shared seen state)
goes_plan shared c s seen state rows ready (Becomes next) added went p h = still shared seen state next added _ went h.0 h.1 refl (becomes shared seen state next c p)
goes_plan shared c s seen state rows ready (Adds r) added went p h = goes_acts shared c s seen state rows ready r added went p h

goes_ready : (shared : Bool) (s : StreamNo) (seen : Seen) (state : TxnState) (rows : Bool) (ready : Result Prepared Code) (added : Option Entry) (went : Went) → ReadyPolls shared s seen state rows ready added went → Goes shared seen state added (Some (state_after state went))
goes_ready shared s seen state rows (Err code) added went h = still shared seen state state added _ went h.0 h.1 refl (goes_same shared seen state)
goes_ready shared s seen state rows (Ok ready) added went h = goes_plan shared ready.class s seen state rows ready _ added went refl h

left_after : (state left : TxnState) (went : Went) → left_by went ≡ Some left → state_after state went ≡ left
left_after state left Waits e = absurd (none_some e)
left_after state left (Still next) e = some_one e
left_after state left (Out o next) e = some_one e
left_after state left (Stopped c next) e = some_one e
left_after state left (Short next) e = absurd (none_some e)

goes_falls : (shared : Bool) (s : StreamNo) (seen : Seen) (state : TxnState) (rows : Bool) (ready : Result Prepared Code) (added : Option Entry) (left : TxnState) → Falls shared s seen state rows ready added left → Goes shared seen state added (Some left)
goes_falls shared s seen state rows ready None left h = subst (λ x. Goes shared seen state None (Some x)) (sym h) (goes_same shared seen state)
goes_falls shared s seen state rows ready (Some e) left h = subst (λ x. Goes shared seen state (Some e) (Some x)) (left_after state left h.went h.left_is) (goes_ready shared s seen state rows ready (Some e) h.went h.polls)

goes_statement : (shared : Bool) (s : StreamNo) (seen : Seen) (state : TxnState) (texts : List StoredText) (stmt : Stmt) (added : Option Entry) (went : Went) → PollsStatement shared s seen state texts stmt added went → Goes shared seen state added (Some (state_after state went))
goes_statement shared s seen state texts stmt added (Short left) h = goes_falls shared s seen state stmt.want_rows (ready_of texts stmt) added left h
goes_statement shared s seen state texts stmt added Waits h = goes_ready shared s seen state stmt.want_rows (ready_of texts stmt) added Waits h
goes_statement shared s seen state texts stmt added (Still next) h = goes_ready shared s seen state stmt.want_rows (ready_of texts stmt) added (Still next) h
goes_statement shared s seen state texts stmt added (Out o next) h = goes_ready shared s seen state stmt.want_rows (ready_of texts stmt) added (Out o next) h
goes_statement shared s seen state texts stmt added (Stopped c next) h = goes_ready shared s seen state stmt.want_rows (ready_of texts stmt) added (Stopped c next) h

-- ---- the end of a unit

shut_unit : (x : Option TxnState) → is_open x ≡ false → unit_at x ≡ None
shut_unit None o = refl
shut_unit (Some (Dead why)) o = refl
shut_unit (Some Closed) o = refl
shut_unit (Some Auto) o = refl
shut_unit (Some Deferred) o = refl
shut_unit (Some (Reading unit had)) o = never (sym o)
shut_unit (Some (Writing unit)) o = never (sym o)

shut_began : (v : ℕ) (x : Option TxnState) → is_open x ≡ false → BeganBy v x
shut_began v None o = tt
shut_began v (Some (Dead why)) o = tt
shut_began v (Some Closed) o = tt
shut_began v (Some Auto) o = tt
shut_began v (Some Deferred) o = tt
shut_began v (Some (Reading unit had)) o = never (sym o)
shut_began v (Some (Writing unit)) o = tt

shut_starts : (v : ℕ) (x : Option TxnState) (start : ℕ) → is_open x ≡ false → StartsBy v x start
shut_starts v None start o = tt
shut_starts v (Some (Dead why)) start o = tt
shut_starts v (Some Closed) start o = tt
shut_starts v (Some Auto) start o = tt
shut_starts v (Some Deferred) start o = tt
shut_starts v (Some (Reading unit had)) start o = never (sym o)
shut_starts v (Some (Writing unit)) start o = never (sym o)

-- a stream that is shut or gone, after an entry that ends a unit or none
ends_shut : (shared : Bool) (seen : Seen) (state : TxnState) (unit : ℕ) (end : How) (next : Option TxnState) → unit_of state ≡ Some unit → is_open next ≡ false → Goes shared seen state (Some (entry.Ended unit end)) next
ends_shut shared seen state unit end next u o = record { own = u; unit = shut_unit next o; began = λ h. shut_began seen.version next o; starts = λ start b i. shut_starts seen.version next start o; opened = λ h. never (sym o ∙ h); denied = tt; first = λ alone. tt }

stays_shut : (shared : Bool) (seen : Seen) (state : TxnState) (next : Option TxnState) → unit_of state ≡ None → is_open next ≡ false → Goes shared seen state None next
stays_shut shared seen state next n o = record { own = tt; unit = shut_unit next o ∙ sym n; began = λ h. shut_began seen.version next o; starts = λ start b i. shut_starts seen.version next start o; opened = λ h. never (sym o ∙ h); denied = tt; first = λ alone. tt }

-- the entry that ends the unit of a state, and a state that has none
pub goes_undone : (shared : Bool) (seen : Seen) (why : Undo) (state : TxnState) (next : Option TxnState) → is_open next ≡ false → Goes shared seen state (undone_of why state) next
goes_undone shared seen why (Reading unit had) next o = ends_shut shared seen (Reading unit had) unit (how.Undone why) next refl o
goes_undone shared seen why (Writing unit) next o = ends_shut shared seen (Writing unit) unit (how.Undone why) next refl o
goes_undone shared seen why Auto next o = stays_shut shared seen Auto next refl o
goes_undone shared seen why Deferred next o = stays_shut shared seen Deferred next refl o
goes_undone shared seen why (Dead cause) next o = stays_shut shared seen (Dead cause) next refl o
goes_undone shared seen why Closed next o = stays_shut shared seen Closed next refl o

-- ---- a request

shut_goes : (shared : Bool) (seen : Seen) (state : TxnState) → is_shut state ≡ true → Goes shared seen state None (Some Closed)
shut_goes shared seen (Dead cause) e = stays_shut shared seen (Dead cause) (Some Closed) refl refl
shut_goes shared seen Closed e = goes_same shared seen Closed
shut_goes shared seen Auto e = never e
shut_goes shared seen Deferred e = never e
shut_goes shared seen (Reading unit had) e = never e
shut_goes shared seen (Writing unit) e = never e

goes_answer : (shared : Bool) (seen : Seen) (state : TxnState) (a : Advanced) → Answered state a → Goes shared seen state None (Some (state_left state a))
goes_answer shared seen state (advanced.Replied r next) (inl same) = subst (λ x. Goes shared seen state None (Some x)) (sym same) (goes_same shared seen state)
goes_answer shared seen state (advanced.Replied r next) (inr shut) = subst (λ x. Goes shared seen state None (Some x)) (sym shut.1) (shut_goes shared seen state shut.0)
goes_answer shared seen state (advanced.Waits w) h = absurd h
goes_answer shared seen state (advanced.Ran w next) h = absurd h
goes_answer shared seen state (advanced.Broke next) h = absurd h

-- it is so of the state that is left
left_is : (shared : Bool) (seen : Seen) (state : TxnState) (added e : Option Entry) (result a : Advanced) → added ≡ e → result ≡ a → Goes shared seen state e (Some (state_left state a)) → Goes shared seen state added (Some (state_left state result))
left_is shared seen state added e result a i r h = subst (λ x. Goes shared seen state x (Some (state_left state result))) (sym i) (subst (λ x. Goes shared seen state e (Some (state_left state x))) (sym r) h)

goes_does : (shared : Bool) (s : StreamNo) (seen : Seen) (session : Session) (t : Todo) (added : Option Entry) (result : Advanced) → StartsTodo session t → Does shared s seen session t added result → Goes shared seen session.state added (Some (state_left session.state result))
goes_does shared s seen session (todo.Answer a) added result starts d = left_is shared seen session.state added None result a d.no_entry d.answer (goes_answer shared seen session.state a starts)
goes_does shared s seen session (todo.Poll running) added result starts d =
    subst (λ x. Goes shared seen session.state added (Some x)) (leaves_as running session.state d.went result d.leaves).state
    (goes_statement shared s seen session.state session.texts d.stmt added d.went d.polls)
goes_does shared s seen session (todo.StoreSql text) added result starts d = left_is shared seen session.state added None result _ d.no_entry d.answer (goes_same shared seen session.state)
goes_does shared s seen session (todo.CloseSql id) added result starts d = left_is shared seen session.state added None result _ d.no_entry d.answer (goes_same shared seen session.state)
goes_does shared s seen session todo.Close added result starts d = left_is shared seen session.state added _ result _ d.undone d.answer (goes_undone shared seen undo.Close session.state (Some Closed) refl)

goes_work : (shared : Bool) (s : StreamNo) (seen : Seen) (session : Session) (w : Work) (added : Option Entry) (result : Advanced) → PollsWork shared s seen session w added result → Goes shared seen session.state added (Some (state_left session.state result))
goes_work shared s seen session w added result (inl d) = goes_does shared s seen session (todo_of session w) added result (todo_starts session w) d
goes_work shared s seen session w added result (inr f) = left_is shared seen session.state added None result _ f.no_entry f.answer (goes_same shared seen session.state)

-- ---- a stream

goes_asks : (shared : Bool) (seen : Seen) (old : Task) (asks : List Work) (added : Option Entry) (result : Poll Stepped) (new : Task) → PollsAsks shared seen old asks added result new → Goes shared seen old.session.state added (Some new.session.state)
goes_asks shared seen old [] added result new h =
    subst (λ (x : Task). Goes shared seen old.session.state added (Some x.session.state)) (sym h.same) (subst (λ x. Goes shared seen old.session.state x (Some old.session.state)) (sym h.no_entry) (goes_same shared seen old.session.state))
goes_asks shared seen old (w ∷ rest) added result new h =
    subst (λ (x : Task). Goes shared seen old.session.state added (Some x.session.state)) (sym h.after) (goes_work shared old.stream seen old.session w added h.advanced h.polls)

pub goes_polls : (shared : Bool) (seen : Seen) (old : Task) (added : Option Entry) (result : Poll Stepped) (new : Task) → Polls shared seen old added result new → Goes shared seen old.session.state added (Some new.session.state)
goes_polls shared seen old added result new h = goes_asks shared seen old old.asks added result new h
