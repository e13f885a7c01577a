-- What a poll of a statement leaves of the statement's meaning.
use Rattle.std.proofs.Common.{◌≡◌, ℕ, Bool, true, false, List, [], ◌∷◌, ◌++◌, Option, Some, None, Result, Ok, Err, option_to_list, refl, sym, ap, ◌∙◌, subst}
use Rattle.hrana_value.specs.declared.StreamNo.{StreamNo}
use Rattle.hrana_stmt.specs.Codes.{error_of}
use Rattle.hrana_stmt.specs.declared.codes.Code.{Code}
use Rattle.hrana_stmt.specs.declared.statements.Stmt.{Stmt}
use Rattle.hrana_batch.specs.declared.outcomes.Outcome.{Outcome}
use Rattle.hrana_batch.specs.declared.outcomes.Outcome.TheVariants as outcome
use Rattle.sql_text.specs.declared.class.Class.{Class}
use Rattle.sql_text.specs.declared.class.Class.TheVariants as class
use Rattle.sql_text.specs.declared.class.Mode.TheVariants as mode
use Rattle.sql_text.specs.declared.prepared.Prepared.{Prepared}
use Rattle.engine_core.specs.declared.entries.Entry.{Entry}
use Rattle.engine_core.specs.declared.entries.Entry.TheVariants as entry
use Rattle.stream_task.specs.Session.{is_auto, is_shut}
use Rattle.stream_task.specs.Checks.{ready_of}
use Rattle.stream_task.specs.Table.{plan, takes, takes_alone, begun_by, takes_begun, takes_ran, takes_upgrade, takes_ended, Seen, IsVersioned, empty_result}
use Rattle.stream_task.specs.Adds.{PollsStatement, ReadyPolls, PlanPolls}
use Rattle.stream_task.specs.Means.{took, broke, took_went, class_means, ready_means}
use Rattle.stream_task.specs.declared.session.TxnState.{TxnState}
use Rattle.stream_task.specs.declared.session.TxnState.TheVariants.{Auto, Deferred, Reading, Writing, Dead, Closed}
use Rattle.stream_task.specs.declared.texts.StoredText.{StoredText}
use Rattle.stream_task.specs.declared.table.Row.{Row}
use Rattle.stream_task.specs.declared.table.Row.TheVariants as row
use Rattle.stream_task.specs.declared.table.Plan.{Plan}
use Rattle.stream_task.specs.declared.table.Plan.TheVariants.{Refuses, Becomes, Adds}
use Rattle.stream_task.specs.declared.table.Went.{Went}
use Rattle.stream_task.specs.declared.table.Went.TheVariants.{Waits, Still, Out, Stopped, Short}

-- ---- the version of a unit that begins is the one that is seen

seen_as : (had : ℕ → ℕ) (seen : Seen) (want_rows : Bool) (s : TxnState) (r : Row) (e : Entry) → IsVersioned had seen (Some e) → takes had want_rows s r e ≡ takes (λ unit. seen.version) want_rows s r e
seen_as had seen want_rows s row.ReadFirst (entry.Began unit by) h = ap (λ v. Some (Still (Reading unit v))) h
seen_as had seen want_rows s row.ReadFirst (entry.Failed by None why) h = refl
seen_as had seen want_rows s row.ReadFirst e h = refl
seen_as had seen want_rows s r e h = refl

-- ---- what an entry leaves of an open session

-- a statement that is still to run leaves open whether the session is in autocommit
abbrev pub Keeps : TxnState → Went → Type 0
Keeps s Waits = ⊥
Keeps s (Still u) = (is_auto s ≡ is_auto u) × (is_shut u ≡ false)
Keeps s (Out o u) = is_shut u ≡ false
Keeps s (Stopped c u) = Unit {0}
Keeps s (Short u) = Unit {0}

abbrev KeepsTaken : TxnState → Option Went → Type 0
KeepsTaken s None = Unit {0}
KeepsTaken s (Some w) = Keeps s w

abbrev FirstIn : Row → TxnState → Type 0
FirstIn row.BeginFirst s = is_auto s ≡ false
FirstIn row.ReadFirst s = is_auto s ≡ false
FirstIn r s = Unit {0}

any_first : (r : Row) (s : TxnState) → is_auto s ≡ false → FirstIn r s
any_first row.BeginFirst s h = h
any_first row.ReadFirst s h = h
any_first r s h = tt

first_in : (shared : Bool) (s : TxnState) (c : Class) (r : Row) → plan shared s c ≡ Adds r → FirstIn r s
first_in shared Auto c r p = by_class shared c r p
  where
    at : (x r : Row) → Adds x ≡ Adds r → FirstIn x Auto → FirstIn r Auto
    at x r e f = let same : x ≡ r = cc in subst (λ y. FirstIn y Auto) same f

    by_class : (shared : Bool) (c : Class) (r : Row) → plan shared Auto c ≡ Adds r → FirstIn r Auto
    by_class shared (class.Begin mode.Deferred) r p = absurd (cc)
    by_class shared (class.Begin mode.Immediate) r p = at row.Begin r p tt
    by_class true class.Read r p = at row.ReadAlone r p tt
    by_class false class.Read r p = at row.Alone r p tt
    by_class shared class.Write r p = at row.Alone r p tt
    by_class shared c r p = absurd (cc)
first_in shared Deferred c r p = any_first r Deferred refl
first_in shared (Reading unit had) c r p = any_first r (Reading unit had) refl
first_in shared (Writing unit) c r p = any_first r (Writing unit) refl
first_in shared (Dead why) c r p = absurd (cc)
first_in shared Closed c r p = absurd (cc)

keeps_alone : (want_rows : Bool) (s : TxnState) (e : Entry) → is_shut s ≡ false → KeepsTaken s (takes_alone want_rows s e)
keeps_alone want_rows s (entry.Alone by ran given has_written) o = o
keeps_alone want_rows s (entry.Failed by None why) o = tt
keeps_alone want_rows s e o = tt

keeps_begun : (s : TxnState) (begun : ℕ → Went) (b : Option (Result ℕ Code)) → ((unit : ℕ) → Keeps s (begun unit)) → KeepsTaken s (takes_begun s begun b)
keeps_begun s begun None k = tt
keeps_begun s begun (Some (Ok unit)) k = k unit
keeps_begun s begun (Some (Err c)) k = tt

keeps_ran : (want_rows : Bool) (s u : TxnState) (e : Entry) → is_shut u ≡ false → KeepsTaken s (takes_ran want_rows u e)
keeps_ran want_rows s u (entry.Ran unit ran given) o = o
keeps_ran want_rows s u (entry.Failed by (Some unit) why) o = tt
keeps_ran want_rows s u e o = tt

keeps_upgrade : (want_rows : Bool) (s : TxnState) (own : ℕ) (e : Entry) → is_shut s ≡ false → KeepsTaken s (takes_upgrade want_rows s own e)
keeps_upgrade want_rows s own (entry.Denied unit why) o = o
keeps_upgrade want_rows s own (entry.Ran unit ran given) o = refl
keeps_upgrade want_rows s own (entry.Failed by (Some unit) why) o = tt
keeps_upgrade want_rows s own e o = tt

keeps_ended : (s : TxnState) (e : Entry) → KeepsTaken s (takes_ended e)
keeps_ended s (entry.Ended unit end) = refl
keeps_ended s (entry.Failed by (Some unit) why) = tt
keeps_ended s e = tt

keeps_row : (had : ℕ → ℕ) (want_rows : Bool) (s : TxnState) (r : Row) (e : Entry) → is_shut s ≡ false → FirstIn r s → KeepsTaken s (takes had want_rows s r e)
keeps_row had want_rows s row.Alone e o f = keeps_alone want_rows s e o
keeps_row had want_rows s row.ReadAlone e o f = keeps_alone want_rows s e o
keeps_row had want_rows s row.Begin e o f = keeps_begun s _ (begun_by e) (λ unit. refl)
keeps_row had want_rows s row.BeginFirst e o f = keeps_begun s _ (begun_by e) (λ unit. (f, refl))
keeps_row had want_rows s row.ReadFirst e o f = keeps_begun s _ (begun_by e) (λ unit. (f, refl))
keeps_row had want_rows s (row.Run unit) e o f = keeps_ran want_rows s s e o
keeps_row had want_rows s (row.Upgrade unit began) e o f = keeps_upgrade want_rows s unit e o
keeps_row had want_rows s (row.Commit unit) e o f = keeps_ended s e
keeps_row had want_rows s (row.EndRead unit) e o f = keeps_ended s e
keeps_row had want_rows s (row.Undo unit) e o f = keeps_ended s e

pub becomes_open : (shared : Bool) (s : TxnState) (c : Class) (u : TxnState) → plan shared s c ≡ Becomes u → is_shut u ≡ false
becomes_open shared Auto (class.Begin mode.Deferred) u p = let same : Deferred ≡ u = cc in ap is_shut (sym same)
becomes_open shared Auto (class.Begin mode.Immediate) u p = absurd (cc)
becomes_open true Auto class.Read u p = absurd (cc)
becomes_open false Auto class.Read u p = absurd (cc)
becomes_open shared Auto c u p = absurd (cc)
becomes_open shared Deferred class.Commit u p = let same : Auto ≡ u = cc in ap is_shut (sym same)
becomes_open shared Deferred class.Rollback u p = let same : Auto ≡ u = cc in ap is_shut (sym same)
becomes_open shared Deferred c u p = absurd (cc)
becomes_open shared (Reading unit had) class.Commit u p = absurd (cc)
becomes_open shared (Reading unit had) c u p = absurd (cc)
becomes_open shared (Writing unit) class.Commit u p = absurd (cc)
becomes_open shared (Writing unit) c u p = absurd (cc)
becomes_open shared (Dead why) c u p = absurd (cc)
becomes_open shared Closed c u p = absurd (cc)

-- ---- the meaning of a statement, by its plan

refuses_means : (shared : Bool) (had : ℕ → ℕ) (want_rows : Bool) (c : Class) (es : List Entry) (s : TxnState) (refusal : Code) → plan shared s c ≡ Refuses refusal → class_means shared had want_rows c es s ≡ took (outcome.Failed (error_of refusal)) s es
refuses_means shared had want_rows c [] s refusal p = rw p refl
refuses_means shared had want_rows c (e ∷ es) s refusal p = rw p refl

becomes_means : (shared : Bool) (had : ℕ → ℕ) (want_rows : Bool) (c : Class) (es : List Entry) (s u : TxnState) → plan shared s c ≡ Becomes u → class_means shared had want_rows c es s ≡ took (outcome.Done empty_result) u es
becomes_means shared had want_rows c [] s u p = rw p refl
becomes_means shared had want_rows c (e ∷ es) s u p = rw p refl

adds_means : (shared : Bool) (had : ℕ → ℕ) (want_rows : Bool) (c : Class) (e : Entry) (es : List Entry) (s : TxnState) (r : Row) → plan shared s c ≡ Adds r → class_means shared had want_rows c (e ∷ es) s ≡ took_went (takes had want_rows s r e) es (λ next. class_means shared had want_rows c es next)
adds_means shared had want_rows c e es s r p = rw p refl

-- What a poll leaves of a statement: `es` is what was used from before it on, and `rest` from after it on.
abbrev pub StatementLeaves : Bool → (ℕ → ℕ) → Bool → Result Prepared Code → TxnState → List Entry → List Entry → Went → Type 0
StatementLeaves shared had want_rows ready s es rest Waits = es ≡ rest
StatementLeaves shared had want_rows ready s es rest (Still u) = (ready_means shared had want_rows ready es s ≡ ready_means shared had want_rows ready rest u) × (is_auto s ≡ is_auto u) × (is_shut u ≡ false)
StatementLeaves shared had want_rows ready s es rest (Out o u) = (ready_means shared had want_rows ready es s ≡ took o u rest) × (is_shut u ≡ false)
StatementLeaves shared had want_rows ready s es rest (Stopped c u) = ready_means shared had want_rows ready es s ≡ broke c u rest
StatementLeaves shared had want_rows ready s es rest (Short u) = Unit {0}

out_leaves : (shared : Bool) (had : ℕ → ℕ) (want_rows : Bool) (ready : Result Prepared Code) (s : TxnState) (rest : List Entry) (added : Option Entry) (w : Went) (o : Outcome) (u : TxnState)
    → added ≡ None → w ≡ Out o u → ready_means shared had want_rows ready rest s ≡ took o u rest → is_shut u ≡ false → StatementLeaves shared had want_rows ready s (option_to_list added ++ rest) rest w
out_leaves shared had want_rows ready s rest added w o u a e m k =
    subst (λ x. StatementLeaves shared had want_rows ready s (option_to_list x ++ rest) rest w) (sym a) (subst (λ x. StatementLeaves shared had want_rows ready s rest rest x) (sym e) (m, k))

went_leaves : (shared : Bool) (had : ℕ → ℕ) (want_rows : Bool) (ready : Prepared) (s : TxnState) (es rest : List Entry) (w : Went)
    → class_means shared had want_rows ready.class es s ≡ took_went (Some w) rest (λ next. class_means shared had want_rows ready.class rest next) → Keeps s w → StatementLeaves shared had want_rows (Ok ready) s es rest w
went_leaves shared had want_rows ready s es rest Waits m k = absurd k
went_leaves shared had want_rows ready s es rest (Still u) m k = (m, k.0, k.1)
went_leaves shared had want_rows ready s es rest (Out o u) m k = (m, k)
went_leaves shared had want_rows ready s es rest (Stopped c u) m k = m
went_leaves shared had want_rows ready s es rest (Short u) m k = tt

plan_leaves : (shared : Bool) (had : ℕ → ℕ) (stream : StreamNo) (seen : Seen) (want_rows : Bool) (ready : Prepared) (s : TxnState) (p : Plan) (added : Option Entry) (w : Went) (rest : List Entry)
    → plan shared s ready.class ≡ p → is_shut s ≡ false → IsVersioned had seen added → PlanPolls stream seen s want_rows ready p added w → StatementLeaves shared had want_rows (Ok ready) s (option_to_list added ++ rest) rest w
plan_leaves shared had stream seen want_rows ready s (Refuses c) added w rest p o v h = out_leaves shared had want_rows (Ok ready) s rest added w _ _ h.0 h.1 (refuses_means shared had want_rows ready.class rest s c p) o
plan_leaves shared had stream seen want_rows ready s (Becomes u) added w rest p o v h = out_leaves shared had want_rows (Ok ready) s rest added w _ _ h.0 h.1 (becomes_means shared had want_rows ready.class rest s u p) (becomes_open shared s ready.class u p)
plan_leaves shared had stream seen want_rows ready s (Adds r) None w rest p o v h = subst (λ x. StatementLeaves shared had want_rows (Ok ready) s rest rest x) (sym h.waits) refl
plan_leaves shared had stream seen want_rows ready s (Adds r) (Some e) w rest p o v h =
    went_leaves shared had want_rows ready s (e ∷ rest) rest w
    (adds_means shared had want_rows ready.class e rest s r p ∙ ap (λ x. took_went x rest (λ next. class_means shared had want_rows ready.class rest next)) taken)
    (subst (KeepsTaken s) taken (keeps_row had want_rows s r e o (first_in shared s ready.class r p)))
  where
    taken : takes had want_rows s r e ≡ Some w
    taken = seen_as had seen want_rows s r e v ∙ h.means

ready_leaves : (shared : Bool) (had : ℕ → ℕ) (stream : StreamNo) (seen : Seen) (want_rows : Bool) (ready : Result Prepared Code) (s : TxnState) (added : Option Entry) (w : Went) (rest : List Entry)
    → is_shut s ≡ false → IsVersioned had seen added → ReadyPolls shared stream seen s want_rows ready added w → StatementLeaves shared had want_rows ready s (option_to_list added ++ rest) rest w
ready_leaves shared had stream seen want_rows (Err c) s added w rest o v h = out_leaves shared had want_rows (Err c) s rest added w _ _ h.0 h.1 refl o
ready_leaves shared had stream seen want_rows (Ok ready) s added w rest o v h = plan_leaves shared had stream seen want_rows ready s (plan shared s ready.class) added w rest refl o v h

pub statement_leaves : (shared : Bool) (had : ℕ → ℕ) (stream : StreamNo) (seen : Seen) (s : TxnState) (texts : List StoredText) (stmt : Stmt) (added : Option Entry) (w : Went) (rest : List Entry)
    → is_shut s ≡ false → IsVersioned had seen added → PollsStatement shared stream seen s texts stmt added w → StatementLeaves shared had stmt.want_rows (ready_of texts stmt) s (option_to_list added ++ rest) rest w
statement_leaves shared had stream seen s texts stmt added Waits rest o v h = ready_leaves shared had stream seen stmt.want_rows (ready_of texts stmt) s added Waits rest o v h
statement_leaves shared had stream seen s texts stmt added (Still u) rest o v h = ready_leaves shared had stream seen stmt.want_rows (ready_of texts stmt) s added (Still u) rest o v h
statement_leaves shared had stream seen s texts stmt added (Out x u) rest o v h = ready_leaves shared had stream seen stmt.want_rows (ready_of texts stmt) s added (Out x u) rest o v h
statement_leaves shared had stream seen s texts stmt added (Stopped c u) rest o v h = ready_leaves shared had stream seen stmt.want_rows (ready_of texts stmt) s added (Stopped c u) rest o v h
statement_leaves shared had stream seen s texts stmt added (Short u) rest o v h = tt
