-- In which states a row stands, and what it needs there of the engine and the turn.
use Rattle.std.proofs.Common.{◌≡◌, ℕ, Bool, true, false, Option, Some, None, IsTrue, refl, sym, ap, ◌∙◌, subst}
use Rattle.std.specs.Option.{IsSome}
use Rattle.sql_text.specs.declared.class.Class.{Class}
use Rattle.sql_text.specs.declared.class.Class.TheVariants as class
use Rattle.sql_text.specs.declared.class.Mode.TheVariants as mode
use Rattle.txn_table.specs.Turns.{Turns}
use Rattle.engine_core.specs.Engine.{is_write, IsReadOrWrite}
use Rattle.engine_core.specs.Transactions.{Lives, View, NoWriter, NoOtherWriter, StartsAt, MayCommit}
use Rattle.stream_task.specs.Act.{IsGranted}
use Rattle.stream_task.specs.Moved.{turn_given}
use Rattle.stream_task.specs.Table.{plan, need_of}
use Rattle.stream_task.specs.declared.session.TxnState.{TxnState}
use Rattle.stream_task.specs.declared.session.TxnState.TheVariants.{Auto, Deferred, Reading, Writing, Dead, Closed}
use Rattle.stream_task.specs.declared.table.Row.{Row}
use Rattle.stream_task.specs.declared.table.Row.TheVariants as row
use Rattle.stream_task.specs.declared.table.Plan.TheVariants.{Adds}
use Rattle.stream_task.specs.declared.turns.Turn.TheVariants.{Taken}
use Rattle.stream_task.proofs.TurnLemmas.{none_some, some_one, took_upgrade, current_upgrade}

-- ---- the states in which a row stands, by the class of its statement

abbrev pub Stands : Bool → Class → TxnState → Row → Type 0
Stands shared c Auto row.Alone = IsReadOrWrite c
Stands shared c Auto row.ReadAlone = (shared ≡ true) × (c ≡ class.Read)
Stands shared c Auto row.Begin = Unit {0}
Stands shared c Deferred row.BeginFirst = Unit {0}
Stands shared c Deferred row.ReadFirst = shared ≡ true
Stands shared c (Reading u had) (row.Run v) = (v ≡ u) × (c ≡ class.Read)
Stands shared c (Reading u had) (row.Upgrade v h) = (v ≡ u) × (h ≡ had) × (c ≡ class.Write)
Stands shared c (Reading u had) (row.EndRead v) = v ≡ u
Stands shared c (Reading u had) (row.Undo v) = v ≡ u
Stands shared c (Writing u) (row.Run v) = (v ≡ u) × IsReadOrWrite c
Stands shared c (Writing u) (row.Commit v) = v ≡ u
Stands shared c (Writing u) (row.Undo v) = v ≡ u
Stands shared c state r = ⊥

stands_as : (shared : Bool) (c : Class) (st : TxnState) (p r : Row) → Adds p ≡ Adds r → Stands shared c st p → Stands shared c st r
stands_as shared c st p r e h = let same : p ≡ r = cc in subst (λ x. Stands shared c st x) same h

stands_auto : (shared : Bool) (c : Class) (r : Row) → plan shared Auto c ≡ Adds r → Stands shared c Auto r
stands_auto shared (class.Begin mode.Deferred) r p = absurd (cc)
stands_auto shared (class.Begin mode.Immediate) r p = stands_as shared (class.Begin mode.Immediate) Auto row.Begin r p tt
stands_auto shared class.Commit r p = absurd (cc)
stands_auto shared class.Rollback r p = absurd (cc)
stands_auto shared class.Savepoint r p = absurd (cc)
stands_auto shared class.Barred r p = absurd (cc)
stands_auto shared class.Empty r p = absurd (cc)
stands_auto true class.Read r p = stands_as true class.Read Auto row.ReadAlone r p (refl, refl)
stands_auto false class.Read r p = stands_as false class.Read Auto row.Alone r p tt
stands_auto shared class.Write r p = stands_as shared class.Write Auto row.Alone r p tt

stands_deferred : (shared : Bool) (c : Class) (r : Row) → plan shared Deferred c ≡ Adds r → Stands shared c Deferred r
stands_deferred shared (class.Begin m) r p = absurd (cc)
stands_deferred shared class.Commit r p = absurd (cc)
stands_deferred shared class.Rollback r p = absurd (cc)
stands_deferred shared class.Savepoint r p = absurd (cc)
stands_deferred shared class.Barred r p = absurd (cc)
stands_deferred shared class.Empty r p = absurd (cc)
stands_deferred true class.Read r p = stands_as true class.Read Deferred row.ReadFirst r p refl
stands_deferred false class.Read r p = stands_as false class.Read Deferred row.BeginFirst r p tt
stands_deferred shared class.Write r p = stands_as shared class.Write Deferred row.BeginFirst r p tt

stands_reading : (shared : Bool) (u had : ℕ) (c : Class) (r : Row) → plan shared (Reading u had) c ≡ Adds r → Stands shared c (Reading u had) r
stands_reading shared u had (class.Begin m) r p = absurd (cc)
stands_reading shared u had class.Commit r p = stands_as shared class.Commit (Reading u had) (row.EndRead u) r p refl
stands_reading shared u had class.Rollback r p = stands_as shared class.Rollback (Reading u had) (row.Undo u) r p refl
stands_reading shared u had class.Savepoint r p = absurd (cc)
stands_reading shared u had class.Barred r p = absurd (cc)
stands_reading shared u had class.Empty r p = absurd (cc)
stands_reading shared u had class.Read r p = stands_as shared class.Read (Reading u had) (row.Run u) r p (refl, refl)
stands_reading shared u had class.Write r p = stands_as shared class.Write (Reading u had) (row.Upgrade u had) r p (refl, refl, refl)

stands_writing : (shared : Bool) (u : ℕ) (c : Class) (r : Row) → plan shared (Writing u) c ≡ Adds r → Stands shared c (Writing u) r
stands_writing shared u (class.Begin m) r p = absurd (cc)
stands_writing shared u class.Commit r p = stands_as shared class.Commit (Writing u) (row.Commit u) r p refl
stands_writing shared u class.Rollback r p = stands_as shared class.Rollback (Writing u) (row.Undo u) r p refl
stands_writing shared u class.Savepoint r p = absurd (cc)
stands_writing shared u class.Barred r p = absurd (cc)
stands_writing shared u class.Empty r p = absurd (cc)
stands_writing shared u class.Read r p = stands_as shared class.Read (Writing u) (row.Run u) r p (refl, tt)
stands_writing shared u class.Write r p = stands_as shared class.Write (Writing u) (row.Run u) r p (refl, tt)

pub stands : (shared : Bool) (c : Class) (st : TxnState) (r : Row) → plan shared st c ≡ Adds r → Stands shared c st r
stands shared c Auto r p = stands_auto shared c r p
stands shared c Deferred r p = stands_deferred shared c r p
stands shared c (Reading u had) r p = stands_reading shared u had c r p
stands shared c (Writing u) r p = stands_writing shared u c r p
stands shared c (Dead why) r p = absurd (cc)
stands shared c Closed r p = absurd (cc)

-- ---- what a row needs

pub read_no_write : (c : Class) → c ≡ class.Read → is_write c ≡ false
read_no_write c e = ap is_write e

pub write_is : (c : Class) → c ≡ class.Write → is_write c ≡ true
write_is c e = ap is_write e

pub read_fits : (c : Class) → c ≡ class.Read → IsReadOrWrite c
read_fits c e = subst IsReadOrWrite (sym e) tt

pub write_fits : (c : Class) → c ≡ class.Write → IsReadOrWrite c
write_fits c e = subst IsReadOrWrite (sym e) tt

pub some_is : {X : Type 0} (o : Option X) (x : X) → o ≡ Some x → IsSome o
some_is None x e = absurd (none_some e)
some_is (Some y) x e = refl

pub own_lives : {D : Type 0} (told : Bool) (db : D) (live : Lives D) (u : ℕ) → MayCommit told db live u → IsSome (live u)
own_lives told db live u m = some_is (live u) m.view m.lives

pub own_starts : {D : Type 0} (told : Bool) (db : D) (live : Lives D) (u : ℕ) → MayCommit told db live u → IsTrue told → StartsAt db live u
own_starts {D} told db live u m h v e = ap (λ (w : View D). w.start) (some_one (sym e ∙ m.lives)) ∙ m.start h

pub no_other : {D : Type 0} (live : Lives D) (u : ℕ) → NoWriter live → NoOtherWriter live u
no_other live u h k v e ne = h k v e

pub is_granted : (t : Turns) (r : Row) → turn_given t (need_of r) ≡ Taken → IsGranted r t.turn t.version
is_granted t (row.Upgrade v began) took = ((took_upgrade (record { 0 = 0 }) t began took).free, current_upgrade t began took)
is_granted t r took = tt
