-- What the state of the machine says of the streams, and which state of it they stand for after an entry.
use Rattle.std.proofs.Common.{◌≡◌, ◌≢◌, ℕ, Bool, true, false, cond, nat_eq, Option, Some, None, refl, sym, ap, ◌∙◌, subst}
use Rattle.std.specs.Option.{IsSome}
use Rattle.std.proofs.lemmas.Bool.{eq-eqb, ne_eqb}
use Rattle.hrana_value.specs.declared.StreamNo.{StreamNo}
use Rattle.serial_order.specs.Machine.{Live, State, IsFree, IsAt, NoLive, NoWriterBut, NoWriter as NoMachineWriter}
use Rattle.txn_table.specs.Turns.{Turns}
use Rattle.txn_table.proofs.StreamLemmas.{true_not_false}
use Rattle.engine_core.specs.Transactions.{Lives, View, NoneLive, NoWriter, NoOtherWriter}
use Rattle.engine_core.specs.declared.entries.Entry.{Entry}
use Rattle.engine_core.specs.declared.entries.Entry.TheVariants as entry
use Rattle.stream_task.specs.Leads.{IsView, StartsBy, Stands}
use Rattle.stream_task.specs.Moved.{version_by}
use Rattle.stream_task.specs.Session.{unit_of}
use Rattle.stream_task.specs.Together.{States, numbered, is_writing, unit_at, BeganBy, Together}
use Rattle.stream_task.specs.declared.session.TxnState.{TxnState}
use Rattle.stream_task.specs.declared.session.TxnState.TheVariants.{Auto, Deferred, Reading, Writing, Dead, Closed}
use Rattle.stream_task.proofs.TurnLemmas.{none_some, some_one}
use Rattle.stream_task.proofs.GoesLemmas.{unit_by, IsOwn}
use Rattle.stream_task.proofs.TogetherLemmas.{holder}

-- ---- one unit

-- the unit of the machine that a live transaction is
pub record IsUnit {D : Type 0} (machine : State D) (unit : ℕ) (v : View D) : Type 0 where
  pub its : Live D
  pub is : machine.live unit ≡ Some its
  pub view : its.view ≡ v.view
  pub writer : its.is_writer ≡ v.is_writer

pub unit_is : {D : Type 0} (machine : State D) (unit : ℕ) (o : Option (View D)) (x : Option (Live D)) (v : View D) → IsView o x → machine.live unit ≡ x → o ≡ Some v → IsUnit machine unit v
unit_is machine unit None x v h m e = absurd (none_some e)
unit_is machine unit (Some w) None v h m e = absurd h
unit_is {D} machine unit (Some w) (Some its) v h m e = record { its = its; is = m; view = h.0 ∙ ap (λ (y : View D). y.view) (some_one e); writer = h.1 ∙ ap (λ (y : View D). y.is_writer) (some_one e) }

-- the live transaction that a unit of the machine is
pub record IsLived {D : Type 0} (live : Lives D) (unit : ℕ) (its : Live D) : Type 0 where
  pub view : View D
  pub is : live unit ≡ Some view
  pub writer : its.is_writer ≡ view.is_writer

lived_is : {D : Type 0} (live : Lives D) (unit : ℕ) (o : Option (View D)) (x : Option (Live D)) (its : Live D) → IsView o x → live unit ≡ o → x ≡ Some its → IsLived live unit its
lived_is live unit o None its h l e = absurd (none_some e)
lived_is live unit None (Some y) its h l e = absurd h
lived_is {D} live unit (Some v) (Some y) its h l e = record { view = v; is = l; writer = ap (λ (z : Live D). z.is_writer) (sym (some_one e)) ∙ h.1 }

pub no_unit : {D : Type 0} (o : Option (View D)) (x : Option (Live D)) → IsView o x → o ≡ None → x ≡ None
no_unit o None h e = refl
no_unit None (Some y) h e = absurd h
no_unit (Some v) (Some y) h e = absurd (none_some (sym e))

-- a transaction that lives has a view
pub view_of : {D : Type 0} (o : Option (View D)) → IsSome o → (v : View D) × (o ≡ Some v)
view_of None h = absurd (true_not_false (sym h))
view_of (Some v) h = (v, refl)

pub view_along : {D : Type 0} (o o' : Option (View D)) (x x' : Option (Live D)) → o' ≡ o → x' ≡ x → IsView o x → IsView o' x'
view_along {D} o o' x x' e f h = subst (λ (a : Option (View D)). IsView a x') (sym e) (subst (λ (b : Option (Live D)). IsView o b) (sym f) h)

-- ---- the state of one stream

-- the state of an open unit says when it began
pub one_start : (version unit : ℕ) (state : TxnState) (a b : ℕ) → unit_of state ≡ Some unit → StartsBy version (Some state) a → StartsBy version (Some state) b → a ≡ b
one_start version unit (Reading u had) a b o e f = e ∙ sym f
one_start version unit (Writing u) a b o e f = e ∙ sym f
one_start version unit Auto a b o e f = absurd (none_some o)
one_start version unit Deferred a b o e f = absurd (none_some o)
one_start version unit (Dead why) a b o e f = absurd (none_some o)
one_start version unit Closed a b o e f = absurd (none_some o)

-- that of a writer began at the current version
pub writer_start : (version : ℕ) (x : Option TxnState) (start : ℕ) → is_writing x ≡ true → StartsBy version x start → start ≡ version
writer_start version (Some (Writing u)) start w e = e
writer_start version None start w e = absurd (true_not_false (sym w))
writer_start version (Some (Reading u had)) start w e = absurd (true_not_false (sym w))
writer_start version (Some Auto) start w e = absurd (true_not_false (sym w))
writer_start version (Some Deferred) start w e = absurd (true_not_false (sym w))
writer_start version (Some (Dead why)) start w e = absurd (true_not_false (sym w))
writer_start version (Some Closed) start w e = absurd (true_not_false (sym w))

-- where nobody commits beside a writer, the state says what it said
pub starts_on : (version version' : ℕ) (x : Option TxnState) (start : ℕ) → (is_writing x ≡ true → version' ≡ version) → StartsBy version x start → StartsBy version' x start
starts_on version version' (Some (Writing u)) start same e = e ∙ sym (same refl)
starts_on version version' (Some (Reading u had)) start same e = e
starts_on version version' None start same e = tt
starts_on version version' (Some Auto) start same e = tt
starts_on version version' (Some Deferred) start same e = tt
starts_on version version' (Some (Dead why)) start same e = tt
starts_on version version' (Some Closed) start same e = tt

-- an entry that leaves a unit open is no commit
pub no_commit : (added : Option Entry) (was : Option ℕ) (unit version : ℕ) → IsOwn was added → unit_by added was ≡ Some unit → version_by added version ≡ version
no_commit None was unit version o e = refl
no_commit (Some (entry.Alone by q a true)) was unit version o e = absurd (none_some (sym o ∙ e))
no_commit (Some (entry.Alone by q a false)) was unit version o e = refl
no_commit (Some (entry.Began u by)) was unit version o e = refl
no_commit (Some (entry.Ran u q a)) was unit version o e = refl
no_commit (Some (entry.Denied u why)) was unit version o e = refl
no_commit (Some (entry.Ended u end)) was unit version o e = absurd (none_some e)
no_commit (Some (entry.Failed by why cause)) was unit version o e = refl

-- ---- where they stand

-- the stream s, in this state, among those that stand for the machine's state
pub record Before {D : Type 0} (told shared : Bool) (db : D) (live : Lives D) (t : Turns) (next : ℕ) (states : States) (s : StreamNo) (state : TxnState) (machine : State D) : Type 0 where
  pub together : Together told shared db live t next states
  pub at : states s.0 ≡ Some state
  pub stands : Stands db live t next states machine

module _ {D : Type 0} {told shared : Bool} {db : D} {live : Lives D} {t : Turns} {next : ℕ} {states : States} {s : StreamNo} {state : TxnState} {machine : State D} (b : Before told shared db live t next states s state machine) where
  -- a live transaction is a unit of the machine
  pub live_unit : (unit : ℕ) (v : View D) → live unit ≡ Some v → IsUnit machine unit v
  live_unit unit v e = unit_is machine unit (live unit) (machine.live unit) v (b.stands.units unit) refl e

  pub lived_unit : (unit : ℕ) (its : Live D) → machine.live unit ≡ Some its → IsLived live unit its
  lived_unit unit its e = lived_is live unit (live unit) (machine.live unit) its (b.stands.units unit) refl e

  pub not_live : (unit : ℕ) → live unit ≡ None → machine.live unit ≡ None
  not_live unit e = no_unit (live unit) (machine.live unit) (b.stands.units unit) e

  pub none_live : NoneLive live → NoLive machine
  none_live none unit = not_live unit (none unit)

  pub no_writer : NoWriter live → NoMachineWriter machine
  no_writer none unit its e = (let l = lived_unit unit its e in l.writer ∙ none unit l.view l.is)

  pub no_writer_but : (unit : ℕ) → NoOtherWriter live unit → NoWriterBut machine unit
  no_writer_but unit only k its e ne = (let l = lived_unit k its e in l.writer ∙ only k l.view l.is ne)

  -- the open unit of the stream is of the stream
  pub own_stream : (unit : ℕ) (its : Live D) → machine.live unit ≡ Some its → unit_of state ≡ Some unit → its.stream ≡ s.0
  own_stream unit its e o = b.together.apart its.stream s.0 unit (b.stands.streams unit its e) (ap unit_at b.at ∙ o)

  pub free : unit_of state ≡ None → IsFree machine s.0
  free none unit its e i = none_some (sym none ∙ sym (ap unit_at (ap states i ∙ b.at)) ∙ b.stands.streams unit its e)

  -- it began when the stream's state says
  pub own_start : (unit : ℕ) (its : Live D) → machine.live unit ≡ Some its → unit_of state ≡ Some unit → StartsBy t.version (Some state) its.start
  own_start unit its e o = subst (λ x. StartsBy t.version x its.start) (ap states (own_stream unit its e o) ∙ b.at) (b.stands.starts unit its e)

  pub own_began : BeganBy t.version (Some state)
  own_began = subst (λ x. BeganBy t.version x) b.at (b.together.began s.0)

  -- a unit whose stream doesn't hold the turn hasn't written
  pub reads_only : (unit : ℕ) (v : View D) → unit_of state ≡ Some unit → t.turn ≢ Some s → live unit ≡ Some v → v.is_writer ≡ false
  reads_only unit v o off e = by_turn t.turn refl
    where
      by_turn : (turn : Option StreamNo) → t.turn ≡ turn → v.is_writer ≡ false
      by_turn None i = b.together.writers i unit v e
      by_turn (Some by) i =
          let h = holder told db live t by.0 (states by.0) (b.together.agree by.0) i in
          h.writes.only unit v e (λ k. off (i ∙ ap (λ n. Some (numbered n)) (b.together.apart by.0 s.0 unit (ap unit_at h.state ∙ ap Some (sym k)) (ap unit_at b.at ∙ o))))

  -- another stream that holds the turn has a unit
  pub holder_unit : (by : StreamNo) → t.turn ≡ Some by → (unit : ℕ) × (its : Live D) × (machine.live unit ≡ Some its) × (its.stream ≡ by.0)
  holder_unit by i =
      let h = holder told db live t by.0 (states by.0) (b.together.agree by.0) i in
      let u = live_unit h.unit h.writes.own.view h.writes.own.lives in
      (h.unit, u.its, u.is, b.together.apart u.its.stream by.0 h.unit (b.stands.streams h.unit u.its u.is) (ap unit_at h.state))

  -- the stream itself doesn't hold it where it isn't writing
  pub holder_other : (by : StreamNo) → t.turn ≡ Some by → is_writing (Some state) ≡ false → by.0 ≢ s.0
  holder_other by i reads k =
      let h = holder told db live t by.0 (states by.0) (b.together.agree by.0) i in
      true_not_false (sym (ap is_writing (sym b.at ∙ ap states (sym k) ∙ h.state)) ∙ reads)

-- ---- the machine after an entry

-- with this database and version
abbrev pub counted : {D : Type 0} → State D → D → ℕ → State D
counted machine db version = record { db = db; version = version; next = machine.next; live = machine.live }

-- with this at one number
abbrev pub placed : {D : Type 0} → State D → ℕ → Option (Live D) → State D
placed machine unit now = record { db = machine.db; version = machine.version; next = machine.next; live = λ k. cond (nat_eq k unit) now (machine.live k) }

pub placed_at : {D : Type 0} (machine : State D) (unit : ℕ) (now : Option (Live D)) → IsAt machine (placed machine unit now) unit now
placed_at machine unit now = record {
  here = ap (λ b. cond b now (machine.live unit)) (eq-eqb unit unit refl);
  others = λ k ne. ap (λ b. cond b now (machine.live k)) (ne_eqb k unit ne);
}

-- The units of the machine after an entry of the stream, by the live transactions: its own one is of the stream, and began when
-- the state `now` says. The others stay.
pub record UnitsLeft {D : Type 0} (live live' : Lives D) (version : ℕ) (s : StreamNo) (was opened : Option ℕ) (now : Option TxnState) (machine end : State D) : Type 0 where
  pub units : (k : ℕ) → IsView (live' k) (end.live k)
  pub own : (k : ℕ) (its : Live D) → opened ≡ Some k → end.live k ≡ Some its → (its.stream ≡ s.0) × StartsBy version now its.start
  pub others : (k : ℕ) → was ≢ Some k → IsSome (live k) → end.live k ≡ machine.live k
