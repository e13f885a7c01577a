-- What a call of one stream leaves of what the streams, the table and the engine agree on.
use Rattle.std.proofs.Common.{◌≡◌, ◌≢◌, ◌≤◌, ◌+◌, ◌⊎◌, ◌||◌, ◌&&◌, ℕ, Bool, true, false, cond, not, Option, Some, None, IsTrue, refl, sym, ap, ◌∙◌, subst, arith, inl, inr}
use Rattle.std.specs.Option.{IsSome}
use Rattle.std.proofs.lemmas.Bool.{cases_Bool, cases_eq}
use Rattle.hrana_value.specs.declared.StreamNo.{StreamNo}
use Rattle.serial_order.specs.Serial.{Meaning}
use Rattle.sql_text.specs.declared.class.Class.{Class}
use Rattle.sql_text.specs.declared.class.Class.TheVariants as class
use Rattle.txn_table.specs.Turns.{Turns, no_turns, has, same_stream, given_back, with_place, after_loss}
use Rattle.txn_table.proofs.StreamLemmas.{true_not_false, still_placed, has_without}
use Rattle.engine_core.specs.Engine.{is_read, is_write, is_refusal, IsReadOrWrite}
use Rattle.engine_core.specs.Noted.{Noted}
use Rattle.engine_core.specs.Transactions.{Lives, View, NoneLive, NoOtherWriter, SameLive, Became}
use Rattle.engine_core.specs.declared.statement.BoundStmt.{BoundStmt}
use Rattle.engine_core.specs.declared.entries.Answer.{Answer}
use Rattle.engine_core.specs.declared.entries.How.TheVariants as how
use Rattle.engine_core.specs.declared.entries.Undo.{Undo}
use Rattle.engine_core.specs.declared.entries.Entry.{Entry}
use Rattle.engine_core.specs.declared.entries.Entry.TheVariants as entry
use Rattle.stream_task.specs.Adds.{AddsOne, seen_in, undone_of}
use Rattle.stream_task.specs.Effect.{Effects, RanAlone}
use Rattle.stream_task.specs.Moved.{ComesFrom, AgreesAs, WritesIn, ReadsIn, AreBelow, WritesByTurn, StaysOne, turn_by, version_by}
use Rattle.stream_task.specs.Polls.{Task}
use Rattle.stream_task.specs.Session.{is_shut, unit_of}
use Rattle.stream_task.specs.Table.{wrote}
use Rattle.stream_task.specs.Together.{States, Put, numbered, AgreesAt, is_open, is_writing, unit_at, BeganBy, IsOwned, Together, TurnIsWriters, LiveAreOpen, IsLiveWriter, IsWritersUnit, WritersAreWriting, NoReaders, MayPoll, HasPolled, HasEnded}
use Rattle.stream_task.specs.declared.session.TxnState.{TxnState}
use Rattle.stream_task.specs.declared.session.TxnState.TheVariants.{Auto, Deferred, Reading, Writing, Dead, Closed}
use Rattle.stream_task.specs.declared.task.Poll.{Poll}
use Rattle.stream_task.specs.declared.task.Stepped.{Stepped}
use Rattle.stream_task.proofs.TurnLemmas.{none_some, some_one, given_other, given_back_is}
use Rattle.stream_task.proofs.OriginLemmas.{own_lives}
use Rattle.stream_task.proofs.GoesLemmas.{unit_by, IsOwn, Goes, goes_polls, goes_undone}

-- ---- what an engine says of its statements

pub record Classes {D : Type 0} (m : Meaning D BoundStmt Answer) : Type 0 where
  pub reads : (q : BoundStmt) → m.is_read q ≡ is_read q.class
  pub writes : (q : BoundStmt) → m.is_write q ≡ is_write q.class
  pub refusals : (a : Answer) → m.is_refused a ≡ is_refusal a

class_reads : (c : Class) → IsReadOrWrite c → is_write c ≡ false → is_read c ≡ true
class_reads class.Read f e = refl
class_reads class.Write f e = absurd (cc)
class_reads c f e = absurd f

-- a read leaves the database
read_leaves : {D : Type 0} (m : Meaning D BoundStmt Answer) (db : D) (q : BoundStmt) → Classes m → IsReadOrWrite q.class → is_write q.class ≡ false → (m.exec db q).0 ≡ db
read_leaves m db q c f e = m.read_leaves db q (c.reads q ∙ class_reads q.class f e)

and_false : (a b : Bool) → (a && b) ≡ false → (a ≡ false) ⊎ (b ≡ false)
and_false false b e = inl refl
and_false true b e = inr e

not_true : (b : Bool) → not b ≡ false → b ≡ true
not_true true e = refl
not_true false e = absurd (cc)

-- a statement alone that didn't write leaves the database
alone_leaves : {D : Type 0} (told : Bool) (m : Meaning D BoundStmt Answer) (db : D) (live : Lives D) (db' : D) (live' : Lives D) (q : BoundStmt) (a : Answer) → Classes m → IsReadOrWrite q.class → IsTrue told → wrote q a ≡ false → RanAlone told m db live db' live' q a → db' ≡ db
alone_leaves told m db live db' live' q a c f t e r = elim (and_false (is_write q.class) (not (is_refusal a)) e) [
  | inl read ↦ r.database.database ∙ read_leaves m db q c f read
  | inr refused ↦ r.database.database ∙ m.refusal_leaves db q (ap m.is_refused (sym (r.database.answer t)) ∙ c.refusals a ∙ not_true (is_refusal a) refused)
]

-- ---- what an entry changes

-- the entry of the stream s, with what the engine and the table did
pub record Did {D : Type 0} (told writes : Bool) (m : Meaning D BoundStmt Answer) (db : D) (live : Lives D) (next : ℕ) (t : Turns) (db' : D) (live' : Lives D) (t' : Turns) (s : StreamNo) (added : Option Entry) : Type 0 where
  pub effects : Effects told m writes db live db' live' added
  pub from : ComesFrom told writes db live next t s added
  pub turn : t'.turn ≡ turn_by s writes added t.turn
  pub version : t'.version ≡ version_by added t.version
  pub reserved : t'.reserved ≡ t.reserved

not_both : (s r : StreamNo) → s ≢ r → (o : Option StreamNo) → o ≡ Some s → o ≡ Some r → ⊥
not_both s r ne o a b = ne (some_one (sym a ∙ b))

-- who else doesn't hold the turn doesn't get it
other_back : (s r : StreamNo) (o : Option StreamNo) → given_back o s ≡ Some r → o ≡ Some r
other_back s r None e = e
other_back s r (Some h) e = elim (cases_Bool (same_stream h s)) [
  | inl y ↦ absurd (none_some (let f : ◌≡◌ {A = Option StreamNo} None (Some r) = rw y at e in f))
  | inr n ↦ (let f : ◌≡◌ {A = Option StreamNo} (Some h) (Some r) = rw n at e in f)
]

other_cond : (s r : StreamNo) (b : Bool) (o : Option StreamNo) → s ≢ r → cond b (Some s) o ≡ Some r → o ≡ Some r
other_cond s r true o ne e = absurd (ne (some_one e))
other_cond s r false o ne e = e

other_turn : (s r : StreamNo) (writes : Bool) (added : Option Entry) (o : Option StreamNo) → s ≢ r → turn_by s writes added o ≡ Some r → o ≡ Some r
other_turn s r w None o ne e = e
other_turn s r w (Some (entry.Alone by q a wr)) o ne e = e
other_turn s r w (Some (entry.Began u by)) o ne e = other_cond s r w o ne e
other_turn s r w (Some (entry.Ran u q a)) o ne e = other_cond s r (is_write q.class) o ne e
other_turn s r w (Some (entry.Denied u why)) o ne e = e
other_turn s r w (Some (entry.Ended u how.Committed)) o ne e = absurd (none_some e)
other_turn s r w (Some (entry.Ended u how.Read)) o ne e = e
other_turn s r w (Some (entry.Ended u (how.Undone why))) o ne e = other_back s r o e
other_turn s r w (Some (entry.Failed by None why)) o ne e = e
other_turn s r w (Some (entry.Failed by (Some u) why)) o ne e = other_back s r o e

turn_off : {D : Type 0} (told writes : Bool) (m : Meaning D BoundStmt Answer) (db : D) (live : Lives D) (next : ℕ) (t : Turns) (db' : D) (live' : Lives D) (t' : Turns) (s r : StreamNo) (added : Option Entry) → Did told writes m db live next t db' live' t' s added → s ≢ r → t.turn ≢ Some r → t'.turn ≢ Some r
turn_off told w m db live next t db' live' t' s r added d ne off e = off (other_turn s r w added t.turn ne (sym d.turn ∙ e))

-- the version doesn't fall
version_grows : (added : Option Entry) (v : ℕ) → v ≤ version_by added v
version_grows None v = omega arith
version_grows (Some (entry.Alone by q a true)) v = omega arith
version_grows (Some (entry.Alone by q a false)) v = omega arith
version_grows (Some (entry.Began u by)) v = omega arith
version_grows (Some (entry.Ran u q a)) v = omega arith
version_grows (Some (entry.Denied u why)) v = omega arith
version_grows (Some (entry.Ended u how.Committed)) v = omega arith
version_grows (Some (entry.Ended u how.Read)) v = omega arith
version_grows (Some (entry.Ended u (how.Undone why))) v = omega arith
version_grows (Some (entry.Failed by why cause)) v = omega arith

-- where the version is as before, so is the database of an engine that tells
same_database : {D : Type 0} (told writes : Bool) (m : Meaning D BoundStmt Answer) (db : D) (live : Lives D) (next : ℕ) (t : Turns) (db' : D) (live' : Lives D) (t' : Turns) (s : StreamNo) (added : Option Entry) → Classes m
    → Did told writes m db live next t db' live' t' s added → IsTrue told → t'.version ≤ t.version → db' ≡ db
same_database told w m db live next t db' live' t' s None c d y v = d.effects.database
same_database told w m db live next t db' live' t' s (Some (entry.Alone by q a true)) c d y v = absurd (let g : t'.version ≡ t.version + 1 = d.version in omega (arith, g, v))
same_database told w m db live next t db' live' t' s (Some (entry.Alone by q a false)) c d y v = alone_leaves told m db live db' live' q a c d.from.2.class y (sym d.from.1) d.effects
same_database told w m db live next t db' live' t' s (Some (entry.Began u by)) c d y v = d.effects.database
same_database told w m db live next t db' live' t' s (Some (entry.Ran u q a)) c d y v = d.effects.database
same_database told w m db live next t db' live' t' s (Some (entry.Denied u why)) c d y v = d.effects.database
same_database told w m db live next t db' live' t' s (Some (entry.Ended u how.Committed)) c d y v = absurd (let g : t'.version ≡ t.version + 1 = d.version in omega (arith, g, v))
same_database told w m db live next t db' live' t' s (Some (entry.Ended u how.Read)) c d y v = d.effects.database
same_database told w m db live next t db' live' t' s (Some (entry.Ended u (how.Undone why))) c d y v = d.effects.database
same_database told w m db live next t db' live' t' s (Some (entry.Failed by None why)) c d y v = d.effects.database
same_database told w m db live next t db' live' t' s (Some (entry.Failed by (Some u) why)) c d y v = d.effects.database

-- ---- the live transactions

no_some : {X : Type 0} (o : Option X) → o ≡ None → IsSome o → ⊥
no_some None e h = true_not_false (sym h)
no_some (Some x) e h = none_some (sym e)

some_along : {X : Type 0} (o p : Option X) → o ≡ p → IsSome o → IsSome p
some_along {X} o p e h = subst (λ (x : Option X). IsSome x) e h

not_unit : (was : Option ℕ) (u v : ℕ) → was ≢ Some u → was ≡ Some v → u ≢ v
not_unit was u v ne e i = ne (e ∙ ap Some (sym i))

not_fresh : {D : Type 0} (live : Lives D) (u n : ℕ) → IsSome (live u) → live n ≡ None → u ≢ n
not_fresh live u n some none e = no_some (live n) none (some_along (live u) (live n) (ap live e) some)

-- a unit that lives and isn't the stream's own stays as it is
other_unit : {D : Type 0} (told writes : Bool) (m : Meaning D BoundStmt Answer) (db : D) (live : Lives D) (next : ℕ) (t : Turns) (db' : D) (live' : Lives D) (t' : Turns) (s : StreamNo) (was : Option ℕ) (u : ℕ) (added : Option Entry)
    → Did told writes m db live next t db' live' t' s added → IsOwn was added → was ≢ Some u → IsSome (live u) → live' u ≡ live u
other_unit told w m db live next t db' live' t' s was u None d o ne some = d.effects.lives u
other_unit told w m db live next t db' live' t' s was u (Some (entry.Alone by q a wr)) d o ne some = d.effects.lives u
other_unit told w m db live next t db' live' t' s was u (Some (entry.Began v by)) d o ne some = d.effects.lives.others u (not_fresh live u v some d.from.1.fresh)
other_unit told w m db live next t db' live' t' s was u (Some (entry.Ran v q a)) d o ne some = d.effects.lives.now.others u (not_unit was u v ne o)
other_unit told w m db live next t db' live' t' s was u (Some (entry.Denied v why)) d o ne some = d.effects.lives u
other_unit told w m db live next t db' live' t' s was u (Some (entry.Ended v how.Committed)) d o ne some = d.effects.gone.others u (not_unit was u v ne o)
other_unit told w m db live next t db' live' t' s was u (Some (entry.Ended v how.Read)) d o ne some = d.effects.lives.others u (not_unit was u v ne o)
other_unit told w m db live next t db' live' t' s was u (Some (entry.Ended v (how.Undone why))) d o ne some = d.effects.lives.others u (not_unit was u v ne o)
other_unit told w m db live next t db' live' t' s was u (Some (entry.Failed by None why)) d o ne some = d.effects.lives u
other_unit told w m db live next t db' live' t' s was u (Some (entry.Failed by (Some v) why)) d o ne some = d.effects.lives.others u (not_unit was u v ne o)

-- a unit that lives now is the stream's own, or lived before and wasn't
abbrev OwnOrOld : {D : Type 0} (live : Lives D) (added : Option Entry) (was : Option ℕ) (u : ℕ) → Type 0
OwnOrOld live added was u = (unit_by added was ≡ Some u) ⊎ ((was ≢ Some u) × IsSome (live u))

own_or_not : (was : Option ℕ) (u : ℕ) → (was ≡ Some u) ⊎ (was ≢ Some u)
own_or_not None u = inr none_some
own_or_not (Some v) u = elim (cases_eq v u) [
  | inl e ↦ inl (ap Some e)
  | inr ne ↦ inr (λ e. ne (some_one e))
]

lives_own : {D : Type 0} (live live' : Lives D) (added : Option Entry) (was : Option ℕ) (u v : ℕ) (r : Option (View D)) → was ≡ Some v → Became live live' v r → (u ≡ v → unit_by added was ≡ Some u) → IsSome (live' u) → OwnOrOld live added was u
lives_own live live' added was u v r o b own some = elim (cases_eq u v) [
  | inl e ↦ inl (own e)
  | inr ne ↦ inr ((λ e. ne (some_one (sym e ∙ o))), some_along (live' u) (live u) (b.others u ne) some)
]

lives_same : {D : Type 0} (live live' : Lives D) (added : Option Entry) (was : Option ℕ) (u : ℕ) → unit_by added was ≡ was → SameLive live live' → IsSome (live' u) → OwnOrOld live added was u
lives_same live live' added was u same l some = elim (own_or_not was u) [
  | inl e ↦ inl (same ∙ e)
  | inr ne ↦ inr (ne, some_along (live' u) (live u) (l u) some)
]

lives_gone : {D : Type 0} (live live' : Lives D) (added : Option Entry) (was : Option ℕ) (u v : ℕ) → was ≡ Some v → Became live live' v None → IsSome (live' u) → OwnOrOld live added was u
lives_gone live live' added was u v o b some = lives_own live live' added was u v None o b (λ e. absurd (no_some (live' u) (ap live' e ∙ b.here) some)) some

pub lives_after : {D : Type 0} (told writes : Bool) (m : Meaning D BoundStmt Answer) (db : D) (live : Lives D) (next : ℕ) (t : Turns) (db' : D) (live' : Lives D) (t' : Turns) (s : StreamNo) (was : Option ℕ) (u : ℕ) (added : Option Entry)
    → Did told writes m db live next t db' live' t' s added → IsOwn was added → IsSome (live' u) → OwnOrOld live added was u
lives_after told w m db live next t db' live' t' s was u None d o some = lives_same live live' None was u refl d.effects.lives some
lives_after told w m db live next t db' live' t' s was u (Some (entry.Alone by q a wr)) d o some = lives_same live live' (Some (entry.Alone by q a wr)) was u refl d.effects.lives some
lives_after told w m db live next t db' live' t' s was u (Some (entry.Began v by)) d o some = elim (cases_eq v u) [
  | inl e ↦ inl (ap Some e)
  | inr ne ↦ inr ((λ e. none_some (sym o ∙ e)), some_along (live' u) (live u) (d.effects.lives.others u (λ e. ne (sym e))) some)
]
lives_after told w m db live next t db' live' t' s was u (Some (entry.Ran v q a)) d o some = lives_own live live' (Some (entry.Ran v q a)) was u v _ o d.effects.lives.now (λ e. o ∙ ap Some (sym e)) some
lives_after told w m db live next t db' live' t' s was u (Some (entry.Denied v why)) d o some = lives_same live live' (Some (entry.Denied v why)) was u refl d.effects.lives some
lives_after told w m db live next t db' live' t' s was u (Some (entry.Ended v how.Committed)) d o some = lives_gone live live' (Some (entry.Ended v how.Committed)) was u v o d.effects.gone some
lives_after told w m db live next t db' live' t' s was u (Some (entry.Ended v how.Read)) d o some = lives_gone live live' (Some (entry.Ended v how.Read)) was u v o d.effects.lives some
lives_after told w m db live next t db' live' t' s was u (Some (entry.Ended v (how.Undone why))) d o some = lives_gone live live' (Some (entry.Ended v (how.Undone why))) was u v o d.effects.lives some
lives_after told w m db live next t db' live' t' s was u (Some (entry.Failed by None why)) d o some = lives_same live live' (Some (entry.Failed by None why)) was u refl d.effects.lives some
lives_after told w m db live next t db' live' t' s was u (Some (entry.Failed by (Some v) why)) d o some = lives_gone live live' (Some (entry.Failed by (Some v) why)) was u v o d.effects.lives some

-- a unit that is open now was open before, or didn't live
unit_from : {D : Type 0} (told writes : Bool) (db : D) (live : Lives D) (next : ℕ) (t : Turns) (s : StreamNo) (was : Option ℕ) (u : ℕ) (added : Option Entry) → ComesFrom told writes db live next t s added → unit_by added was ≡ Some u → (was ≡ Some u) ⊎ (live u ≡ None)
unit_from told w db live next t s was u None f e = inl e
unit_from told w db live next t s was u (Some (entry.Alone by q a wr)) f e = inl e
unit_from told w db live next t s was u (Some (entry.Began v by)) f e = inr (ap live (sym (some_one e)) ∙ f.1.fresh)
unit_from told w db live next t s was u (Some (entry.Ran v q a)) f e = inl e
unit_from told w db live next t s was u (Some (entry.Denied v why)) f e = inl e
unit_from told w db live next t s was u (Some (entry.Ended v end)) f e = absurd (none_some e)
unit_from told w db live next t s was u (Some (entry.Failed by None why)) f e = inl e
unit_from told w db live next t s was u (Some (entry.Failed by (Some v) why)) f e = absurd (none_some e)

-- ---- another stream that writes

-- it holds the turn
abbrev Holds : Turns → StreamNo → StreamNo → Type 0
Holds t s r = (s ≢ r) × (t.turn ≡ Some r)

not_own : (t : Turns) (s r : StreamNo) → Holds t s r → t.turn ≢ Some s
not_own t s r h e = h.0 (some_one (sym e ∙ h.1))

not_free : (t : Turns) (s r : StreamNo) → Holds t s r → t.turn ≢ None
not_free t s r h e = none_some (sym e ∙ h.1)

not_either : (t : Turns) (s r : StreamNo) → Holds t s r → (t.turn ≡ Some s) ⊎ (t.turn ≡ None) → ⊥
not_either t s r h (inl e) = not_own t s r h e
not_either t s r h (inr e) = not_free t s r h e

false_of : (b : Bool) → (b ≡ true → ⊥) → b ≡ false
false_of true never = absurd (never refl)
false_of false never = refl

cond_kept : (b : Bool) (o p : Option StreamNo) → b ≡ false → cond b o p ≡ p
cond_kept b o p e = ap (λ x. cond x o p) e

keeps_turn : {D : Type 0} (told writes : Bool) (m : Meaning D BoundStmt Answer) (db : D) (live : Lives D) (next : ℕ) (t : Turns) (db' : D) (live' : Lives D) (t' : Turns) (s r : StreamNo) (added : Option Entry) → Did told writes m db live next t db' live' t' s added → Holds t s r → t'.turn ≡ t.turn
keeps_turn told w m db live next t db' live' t' s r None d h = d.turn
keeps_turn told w m db live next t db' live' t' s r (Some (entry.Alone by q a wr)) d h = d.turn
keeps_turn told w m db live next t db' live' t' s r (Some (entry.Began u by)) d h = d.turn ∙ cond_kept w (Some s) t.turn (false_of w (λ e. not_free t s r h (d.from.1.free e)))
keeps_turn told w m db live next t db' live' t' s r (Some (entry.Ran u q a)) d h = d.turn ∙ cond_kept (is_write q.class) (Some s) t.turn (false_of (is_write q.class) (λ e. not_either t s r h (d.from.writes e).turn))
keeps_turn told w m db live next t db' live' t' s r (Some (entry.Denied u why)) d h = d.turn
keeps_turn told w m db live next t db' live' t' s r (Some (entry.Ended u how.Committed)) d h = absurd (not_own t s r h d.from.turn)
keeps_turn told w m db live next t db' live' t' s r (Some (entry.Ended u how.Read)) d h = d.turn
keeps_turn told w m db live next t db' live' t' s r (Some (entry.Ended u (how.Undone why))) d h = d.turn ∙ given_other t.turn s (not_own t s r h)
keeps_turn told w m db live next t db' live' t' s r (Some (entry.Failed by None why)) d h = d.turn
keeps_turn told w m db live next t db' live' t' s r (Some (entry.Failed by (Some u) why)) d h = d.turn ∙ given_other t.turn s (not_own t s r h)

and_true : (a b : Bool) → true ≡ (a && b) → a ≡ true
and_true true b e = refl
and_true false b e = absurd (cc)

pub keeps_version : {D : Type 0} (told writes : Bool) (m : Meaning D BoundStmt Answer) (db : D) (live : Lives D) (next : ℕ) (t : Turns) (db' : D) (live' : Lives D) (t' : Turns) (s r : StreamNo) (added : Option Entry) → Did told writes m db live next t db' live' t' s added → Holds t s r → t'.version ≡ t.version
keeps_version told w m db live next t db' live' t' s r None d h = d.version
keeps_version told w m db live next t db' live' t' s r (Some (entry.Alone by q a true)) d h = absurd (not_free t s r h (d.from.2.free (and_true (is_write q.class) (not (is_refusal a)) d.from.1)))
keeps_version told w m db live next t db' live' t' s r (Some (entry.Alone by q a false)) d h = d.version
keeps_version told w m db live next t db' live' t' s r (Some (entry.Began u by)) d h = d.version
keeps_version told w m db live next t db' live' t' s r (Some (entry.Ran u q a)) d h = d.version
keeps_version told w m db live next t db' live' t' s r (Some (entry.Denied u why)) d h = d.version
keeps_version told w m db live next t db' live' t' s r (Some (entry.Ended u how.Committed)) d h = absurd (not_own t s r h d.from.turn)
keeps_version told w m db live next t db' live' t' s r (Some (entry.Ended u how.Read)) d h = d.version
keeps_version told w m db live next t db' live' t' s r (Some (entry.Ended u (how.Undone why))) d h = d.version
keeps_version told w m db live next t db' live' t' s r (Some (entry.Failed by why cause)) d h = d.version

only_same : {D : Type 0} (live live' : Lives D) (u : ℕ) → SameLive live live' → NoOtherWriter live u → NoOtherWriter live' u
only_same live live' u l only k v e ne = only k v (sym (l k) ∙ e) ne

only_gone : {D : Type 0} (live live' : Lives D) (u n : ℕ) → Became live live' n None → NoOtherWriter live u → NoOtherWriter live' u
only_gone live live' u n b only k v e ne =
    let apart : k ≢ n = λ i. none_some (sym b.here ∙ sym (ap live' i) ∙ e) in
    only k v (sym (b.others k apart) ∙ e) ne

only_now : {D : Type 0} (live live' : Lives D) (u n : ℕ) (now : View D) → Became live live' n (Some now) → now.is_writer ≡ false → NoOtherWriter live u → NoOtherWriter live' u
only_now {D} live live' u n now b reads only k v e ne = elim (cases_eq k n) [
  | inl i ↦ ap (λ (x : View D). x.is_writer) (some_one (sym e ∙ ap live' i ∙ b.here)) ∙ reads
  | inr apart ↦ only k v (sym (b.others k apart) ∙ e) ne
]

neither : (a b : Bool) → a ≡ false → b ≡ false → (a || b) ≡ false
neither a b e f = rw (e, f) refl

-- it alone writes still
keeps_only : {D : Type 0} (told writes : Bool) (m : Meaning D BoundStmt Answer) (db : D) (live : Lives D) (next : ℕ) (t : Turns) (db' : D) (live' : Lives D) (t' : Turns) (s r : StreamNo) (was : Option ℕ) (u : ℕ) (added : Option Entry) → Classes m
    → Did told writes m db live next t db' live' t' s added → Holds t s r → IsOwn was added → was ≢ Some u → NoOtherWriter live u → NoOtherWriter live' u
keeps_only told w m db live next t db' live' t' s r was u None c d h o ne only = only_same live live' u d.effects.lives only
keeps_only told w m db live next t db' live' t' s r was u (Some (entry.Alone by q a wr)) c d h o ne only = only_same live live' u d.effects.lives only
keeps_only told w m db live next t db' live' t' s r was u (Some (entry.Began n by)) c d h o ne only = only_now live live' u n _ d.effects.lives (false_of w (λ e. not_free t s r h (d.from.1.free e))) only
keeps_only told w m db live next t db' live' t' s r was u (Some (entry.Ran n q a)) c d h o ne only =
    let reads : is_write q.class ≡ false = false_of (is_write q.class) (λ e. not_either t s r h (d.from.writes e).turn) in
    let apart : n ≢ u = λ e. not_unit was u n ne o (sym e) in
    only_now live live' u n _ d.effects.lives.now (neither _ _ (only n d.effects.lives.was d.effects.lives.is apart) (c.writes q ∙ reads)) only
keeps_only told w m db live next t db' live' t' s r was u (Some (entry.Denied n why)) c d h o ne only = only_same live live' u d.effects.lives only
keeps_only told w m db live next t db' live' t' s r was u (Some (entry.Ended n how.Committed)) c d h o ne only = only_gone live live' u n d.effects.gone only
keeps_only told w m db live next t db' live' t' s r was u (Some (entry.Ended n how.Read)) c d h o ne only = only_gone live live' u n d.effects.lives only
keeps_only told w m db live next t db' live' t' s r was u (Some (entry.Ended n (how.Undone why))) c d h o ne only = only_gone live live' u n d.effects.lives only
keeps_only told w m db live next t db' live' t' s r was u (Some (entry.Failed by None why)) c d h o ne only = only_same live live' u d.effects.lives only
keeps_only told w m db live next t db' live' t' s r was u (Some (entry.Failed by (Some n) why)) c d h o ne only = only_gone live live' u n d.effects.lives only

writer_other : {D : Type 0} (told writes : Bool) (m : Meaning D BoundStmt Answer) (db : D) (live : Lives D) (next : ℕ) (t : Turns) (db' : D) (live' : Lives D) (t' : Turns) (s r : StreamNo) (was : Option ℕ) (u : ℕ) (added : Option Entry) → Classes m
    → Did told writes m db live next t db' live' t' s added → s ≢ r → IsOwn was added → was ≢ Some u → WritesIn told db live t r u → WritesIn told db' live' t' r u
writer_other told w m db live next t db' live' t' s r was u added c d apart o ne a =
    let h : Holds t s r = (apart, a.turn) in
    let v : t'.version ≡ t.version = keeps_version told w m db live next t db' live' t' s r added d h in
    record {
      turn = keeps_turn told w m db live next t db' live' t' s r added d h ∙ a.turn;
      own = record {
        view = a.own.view;
        lives = other_unit told w m db live next t db' live' t' s was u added d o ne (own_lives told db live u a.own) ∙ a.own.lives;
        writes = a.own.writes;
        start = λ y. a.own.start y ∙ sym (same_database told w m db live next t db' live' t' s added c d y (omega (arith, v)));
      };
      only = keeps_only told w m db live next t db' live' t' s r was u added c d h o ne a.only;
    }

-- ---- another stream that reads, or has no unit

reader_other : {D : Type 0} (told writes : Bool) (m : Meaning D BoundStmt Answer) (db : D) (live : Lives D) (next : ℕ) (t : Turns) (db' : D) (live' : Lives D) (t' : Turns) (s r : StreamNo) (was : Option ℕ) (u had : ℕ) (added : Option Entry) → Classes m
    → Did told writes m db live next t db' live' t' s added → s ≢ r → IsOwn was added → was ≢ Some u → had ≤ t.version → ReadsIn told db live t r u had → ReadsIn told db' live' t' r u had
reader_other told w m db live next t db' live' t' s r was u had added c d apart o ne b a =
    let same : live' u ≡ live u = other_unit told w m db live next t db' live' t' s was u added d o ne a.lives in
    let grows : t.version ≤ t'.version = subst (λ v. t.version ≤ v) (sym d.version) (version_grows added t.version) in
    record {
      turn = turn_off told w m db live next t db' live' t' s r added d apart a.turn;
      lives = some_along (live u) (live' u) (sym same) a.lives;
      current = λ y now v e. a.current y (omega (arith, now, grows)) v (sym same ∙ e) ∙ sym (same_database told w m db live next t db' live' t' s added c d y (omega (arith, now, b)));
    }

agrees_other : {D : Type 0} (told writes : Bool) (m : Meaning D BoundStmt Answer) (db : D) (live : Lives D) (next : ℕ) (t : Turns) (db' : D) (live' : Lives D) (t' : Turns) (s : StreamNo) (was : Option ℕ) (n : ℕ) (x : Option TxnState) (added : Option Entry) → Classes m
    → Did told writes m db live next t db' live' t' s added → s ≢ numbered n → IsOwn was added → ((u : ℕ) → unit_at x ≡ Some u → was ≢ Some u) → BeganBy t.version x → AgreesAt told db live t n x → AgreesAt told db' live' t' n x
agrees_other told w m db live next t db' live' t' s was n None added c d apart o ne b a = turn_off told w m db live next t db' live' t' s (numbered n) added d apart a
agrees_other told w m db live next t db' live' t' s was n (Some (Writing u)) added c d apart o ne b a = writer_other told w m db live next t db' live' t' s (numbered n) was u added c d apart o (ne u refl) a
agrees_other told w m db live next t db' live' t' s was n (Some (Reading u had)) added c d apart o ne b a = reader_other told w m db live next t db' live' t' s (numbered n) was u had added c d apart o (ne u refl) b a
agrees_other told w m db live next t db' live' t' s was n (Some Auto) added c d apart o ne b a = turn_off told w m db live next t db' live' t' s (numbered n) added d apart a
agrees_other told w m db live next t db' live' t' s was n (Some Deferred) added c d apart o ne b a = turn_off told w m db live next t db' live' t' s (numbered n) added d apart a
agrees_other told w m db live next t db' live' t' s was n (Some (Dead why)) added c d apart o ne b a = turn_off told w m db live next t db' live' t' s (numbered n) added d apart a
agrees_other told w m db live next t db' live' t' s was n (Some Closed) added c d apart o ne b a = turn_off told w m db live next t db' live' t' s (numbered n) added d apart a

-- ---- what one stream's state says

-- an open unit lives
pub unit_lives : {D : Type 0} (told : Bool) (db : D) (live : Lives D) (t : Turns) (n u : ℕ) (x : Option TxnState) → AgreesAt told db live t n x → unit_at x ≡ Some u → IsSome (live u)
unit_lives told db live t n u None a e = absurd (none_some e)
unit_lives told db live t n u (Some (Writing v)) a e = subst (λ k. IsSome (live k)) (some_one e) (own_lives told db live v a.own)
unit_lives told db live t n u (Some (Reading v had)) a e = subst (λ k. IsSome (live k)) (some_one e) a.lives
unit_lives told db live t n u (Some Auto) a e = absurd (none_some e)
unit_lives told db live t n u (Some Deferred) a e = absurd (none_some e)
unit_lives told db live t n u (Some (Dead why)) a e = absurd (none_some e)
unit_lives told db live t n u (Some Closed) a e = absurd (none_some e)

pub writes_here : {D : Type 0} (told : Bool) (db : D) (live : Lives D) (t : Turns) (n : ℕ) (x : Option TxnState) → AgreesAt told db live t n x → t.turn ≡ Some (numbered n) → is_writing x ≡ true
writes_here told db live t n None a e = absurd (a e)
writes_here told db live t n (Some (Writing u)) a e = refl
writes_here told db live t n (Some (Reading u had)) a e = absurd (a.turn e)
writes_here told db live t n (Some Auto) a e = absurd (a e)
writes_here told db live t n (Some Deferred) a e = absurd (a e)
writes_here told db live t n (Some (Dead why)) a e = absurd (a e)
writes_here told db live t n (Some Closed) a e = absurd (a e)

pub holds_there : {D : Type 0} (told : Bool) (db : D) (live : Lives D) (t : Turns) (n : ℕ) (x : Option TxnState) → AgreesAt told db live t n x → is_writing x ≡ true → t.turn ≡ Some (numbered n)
holds_there told db live t n None a e = absurd (true_not_false (sym e))
holds_there told db live t n (Some (Writing u)) a e = a.turn
holds_there told db live t n (Some (Reading u had)) a e = absurd (true_not_false (sym e))
holds_there told db live t n (Some Auto) a e = absurd (true_not_false (sym e))
holds_there told db live t n (Some Deferred) a e = absurd (true_not_false (sym e))
holds_there told db live t n (Some (Dead why)) a e = absurd (true_not_false (sym e))
holds_there told db live t n (Some Closed) a e = absurd (true_not_false (sym e))

-- who holds the turn writes in its unit
pub record Holder {D : Type 0} (told : Bool) (db : D) (live : Lives D) (t : Turns) (n : ℕ) (x : Option TxnState) : Type 0 where
  pub unit : ℕ
  pub state : x ≡ Some (Writing unit)
  pub writes : WritesIn told db live t (numbered n) unit

pub holder : {D : Type 0} (told : Bool) (db : D) (live : Lives D) (t : Turns) (n : ℕ) (x : Option TxnState) → AgreesAt told db live t n x → t.turn ≡ Some (numbered n) → Holder told db live t n x
holder told db live t n (Some (Writing u)) a e = record { unit = u; state = refl; writes = a }
holder told db live t n None a e = absurd (a e)
holder told db live t n (Some (Reading u had)) a e = absurd (a.turn e)
holder told db live t n (Some Auto) a e = absurd (a e)
holder told db live t n (Some Deferred) a e = absurd (a e)
holder told db live t n (Some (Dead why)) a e = absurd (a e)
holder told db live t n (Some Closed) a e = absurd (a e)

began_up : (v v' : ℕ) (x : Option TxnState) → v ≤ v' → BeganBy v x → BeganBy v' x
began_up v v' None l b = tt
began_up v v' (Some (Writing u)) l b = tt
began_up v v' (Some (Reading u had)) l b = omega (arith, l, b)
began_up v v' (Some Auto) l b = tt
began_up v v' (Some Deferred) l b = tt
began_up v v' (Some (Dead why)) l b = tt
began_up v v' (Some Closed) l b = tt

-- it depends on the turn and the version alone
same_turn : {D : Type 0} (told : Bool) (db : D) (live : Lives D) (t t' : Turns) (n : ℕ) (x : Option TxnState) → t'.turn ≡ t.turn → t'.version ≡ t.version → AgreesAt told db live t n x → AgreesAt told db live t' n x
same_turn told db live t t' n None e v a = λ f. a (sym e ∙ f)
same_turn told db live t t' n (Some (Writing u)) e v a = record { turn = e ∙ a.turn; own = a.own; only = a.only }
same_turn told db live t t' n (Some (Reading u had)) e v a = record { turn = λ f. a.turn (sym e ∙ f); lives = a.lives; current = λ y now. a.current y (omega (arith, now, v)) }
same_turn told db live t t' n (Some Auto) e v a = λ f. a (sym e ∙ f)
same_turn told db live t t' n (Some Deferred) e v a = λ f. a (sym e ∙ f)
same_turn told db live t t' n (Some (Dead why)) e v a = λ f. a (sym e ∙ f)
same_turn told db live t t' n (Some Closed) e v a = λ f. a (sym e ∙ f)

-- ---- the streams together

pub turn_is_writers : {D : Type 0} (told shared : Bool) (db : D) (live : Lives D) (t : Turns) (next : ℕ) (states : States) → Together told shared db live t next states → TurnIsWriters t states
turn_is_writers told shared db live t next states h n = ((λ e. writes_here told db live t n (states n) (h.agree n) e), (λ e. holds_there told db live t n (states n) (h.agree n) e))

pub live_are_open : {D : Type 0} (told shared : Bool) (db : D) (live : Lives D) (t : Turns) (next : ℕ) (states : States) → Together told shared db live t next states → LiveAreOpen live states
live_are_open told shared db live t next states h u = ((λ some. h.owned u some), (λ o. unit_lives told db live t o.stream u (states o.stream) (h.agree o.stream) o.opened))

pub writers_are_writing : {D : Type 0} (told shared : Bool) (db : D) (live : Lives D) (t : Turns) (next : ℕ) (states : States) → Together told shared db live t next states → WritersAreWriting live states
writers_are_writing told shared db live t next states h u = ((λ w. by_turn t.turn w refl), writes)
  where
    by_turn : (turn : Option StreamNo) → IsLiveWriter live u → t.turn ≡ turn → IsWritersUnit states u
    by_turn None w i = absurd (true_not_false (sym w.writes ∙ h.writers i u w.view w.lives))
    by_turn (Some by) w i =
        let k = holder told db live t by.0 (states by.0) (h.agree by.0) i in
        elim (cases_eq u k.unit) [
          | inl e ↦ record { stream = by.0; writing = k.state ∙ ap (λ n. Some (Writing n)) (sym e) }
          | inr ne ↦ absurd (true_not_false (sym w.writes ∙ k.writes.only u w.view w.lives ne))
        ]

    writes : IsWritersUnit states u → IsLiveWriter live u
    writes o =
        let a : WritesIn told db live t (numbered o.stream) u = subst (λ x. AgreesAt told db live t o.stream x) o.writing (h.agree o.stream) in
        record { view = a.own.view; lives = a.own.lives; writes = a.own.writes }

pub no_readers : {D : Type 0} (told shared : Bool) (db : D) (live : Lives D) (t : Turns) (next : ℕ) (states : States) → Together told shared db live t next states → NoReaders shared states
no_readers told shared db live t next states h alone n u had e = by_turn t.turn refl
  where
    by_turn : (turn : Option StreamNo) → t.turn ≡ turn → ⊥
    by_turn None i = (let a : ReadsIn told db live t (numbered n) u had = subst (λ x. AgreesAt told db live t n x) e (h.agree n) in no_some (live u) (h.quiet alone i u) a.lives)
    by_turn (Some by) i =
        let a : ReadsIn told db live t (numbered n) u had = subst (λ x. AgreesAt told db live t n x) e (h.agree n) in
        let k = holder told db live t by.0 (states by.0) (h.agree by.0) i in
        let same : k.unit ≡ u = h.one alone k.unit u (own_lives told db live k.unit k.writes.own) a.lives in
        a.turn (i ∙ ap (λ m. Some (numbered m)) (h.apart by.0 n u (ap unit_at k.state ∙ ap Some same) (ap unit_at e)))

open_state : (state : TxnState) → is_shut state ≡ false → is_open (Some state) ≡ true
open_state state e = ap not e

pub may_poll : {D : Type 0} (told shared : Bool) (db : D) (live : Lives D) (t : Turns) (next : ℕ) (states : States) (s : StreamNo) (state : TxnState) → Together told shared db live t next states → states s.0 ≡ Some state → MayPoll told shared db live t next s state
may_poll told shared db live t next states s state h at = record {
  agrees = subst (λ x. AgreesAt told db live t s.0 x) at (h.agree s.0);
  reserved = λ e. h.places s.0 (ap is_open at ∙ open_state state e);
  below = h.below;
  writers = h.writers;
  quiet = h.quiet;
}

pub begins_together : {D : Type 0} (told shared : Bool) (db : D) (live : Lives D) (next : ℕ) → NoneLive live → Together told shared db live no_turns next (λ n. None)
begins_together told shared db live next none = record {
  agree = λ n e. none_some e;
  places = λ n e. absurd (true_not_false (sym e));
  began = λ n. tt;
  owned = λ u some. absurd (no_some (live u) (none u) some);
  apart = λ m n u a b. absurd (none_some a);
  below = λ n l. none n;
  writers = λ e n v i. absurd (none_some (sym (none n) ∙ i));
  quiet = λ e f. none;
  one = λ e a b some other. absurd (no_some (live a) (none a) some);
}

pub apart_numbers : (s : StreamNo) (n : ℕ) → n ≢ s.0 → s ≢ numbered n
apart_numbers s n ne e = ne (sym (ap (λ (x : StreamNo). x.0) e))

-- it holds of each number, where it holds of this one and of each other one
put_each : (P : ℕ → Option TxnState → Type 0) (states states' : States) (n : ℕ) (now : Option TxnState) → Put states states' n now → P n now → ((k : ℕ) → k ≢ n → P k (states k)) → (k : ℕ) → P k (states' k)
put_each P states states' n now put here others k = elim (cases_eq k n) [
  | inl e ↦ subst (λ j. P j (states' j)) (sym e) (subst (λ x. P n x) (sym put.here) here)
  | inr ne ↦ subst (λ x. P k x) (sym (put.others k ne)) (others k ne)
]

-- the unit that is open at a number now
unit_put : (states states' : States) (n : ℕ) (now : Option TxnState) (k u : ℕ) → Put states states' n now → unit_at (states' k) ≡ Some u → ((k ≡ n) × (unit_at now ≡ Some u)) ⊎ ((k ≢ n) × (unit_at (states k) ≡ Some u))
unit_put states states' n now k u put e = elim (cases_eq k n) [
  | inl i ↦ inl (i, sym (ap unit_at (ap states' i ∙ put.here)) ∙ e)
  | inr ne ↦ inr (ne, sym (ap unit_at (put.others k ne)) ∙ e)
]

pub joins_together : {D : Type 0} (told shared : Bool) (db : D) (live : Lives D) (t : Turns) (next : ℕ) (states states' : States) (s : StreamNo)
    → Together told shared db live t next states → states s.0 ≡ None → IsTrue (has s (with_place t s).reserved) → Put states states' s.0 (Some Auto) → Together told shared db live (with_place t s) next states'
joins_together told shared db live t next states states' s h at place put =
    record {
      agree = put_each (λ k x. AgreesAt told db live (with_place t s) k x) states states' s.0 (Some Auto) put (subst (λ x. AgreesAt told db live t s.0 x) at (h.agree s.0)) (λ k ne. same_turn told db live t (with_place t s) k (states k) refl refl (h.agree k));
      places = put_each (λ k x. is_open x ≡ true → IsTrue (has (numbered k) (with_place t s).reserved)) states states' s.0 (Some Auto) put (λ e. place) (λ k ne e. still_placed (numbered k) s t.reserved (h.places k e));
      began = put_each (λ k x. BeganBy t.version x) states states' s.0 (Some Auto) put tt (λ k ne. h.began k);
      owned = λ u some. (let o : IsOwned states u = h.owned u some in record { stream = o.stream; opened = ap unit_at (put.others o.stream (λ e. none_some (sym (ap unit_at (ap states e ∙ at)) ∙ o.opened))) ∙ o.opened });
      apart = λ m n u a b. elim (unit_put states states' s.0 (Some Auto) m u put a) [
        | inl here ↦ absurd (none_some here.1)
        | inr one ↦ elim (unit_put states states' s.0 (Some Auto) n u put b) [
          | inl here ↦ absurd (none_some here.1)
          | inr two ↦ h.apart m n u one.1 two.1
        ]
      ];
      below = h.below;
      writers = h.writers;
      quiet = h.quiet;
      one = h.one;
    }

-- the unit of the stream isn't that of another one
other_own : (states : States) (s : StreamNo) (state : TxnState) (k u : ℕ) → states s.0 ≡ Some state → ((m n v : ℕ) → unit_at (states m) ≡ Some v → unit_at (states n) ≡ Some v → m ≡ n) → k ≢ s.0 → unit_at (states k) ≡ Some u → unit_of state ≢ Some u
other_own states s state k u at apart ne e own = ne (apart k s.0 u e (ap unit_at at ∙ own))

together_after : {D : Type 0} (told shared writes : Bool) (m : Meaning D BoundStmt Answer) (db : D) (live : Lives D) (next : ℕ) (t : Turns) (db' : D) (live' : Lives D) (next' : ℕ) (t' : Turns) (s : StreamNo) (state : TxnState) (now : Option TxnState) (added : Option Entry) (states states' : States) → Classes m
    → Together told shared db live t next states → states s.0 ≡ Some state → Did told writes m db live next t db' live' t' s added → Goes shared (seen_in t next) state added now → Put states states' s.0 now
    → AgreesAt told db' live' t' s.0 now → AreBelow live' next' → WritesByTurn live' t' → StaysOne shared live live' t' → Together told shared db' live' t' next' states'
together_after {D} told shared w m db live next t db' live' next' t' s state now added states states' c h at d g put own below writers one =
    let grows : t.version ≤ t'.version = subst (λ v. t.version ≤ v) (sym d.version) (version_grows added t.version) in
    record {
      agree = put_each (λ k x. AgreesAt told db' live' t' k x) states states' s.0 now put own
          (λ k ne. agrees_other told w m db live next t db' live' t' s (unit_of state) k (states k) added c d (apart_numbers s k ne) g.own (λ u e. other_own states s state k u at h.apart ne e) (h.began k) (h.agree k));
      places = put_each (λ k x. is_open x ≡ true → IsTrue (has (numbered k) t'.reserved)) states states' s.0 now put
          (λ e. subst (λ r. IsTrue (has s r)) (sym d.reserved) (h.places s.0 (ap is_open at ∙ g.opened e)))
          (λ k ne e. subst (λ r. IsTrue (has (numbered k) r)) (sym d.reserved) (h.places k e));
      began = put_each (λ k x. BeganBy t'.version x) states states' s.0 now put
          (began_up t.version t'.version now grows (g.began (subst (λ x. BeganBy t.version x) at (h.began s.0))))
          (λ k ne. began_up t.version t'.version (states k) grows (h.began k));
      owned = λ u some. elim (lives_after told w m db live next t db' live' t' s (unit_of state) u added d g.own some) [
        | inl e ↦ record { stream = s.0; opened = ap unit_at put.here ∙ g.unit ∙ e }
        | inr old ↦ (let o : IsOwned states u = h.owned u old.1 in record { stream = o.stream; opened = ap unit_at (put.others o.stream (λ e. old.0 (sym (ap unit_at (ap states e ∙ at)) ∙ o.opened))) ∙ o.opened })
      ];
      apart = λ a b u one two. elim (unit_put states states' s.0 now a u put one) [
        | inl x ↦ elim (unit_put states states' s.0 now b u put two) [
          | inl y ↦ x.0 ∙ sym y.0
          | inr y ↦ absurd (clash b u y.0 y.1 x.1)
        ]
        | inr x ↦ elim (unit_put states states' s.0 now b u put two) [
          | inl y ↦ absurd (clash a u x.0 x.1 y.1)
          | inr y ↦ h.apart a b u x.1 y.1
        ]
      ];
      below = below;
      writers = writers;
      quiet = λ alone. (one alone (h.one alone)).1;
      one = λ alone. (one alone (h.one alone)).0;
    }
  where
    clash : (k u : ℕ) → k ≢ s.0 → unit_at (states k) ≡ Some u → unit_at now ≡ Some u → ⊥
    clash k u ne e i = elim (unit_from told w db live next t s (unit_of state) u added d.from (sym g.unit ∙ i)) [
      | inl same ↦ other_own states s state k u at h.apart ne e same
      | inr none ↦ no_some (live u) none (unit_lives told db live t k u (states k) (h.agree k) e)
    ]

pub did : {X D : Type 0} (told : Bool) (m : Meaning D BoundStmt Answer) (db : X → D) (live : X → Lives D) (faults : X → ℕ) (s : StreamNo) (engine engine' : X) (t t' : Turns) (old new : Noted) (waits : Bool) (P : Option Entry → Type 0) → (a : AddsOne told m db live faults s engine engine' t t' old new waits P)
    → Did told a.writes m (db engine) (live engine) old.next t (db engine') (live engine') t' s a.added
did told m db live faults s engine engine' t t' old new waits P a = record { effects = a.effects; from = a.moved.from; turn = a.moved.turn; version = a.moved.version; reserved = a.moved.reserved }

-- a poll of one of them
pub polls_together : {X D : Type 0} (told shared : Bool) (m : Meaning D BoundStmt Answer) (db : X → D) (live : X → Lives D) (faults : X → ℕ) (engine engine' : X) (t t' : Turns) (old new : Noted) (task task' : Task) (result : Poll Stepped) (states states' : States) → Classes m
    → Together told shared (db engine) (live engine) t old.next states → states task.stream.0 ≡ Some task.session.state → HasPolled told shared m db live faults engine engine' t t' old new task task' result → Put states states' task.stream.0 (Some task'.session.state)
    → Together told shared (db engine') (live engine') t' new.next states'
polls_together told shared m db live faults engine engine' t t' old new task task' result states states' c h at p put =
    together_after told shared p.adds.writes m (db engine) (live engine) old.next t (db engine') (live engine') new.next t' task.stream task.session.state (Some task'.session.state) p.adds.added states states' c h at
    (did told m db live faults task.stream engine engine' t t' old new _ _ p.adds)
    (goes_polls shared (seen_in t old.next) task p.adds.added result task' p.adds.holds)
    put
    (subst (λ x. AgreesAs told (db engine') (live engine') t' x task'.session.state) p.stream p.agrees)
    p.below p.writers p.one

pub shut_off : {D : Type 0} (told : Bool) (db : D) (live : Lives D) (t : Turns) (n : ℕ) (x : Option TxnState) → is_open x ≡ false → t.turn ≢ Some (numbered n) → AgreesAt told db live t n x
shut_off told db live t n None e a = a
shut_off told db live t n (Some (Dead why)) e a = a
shut_off told db live t n (Some Closed) e a = a
shut_off told db live t n (Some Auto) e a = absurd (true_not_false e)
shut_off told db live t n (Some Deferred) e a = absurd (true_not_false e)
shut_off told db live t n (Some (Reading u had)) e a = absurd (true_not_false e)
shut_off told db live t n (Some (Writing u)) e a = absurd (true_not_false e)

-- the table lets go of a stream that is shut, or isn't there, and doesn't hold the turn
lost_together : {D : Type 0} (told shared : Bool) (db : D) (live : Lives D) (t : Turns) (next : ℕ) (states : States) (s : StreamNo) → Together told shared db live t next states → is_open (states s.0) ≡ false → t.turn ≢ Some s → Together told shared db live (after_loss t s) next states
lost_together told shared db live t next states s h shut off =
    let same : (after_loss t s).turn ≡ t.turn = given_other t.turn s off in
    record {
      agree = λ n. same_turn told db live t (after_loss t s) n (states n) same refl (h.agree n);
      places = λ n e. has_without (numbered n) s t.reserved (λ i. true_not_false (sym e ∙ ap (λ (x : StreamNo). is_open (states x.0)) i ∙ shut)) (h.places n e);
      began = h.began;
      owned = h.owned;
      apart = h.apart;
      below = h.below;
      writers = λ e. h.writers (sym same ∙ e);
      quiet = λ alone e. h.quiet alone (sym same ∙ e);
      one = h.one;
    }

-- after the entry that ends its unit the stream doesn't hold the turn
pub off_undone : {D : Type 0} (told writes : Bool) (db : D) (live : Lives D) (t between : Turns) (s : StreamNo) (why : Undo) (state : TxnState) → AgreesAs told db live t s state → between.turn ≡ turn_by s writes (undone_of why state) t.turn → between.turn ≢ Some s
off_undone told w db live t b s why (Reading u had) a e f = given_back_is t.turn s (sym e ∙ f)
off_undone told w db live t b s why (Writing u) a e f = given_back_is t.turn s (sym e ∙ f)
off_undone told w db live t b s why Auto a e f = a (sym e ∙ f)
off_undone told w db live t b s why Deferred a e f = a (sym e ∙ f)
off_undone told w db live t b s why (Dead cause) a e f = a (sym e ∙ f)
off_undone told w db live t b s why Closed a e f = a (sym e ∙ f)

-- the end of one of them
pub ends_together : {X D : Type 0} (told shared : Bool) (m : Meaning D BoundStmt Answer) (db : X → D) (live : X → Lives D) (faults : X → ℕ) (engine engine' : X) (t t' : Turns) (old new : Noted) (task : Task) (why : Undo) (now : Option TxnState) (states states' : States) → Classes m
    → Together told shared (db engine) (live engine) t old.next states → states task.stream.0 ≡ Some task.session.state → HasEnded told shared m db live faults engine engine' t t' old new task why → is_open now ≡ false → Put states states' task.stream.0 now
    → Together told shared (db engine') (live engine') t' new.next states'
ends_together told shared m db live faults engine engine' t t' old new task why now states states' c h at p shut put =
    let s = task.stream in
    let state = task.session.state in
    let between = p.ends.between in
    let a = p.ends.adds in
    let own : AgreesAs told (db engine) (live engine) t s state = (may_poll told shared (db engine) (live engine) t old.next states s state h at).agrees in
    let off : between.turn ≢ Some s = off_undone told a.writes (db engine) (live engine) t between s why state own (a.moved.turn ∙ ap (λ x. turn_by s a.writes x t.turn) a.holds) in
    let same : t'.turn ≡ between.turn = ap (λ (x : Turns). x.turn) p.ends.lost ∙ given_other between.turn s off in
    let after : Together told shared (db engine') (live engine') between new.next states' =
    together_after told shared a.writes m (db engine) (live engine) old.next t (db engine') (live engine') new.next between s state now a.added states states' c h at
    (did told m db live faults s engine engine' t between old new _ _ a)
    (subst (λ x. Goes shared (seen_in t old.next) state x now) (sym a.holds) (goes_undone shared (seen_in t old.next) why state now shut))
    put (shut_off told (db engine') (live engine') between s.0 now shut off) p.below (λ e. p.writers (same ∙ e)) (λ alone one. ((p.one alone one).0, λ e. (p.one alone one).1 (same ∙ e))) in
    subst (λ x. Together told shared (db engine') (live engine') x new.next states') (sym p.ends.lost)
    (lost_together told shared (db engine') (live engine') between new.next states' s after (ap is_open put.here ∙ shut) off)
