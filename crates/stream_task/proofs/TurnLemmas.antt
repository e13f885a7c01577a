-- The turn as a poll takes it and gives it back.
use Rattle.std.proofs.Common.{◌≡◌, ◌≢◌, ◌≤◌, ◌<◌, ℕ, nat_lt, Option, Some, None, refl, sym, ap, ◌∙◌, subst, arith, inl, inr}
use Rattle.std.proofs.lemmas.Bool.{cases_Bool, ltb-true, ltb-false}
use Rattle.hrana_value.specs.declared.StreamNo.{StreamNo}
use Rattle.txn_table.specs.Turns.{Turns, same_stream, now_or, grant_of, after_grant, given_back, without}
use Rattle.txn_table.specs.declared.table.Need.TheVariants as need
use Rattle.txn_table.specs.declared.table.Grant.{Grant}
use Rattle.txn_table.specs.declared.table.Grant.TheVariants.{Now, Wait, Stale, Held as HeldBy}
use Rattle.txn_table.proofs.StreamLemmas.{same, other, true_not_false}
use Rattle.engine_core.specs.declared.entries.Deny.{Deny}
use Rattle.engine_core.specs.declared.entries.Deny.TheVariants as deny
use Rattle.stream_task.specs.Moved.{turn_for, turn_given, table_given}
use Rattle.stream_task.specs.declared.turns.Turn.TheVariants.{Taken, Denied}

pub none_some : {X : Type 0} {x : X} → ◌≡◌ {A = Option X} None (Some x) → ⊥
none_some e = cc

pub some_one : {X : Type 0} {x y : X} → ◌≡◌ {A = Option X} (Some x) (Some y) → x ≡ y
some_one e = cc

pub not_held : (o : Option StreamNo) (s : StreamNo) → o ≡ None → o ≢ Some s
not_held o s e h = none_some (sym e ∙ h)

-- ---- the turn given back

pub given_own : (s : StreamNo) → given_back (Some s) s ≡ None
given_own s = rw (same s s refl) refl

pub given_other : (o : Option StreamNo) (s : StreamNo) → o ≢ Some s → given_back o s ≡ o
given_other None s ne = refl
given_other (Some h) s ne = rw (other h s (λ e. ne (ap Some e))) refl

pub given_back_is : (o : Option StreamNo) (s : StreamNo) → given_back o s ≢ Some s
given_back_is None s e = none_some e
given_back_is (Some h) s e = elim (cases_Bool (same_stream h s)) [
  | inl t ↦ none_some (let f : ◌≡◌ {A = Option StreamNo} None (Some s) = rw t at e in f)
  | inr n ↦
      let f : ◌≡◌ {A = Option StreamNo} (Some h) (Some s) = rw n at e in
      true_not_false (sym (same h s (some_one f)) ∙ n)
]

-- ---- the turn taken

-- nobody held the turn, and the stream has it now
pub record TookTurn (s : StreamNo) (t held : Turns) : Type 0 where
  pub free : t.turn ≡ None
  pub turn : held.turn ≡ Some s
  pub version : held.version ≡ t.version
  pub reserved : held.reserved ≡ t.reserved
  pub waiters : held.waiters ≡ without s t.waiters

taken_free : (o : Option StreamNo) (v : ℕ) → turn_for (now_or Wait o v) ≡ Taken → o ≡ None
taken_free None v e = refl
taken_free (Some h) v e = absurd (cc)

held_free : (o : Option StreamNo) (v : ℕ) → turn_for (now_or HeldBy o v) ≡ Taken → o ≡ None
held_free None v e = refl
held_free (Some h) v e = absurd (cc)

granted_now : (s : StreamNo) (t : Turns) (g : Grant) → t.turn ≡ None → turn_for g ≡ Taken → TookTurn s t (after_grant t s g)
granted_now s t (Now v) free e = record { free = free; turn = refl; version = refl; reserved = refl; waiters = refl }
granted_now s t (Wait h) free e = absurd (cc)
granted_now s t (Stale had now) free e = absurd (cc)
granted_now s t (HeldBy h) free e = absurd (cc)

pub took_alone : (s : StreamNo) (t : Turns) → turn_given t (Some need.Alone) ≡ Taken → TookTurn s t (table_given t s (Some need.Alone))
took_alone s t e = granted_now s t (grant_of t need.Alone) (taken_free t.turn t.version e) e

pub took_begin : (s : StreamNo) (t : Turns) → turn_given t (Some need.Begin) ≡ Taken → TookTurn s t (table_given t s (Some need.Begin))
took_begin s t e = granted_now s t (grant_of t need.Begin) (taken_free t.turn t.version e) e

upgrade_free : (t : Turns) (had : ℕ) → turn_given t (Some (need.Upgrade had)) ≡ Taken → (t.turn ≡ None) × (t.version ≤ had)
upgrade_free t had e = elim (cases_Bool (nat_lt had t.version)) [
  | inl l ↦ absurd (let f : Denied (deny.Stale had t.version) ≡ Taken = rw l at e in cc)
  | inr g ↦
      let f : turn_for (now_or HeldBy t.turn t.version) ≡ Taken = rw g at e in
      (held_free t.turn t.version f, omega (arith, ltb-false had t.version g))
]

pub took_upgrade : (s : StreamNo) (t : Turns) (had : ℕ) → turn_given t (Some (need.Upgrade had)) ≡ Taken → TookTurn s t (table_given t s (Some (need.Upgrade had)))
took_upgrade s t had e = granted_now s t (grant_of t (need.Upgrade had)) (upgrade_free t had e).0 e

pub current_upgrade : (t : Turns) (had : ℕ) → turn_given t (Some (need.Upgrade had)) ≡ Taken → t.version ≤ had
current_upgrade t had e = (upgrade_free t had e).1

-- ---- a reader that may not write

-- why a reader is denied, by the table
abbrev pub IsDenied : Turns → ℕ → Deny → Type 0
IsDenied t had (deny.Stale began now) = (began ≡ had) × (now ≡ t.version) × (had < t.version)
IsDenied t had (deny.Held by) = (t.turn ≡ Some by) × (t.version ≤ had)

never_denied : (o : Option StreamNo) (v : ℕ) (why : Deny) → turn_for (now_or Wait o v) ≡ Denied why → ⊥
never_denied None v why e = cc
never_denied (Some h) v why e = cc

pub alone_not_denied : (t : Turns) (why : Deny) → turn_given t (Some need.Alone) ≡ Denied why → ⊥
alone_not_denied t why e = never_denied t.turn t.version why e

pub begin_not_denied : (t : Turns) (why : Deny) → turn_given t (Some need.Begin) ≡ Denied why → ⊥
begin_not_denied t why e = never_denied t.turn t.version why e

held_denied : (o : Option StreamNo) (v : ℕ) (why : Deny) → turn_for (now_or HeldBy o v) ≡ Denied why → (by : StreamNo) × (o ≡ Some by) × (why ≡ deny.Held by)
held_denied None v why e = absurd (cc)
held_denied (Some h) v why e = let f : deny.Held h ≡ why = cc in (h, refl, sym f)

pub upgrade_denied : (s : StreamNo) (t : Turns) (had : ℕ) (why : Deny) → turn_given t (Some (need.Upgrade had)) ≡ Denied why → IsDenied t had why × (table_given t s (Some (need.Upgrade had)) ≡ t)
upgrade_denied s t had why e = elim (cases_Bool (nat_lt had t.version)) [
  | inl l ↦
      let f : deny.Stale had t.version ≡ why = let g : Denied (deny.Stale had t.version) ≡ Denied why = rw l at e in cc in
      (subst (λ (w : Deny). IsDenied t had w) f (refl, refl, ltb-true had t.version l), rw l refl)
  | inr g ↦
      let f : turn_for (now_or HeldBy t.turn t.version) ≡ Denied why = rw g at e in
      let h = held_denied t.turn t.version why f in (
        subst (λ (w : Deny). IsDenied t had w) (sym h.2) (h.1, omega (arith, ltb-false had t.version g)),
        rw (g, h.1) refl,
      )
]
