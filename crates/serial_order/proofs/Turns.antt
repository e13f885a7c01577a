-- With one turn no entry of another unit stands between the `Began` of a unit and its end.
use Rattle.std.proofs.Common.{◌≡◌, ℕ, Bool, true, false, not, ◌&&◌, ◌||◌, nat_eq, List, [], ◌∷◌, Some, None, refl, sym, ap, ap₂, ◌∙◌, inl, inr}
use Rattle.std.proofs.lemmas.Bool.{eq-eqb}
use Rattle.serial_order.specs.Journal.{Entry, Alone, Began, Ran, Denied, Ended, Failed, Commit, ReadOnly, Undone}
use Rattle.serial_order.specs.Serial.{Meaning}
use Rattle.serial_order.specs.Machine.{Live, State, IsSame, IsAt, NoLive, RunByTurns}
use Rattle.serial_order.specs.Turns.{has_the_turn, one_after_another}
use Rattle.serial_order.proofs.Keep.{at_cases}
use Rattle.serial_order.proofs.Words.{words}

-- this unit is live, and no other
record IsOnly {D : Type 0} (st : State D) (u : ℕ) : Type 0 where
  unit : Live D
  is : st.live u ≡ Some unit
  only : (k : ℕ) (p : Live D) → st.live k ≡ Some p → k ≡ u

only_same : {D : Type 0} (old new : State D) (u : ℕ) → IsSame old new → IsOnly old u → IsOnly new u
only_same old new u s h = record { unit = h.unit; is = s.live u ∙ h.is; only = λ k p e. h.only k p (sym (s.live k) ∙ e) }

only_ran : {D : Type 0} (old new : State D) (u v : ℕ) (o : Live D) → v ≡ u → IsAt old new v (Some o) → IsOnly old u → IsOnly new u
only_ran old new u v o e a h = record {
  unit = o;
  is = ap new.live (sym e) ∙ a.here;
  only = λ k p f. elim (at_cases old new v (Some o) k p a f) [ inl w ↦ w.0 ∙ e | inr w ↦ h.only k p w.1 ];
}

only_begun : {D : Type 0} (old new : State D) (u : ℕ) (o : Live D) → NoLive old → IsAt old new u (Some o) → IsOnly new u
only_begun old new u o n a = record {
  unit = o;
  is = a.here;
  only = λ k p f. elim (at_cases old new u (Some o) k p a f) [ inl w ↦ w.0 | inr w ↦ absurd (let none : None ≡ Some p = sym (n k) ∙ w.1 in cc) ];
}

goes_on : (v u : ℕ) (b : Bool) → v ≡ u → b ≡ true → (not (not (nat_eq v u)) && (false || b)) ≡ true
goes_on v u b e h = ap₂ (λ x y. not (not x) && (false || y)) (eq-eqb v u e) h

comes_to_end : (v u : ℕ) (b : Bool) → v ≡ u → (not (not (nat_eq v u)) && (nat_eq v u || b)) ≡ true
comes_to_end v u b e = ap (λ x. not (not x) && (x || b)) (eq-eqb v u e)

no_begin : {D : Type 0} (P : Type 0) (st : State D) (u : ℕ) → NoLive st → IsOnly st u → P
no_begin P st u n h = absurd (let none : None ≡ Some h.unit = sym (n u) ∙ h.is in cc)

turn_kept : {D S A : Type 0} (m : Meaning D S A) (old : State D) (u : ℕ) (es : List (Entry S A)) (new : State D) → RunByTurns m old es new → IsOnly old u → has_the_turn u es ≡ true
unfolding words
turn_kept m old u [] new r h = refl
turn_kept m old u (Alone s q a w ∷ es) new r h = no_begin _ old u r.2 h
turn_kept m old u (Began v s ∷ es) new r h = no_begin _ old u r.2 h
turn_kept m old u (Ran v q a ∷ es) new r h =
    let e = h.only v r.1.unit r.1.is in
    goes_on v u _ e (turn_kept m r.0 u es new r.3 (only_ran old r.0 u v _ e r.1.live h))
turn_kept m old u (Denied v d ∷ es) new r h = goes_on v u _ (h.only v r.1.unit r.1.is) (turn_kept m r.0 u es new r.3 (only_same old r.0 u r.1.same h))
turn_kept m old u (Ended v Commit ∷ es) new r h = comes_to_end v u _ (h.only v r.1.unit r.1.is)
turn_kept m old u (Ended v ReadOnly ∷ es) new r h = comes_to_end v u _ (h.only v r.1.unit r.1.is)
turn_kept m old u (Ended v (Undone undo) ∷ es) new r h = comes_to_end v u _ (h.only v r.1.unit r.1.is)
turn_kept m old u (Failed s None cause ∷ es) new r h = turn_kept m r.0 u es new r.3 (only_same old r.0 u r.1.same h)
turn_kept m old u (Failed s (Some v) cause ∷ es) new r h = comes_to_end v u _ (h.only v r.1.unit r.1.is)

pub apart_law : {D S A : Type 0} (m : Meaning D S A) (old : State D) (es : List (Entry S A)) (new : State D) → RunByTurns m old es new → one_after_another es ≡ true
unfolding words
apart_law m old [] new r = refl
apart_law m old (Alone s q a w ∷ es) new r = apart_law m r.0 es new r.3
apart_law m old (Began u s ∷ es) new r = ap₂ (λ x y. x && y) (turn_kept m r.0 u es new r.3 (only_begun old r.0 u _ r.2 r.1.live)) (apart_law m r.0 es new r.3)
apart_law m old (Ran v q a ∷ es) new r = apart_law m r.0 es new r.3
apart_law m old (Denied v d ∷ es) new r = apart_law m r.0 es new r.3
apart_law m old (Ended v how ∷ es) new r = apart_law m r.0 es new r.3
apart_law m old (Failed s v cause ∷ es) new r = apart_law m r.0 es new r.3
