-- The streams of a desk stay sound.
use Rattle.std.proofs.Common.{◌≡◌, ◌≢◌, ◌≤◌, ◌<◌, ◌+◌, ◌⊎◌, ℕ, zero, suc, Bool, List, [], ◌∷◌, ◌++◌, length, set, get_or, Option, Some, None, Result, Ok, Err, OnOk, OnErr, IsTrue, refl, sym, ap, ◌∙◌, subst, arith, inl, inr}
use Rattle.std.specs.Prelude.{slice_get}
use Rattle.std.proofs.Math.Path.{fun_ext}
use Rattle.std.proofs.lemmas.Bool.{cases_eq}
use Rattle.std.proofs.lemmas.Option.{slice_get_read}
use Rattle.hrana_value.specs.declared.StreamNo.{StreamNo}
use Rattle.serial_order.specs.Serial.{Meaning}
use Rattle.stream_requests.specs.declared.asks.Ask.{Ask}
use Rattle.txn_table.specs.Turns.{Turns, no_turns, has, with_place}
use Rattle.engine_core.specs.Noted.{Noted}
use Rattle.engine_core.specs.Transactions.{Lives, NoneLive}
use Rattle.engine_core.specs.declared.statement.BoundStmt.{BoundStmt}
use Rattle.engine_core.specs.declared.entries.Answer.{Answer}
use Rattle.engine_core.specs.declared.entries.Undo.{Undo}
use Rattle.stream_task.specs.Polls.{Task, asked, ended, new_task, dead_cause}
use Rattle.stream_task.specs.Together.{States, Put, Together, MayPoll, HasPolled, HasEnded, numbered}
use Rattle.stream_task.specs.declared.session.TxnState.{TxnState}
use Rattle.stream_task.specs.declared.session.TxnState.TheVariants.{Auto, Dead}
use Rattle.stream_task.specs.declared.task.Poll.{Poll}
use Rattle.stream_task.specs.declared.task.Stepped.{Stepped}
use Rattle.stream_task.proofs.TogetherLemmas.{Classes, may_poll, begins_together, joins_together, polls_together, ends_together}
use Rattle.stream_tests.specs.Desk.{states_of, AreNumbered, IsSound}

none_some : {X : Type 0} {x : X} → ◌≡◌ {A = Option X} None (Some x) → ⊥
none_some e = cc

some_one : {X : Type 0} {x y : X} → ◌≡◌ {A = Option X} (Some x) (Some y) → x ≡ y
some_one e = cc

below_suc : (n k : ℕ) → suc n < suc k → n < k
below_suc n k l = omega (arith, l)

suc_apart : (n k : ℕ) → suc n ≢ suc k → n ≢ k
suc_apart n k ne e = ne (ap suc e)

-- ---- a list of streams

-- the stream at a place
state_at : (xs : List Task) (n : ℕ) (x : Task) → slice_get xs n ≡ Some x → states_of xs n ≡ Some x.session.state
state_at [] n x e = absurd (none_some e)
state_at (y ∷ xs) zero x e = ap (λ (t : Task). Some t.session.state) (some_one e)
state_at (y ∷ xs) (suc n) x e = state_at xs n x e

set_here : (xs : List Task) (n : ℕ) (y : Task) → n < length xs → slice_get (set xs n y) n ≡ Some y
set_here [] n y l = absurd (omega (arith, l))
set_here (x ∷ xs) zero y l = refl
set_here (x ∷ xs) (suc n) y l = set_here xs n y (below_suc n (length xs) l)

set_other : (xs : List Task) (n k : ℕ) (y : Task) → k ≢ n → slice_get (set xs n y) k ≡ slice_get xs k
set_other [] n k y ne = refl
set_other (x ∷ xs) zero zero y ne = absurd (ne refl)
set_other (x ∷ xs) zero (suc k) y ne = refl
set_other (x ∷ xs) (suc n) zero y ne = refl
set_other (x ∷ xs) (suc n) (suc k) y ne = set_other xs n k y (suc_apart k n ne)

other_state : (xs : List Task) (n k : ℕ) (y : Task) → k ≢ n → states_of (set xs n y) k ≡ states_of xs k
other_state [] n k y ne = refl
other_state (x ∷ xs) zero zero y ne = absurd (ne refl)
other_state (x ∷ xs) zero (suc k) y ne = refl
other_state (x ∷ xs) (suc n) zero y ne = refl
other_state (x ∷ xs) (suc n) (suc k) y ne = other_state xs n k y (suc_apart k n ne)

put_set : (xs : List Task) (n : ℕ) (y : Task) → n < length xs → Put (states_of xs) (states_of (set xs n y)) n (Some y.session.state)
put_set xs n y l = record { here = state_at (set xs n y) n y (set_here xs n y l); others = λ k ne. other_state xs n k y ne }

numbers_set : (xs : List Task) (n : ℕ) (y : Task) → n < length xs → AreNumbered xs → y.stream ≡ numbered n → AreNumbered (set xs n y)
numbers_set xs n y l numbers own k x e = elim (cases_eq k n) [
  | inl i ↦
      let at : slice_get (set xs n y) k ≡ Some y = ap (λ j. slice_get (set xs n y) j) i ∙ set_here xs n y l in
      ap (λ (t : Task). t.stream) (some_one (sym e ∙ at)) ∙ own ∙ ap numbered (sym i)
  | inr ne ↦ numbers k x (sym (set_other xs n k y ne) ∙ e)
]

push_here : (xs : List Task) (y : Task) → slice_get (xs ++ y ∷ []) (length xs) ≡ Some y
push_here [] y = refl
push_here (x ∷ xs) y = push_here xs y

push_state : (xs : List Task) (y : Task) (k : ℕ) → k ≢ length xs → states_of (xs ++ y ∷ []) k ≡ states_of xs k
push_state [] y zero ne = absurd (ne refl)
push_state [] y (suc k) ne = refl
push_state (x ∷ xs) y zero ne = refl
push_state (x ∷ xs) y (suc k) ne = push_state xs y k (suc_apart k (length xs) ne)

push_other : (xs : List Task) (y : Task) (k : ℕ) → k ≢ length xs → slice_get (xs ++ y ∷ []) k ≡ slice_get xs k
push_other [] y zero ne = absurd (ne refl)
push_other [] y (suc k) ne = refl
push_other (x ∷ xs) y zero ne = refl
push_other (x ∷ xs) y (suc k) ne = push_other xs y k (suc_apart k (length xs) ne)

past_end : (xs : List Task) → states_of xs (length xs) ≡ None
past_end [] = refl
past_end (x ∷ xs) = past_end xs

put_push : (xs : List Task) (y : Task) → Put (states_of xs) (states_of (xs ++ y ∷ [])) (length xs) (Some y.session.state)
put_push xs y = record { here = state_at (xs ++ y ∷ []) (length xs) y (push_here xs y); others = λ k ne. push_state xs y k ne }

numbers_push : (xs : List Task) (y : Task) → AreNumbered xs → y.stream ≡ numbered (length xs) → AreNumbered (xs ++ y ∷ [])
numbers_push xs y numbers own k x e = elim (cases_eq k (length xs)) [
  | inl i ↦
      let at : slice_get (xs ++ y ∷ []) k ≡ Some y = ap (λ j. slice_get (xs ++ y ∷ []) j) i ∙ push_here xs y in
      ap (λ (t : Task). t.stream) (some_one (sym e ∙ at)) ∙ own ∙ ap numbered (sym i)
  | inr ne ↦ numbers k x (sym (push_other xs y k ne) ∙ e)
]

-- ---- the calls

pub sound_new : {D : Type 0} (told shared : Bool) (db : D) (live : Lives D) (t : Turns) (next : ℕ) → NoneLive live → t ≡ no_turns → IsSound told shared db live t next []
sound_new told shared db live t next none e = record {
  numbers = λ n x i. absurd (none_some i);
  together = subst (λ x. Together told shared db live x next (λ n. None)) (sym e) (begins_together told shared db live next none);
}

pub sound_open : {D : Type 0} (told shared : Bool) (db : D) (live : Lives D) (t t' : Turns) (next : ℕ) (xs : List Task) (s : StreamNo) (y : Task) (inside : Bool) → IsSound told shared db live t next xs → s ≡ numbered (length xs) → y ≡ new_task s inside → t' ≡ with_place t s → IsTrue (has s t'.reserved)
    → IsSound told shared db live t' next (xs ++ y ∷ [])
sound_open told shared db live t t' next xs s y inside h at is e place =
    let n = length xs in
    let state : y.session.state ≡ Auto = ap (λ (x : Task). x.session.state) is in
    let number : s.0 ≡ n = ap (λ (x : StreamNo). x.0) at in
    let put : Put (states_of xs) (states_of (xs ++ y ∷ [])) s.0 (Some Auto) = subst (λ k. Put (states_of xs) (states_of (xs ++ y ∷ [])) k (Some Auto)) (sym number) (subst (λ x. Put (states_of xs) (states_of (xs ++ y ∷ [])) n (Some x)) state (put_push xs y)) in
    record {
      numbers = numbers_push xs y h.numbers (ap (λ (x : Task). x.stream) is ∙ at);
      together = subst (λ x. Together told shared db live x next (states_of (xs ++ y ∷ []))) (sym e)
          (joins_together told shared db live t next (states_of xs) (states_of (xs ++ y ∷ [])) s h.together (ap (states_of xs) number ∙ past_end xs) (subst (λ (x : Turns). IsTrue (has s x.reserved)) e place) put);
    }

-- the stream at a place, as it is read there
item : (xs : List Task) (n : ℕ) (x : Task) → n < length xs → x ≡ get_or xs n x → slice_get xs n ≡ Some x
item xs n x l e = slice_get_read xs (length xs) n x refl l e

-- a stream whose state and number stay
sound_same : {D : Type 0} (told shared : Bool) (db : D) (live : Lives D) (t : Turns) (next : ℕ) (xs : List Task) (n : ℕ) (x y : Task) → IsSound told shared db live t next xs → n < length xs → x ≡ get_or xs n x → y.stream ≡ x.stream → y.session.state ≡ x.session.state
    → IsSound told shared db live t next (set xs n y)
sound_same told shared db live t next xs n x y h l is s z =
    let at : slice_get xs n ≡ Some x = item xs n x l is in
    let same : states_of xs ≡ states_of (set xs n y) = fun_ext (λ k. elim (cases_eq k n) [
      | inl i ↦ ap (states_of xs) i ∙ state_at xs n x at ∙ ap Some (sym z) ∙ sym (put_set xs n y l).here ∙ ap (states_of (set xs n y)) (sym i)
      | inr ne ↦ sym (other_state xs n k y ne)
    ]) in
    record {
      numbers = numbers_set xs n y l h.numbers (s ∙ h.numbers n x at);
      together = subst (Together told shared db live t next) same h.together;
    }

asked_same : (x y : Task) (ask : Ask) → y ≡ asked x ask → (y.stream ≡ x.stream) × (y.session.state ≡ x.session.state)
asked_same x y ask e = (ap (λ (t : Task). t.stream) e, ap (λ (t : Task). t.session.state) e)

sound_asked : {D : Type 0} (told shared : Bool) (db : D) (live : Lives D) (t : Turns) (next : ℕ) (xs : List Task) (n : ℕ) (x y : Task) (ask : Ask) → IsSound told shared db live t next xs → n < length xs → x ≡ get_or xs n x → y ≡ asked x ask
    → IsSound told shared db live t next (set xs n y)
sound_asked told shared db live t next xs n x y ask h l is e = let same = asked_same x y ask e in sound_same told shared db live t next xs n x y h l is same.0 same.1

sound_kept : {D : Type 0} (told shared : Bool) (db : D) (live : Lives D) (t : Turns) (next : ℕ) (xs : List Task) (n : ℕ) (x y : Task) → IsSound told shared db live t next xs → n < length xs → x ≡ get_or xs n x → y ≡ x
    → IsSound told shared db live t next (set xs n y)
sound_kept told shared db live t next xs n x y h l is e = sound_same told shared db live t next xs n x y h l is (ap (λ (z : Task). z.stream) e) (ap (λ (z : Task). z.session.state) e)

-- a stream that was asked one thing more, or that is as it was
pub sound_add : {A B D : Type 0} (told shared : Bool) (db : D) (live : Lives D) (t : Turns) (next : ℕ) (xs : List Task) (n : ℕ) (x y : Task) (ask : Ask) (r : Result A B) → IsSound told shared db live t next xs → n < length xs → x ≡ get_or xs n x → OnOk r (y ≡ asked x ask) → OnErr r (y ≡ x)
    → IsSound told shared db live t next (set xs n y)
sound_add told shared db live t next xs n x y ask (Ok v) h l is ok err = sound_asked told shared db live t next xs n x y ask h l is ok
sound_add told shared db live t next xs n x y ask (Err e) h l is ok err = sound_kept told shared db live t next xs n x y h l is err

pub place_may : {D : Type 0} (told shared : Bool) (db : D) (live : Lives D) (t : Turns) (next next' : ℕ) (xs : List Task) (n : ℕ) (x : Task) → IsSound told shared db live t next xs → n < length xs → x ≡ get_or xs n x → next' ≡ next → MayPoll told shared db live t next' x.stream x.session.state
place_may told shared db live t next next' xs n x h l is e =
    let at : slice_get xs n ≡ Some x = item xs n x l is in
    may_poll told shared db live t next' (states_of xs) x.stream x.session.state (subst (λ k. Together told shared db live t k (states_of xs)) (sym e) h.together)
    (ap (λ (s : StreamNo). states_of xs s.0) (h.numbers n x at) ∙ state_at xs n x at)

pub sound_polled : {X D : Type 0} (told shared : Bool) (m : Meaning D BoundStmt Answer) (db : X → D) (live : X → Lives D) (faults : X → ℕ) (engine engine' : X) (t t' : Turns) (old new : Noted) (next : ℕ) (xs : List Task) (n : ℕ) (x y : Task) (result : Poll Stepped) → Classes m
    → IsSound told shared (db engine) (live engine) t next xs → n < length xs → x ≡ get_or xs n x → old.next ≡ next → HasPolled told shared m db live faults engine engine' t t' old new x y result
    → IsSound told shared (db engine') (live engine') t' new.next (set xs n y)
sound_polled told shared m db live faults engine engine' t t' old new next xs n x y result c h l is e p =
    let at : slice_get xs n ≡ Some x = item xs n x l is in
    let number : x.stream.0 ≡ n = ap (λ (s : StreamNo). s.0) (h.numbers n x at) in
    record {
      numbers = numbers_set xs n y l h.numbers (p.stream ∙ h.numbers n x at);
      together = polls_together told shared m db live faults engine engine' t t' old new x y result (states_of xs) (states_of (set xs n y)) c
          (subst (λ k. Together told shared (db engine) (live engine) t k (states_of xs)) (sym e) h.together)
          (ap (states_of xs) number ∙ state_at xs n x at) p
          (subst (λ k. Put (states_of xs) (states_of (set xs n y)) k (Some y.session.state)) (sym number) (put_set xs n y l));
    }

pub sound_ended : {X D : Type 0} (told shared : Bool) (m : Meaning D BoundStmt Answer) (db : X → D) (live : X → Lives D) (faults : X → ℕ) (engine engine' : X) (t t' : Turns) (old new : Noted) (next : ℕ) (xs : List Task) (n : ℕ) (x y : Task) (why : Undo) → Classes m
    → IsSound told shared (db engine) (live engine) t next xs → n < length xs → x ≡ get_or xs n x → old.next ≡ next → HasEnded told shared m db live faults engine engine' t t' old new x why → y ≡ ended why x
    → IsSound told shared (db engine') (live engine') t' new.next (set xs n y)
sound_ended told shared m db live faults engine engine' t t' old new next xs n x y why c h l is e p i =
    let at : slice_get xs n ≡ Some x = item xs n x l is in
    let number : x.stream.0 ≡ n = ap (λ (s : StreamNo). s.0) (h.numbers n x at) in
    let dead : y.session.state ≡ Dead (dead_cause why) = ap (λ (z : Task). z.session.state) i in
    record {
      numbers = numbers_set xs n y l h.numbers (ap (λ (z : Task). z.stream) i ∙ h.numbers n x at);
      together = ends_together told shared m db live faults engine engine' t t' old new x why (Some (Dead (dead_cause why))) (states_of xs) (states_of (set xs n y)) c
          (subst (λ k. Together told shared (db engine) (live engine) t k (states_of xs)) (sym e) h.together)
          (ap (states_of xs) number ∙ state_at xs n x at) p refl
          (subst (λ k. Put (states_of xs) (states_of (set xs n y)) k (Some (Dead (dead_cause why)))) (sym number) (subst (λ z. Put (states_of xs) (states_of (set xs n y)) n (Some z)) dead (put_set xs n y l)));
    }
