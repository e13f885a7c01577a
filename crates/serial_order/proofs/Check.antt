-- A journal whose entries are in order and keep what they tell explains itself where its whole answers are those of the serial order.
use Rattle.std.proofs.Common.{◌≡◌, ◌↔◌, ℕ, zero, suc, ◌+◌, ◌<◌, ◌≤◌, Bool, true, false, cond, not, ◌&&◌, nat_eq, List, [], ◌∷◌, ◌++◌, map, filter, length, Option, Some, None, IsSomeAnd, find, refl, sym, ap, ap₂, ◌∙◌, subst, inl, inr, append-nil, append_assoc, add-zero, add-one, arith}
use Rattle.std.proofs.lemmas.List.{map-append, same_from_push}
use Rattle.std.proofs.lemmas.Bool.{eq-eqb, ne_eqb, cases_eq, and_right}
use Rattle.std.specs.List.{AllByRecursion as ByRecursion}
use Rattle.serial_order.specs.Journal.{Entry, Alone, Began, Ran, Denied, Ended, Failed, Commit, ReadOnly, Undone, Done, Fate, Open, Dropped, Committed, Txn, adds, commits, units, gather, change, with_done, with_fate, is_open, is_open_fate}
use Rattle.serial_order.specs.Serial.{Meaning, is_place, has_committed, commits_as, stays_at, upto, serial, answers, after}
use Rattle.serial_order.specs.Explained.{begun, begins, Order, Answered, ExplainedAfter, Explained, LawfulAfter, Lawful}
use Rattle.serial_order.proofs.Lists.{count-map, All-map, All-weaken, All-push, count-push, none_length, from_filter, from_append, from_map, map_agree}
use Rattle.serial_order.proofs.Fold.{IsPlaced, Placed, own_answers, serial_runs, answers_of_runs}
use Rattle.serial_order.proofs.Keep.{put, put-same, put-below, answers-push, is_open-parts, closed_open, closed_place, done_open, done_place, open_placed, unplaced_fate, move_place}
use Rattle.serial_order.proofs.Explain.{commits-push, begins-push, units-push}
use Rattle.serial_order.proofs.Law.{All-upto}
use Rattle.serial_order.proofs.Words.{words}

-- every unit stands in the serial order
swap_all : {X : Type 0} (P : X → Type 0) (q : ℕ → X → Bool) (R : ℕ → Type 0) (ts : List X) → ((v : ℕ) → R v → ByRecursion (λ t. q v t ≡ true → P t) ts) → ByRecursion (λ t. (v : ℕ) → R v → q v t ≡ true → P t) ts
swap_all P q R [] h = tt
swap_all P q R (t ∷ ts) h = (λ v l. (h v l).0, swap_all P q R ts (λ v l. (h v l).1))

staying : {S A : Type 0} (P : Txn S A → Type 0) (ts : List (Txn S A)) (n : ℕ) → ByRecursion P (upto ts n) → (v : ℕ) → v ≤ n → ByRecursion (λ t. stays_at v t ≡ true → P t) ts
unfolding words
staying P ts zero h v l = let e : v ≡ 0 = omega arith in subst (λ k. ByRecursion (λ t. stays_at k t ≡ true → P t) ts) (sym e) (from_filter P (stays_at 0) ts h)
staying P ts (suc n) h v l =
    let p = from_append P (upto ts n) _ h in
    elim (cases_eq v (suc n)) [
      | inl e ↦ subst (λ k. ByRecursion (λ t. stays_at k t ≡ true → P t) ts) (sym e) (from_filter P (stays_at (suc n)) ts (from_append P (filter (commits_as (suc n)) ts) _ p.1).1)
      | inr ne ↦ staying P ts n p.0 v (omega arith)
    ]

making : {S A : Type 0} (P : Txn S A → Type 0) (ts : List (Txn S A)) (n : ℕ) → ByRecursion P (upto ts n) → (v : ℕ) → v < n → ByRecursion (λ t. commits_as (suc v) t ≡ true → P t) ts
unfolding words
making P ts zero h v l = absurd (omega arith)
making P ts (suc n) h v l =
    let p = from_append P (upto ts n) _ h in
    elim (cases_eq v n) [
      | inl e ↦ subst (λ k. ByRecursion (λ t. commits_as (suc k) t ≡ true → P t) ts) (sym e) (from_filter P (commits_as (suc n)) ts (from_append P (filter (commits_as (suc n)) ts) _ p.1).0)
      | inr ne ↦ making P ts n p.0 v (omega arith)
    ]

pub both : {X : Type 0} (P Q : X → Type 0) (ts : List X) → ByRecursion P ts → ByRecursion Q ts → ByRecursion (λ t. P t × Q t) ts
both P Q [] h k = tt
both P Q (t ∷ ts) h k = ((h.0, k.0), both P Q ts h.1 k.1)

either : {D S A : Type 0} (m : Meaning D S A) (at : ℕ → D) (n : ℕ) (P : Type 0) (t : Txn S A) (f : Fate) → t.version ≤ n → IsPlaced m at n t f → ((v : ℕ) → v ≤ n → (not (has_committed f) && nat_eq t.version v) ≡ true → P) → ((v : ℕ) → v < n → is_place (suc v) f ≡ true → P) → P
either m at n P t Open l p a b = a t.version l (eq-eqb t.version t.version refl)
either m at n P t Dropped l p a b = a t.version l (eq-eqb t.version t.version refl)
either m at n P t (Committed k) l p a b = b t.version (omega (arith, p.0, p.1)) (eq-eqb k (suc t.version) p.0)

from_upto : {D S A : Type 0} (m : Meaning D S A) (at : ℕ → D) (n : ℕ) (P : Txn S A → Type 0) (ts : List (Txn S A)) → ByRecursion (Placed m at n) ts → ByRecursion P (upto ts n) → ByRecursion P ts
from_upto {D} {S} {A} m at n P ts g h =
    let a = swap_all P stays_at (λ v. v ≤ n) ts (staying P ts n h) in
    let b = swap_all P (λ v (t : Txn S A). commits_as (suc v) t) (λ v. v < n) ts (making P ts n h) in
    All-weaken _ P ts (λ t w. either m at n (P t) t t.fate w.0.past w.0.place w.1.0 w.1.1)
    (both (Placed m at n) _ ts g (both (λ (t : Txn S A). (v : ℕ) → v ≤ n → stays_at v t ≡ true → P t) (λ (t : Txn S A). (v : ℕ) → v < n → commits_as (suc v) t ≡ true → P t) ts a b))

-- what the order of entries keeps, whatever they answer: n commits and b units that began
pub record Sound {D S A : Type 0} (m : Meaning D S A) (at : ℕ → D) (n b : ℕ) (ts : List (Txn S A)) : Type 0 where
  pub placed : ByRecursion (Placed m at n) ts
  pub once : (k : ℕ) → k < n → length (filter (commits_as (suc k)) ts) ≡ 1
  pub numbered : ByRecursion (λ (t : Txn S A). t.number ≤ b) ts
  pub single : (u : ℕ) → length (filter (is_open u) ts) ≤ 1

-- a unit's answers are those from the database of its version
abbrev pub IsTold : {D S A : Type 0} → Meaning D S A → (ℕ → D) → Txn S A → Type 0
IsTold m at t = own_answers m at t ≡ map (λ d. d.answer) t.work

-- the whole answers, and those of each unit
pub to_units : {D S A : Type 0} (m : Meaning D S A) (at : ℕ → D) (b : ℕ) (es : List (Entry S A)) → Sound m at (commits es) b (units es) → Answered m (at 0) es → ByRecursion (IsTold m at) (units es)
unfolding words
to_units {D} {S} {A} m at b es s h =
    let r = serial_runs m at (commits es) (units es) s.placed s.once (commits es) (omega arith) in
    from_upto m at (commits es) (IsTold m at) (units es) s.placed
    (from_map (own_answers m at) (λ (t : Txn S A). map (λ d. d.answer) t.work) (serial es) (sym (answers_of_runs m at (at 0) (serial es) _ r) ∙ h))

pub from_units : {D S A : Type 0} (m : Meaning D S A) (at : ℕ → D) (b : ℕ) (es : List (Entry S A)) → Sound m at (commits es) b (units es) → ByRecursion (IsTold m at) (units es) → Answered m (at 0) es
unfolding words
from_units {D} {S} {A} m at b es s h =
    let r = serial_runs m at (commits es) (units es) s.placed s.once (commits es) (omega arith) in
    answers_of_runs m at (at 0) (serial es) _ r ∙ map_agree (own_answers m at) (λ (t : Txn S A). map (λ d. d.answer) t.work) (serial es) (All-upto (IsTold m at) (units es) (commits es) h)

pub some_and : {X : Type 0} (P : X → Type 0) (o : Option X) → IsSomeAnd o P → (x : X) × (o ≡ Some x) × P x
some_and P None h = elim h [ ]
some_and P (Some x) h = (x, refl, h)

none_cond : {X : Type 0} (b : Bool) (t : X) (ts : List X) → length (cond b (t ∷ ts) ts) ≡ 0 → (b ≡ false) × (length ts ≡ 0)
none_cond true t ts h = cc
none_cond false t ts h = (refl, h)

none_passes : {X : Type 0} (p : X → Bool) (ts : List X) → length (filter p ts) ≡ 0 → ByRecursion (λ t. p t ≡ false) ts
none_passes p [] h = tt
none_passes p (t ∷ ts) h = let k = none_cond (p t) t _ h in (k.0, none_passes p ts k.1)

-- where at most one passes, the one that is found is the one that passes
only_cond : {X : Type 0} (p : X → Bool) (x t : X) (ts : List X) (b : Bool) → p x ≡ b → cond b (Some x) (find p ts) ≡ Some t → length (cond b (x ∷ filter p ts) (filter p ts)) ≤ 1 → (find p ts ≡ Some t → length (filter p ts) ≤ 1 → (length (filter p ts) ≡ 1) × ByRecursion (λ y. p y ≡ true → y ≡ t) ts) → (length (cond b (x ∷ filter p ts) (filter p ts)) ≡ 1) × ByRecursion (λ y. p y ≡ true → y ≡ t) (x ∷ ts)
only_cond {X} p x t ts true e f l h =
    let z : length (filter p ts) ≡ 0 = omega arith in
    (omega arith, (λ y. cc, All-weaken _ (λ (y : X). p y ≡ true → y ≡ t) ts (λ y n w. cc) (none_passes p ts z)))
only_cond p x t ts false e f l h = let k = h f l in (k.0, (λ y. cc, k.1))

pub only : {X : Type 0} (p : X → Bool) (t : X) (ts : List X) → find p ts ≡ Some t → length (filter p ts) ≤ 1 → (length (filter p ts) ≡ 1) × ByRecursion (λ y. p y ≡ true → y ≡ t) ts
only p t [] f l = cc
only p t (x ∷ ts) f l = only_cond p x t ts (p x) refl f l (only p t ts)

pub of_map : {X Y : Type 0} (P : Y → Type 0) (g : X → Y) (ts : List X) → ByRecursion P (map g ts) → ByRecursion (λ t. P (g t)) ts
of_map P g [] h = tt
of_map P g (t ∷ ts) h = (h.0, of_map P g ts h.1)

-- one step: the databases so far, what is kept, and that the units' answers afterwards contain those before
pub record Next {D S A : Type 0} (m : Meaning D S A) (at : ℕ → D) (n b : ℕ) (ts : List (Txn S A)) (n' b' : ℕ) (ts' : List (Txn S A)) : Type 0 where
  pub at' : ℕ → D
  pub agrees : (k : ℕ) → k ≤ n → at' k ≡ at k
  pub zero_at : at' 0 ≡ at 0
  pub sound : Sound m at' n' b' ts'
  pub back : ByRecursion (IsTold m at') ts' → ByRecursion (IsTold m at) ts

pub told_back : {D S A : Type 0} (m : Meaning D S A) (at at' : ℕ → D) (n : ℕ) (ts : List (Txn S A)) → ((k : ℕ) → k ≤ n → at' k ≡ at k) → ByRecursion (Placed m at n) ts → ByRecursion (IsTold m at') ts → ByRecursion (IsTold m at) ts
told_back m at at' n ts a p h = All-weaken _ (IsTold m at) ts (λ t w. ap (λ d. answers m d t.work) (sym (a t.version w.0.past)) ∙ w.1) (both (Placed m at n) (IsTold m at') ts p h)

later : {D S A : Type 0} (m : Meaning D S A) (at at' : ℕ → D) (n n' : ℕ) (t : Txn S A) → n ≤ n' → ((k : ℕ) → k ≤ n → at' k ≡ at k) → Placed m at n t → Placed m at' n' t
later m at at' n n' t l a p = record { past = omega (arith, p.past); place = move_place m at at' n n' t t.fate p.past l a p.place }

-- a unit more, that isn't open and is no commit
alone_next : {D S A : Type 0} (m : Meaning D S A) (at : ℕ → D) (n b : ℕ) (ts : List (Txn S A)) (s : ℕ) (q : S) (a : A) → Sound m at n b ts → Next m at n b ts n b (ts ++ record { number = 0; stream = s; version = n; work = record { stmt = q; answer = a } ∷ []; fate = Dropped } ∷ [])
alone_next m at n b ts s q a h = record {
  at' = at;
  agrees = λ k l. refl;
  zero_at = refl;
  sound = record {
    placed = All-push _ ts _ h.placed (record { past = omega arith; place = tt });
    once = λ k l. count-push (commits_as (suc k)) ts _ ∙ ap (λ x. x + 0) (h.once k l);
    numbered = All-push _ ts _ h.numbered (omega arith);
    single = λ u. let e = count-push (is_open u) ts (record { number = 0; stream = s; version = n; work = record { stmt = q; answer = a } ∷ []; fate = Dropped }) in let o = h.single u in omega arith;
  };
  back = λ w. (from_append (IsTold m at) ts _ w).0;
}

wrote_next : {D S A : Type 0} (m : Meaning D S A) (at : ℕ → D) (n b : ℕ) (ts : List (Txn S A)) (s : ℕ) (q : S) (a : A) → Sound m at n b ts → Next m at n b ts (suc n) b (ts ++ record { number = 0; stream = s; version = n; work = record { stmt = q; answer = a } ∷ []; fate = Committed (suc n) } ∷ [])
unfolding words
wrote_next m at n b ts s q a h =
    let x = (m.exec (at n) q).0 in
    let at' = put at (suc n) x in
    let here : at' n ≡ at n = put-below at n x n (omega arith) in record {
      at' = at';
      agrees = put-below at n x;
      zero_at = put-below at n x 0 (omega arith);
      sound = record {
        placed = All-push _ ts _ (All-weaken _ _ ts (λ t p. later m at at' n (suc n) t (omega arith) (put-below at n x) p) h.placed)
            (record { past = omega arith; place = (refl, omega arith, put-same at (suc n) x ∙ ap (λ d. (m.exec d q).0) (sym here)) });
        once = λ k l. count-push (commits_as (suc k)) ts _ ∙ elim (cases_eq k n) [
          | inl e ↦ ap₂ (λ x y. x + y) (none_length (commits_as (suc k)) ts (All-weaken _ _ ts (λ t p. unplaced_fate m at n (suc k) t t.fate (omega arith) p.place) h.placed)) (ap (λ x. cond x 1 0) (eq-eqb (suc n) (suc k) (ap suc (sym e))))
          | inr ne ↦ ap₂ (λ x y. x + y) (h.once k (omega arith)) (ap (λ x. cond x 1 0) (ne_eqb (suc n) (suc k) (λ q. ne (omega arith))))
        ];
        numbered = All-push _ ts _ h.numbered (omega arith);
        single = λ u. let e = count-push (is_open u) ts (record { number = 0; stream = s; version = n; work = record { stmt = q; answer = a } ∷ []; fate = Committed (suc n) }) in let o = h.single u in omega arith;
      };
      back = λ w. told_back m at at' n ts (put-below at n x) h.placed (from_append (IsTold m at') ts _ w).0;
    }

began_next : {D S A : Type 0} (m : Meaning D S A) (at : ℕ → D) (n b : ℕ) (ts : List (Txn S A)) (u s : ℕ) → u ≡ suc b → Sound m at n b ts → Next m at n b ts n (b + 1) (ts ++ record { number = u; stream = s; version = n; work = []; fate = Open } ∷ [])
began_next {D} {S} {A} m at n b ts u s e h = record {
  at' = at;
  agrees = λ k l. refl;
  zero_at = refl;
  sound = record {
    placed = All-push _ ts _ h.placed (record { past = omega arith; place = tt });
    once = λ k l. count-push (commits_as (suc k)) ts _ ∙ ap (λ x. x + 0) (h.once k l);
    numbered = All-push _ ts _ (All-weaken _ (λ (t : Txn S A). t.number ≤ b + 1) ts (λ t l. omega arith) h.numbered) (omega arith);
    single = λ k.
        let c = count-push (is_open k) ts (record { number = u; stream = s; version = n; work = []; fate = Open }) in
        let o = h.single k in
        elim (cases_eq u k) [
          | inl w ↦
              let z = none_length (is_open k) ts (All-weaken _ (λ (t : Txn S A). is_open k t ≡ false) ts (λ t l. and_right (is_open_fate t.fate) _ (ne_eqb t.number k (λ q. omega arith))) h.numbered) in
              let y : cond {A = ℕ} (nat_eq u k) 1 0 ≡ 1 = ap (λ x. cond x 1 0) (eq-eqb u k w) in
              omega arith
          | inr ne ↦ let y : cond {A = ℕ} (nat_eq u k) 1 0 ≡ 0 = ap (λ x. cond x 1 0) (ne_eqb u k ne) in omega arith
        ];
  };
  back = λ w. (from_append (IsTold m at) ts _ w).0;
}

done_number : {S A : Type 0} (b : ℕ) (q : S) (a : A) (t : Txn S A) (c : Bool) → t.number ≤ b → (cond c (with_done q a t) t).number ≤ b
done_number b q a t true l = l
done_number b q a t false l = l

fate_number : {S A : Type 0} (b : ℕ) (f : Fate) (t : Txn S A) (c : Bool) → t.number ≤ b → (cond c (with_fate f t) t).number ≤ b
fate_number b f t true l = l
fate_number b f t false l = l

done_placed : {D S A : Type 0} (m : Meaning D S A) (at : ℕ → D) (n u : ℕ) (q : S) (a : A) (t : Txn S A) (c : Bool) → is_open u t ≡ c → Placed m at n t → Placed m at n (cond c (with_done q a t) t)
done_placed m at n u q a t true e p = record { past = p.past; place = open_placed m at n (with_done q a t) t.fate (is_open-parts u t e).0 }
done_placed m at n u q a t false e p = p

pub done_told : {D S A : Type 0} (m : Meaning D S A) (at : ℕ → D) (q : S) (a : A) (t : Txn S A) (c : Bool) → IsTold m at (cond c (with_done q a t) t) → IsTold m at t
done_told {D} {S} {A} m at q a t true h =
    let d : Done S A = record { stmt = q; answer = a } in
    (same_from_push (own_answers m at t) (map (λ x. x.answer) t.work) _ a (sym (answers-push m (at t.version) t.work d) ∙ h ∙ map-append (λ x. x.answer) t.work (d ∷ []))).0
done_told m at q a t false h = h

ran_next : {D S A : Type 0} (m : Meaning D S A) (at : ℕ → D) (n b : ℕ) (ts : List (Txn S A)) (u : ℕ) (q : S) (a : A) → Sound m at n b ts → Next m at n b ts n b (change u (with_done q a) ts)
ran_next {D} {S} {A} m at n b ts u q a h = record {
  at' = at;
  agrees = λ k l. refl;
  zero_at = refl;
  sound = record {
    placed = All-map _ _ ts (All-weaken _ _ ts (λ t p. done_placed m at n u q a t (is_open u t) refl p) h.placed);
    once = λ k l. count-map (commits_as (suc k)) (commits_as (suc k)) _ ts (All-weaken _ _ ts (λ t p. done_place (suc k) q a t (is_open u t)) h.placed) ∙ h.once k l;
    numbered = All-map _ _ ts (All-weaken _ _ ts (λ t l. done_number b q a t (is_open u t) l) h.numbered);
    single = λ k. subst (λ c. c ≤ 1) (sym (count-map (is_open k) (is_open k) _ ts (All-weaken _ _ ts (λ t p. done_open k q a t (is_open u t)) h.placed))) (h.single k);
  };
  back = λ w. All-weaken _ (IsTold m at) ts (λ t v. done_told m at q a t (is_open u t) v) (of_map (IsTold m at) _ ts w);
}

close_placed : {D S A : Type 0} (m : Meaning D S A) (at : ℕ → D) (n u : ℕ) (f : Fate) (t : Txn S A) (c : Bool) → is_open u t ≡ c → (is_open u t ≡ true → IsPlaced m at n t f) → Placed m at n t → Placed m at n (cond c (with_fate f t) t)
close_placed m at n u f t true e i p = record { past = p.past; place = again m at n t f (i e) }
  where
    again : {D S A : Type 0} (m : Meaning D S A) (at : ℕ → D) (n : ℕ) (t : Txn S A) (f : Fate) → IsPlaced m at n t f → IsPlaced m at n (with_fate f t) f
    again m at n t Open h = tt
    again m at n t Dropped h = tt
    again m at n t (Committed k) h = h
close_placed m at n u f t false e i p = p

closed_none : {S A : Type 0} (u : ℕ) (f : Fate) (t : Txn S A) (c : Bool) → is_open_fate f ≡ false → is_open u t ≡ c → is_open u (cond c (with_fate f t) t) ≡ false
closed_none u f t true s e = ap (λ b. b && nat_eq t.number u) s
closed_none u f t false s e = e

close_single : {D S A : Type 0} (m : Meaning D S A) (at : ℕ → D) (n b : ℕ) (ts : List (Txn S A)) (u : ℕ) (f : Fate) → is_open_fate f ≡ false → Sound m at n b ts → (k : ℕ) → length (filter (is_open k) (change u (with_fate f) ts)) ≤ 1
close_single {D} {S} {A} m at n b ts u f s h k = elim (cases_eq k u) [
  | inl e ↦
      let z : length (filter (is_open u) (change u (with_fate f) ts)) ≡ 0 = none_length (is_open u) (change u (with_fate f) ts) (All-map _ _ ts (All-weaken _ _ ts (λ t p. closed_none u f t (is_open u t) s refl) h.placed)) in
      subst (λ j. length (filter (is_open j) (change u (with_fate f) ts)) ≤ 1) (sym e) (omega arith)
  | inr ne ↦ subst (λ c. c ≤ 1) (sym (count-map (is_open k) (is_open k) _ ts (All-weaken _ _ ts (λ t p. closed_open u k f t s ne (is_open u t) refl) h.placed))) (h.single k)
]

close_told : {D S A : Type 0} (m : Meaning D S A) (at : ℕ → D) (f : Fate) (t : Txn S A) (c : Bool) → IsTold m at (cond c (with_fate f t) t) → IsTold m at t
close_told m at f t true h = h
close_told m at f t false h = h

dropped_next : {D S A : Type 0} (m : Meaning D S A) (at : ℕ → D) (n b : ℕ) (ts : List (Txn S A)) (u : ℕ) → Sound m at n b ts → Next m at n b ts n b (change u (with_fate Dropped) ts)
dropped_next {D} {S} {A} m at n b ts u h = record {
  at' = at;
  agrees = λ k l. refl;
  zero_at = refl;
  sound = record {
    placed = All-map _ _ ts (All-weaken _ _ ts (λ t p. close_placed m at n u Dropped t (is_open u t) refl (λ e. tt) p) h.placed);
    once = λ k l. count-map (commits_as (suc k)) (commits_as (suc k)) _ ts (All-weaken _ _ ts (λ t p. closed_place u (suc k) Dropped t refl (is_open u t) refl) h.placed) ∙ h.once k l;
    numbered = All-map _ _ ts (All-weaken _ _ ts (λ t l. fate_number b Dropped t (is_open u t) l) h.numbered);
    single = close_single m at n b ts u Dropped refl h;
  };
  back = λ w. All-weaken _ (IsTold m at) ts (λ t v. close_told m at Dropped t (is_open u t) v) (of_map (IsTold m at) _ ts w);
}

made_last : {D S A : Type 0} (m : Meaning D S A) (at : ℕ → D) (n u : ℕ) (t : Txn S A) → Placed m at n t → (c : Bool) → is_open u t ≡ c → commits_as (suc n) (cond c (with_fate (Committed (suc n)) t) t) ≡ c
made_last m at n u t p true e = eq-eqb (suc n) (suc n) refl
made_last m at n u t p false e = unplaced_fate m at n (suc n) t t.fate (omega arith) p.place

committed_next : {D S A : Type 0} (m : Meaning D S A) (at : ℕ → D) (n b : ℕ) (ts : List (Txn S A)) (u : ℕ) → IsSomeAnd (find (is_open u) ts) (λ t. t.version ≡ n) → Sound m at n b ts → Next m at n b ts (suc n) b (change u (with_fate (Committed (suc n))) ts)
committed_next {D} {S} {A} m at n b ts u f h =
    let w = some_and (λ (t : Txn S A). t.version ≡ n) (find (is_open u) ts) f in
    let t = w.0 in
    let o = only (is_open u) t ts w.1 (h.single u) in
    let x = after m (at n) t.work in
    let at' = put at (suc n) x in
    let here : at' t.version ≡ at n = ap at' w.2 ∙ put-below at n x n (omega arith) in
    let place : IsPlaced m at' (suc n) t (Committed (suc n)) = (ap suc (sym w.2), omega arith, put-same at (suc n) x ∙ ap (λ d. after m d t.work) (sym here)) in record {
      at' = at';
      agrees = put-below at n x;
      zero_at = put-below at n x 0 (omega arith);
      sound = record {
        placed = All-map _ _ ts (All-weaken _ _ ts
            (λ y p. close_placed m at' (suc n) u (Committed (suc n)) y (is_open u y) refl (λ e. subst (λ z. IsPlaced m at' (suc n) z (Committed (suc n))) (sym (p.1 e)) place) (later m at at' n (suc n) y (omega arith) (put-below at n x) p.0))
            (both (Placed m at n) (λ (y : Txn S A). is_open u y ≡ true → y ≡ t) ts h.placed o.1));
        once = λ k l. elim (cases_eq k n) [
          | inl e ↦ subst (λ j. length (filter (commits_as (suc j)) (change u (with_fate (Committed (suc n))) ts)) ≡ 1) (sym e)
              (count-map (commits_as (suc n)) (is_open u) _ ts (All-weaken _ _ ts (λ y p. made_last m at n u y p (is_open u y) refl) h.placed) ∙ o.0)
          | inr ne ↦ count-map (commits_as (suc k)) (commits_as (suc k)) _ ts (All-weaken _ _ ts (λ y p. closed_place u (suc k) (Committed (suc n)) y (ne_eqb (suc n) (suc k) (λ q. ne (omega arith))) (is_open u y) refl) h.placed) ∙ h.once k (omega arith)
        ];
        numbered = All-map _ _ ts (All-weaken _ _ ts (λ y l. fate_number b (Committed (suc n)) y (is_open u y) l) h.numbered);
        single = close_single m at n b ts u (Committed (suc n)) refl h;
      };
      back = λ v. told_back m at at' n ts (put-below at n x) h.placed (All-weaken _ (IsTold m at') ts (λ y z. close_told m at' (Committed (suc n)) y (is_open u y) z) (of_map (IsTold m at') _ ts v));
    }

-- each lawful entry
sound_next : {D S A : Type 0} (m : Meaning D S A) (at : ℕ → D) (es : List (Entry S A)) (e : Entry S A) → Order m es e → Sound m at (commits es) (begins es) (units es) → Next m at (commits es) (begins es) (units es) (commits es + adds e) (begins es + begun e) (gather (commits es) (units es) e)
unfolding words
sound_next m at es (Alone s q a true) o h = rw (add-one (commits es), add-zero (begins es)) (wrote_next m at (commits es) (begins es) (units es) s q a h)
sound_next m at es (Alone s q a false) o h = rw (add-zero (commits es), add-zero (begins es)) (alone_next m at (commits es) (begins es) (units es) s q a h)
sound_next m at es (Began u s) o h = rw (add-zero (commits es)) (began_next m at (commits es) (begins es) (units es) u s o.0 h)
sound_next m at es (Ran u q a) o h = rw (add-zero (commits es), add-zero (begins es)) (ran_next m at (commits es) (begins es) (units es) u q a h)
sound_next m at es (Denied u d) o h = rw (add-zero (commits es), add-zero (begins es)) (record { at' = at; agrees = λ k l. refl; zero_at = refl; sound = h; back = λ w. w })
sound_next m at es (Ended u Commit) o h = rw (add-one (commits es), add-zero (begins es)) (committed_next m at (commits es) (begins es) (units es) u o h)
sound_next m at es (Ended u ReadOnly) o h = rw (add-zero (commits es), add-zero (begins es)) (dropped_next m at (commits es) (begins es) (units es) u h)
sound_next m at es (Ended u (Undone undo)) o h = rw (add-zero (commits es), add-zero (begins es)) (dropped_next m at (commits es) (begins es) (units es) u h)
sound_next m at es (Failed s None cause) o h = rw (add-zero (commits es), add-zero (begins es)) (record { at' = at; agrees = λ k l. refl; zero_at = refl; sound = h; back = λ w. w })
sound_next m at es (Failed s (Some u) cause) o h = rw (add-zero (commits es), add-zero (begins es)) (dropped_next m at (commits es) (begins es) (units es) u h)

pub sound_push : {D S A : Type 0} (m : Meaning D S A) (at : ℕ → D) (es : List (Entry S A)) (e : Entry S A) → Order m es e → Sound m at (commits es) (begins es) (units es) → Next m at (commits es) (begins es) (units es) (commits (es ++ e ∷ [])) (begins (es ++ e ∷ [])) (units (es ++ e ∷ []))
sound_push m at es e o h = rw (commits-push es e, begins-push es e, units-push es e) (sound_next m at es e o h)

-- the whole answers are those of each beginning
beginnings : {D S A : Type 0} (m : Meaning D S A) (at : ℕ → D) (db : D) (es rest : List (Entry S A)) → at 0 ≡ db → Sound m at (commits es) (begins es) (units es) → LawfulAfter m es rest → Answered m db (es ++ rest) → ByRecursion (IsTold m at) (units es) × ExplainedAfter m db es rest
unfolding words
beginnings m at db es [] z h l a = (to_units m at (begins es) es h (subst (λ d. Answered m d es) (sym z) (subst (λ us. Answered m db us) (append-nil es) a)), tt)
beginnings m at db es (e ∷ rest) z h l a =
    let s = sound_push m at es e l.0 h in
    let more = beginnings m s.at' db (es ++ e ∷ []) rest (s.zero_at ∙ z) s.sound l.2 (subst (λ us. Answered m db us) (sym (append_assoc es (e ∷ []) rest)) a) in
    (s.back more.0, (l.0, l.1, subst (λ d. Answered m d (es ++ e ∷ [])) (s.zero_at ∙ z) (from_units m s.at' (begins (es ++ e ∷ [])) (es ++ e ∷ []) s.sound more.0), more.1))

pub sound_at_start : {D S A : Type 0} (m : Meaning D S A) (db : D) → Sound m (λ k. db) 0 0 (units {S = S} {A = A} [])
unfolding words
sound_at_start m db = record { placed = tt; once = λ k l. absurd (omega arith); numbered = tt; single = λ u. omega arith }

lawful_part : {D S A : Type 0} (m : Meaning D S A) (db : D) (es rest : List (Entry S A)) → ExplainedAfter m db es rest → LawfulAfter m es rest
unfolding words
lawful_part m db es [] h = tt
lawful_part m db es (e ∷ rest) h = (h.0, h.1, lawful_part m db (es ++ e ∷ []) rest h.3)

whole_part : {D S A : Type 0} (m : Meaning D S A) (db : D) (es rest : List (Entry S A)) → Answered m db es → ExplainedAfter m db es rest → Answered m db (es ++ rest)
unfolding words
whole_part m db es [] a h = subst (λ us. Answered m db us) (sym (append-nil es)) a
whole_part m db es (e ∷ rest) a h = subst (λ us. Answered m db us) (append_assoc es (e ∷ []) rest) (whole_part m db (es ++ e ∷ []) rest h.2 h.3)

-- a journal explains itself exactly where each entry is in order and keeps what it tells, and its answers are those of the serial order of the whole
pub check_law : {D S A : Type 0} (m : Meaning D S A) (db : D) (es : List (Entry S A)) → Explained m db es ↔ (Lawful m es × Answered m db es)
unfolding words
check_law m db es = (
  λ h. (lawful_part m db [] es h, whole_part m db [] es refl h),
  λ h. (beginnings m (λ k. db) db [] es refl (sound_at_start m db) h.0 h.1).1,
)
