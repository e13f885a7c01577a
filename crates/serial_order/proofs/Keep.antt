-- What every entry keeps.
use Rattle.std.proofs.Common.{◌≡◌, ◌≢◌, ◌⊎◌, ℕ, suc, ◌+◌, ◌<◌, ◌≤◌, Bool, true, false, cond, not, ◌&&◌, ◌||◌, nat_eq, List, [], ◌∷◌, ◌++◌, map, filter, length, Option, Some, None, refl, sym, ap, ap₂, ◌∙◌, subst, inl, inr, add-zero, add-one, add_assoc, arith}
use Rattle.std.proofs.lemmas.List.{map-append}
use Rattle.std.proofs.lemmas.Bool.{eqb-true, eq-eqb, ne_eqb, and_parts, cases_Bool, cases_eq, or_cases, and_cases, and_right, not-false}
use Rattle.std.specs.List.{AllByRecursion as ByRecursion}
use mathlib.Core.Path.{fun_ext}
use Rattle.serial_order.specs.Journal.{Entry, Alone, Began, Ran, Denied, Ended, Failed, Commit, ReadOnly, Undone, Done, Fate, Open, Dropped, Committed, Txn, adds, commits, is_open_fate, is_open, change, with_done, with_fate, gather, units_from}
use Rattle.serial_order.specs.Serial.{Meaning, is_place, commits_as, answers, after, has_written}
use Rattle.serial_order.specs.Machine.{Live, State, start, IsSame, IsAt, IsAlone, IsBegan, IsRan, IsCommitted, IsDropped, Step, Run}
use Rattle.serial_order.proofs.Lists.{count-map, All-map, All-weaken, All-push, count-push, none_length}
use Rattle.serial_order.proofs.Fold.{IsPlaced, Placed, own_answers}
use Rattle.serial_order.proofs.Words.{words}

pub record IsOf {D S A : Type 0} (m : Meaning D S A) (at : ℕ → D) (unit : Live D) (t : Txn S A) : Type 0 where
  pub stream : unit.stream ≡ t.stream
  pub start : unit.start ≡ t.version
  pub view : unit.view ≡ after m (at t.version) t.work
  pub reads : unit.is_writer ≡ false → has_written m t.work ≡ false

-- the open unit t stands in the state, with its view
pub record IsLive {D S A : Type 0} (m : Meaning D S A) (at : ℕ → D) (live : ℕ → Option (Live D)) (t : Txn S A) : Type 0 where
  pub unit : Live D
  pub is : live t.number ≡ Some unit
  pub stream : unit.stream ≡ t.stream
  pub start : unit.start ≡ t.version
  pub view : unit.view ≡ after m (at t.version) t.work
  pub reads : unit.is_writer ≡ false → has_written m t.work ≡ false

pub record Good {D S A : Type 0} (m : Meaning D S A) (at : ℕ → D) (n : ℕ) (lives : ℕ → Option (Live D)) (t : Txn S A) : Type 0 where
  pub placed : Placed m at n t
  pub told : own_answers m at t ≡ map (λ d. d.answer) t.work
  pub live : is_open_fate t.fate ≡ true → IsLive m at lives t

pub record Kept {D S A : Type 0} (m : Meaning D S A) (at : ℕ → D) (n : ℕ) (ts : List (Txn S A)) (st : State D) : Type 0 where
  pub version : st.version ≡ n
  pub db : st.db ≡ at n
  pub each : ByRecursion (Good m at n st.live) ts
  pub listed : (u : ℕ) (o : Live D) → st.live u ≡ Some o → length (filter (is_open u) ts) ≡ 1
  pub once : (k : ℕ) → k < n → length (filter (commits_as (suc k)) ts) ≡ 1
  pub writers : (u : ℕ) (o : Live D) → st.live u ≡ Some o → o.is_writer ≡ true → o.start ≡ n
  pub one : (u v : ℕ) (o p : Live D) → st.live u ≡ Some o → st.live v ≡ Some p → o.is_writer ≡ true → p.is_writer ≡ true → u ≡ v

-- statements, one more
pub answers-push : {D S A : Type 0} (m : Meaning D S A) (db : D) (ds : List (Done S A)) (d : Done S A) → answers m db (ds ++ d ∷ []) ≡ answers m db ds ++ (m.exec (after m db ds) d.stmt).1 ∷ []
unfolding words
answers-push m db [] d = refl
answers-push m db (x ∷ ds) d = ap (λ rs. (m.exec db x.stmt).1 ∷ rs) (answers-push m (m.exec db x.stmt).0 ds d)

after-push : {D S A : Type 0} (m : Meaning D S A) (db : D) (ds : List (Done S A)) (d : Done S A) → after m db (ds ++ d ∷ []) ≡ (m.exec (after m db ds) d.stmt).0
unfolding words
after-push m db [] d = refl
after-push m db (x ∷ ds) d = after-push m (m.exec db x.stmt).0 ds d

-- a state more
pub move_place : {D S A : Type 0} (m : Meaning D S A) (at at' : ℕ → D) (n n' : ℕ) (t : Txn S A) (f : Fate) → t.version ≤ n → n ≤ n' → ((k : ℕ) → k ≤ n → at' k ≡ at k) → IsPlaced m at n t f → IsPlaced m at' n' t f
move_place m at at' n n' t Open p l a h = tt
move_place m at at' n n' t Dropped p l a h = tt
move_place m at at' n n' t (Committed k) p l a h = (h.0, omega (arith, h.1), a k h.1 ∙ h.2 ∙ ap (λ d. after m d t.work) (sym (a t.version p)))

move : {D S A : Type 0} (m : Meaning D S A) (at at' : ℕ → D) (n n' : ℕ) (live live' : ℕ → Option (Live D)) (t : Txn S A) → n ≤ n' → ((k : ℕ) → k ≤ n → at' k ≡ at k) → (is_open_fate t.fate ≡ true → (o : Live D) → live t.number ≡ Some o → live' t.number ≡ live t.number) → Good m at n live t → Good m at' n' live' t
move m at at' n n' live live' t l a h g =
    let e = a t.version g.placed.past in record {
      placed = record { past = omega (arith, g.placed.past); place = move_place m at at' n n' t t.fate g.placed.past l a g.placed.place };
      told = ap (λ d. answers m d t.work) e ∙ g.told;
      live = λ o. let i = g.live o in record { unit = i.unit; is = h o i.unit i.is ∙ i.is; stream = i.stream; start = i.start; view = i.view ∙ ap (λ d. after m d t.work) (sym e); reads = i.reads };
    }

pub is_open-parts : {S A : Type 0} (u : ℕ) (t : Txn S A) → is_open u t ≡ true → (is_open_fate t.fate ≡ true) × (t.number ≡ u)
is_open-parts u t e = let p = and_parts _ _ e in (p.0, eqb-true t.number u p.1)

not_open : {S A : Type 0} (u : ℕ) (t : Txn S A) → is_open u t ≡ false → is_open_fate t.fate ≡ true → t.number ≢ u
not_open u t e o q = let both : is_open u t ≡ true = ap₂ (λ x y. x && y) o (eq-eqb _ _ q) in cc

-- a unit of a number that isn't live isn't open
unlisted : {D S A : Type 0} (m : Meaning D S A) (at : ℕ → D) (n : ℕ) (live : ℕ → Option (Live D)) (u : ℕ) (t : Txn S A) → live u ≡ None → Good m at n live t → is_open u t ≡ false
unlisted m at n live u t e g = elim (cases_Bool (is_open u t)) [
  | inl o ↦
      let p = is_open-parts u t o in
      let w = g.live p.0 in
      let here : live u ≡ Some w.unit = ap live (sym p.1) ∙ w.is in
      cc
  | inr o ↦ o
]

-- no unit is the commit after the last
pub unplaced_fate : {D S A : Type 0} (m : Meaning D S A) (at : ℕ → D) (n k : ℕ) (t : Txn S A) (f : Fate) → n < k → IsPlaced m at n t f → is_place k f ≡ false
unplaced_fate m at n k t Open l g = refl
unplaced_fate m at n k t Dropped l g = refl
unplaced_fate m at n k t (Committed j) l g = ne_eqb j k (λ e. omega (arith, g.1))

unplaced : {D S A : Type 0} (m : Meaning D S A) (at : ℕ → D) (n k : ℕ) (live : ℕ → Option (Live D)) (t : Txn S A) → n < k → Good m at n live t → commits_as k t ≡ false
unplaced m at n k live t l g = unplaced_fate m at n k t t.fate l g.placed.place

-- what stands at a number afterwards
pub at_cases : {D : Type 0} (old new : State D) (u : ℕ) (r : Option (Live D)) (k : ℕ) (p : Live D) → IsAt old new u r → new.live k ≡ Some p → ((k ≡ u) × (r ≡ Some p)) ⊎ ((k ≢ u) × (old.live k ≡ Some p))
at_cases old new u r k p h e = elim (cases_eq k u) [
  | inl q ↦ inl (q, sym h.here ∙ ap new.live (sym q) ∙ e)
  | inr q ↦ inr (q, sym (h.others k q) ∙ e)
]

-- the states are one
same : {D S A : Type 0} (m : Meaning D S A) (at : ℕ → D) (n : ℕ) (ts : List (Txn S A)) (old new : State D) → IsSame old new → Kept m at n ts old → Kept m at n ts new
same m at n ts old new s h =
    let p : old ≡ new = λ i. record { db = sym s.db i; version = sym s.version i; next = sym s.next i; live = fun_ext (λ k. sym (s.live k)) i } in
    subst (λ st. Kept m at n ts st) p h

-- what stands at a number, where the unit u was closed
pub at_none : {D : Type 0} (old new : State D) (u k : ℕ) (p : Live D) → IsAt old new u None → new.live k ≡ Some p → (k ≢ u) × (old.live k ≡ Some p)
at_none old new u k p h e = elim (at_cases old new u None k p h e) [ inl w ↦ cc | inr w ↦ w ]

-- a database more
abbrev pub put : {D : Type 0} → (ℕ → D) → ℕ → D → ℕ → D
put at k x j = cond (nat_eq j k) x (at j)

pub put-same : {D : Type 0} (at : ℕ → D) (k : ℕ) (x : D) → put at k x k ≡ x
put-same at k x = ap (λ b. cond b x (at k)) (eq-eqb k k refl)

pub put-below : {D : Type 0} (at : ℕ → D) (n : ℕ) (x : D) (j : ℕ) → j ≤ n → put at (suc n) x j ≡ at j
put-below at n x j l = ap (λ b. cond b x (at j)) (ne_eqb j (suc n) (λ e. omega arith))

-- tests after a unit closes
pub open_place : (k : ℕ) (f : Fate) → is_open_fate f ≡ true → is_place k f ≡ false
open_place k Open e = refl
open_place k Dropped e = cc
open_place k (Committed j) e = cc

pub closed_open : {S A : Type 0} (u k : ℕ) (f : Fate) (t : Txn S A) → is_open_fate f ≡ false → k ≢ u → (b : Bool) → is_open u t ≡ b → is_open k (cond b (with_fate f t) t) ≡ is_open k t
closed_open u k f t c ne true e =
    let p = is_open-parts u t e in
    let other : nat_eq t.number k ≡ false = ne_eqb t.number k (λ q. ne (sym q ∙ p.1)) in
    ap (λ b. b && nat_eq t.number k) c ∙ sym (and_right (is_open_fate t.fate) _ other)
closed_open u k f t c ne false e = refl

pub closed_place : {S A : Type 0} (u k : ℕ) (f : Fate) (t : Txn S A) → is_place k f ≡ false → (b : Bool) → is_open u t ≡ b → commits_as k (cond b (with_fate f t) t) ≡ commits_as k t
closed_place u k f t c true e = c ∙ sym (open_place k t.fate (is_open-parts u t e).0)
closed_place u k f t c false e = refl

closed_last : {D S A : Type 0} (m : Meaning D S A) (at : ℕ → D) (n : ℕ) (live : ℕ → Option (Live D)) (u : ℕ) (t : Txn S A) → Good m at n live t → (b : Bool) → is_open u t ≡ b → commits_as (suc n) (cond b (with_fate (Committed (suc n)) t) t) ≡ b
closed_last m at n live u t g true e = eq-eqb (suc n) (suc n) refl
closed_last m at n live u t g false e = unplaced m at n (suc n) live t (omega arith) g

pub done_open : {S A : Type 0} (k : ℕ) (q : S) (a : A) (t : Txn S A) → (b : Bool) → is_open k (cond b (with_done q a t) t) ≡ is_open k t
done_open k q a t true = refl
done_open k q a t false = refl

pub done_place : {S A : Type 0} (k : ℕ) (q : S) (a : A) (t : Txn S A) → (b : Bool) → commits_as k (cond b (with_done q a t) t) ≡ commits_as k t
done_place k q a t true = refl
done_place k q a t false = refl

-- a unit that closes, or another one
close_good : {D S A : Type 0} (m : Meaning D S A) (at at' : ℕ → D) (n n' : ℕ) (old new : State D) (u : ℕ) (f : Fate) (t : Txn S A) → IsAt old new u None → n ≤ n' → ((k : ℕ) → k ≤ n → at' k ≡ at k) → is_open_fate f ≡ false → (is_open u t ≡ true → IsPlaced m at' n' t f) → Good m at n old.live t → (b : Bool) → is_open u t ≡ b → Good m at' n' new.live (cond b (with_fate f t) t)
close_good m at at' n n' old new u f t h l a shut place g true e = record {
  placed = record { past = omega (arith, g.placed.past); place = again m at' n' t f (place e) };
  told = ap (λ d. answers m d t.work) (a t.version g.placed.past) ∙ g.told;
  live = λ o. cc;
}
  where
    again : {D S A : Type 0} (m : Meaning D S A) (at : ℕ → D) (n : ℕ) (t : Txn S A) (f : Fate) → IsPlaced m at n t f → IsPlaced m at n (with_fate f t) f
    again m at n t Open h = tt
    again m at n t Dropped h = tt
    again m at n t (Committed k) h = h
close_good m at at' n n' old new u f t h l a shut place g false e = move m at at' n n' old.live new.live t l a (λ o p w. h.others t.number (not_open u t e o)) g

dropped : {D S A : Type 0} (m : Meaning D S A) (at : ℕ → D) (n : ℕ) (ts : List (Txn S A)) (old new : State D) (u : ℕ) (P : Live D → Type 0) → IsDropped old new u P → Kept m at n ts old → Kept m at n (change u (with_fate Dropped) ts) new
dropped m at n ts old new u P s h = record {
  version = s.version ∙ h.version;
  db = s.db ∙ h.db;
  each = All-map _ _ ts (All-weaken _ _ ts (λ t g. close_good m at at n n old new u Dropped t s.live (omega arith) (λ k l. refl) refl (λ e. tt) g (is_open u t) refl) h.each);
  listed = λ k p e.
      let w = at_none old new u k p s.live e in
      count-map (is_open k) (is_open k) _ ts (All-weaken _ _ ts (λ t g. closed_open u k Dropped t refl w.0 (is_open u t) refl) h.each) ∙ h.listed k p w.1;
  once = λ k l. count-map (commits_as (suc k)) (commits_as (suc k)) _ ts (All-weaken _ _ ts (λ t g. closed_place u (suc k) Dropped t refl (is_open u t) refl) h.each) ∙ h.once k l;
  writers = λ k p e w. h.writers k p (at_none old new u k p s.live e).1 w;
  one = λ j k p q e f v w. h.one j k p q (at_none old new u j p s.live e).1 (at_none old new u k q s.live f).1 v w;
}

-- of the open unit u: its version is the start that the state has, and its view is what its statements leave
pub of_live : {D S A : Type 0} (m : Meaning D S A) (at : ℕ → D) (n : ℕ) (live : ℕ → Option (Live D)) (u : ℕ) (o : Live D) (t : Txn S A) → live u ≡ Some o → Good m at n live t → is_open u t ≡ true → IsOf m at o t
of_live m at n live u o t is g e =
    let p = is_open-parts u t e in
    let w = g.live p.0 in
    let one : Some w.unit ≡ Some o = sym w.is ∙ ap live p.1 ∙ is in
    let same : w.unit ≡ o = cc in
    subst (λ x. IsOf m at x t) same (record { stream = w.stream; start = w.start; view = w.view; reads = w.reads })

committed : {D S A : Type 0} (m : Meaning D S A) (at : ℕ → D) (n : ℕ) (ts : List (Txn S A)) (old new : State D) (u : ℕ) → IsCommitted old new u → Kept m at n ts old → Kept m (put at (suc n) new.db) (suc n) (change u (with_fate (Committed (suc n))) ts) new
committed {D} m at n ts old new u s h =
    let at' = put at (suc n) new.db in record {
      version = s.version ∙ ap suc h.version;
      db = sym (put-same at (suc n) new.db);
      each = All-map _ _ ts (All-weaken _ _ ts
          (λ t g. close_good m at at' n (suc n) old new u (Committed (suc n)) t s.live (omega arith) (put-below at n new.db) refl
          (λ e. let w = of_live m at n old.live u s.unit t s.is g e in
          (ap suc (sym (h.writers u s.unit s.is s.writer) ∙ w.start), omega arith, put-same at (suc n) new.db ∙ s.db ∙ w.view ∙ ap (λ d. after m d t.work) (sym (put-below at n new.db t.version g.placed.past)))) g (is_open u t) refl) h.each);
      listed = λ k p e.
          let w = at_none old new u k p s.live e in
          count-map (is_open k) (is_open k) _ ts (All-weaken _ _ ts (λ t g. closed_open u k (Committed (suc n)) t refl w.0 (is_open u t) refl) h.each) ∙ h.listed k p w.1;
      once = λ k l. elim (cases_eq k n) [
        | inl e ↦ subst (λ j. length (filter (commits_as (suc j)) (change u (with_fate (Committed (suc n))) ts)) ≡ 1) (sym e)
            (count-map (commits_as (suc n)) (is_open u) _ ts (All-weaken _ _ ts (λ t g. closed_last m at n old.live u t g (is_open u t) refl) h.each) ∙ h.listed u s.unit s.is)
        | inr ne ↦ count-map (commits_as (suc k)) (commits_as (suc k)) _ ts (All-weaken _ _ ts (λ t g. closed_place u (suc k) (Committed (suc n)) t (ne_eqb (suc n) (suc k) (λ q. ne (omega arith))) (is_open u t) refl) h.each) ∙ h.once k (omega arith)
      ];
      writers = λ k p e w.
          let f = at_none old new u k p s.live e in
          absurd (f.0 (h.one k u p s.unit f.1 s.is w s.writer));
      one = λ j k p q e f v w. h.one j k p q (at_none old new u j p s.live e).1 (at_none old new u k q s.live f).1 v w;
    }

abbrev ran_unit : {D S A : Type 0} → Meaning D S A → Live D → S → Live D
ran_unit m o q = record { stream = o.stream; start = o.start; view = (m.exec o.view q).0; is_writer = o.is_writer || m.is_write q }

-- the unit that ran a statement, or another one
pub open_placed : {D S A : Type 0} (m : Meaning D S A) (at : ℕ → D) (n : ℕ) (t : Txn S A) (f : Fate) → is_open_fate f ≡ true → IsPlaced m at n t f
open_placed m at n t Open e = tt
open_placed m at n t Dropped e = cc
open_placed m at n t (Committed k) e = cc

written-push : {D S A : Type 0} (m : Meaning D S A) (ds : List (Done S A)) (d : Done S A) → has_written m ds ≡ false → m.is_write d.stmt ≡ false → has_written m (ds ++ d ∷ []) ≡ false
unfolding words
written-push m [] d h e = ap (λ b. b || false) e
written-push m (x ∷ ds) d h e = let p = or_none _ _ h in ap₂ (λ a b. a || b) p.0 (written-push m ds d p.1 e)
  where
    or_none : (a b : Bool) → (a || b) ≡ false → (a ≡ false) × (b ≡ false)
    or_none true b e = cc
    or_none false b e = (refl, e)

ran_good : {D S A : Type 0} (m : Meaning D S A) (at : ℕ → D) (n : ℕ) (old new : State D) (u : ℕ) (q : S) (a : A) (t : Txn S A) → IsRan m old new u q a → Good m at n old.live t → (b : Bool) → is_open u t ≡ b → Good m at n new.live (cond b (with_done q a t) t)
ran_good {D} {S} {A} m at n old new u q a t s g true e =
    let o = s.unit in
    let p = is_open-parts u t e in
    let w = of_live m at n old.live u o t s.is g e in
    let d : Done S A = record { stmt = q; answer = a } in
    let same : a ≡ (m.exec (after m (at t.version) t.work) q).1 = s.answer ∙ ap (λ v. (m.exec v q).1) w.view in record {
      placed = record { past = g.placed.past; place = open_placed m at n (with_done q a t) t.fate p.0 };
      told = answers-push m (at t.version) t.work d ∙ ap₂ (λ x y. x ++ y ∷ []) g.told (sym same) ∙ sym (map-append (λ x. x.answer) t.work (d ∷ []));
      live = λ c. record {
        unit = ran_unit m o q;
        is = ap new.live p.1 ∙ s.live.here;
        stream = w.stream;
        start = w.start;
        view = ap (λ v. (m.exec v q).0) w.view ∙ sym (after-push m (at t.version) t.work d);
        reads = λ r. let f = or_none o.is_writer (m.is_write q) r in written-push m t.work d (w.reads f.0) f.1;
      };
    }
  where
    or_none : (a b : Bool) → (a || b) ≡ false → (a ≡ false) × (b ≡ false)
    or_none true b e = cc
    or_none false b e = (refl, e)
ran_good m at n old new u q a t s g false e = move m at at n n old.live new.live t (omega arith) (λ k l. refl) (λ o p w. s.live.others t.number (not_open u t e o)) g

-- the unit that ran a statement, if it is a writer now, is at the last version, and no other is a writer
ran_start : {D S A : Type 0} (m : Meaning D S A) (at : ℕ → D) (n : ℕ) (ts : List (Txn S A)) (old new : State D) (u : ℕ) (q : S) (a : A) (s : IsRan m old new u q a) → Kept m at n ts old → (p : Live D) → Some (ran_unit m s.unit q) ≡ Some p → p.is_writer ≡ true → p.start ≡ n
ran_start {D} m at n ts old new u q a s h p e w =
    let same : ran_unit m s.unit q ≡ p = cc in
    sym (ap (λ (x : Live D). x.start) same) ∙ elim (or_cases _ _ (ap (λ (x : Live D). x.is_writer) same ∙ w)) [ inl y ↦ h.writers u s.unit s.is y | inr y ↦ s.current y ∙ h.version ]

ran_one : {D S A : Type 0} (m : Meaning D S A) (at : ℕ → D) (n : ℕ) (ts : List (Txn S A)) (old new : State D) (u : ℕ) (q : S) (a : A) (s : IsRan m old new u q a) → Kept m at n ts old → (p : Live D) → Some (ran_unit m s.unit q) ≡ Some p → p.is_writer ≡ true → (k : ℕ) (r : Live D) → old.live k ≡ Some r → r.is_writer ≡ true → u ≡ k
ran_one {D} m at n ts old new u q a s h p e w k r i v =
    let same : ran_unit m s.unit q ≡ p = cc in
    elim (or_cases _ _ (ap (λ (x : Live D). x.is_writer) same ∙ w)) [
      | inl y ↦ h.one u k s.unit r s.is i y v
      | inr y ↦ elim (cases_eq k u) [ inl c ↦ sym c | inr c ↦ let no : r.is_writer ≡ false = s.turn y k r i c in cc ]
    ]

ran : {D S A : Type 0} (m : Meaning D S A) (at : ℕ → D) (n : ℕ) (ts : List (Txn S A)) (old new : State D) (u : ℕ) (q : S) (a : A) → IsRan m old new u q a → Kept m at n ts old → Kept m at n (change u (with_done q a) ts) new
ran {D} m at n ts old new u q a s h =
    let o = s.unit in
    let cases = λ (k : ℕ) (p : Live D) (e : new.live k ≡ Some p). at_cases old new u (Some (ran_unit m o q)) k p s.live e in record {
      version = s.version ∙ h.version;
      db = s.db ∙ h.db;
      each = All-map _ _ ts (All-weaken _ _ ts (λ t g. ran_good m at n old new u q a t s g (is_open u t) refl) h.each);
      listed = λ k p e.
          count-map (is_open k) (is_open k) _ ts (All-weaken _ _ ts (λ t g. done_open k q a t (is_open u t)) h.each)
          ∙ elim (cases k p e) [ inl w ↦ subst (λ j. length (filter (is_open j) ts) ≡ 1) (sym w.0) (h.listed u o s.is) | inr w ↦ h.listed k p w.1 ];
      once = λ k l. count-map (commits_as (suc k)) (commits_as (suc k)) _ ts (All-weaken _ _ ts (λ t g. done_place (suc k) q a t (is_open u t)) h.each) ∙ h.once k l;
      writers = λ k p e w. elim (cases k p e) [
        | inl c ↦ ran_start m at n ts old new u q a s h p c.1 w
        | inr c ↦ h.writers k p c.1 w
      ];
      one = λ j k p r e f v w. elim (cases j p e) [
        | inl c ↦ elim (cases k r f) [ inl d ↦ c.0 ∙ sym d.0 | inr d ↦ c.0 ∙ ran_one m at n ts old new u q a s h p c.1 v k r d.1 w ]
        | inr c ↦ elim (cases k r f) [ inl d ↦ sym (d.0 ∙ ran_one m at n ts old new u q a s h r d.1 w j p c.1 v) | inr d ↦ h.one j k p r c.1 d.1 v w ]
      ];
    }

began_writes : {D : Type 0} (old new : State D) (u s : ℕ) (b : IsBegan old new u s) (p : Live D) → Some (record { stream = s; start = old.version; view = old.db; is_writer = b.write }) ≡ Some p → p.is_writer ≡ true → b.write ≡ true
began_writes {D} old new u s b p e w =
    let unit : Live D = record { stream = s; start = old.version; view = old.db; is_writer = b.write } in
    let same : unit ≡ p = cc in
    ap (λ (x : Live D). x.is_writer) same ∙ w

began_start : {D : Type 0} (old new : State D) (u s : ℕ) (b : IsBegan old new u s) (p : Live D) → Some (record { stream = s; start = old.version; view = old.db; is_writer = b.write }) ≡ Some p → p.start ≡ old.version
began_start {D} old new u s b p e =
    let unit : Live D = record { stream = s; start = old.version; view = old.db; is_writer = b.write } in
    let same : unit ≡ p = cc in
    sym (ap (λ (x : Live D). x.start) same)

began : {D S A : Type 0} (m : Meaning D S A) (at : ℕ → D) (n : ℕ) (ts : List (Txn S A)) (old new : State D) (u s : ℕ) → IsBegan old new u s → Kept m at n ts old → Kept m at n (ts ++ record { number = u; stream = s; version = n; work = []; fate = Open } ∷ []) new
unfolding words
began {D} {S} {A} m at n ts old new u s b h =
    let unit : Live D = record { stream = s; start = old.version; view = old.db; is_writer = b.write } in
    let cases = λ (k : ℕ) (p : Live D) (e : new.live k ≡ Some p). at_cases old new u (Some unit) k p b.live e in
    let writes = λ (p : Live D) (e : Some unit ≡ Some p) (w : p.is_writer ≡ true). began_writes old new u s b p e w in record {
      version = b.version ∙ h.version;
      db = b.db ∙ h.db;
      each = All-push _ ts _
          (All-weaken _ _ ts (λ t g. move m at at n n old.live new.live t (omega arith) (λ k l. refl) (λ e p w. b.live.others t.number (λ q. let none : old.live t.number ≡ None = ap old.live q ∙ b.fresh in cc)) g) h.each)
          (record { placed = record { past = omega arith; place = tt }; told = refl; live = λ e. record { unit = unit; is = b.live.here; stream = refl; start = h.version; view = h.db; reads = λ r. refl } });
      listed = λ k p e. count-push (is_open k) ts _ ∙ elim (cases k p e) [
        | inl c ↦ ap₂ (λ x y. x + y) (none_length (is_open k) ts (All-weaken _ _ ts (λ t g. unlisted m at n old.live k t (ap old.live c.0 ∙ b.fresh) g) h.each)) (ap (λ x. cond x 1 0) (eq-eqb u k (sym c.0)))
        | inr c ↦ ap₂ (λ x y. x + y) (h.listed k p c.1) (ap (λ x. cond x 1 0) (ne_eqb u k (λ q. c.0 (sym q))))
      ];
      once = λ k l. count-push (commits_as (suc k)) ts _ ∙ ap (λ x. x + 0) (h.once k l);
      writers = λ k p e w. elim (cases k p e) [ inl c ↦ began_start old new u s b p c.1 ∙ h.version | inr c ↦ h.writers k p c.1 w ];
      one = λ j k p r e f v w. elim (cases j p e) [
        | inl c ↦ elim (cases k r f) [ inl d ↦ c.0 ∙ sym d.0 | inr d ↦ let no : r.is_writer ≡ false = b.turn (writes p c.1 v) k r d.1 in cc ]
        | inr c ↦ elim (cases k r f) [ inl d ↦ let no : p.is_writer ≡ false = b.turn (writes r d.1 w) j p c.1 in cc | inr d ↦ h.one j k p r c.1 d.1 v w ]
      ];
    }

-- a statement alone that didn't write leaves the database
leaves : {D S A : Type 0} (m : Meaning D S A) (old new : State D) (s : ℕ) (q : S) (a : A) → IsAlone m old new s q a false → new.db ≡ old.db
leaves m old new s q a b = b.db ∙ elim (and_cases (m.is_write q) (not (m.is_refused a)) (sym b.wrote)) [
  | inl unwritten ↦ elim (or_cases (m.is_read q) (m.is_write q) b.class) [ inl r ↦ m.read_leaves old.db q r | inr w ↦ cc ]
  | inr refused ↦ m.refusal_leaves old.db q (ap m.is_refused (sym b.answer) ∙ not-false _ refused)
]

abbrev lone : {S A : Type 0} → ℕ → ℕ → S → A → Fate → Txn S A
lone n s q a f = record { number = 0; stream = s; version = n; work = record { stmt = q; answer = a } ∷ []; fate = f }

alone_idle : {D S A : Type 0} (m : Meaning D S A) (at : ℕ → D) (n : ℕ) (ts : List (Txn S A)) (old new : State D) (s : ℕ) (q : S) (a : A) → IsAlone m old new s q a false → Kept m at n ts old → Kept m at n (ts ++ lone n s q a Dropped ∷ []) new
unfolding words
alone_idle m at n ts old new s q a b h = record {
  version = b.version ∙ add-zero old.version ∙ h.version;
  db = leaves m old new s q a b ∙ h.db;
  each = All-push _ ts _
      (All-weaken _ _ ts (λ t g. move m at at n n old.live new.live t (omega arith) (λ k l. refl) (λ e p w. b.live t.number) g) h.each)
      (record { placed = record { past = omega arith; place = tt }; told = ap (λ x. x ∷ []) (ap (λ d. (m.exec d q).1) (sym h.db) ∙ sym b.answer); live = λ e. cc });
  listed = λ k p e. count-push (is_open k) ts _ ∙ ap (λ x. x + 0) (h.listed k p (sym (b.live k) ∙ e));
  once = λ k l. count-push (commits_as (suc k)) ts _ ∙ ap (λ x. x + 0) (h.once k l);
  writers = λ k p e w. h.writers k p (sym (b.live k) ∙ e) w;
  one = λ j k p r e f v w. h.one j k p r (sym (b.live j) ∙ e) (sym (b.live k) ∙ f) v w;
}

alone_wrote : {D S A : Type 0} (m : Meaning D S A) (at : ℕ → D) (n : ℕ) (ts : List (Txn S A)) (old new : State D) (s : ℕ) (q : S) (a : A) → IsAlone m old new s q a true → Kept m at n ts old → Kept m (put at (suc n) new.db) (suc n) (ts ++ lone n s q a (Committed (suc n)) ∷ []) new
unfolding words
alone_wrote {D} m at n ts old new s q a b h =
    let at' = put at (suc n) new.db in
    let here : at' n ≡ old.db = put-below at n new.db n (omega arith) ∙ sym h.db in
    let wrote : (m.is_write q && not (m.is_refused a)) ≡ true = sym b.wrote in record {
      version = b.version ∙ add-one old.version ∙ ap suc h.version;
      db = sym (put-same at (suc n) new.db);
      each = All-push _ ts _
          (All-weaken _ _ ts (λ t g. move m at at' n (suc n) old.live new.live t (omega arith) (put-below at n new.db) (λ e p w. b.live t.number) g) h.each)
          (record { placed = record { past = omega arith; place = (refl, omega arith, put-same at (suc n) new.db ∙ b.db ∙ ap (λ d. (m.exec d q).0) (sym here)) }; told = ap (λ x. x ∷ []) (ap (λ d. (m.exec d q).1) here ∙ sym b.answer); live = λ e. cc });
      listed = λ k p e. count-push (is_open k) ts _ ∙ ap (λ x. x + 0) (h.listed k p (sym (b.live k) ∙ e));
      once = λ k l. count-push (commits_as (suc k)) ts _ ∙ elim (cases_eq k n) [
        | inl e ↦ ap₂ (λ x y. x + y) (none_length (commits_as (suc k)) ts (All-weaken _ _ ts (λ t g. unplaced m at n (suc k) old.live t (omega arith) g) h.each)) (ap (λ x. cond x 1 0) (eq-eqb (suc n) (suc k) (ap suc (sym e))))
        | inr ne ↦ ap₂ (λ x y. x + y) (h.once k (omega arith)) (ap (λ x. cond x 1 0) (ne_eqb (suc n) (suc k) (λ q. ne (omega arith))))
      ];
      writers = λ k p e w. let no : p.is_writer ≡ false = b.turn (and_parts _ _ wrote).0 k p (sym (b.live k) ∙ e) in cc;
      one = λ j k p r e f v w. h.one j k p r (sym (b.live j) ∙ e) (sym (b.live k) ∙ f) v w;
    }

-- each entry keeps it, with the databases so far
pub keep : {D S A : Type 0} (m : Meaning D S A) (at : ℕ → D) (n : ℕ) (ts : List (Txn S A)) (old : State D) (e : Entry S A) (new : State D) → Step m old e new → Kept m at n ts old → (at' : ℕ → D) × (at' 0 ≡ at 0) × Kept m at' (n + adds e) (gather n ts e) new
unfolding words
keep m at n ts old (Alone s q a true) new b h = (put at (suc n) new.db, put-below at n new.db 0 (omega arith), rw (add-one n) (alone_wrote m at n ts old new s q a b h))
keep m at n ts old (Alone s q a false) new b h = (at, refl, rw (add-zero n) (alone_idle m at n ts old new s q a b h))
keep m at n ts old (Began u s) new b h = (at, refl, rw (add-zero n) (began m at n ts old new u s b h))
keep m at n ts old (Ran u q a) new b h = (at, refl, rw (add-zero n) (ran m at n ts old new u q a b h))
keep m at n ts old (Denied u d) new b h = (at, refl, rw (add-zero n) (same m at n ts old new b.same h))
keep m at n ts old (Ended u Commit) new b h = (put at (suc n) new.db, put-below at n new.db 0 (omega arith), rw (add-one n) (committed m at n ts old new u b h))
keep m at n ts old (Ended u ReadOnly) new b h = (at, refl, rw (add-zero n) (dropped m at n ts old new u _ b h))
keep m at n ts old (Ended u (Undone undo)) new b h = (at, refl, rw (add-zero n) (dropped m at n ts old new u _ b h))
keep m at n ts old (Failed s None cause) new b h = (at, refl, rw (add-zero n) (same m at n ts old new b.same h))
keep m at n ts old (Failed s (Some u) cause) new b h = (at, refl, rw (add-zero n) (dropped m at n ts old new u _ b h))

pub keep_all : {D S A : Type 0} (m : Meaning D S A) (at : ℕ → D) (n : ℕ) (ts : List (Txn S A)) (old : State D) (es : List (Entry S A)) (new : State D) → Run m old es new → Kept m at n ts old → (at' : ℕ → D) × (at' 0 ≡ at 0) × Kept m at' (n + commits es) (units_from n ts es) new
unfolding words
keep_all m at n ts old [] new r h = (at, refl, rw (add-zero n) (subst (λ st. Kept m at n ts st) (sym r) h))
keep_all m at n ts old (e ∷ es) new r h =
    let k = keep m at n ts old e r.0 r.1 h in
    let j = keep_all m k.0 (n + adds e) (gather n ts e) r.0 es new r.2 k.2 in
    (j.0, j.1 ∙ k.1, subst (λ c. Kept m j.0 c (units_from (n + adds e) (gather n ts e) es) new) (add_assoc n (adds e) (commits es)) j.2)

pub kept_at_start : {D S A : Type 0} (m : Meaning D S A) (db : D) → Kept m (λ k. db) 0 [] (start db)
kept_at_start m db = record {
  version = refl;
  db = refl;
  each = tt;
  listed = λ u o e. cc;
  once = λ k l. absurd (omega arith);
  writers = λ u o e w. cc;
  one = λ u v o p e f w x. cc;
}
