-- A run explains its journal, entry by entry.
use Rattle.std.proofs.Common.{IsSomeAnd, find, Option, ◌≤◌, ◌≡◌, ℕ, suc, ◌+◌, true, false, ◌&&◌, List, [], ◌∷◌, ◌++◌, Some, None, refl, sym, ap, ap₂, ◌∙◌, subst, inl, inr, zero-add, add-zero, add_assoc, arith}
use Rattle.std.proofs.lemmas.Bool.{eqb-true, eq-eqb, and_parts, cases_Bool}
use Rattle.serial_order.specs.Journal.{Entry, Alone, Began, Ran, Denied, Ended, Failed, Deny, Stale, Held, Commit, ReadOnly, Undone, Txn, adds, commits, gather, units, units_from, is_open}
use Rattle.serial_order.specs.Serial.{Meaning}
use Rattle.serial_order.specs.Machine.{Live, State, start, IsFree, MayDeny, Step, Run}
use Rattle.serial_order.specs.Explained.{begun, begins, is_busy, has_open, IsOpenAnd, Order, Keeps, ExplainedAfter, Explained}
use Rattle.serial_order.proofs.Lists.{All-weaken, found, any, not_any}
use Rattle.serial_order.proofs.Keep.{Good, IsOf, Kept, keep, of_live, kept_at_start}
use Rattle.serial_order.proofs.Law.{answered}
use Rattle.serial_order.proofs.Words.{words}

-- one more entry
pub commits-push : {S A : Type 0} (es : List (Entry S A)) (e : Entry S A) → commits (es ++ e ∷ []) ≡ commits es + adds e
unfolding words
commits-push [] e = add-zero (adds e) ∙ sym (zero-add (adds e))
commits-push (x ∷ es) e = ap (λ n. adds x + n) (commits-push es e) ∙ sym (add_assoc (adds x) (commits es) (adds e))

pub begins-push : {S A : Type 0} (es : List (Entry S A)) (e : Entry S A) → begins (es ++ e ∷ []) ≡ begins es + begun e
unfolding words
begins-push [] e = add-zero (begun e) ∙ sym (zero-add (begun e))
begins-push (x ∷ es) e = ap (λ n. begun x + n) (begins-push es e) ∙ sym (add_assoc (begun x) (begins es) (begun e))

units_from-push : {S A : Type 0} (n : ℕ) (ts : List (Txn S A)) (es : List (Entry S A)) (e : Entry S A) → units_from n ts (es ++ e ∷ []) ≡ gather (n + commits es) (units_from n ts es) e
unfolding words
units_from-push n ts [] e = ap (λ k. gather k ts e) (sym (add-zero n))
units_from-push n ts (x ∷ es) e = units_from-push (n + adds x) (gather n ts x) es e ∙ ap (λ k. gather k (units_from (n + adds x) (gather n ts x) es) e) (add_assoc n (adds x) (commits es))

pub units-push : {S A : Type 0} (es : List (Entry S A)) (e : Entry S A) → units (es ++ e ∷ []) ≡ gather (commits es) (units es) e
unfolding words
units-push es e = units_from-push 0 [] es e ∙ ap (λ k. gather k (units es) e) (zero-add (commits es))

-- a stream without a unit in the state has none in the journal
busy : {D S A : Type 0} (m : Meaning D S A) (at : ℕ → D) (n : ℕ) (st : State D) (s : ℕ) (t : Txn S A) → IsFree st s → Good m at n st.live t → is_busy s t ≡ false
busy m at n st s t f g = elim (cases_Bool (is_busy s t)) [
  | inl e ↦
      let p = and_parts _ _ e in
      let w = g.live p.0 in
      let q : t.stream ≡ s = eqb-true t.stream s p.1 in
      absurd (f t.number w.unit w.is (w.stream ∙ q))
  | inr e ↦ e
]

free : {D S A : Type 0} (m : Meaning D S A) (at : ℕ → D) (es : List (Entry S A)) (st : State D) (s : ℕ) → IsFree st s → Kept m at (commits es) (units es) st → has_open es s ≡ false
unfolding words
free m at es st s f k = not_any (is_busy s) (units es) (All-weaken _ _ (units es) (λ t g. busy m at (commits es) st s t f g) k.each)

-- a unit in the state is open in the journal
open_and : {D S A : Type 0} (m : Meaning D S A) (at : ℕ → D) (es : List (Entry S A)) (st : State D) (u : ℕ) (o : Live D) (P : Txn S A → Type 0) → st.live u ≡ Some o → Kept m at (commits es) (units es) st → ((t : Txn S A) → IsOf m at o t → P t) → IsOpenAnd es u P
unfolding words
open_and m at es st u o P is k f = found P (is_open u) (units es) (All-weaken _ _ (units es) (λ t g e. f t (of_live m at (commits es) st.live u o t is g e)) k.each) (k.listed u o is)

held : {D S A : Type 0} (m : Meaning D S A) (at : ℕ → D) (es : List (Entry S A)) (st : State D) (u : ℕ) (o : Live D) → st.live u ≡ Some o → Kept m at (commits es) (units es) st → has_open es o.stream ≡ true
unfolding words
held m at es st u o is k = any (is_busy o.stream) (is_open u) (units es) (All-weaken _ _ (units es) (λ t g e. ap₂ (λ a b. a && b) (and_parts _ _ e).0 (eq-eqb t.stream o.stream (sym (of_live m at (commits es) st.live u o t is g e).stream))) k.each) (k.listed u o is)

may_deny : {D S A : Type 0} (m : Meaning D S A) (at : ℕ → D) (es : List (Entry S A)) (st : State D) (u : ℕ) (o : Live D) (d : Deny) → st.live u ≡ Some o → MayDeny st o d → Kept m at (commits es) (units es) st → Keeps m es (Denied u d)
unfolding words
may_deny m at es st u o (Stale had now) is w k = open_and m at es st u o _ is k (λ t i. (w.0 ∙ i.start, w.1 ∙ k.version, w.2))
may_deny m at es st u o (Held by) is w k = open_and m at es st u o _ is k (λ t i. (λ e. w.4 (e ∙ sym i.stream), ap (has_open es) (sym w.3) ∙ held m at es st w.0 w.1 w.2 k))

-- a step of the machine is in order, and keeps what it tells
in_order : {D S A : Type 0} (m : Meaning D S A) (at : ℕ → D) (es : List (Entry S A)) (old : State D) (e : Entry S A) (new : State D) → Step m old e new → Kept m at (commits es) (units es) old → old.next ≡ suc (begins es) → Order m es e
unfolding words
in_order m at es old (Alone s q a w) new b k n = (free m at es old s b.free k, b.class)
in_order m at es old (Began u s) new b k n = (b.number ∙ n, free m at es old s b.free k)
in_order m at es old (Ran u q a) new b k n = open_and m at es old u b.unit _ b.is k (λ t i. b.class)
in_order m at es old (Denied u d) new b k n = open_and m at es old u b.unit _ b.is k (λ t i. tt)
in_order m at es old (Ended u Commit) new b k n = open_and m at es old u b.unit _ b.is k (λ t i. sym i.start ∙ k.writers u b.unit b.is b.writer)
in_order m at es old (Ended u ReadOnly) new b k n = open_and m at es old u b.unit _ b.is k (λ t i. i.reads b.cause)
in_order m at es old (Ended u (Undone undo)) new b k n = open_and m at es old u b.unit _ b.is k (λ t i. tt)
in_order m at es old (Failed s None cause) new b k n = free m at es old s b.free k
in_order m at es old (Failed s (Some u) cause) new b k n = open_and m at es old u b.unit _ b.is k (λ t i. sym i.stream ∙ b.cause)

keeps : {D S A : Type 0} (m : Meaning D S A) (at : ℕ → D) (es : List (Entry S A)) (old : State D) (e : Entry S A) (new : State D) → Step m old e new → Kept m at (commits es) (units es) old → Keeps m es e
unfolding words
keeps m at es old (Alone s q a w) new b k = b.wrote
keeps m at es old (Began u s) new b k = tt
keeps m at es old (Ran u q a) new b k = tt
keeps m at es old (Denied u d) new b k = may_deny m at es old u b.unit d b.is b.why k
keeps m at es old (Ended u h) new b k = tt
keeps m at es old (Failed s u cause) new b k = tt

pub next : {D S A : Type 0} (m : Meaning D S A) (old : State D) (e : Entry S A) (new : State D) → Step m old e new → new.next ≡ old.next + begun e
unfolding words
next m old (Alone s q a w) new b = b.next ∙ sym (add-zero old.next)
next m old (Began u s) new b = b.next ∙ omega arith
next m old (Ran u q a) new b = b.next ∙ sym (add-zero old.next)
next m old (Denied u d) new b = b.same.next ∙ sym (add-zero old.next)
next m old (Ended u Commit) new b = b.next ∙ sym (add-zero old.next)
next m old (Ended u ReadOnly) new b = b.next ∙ sym (add-zero old.next)
next m old (Ended u (Undone undo)) new b = b.next ∙ sym (add-zero old.next)
next m old (Failed s None cause) new b = b.same.next ∙ sym (add-zero old.next)
next m old (Failed s (Some u) cause) new b = b.next ∙ sym (add-zero old.next)

-- one more entry keeps it
pub keep-push : {D S A : Type 0} (m : Meaning D S A) (at : ℕ → D) (es : List (Entry S A)) (old : State D) (e : Entry S A) (new : State D) → Step m old e new → Kept m at (commits es) (units es) old → (at' : ℕ → D) × (at' 0 ≡ at 0) × Kept m at' (commits (es ++ e ∷ [])) (units (es ++ e ∷ [])) new
keep-push m at es old e new s k =
    let j = keep m at (commits es) (units es) old e new s k in
    (j.0, j.1, subst (λ ts. Kept m j.0 (commits (es ++ e ∷ [])) ts new) (sym (units-push es e)) (subst (λ c. Kept m j.0 c (gather (commits es) (units es) e) new) (sym (commits-push es e)) j.2))

explained_after : {D S A : Type 0} (m : Meaning D S A) (db : D) (at : ℕ → D) (es : List (Entry S A)) (old : State D) (rest : List (Entry S A)) (new : State D) → Run m old rest new → at 0 ≡ db → old.next ≡ suc (begins es) → Kept m at (commits es) (units es) old → ExplainedAfter m db es rest
unfolding words
explained_after m db at es old [] new r z n k = tt
explained_after m db at es old (e ∷ rest) new r z n k =
    let j = keep-push m at es old e r.0 r.1 k in (
      in_order m at es old e r.0 r.1 k n,
      keeps m at es old e r.0 r.1 k,
      answered m db j.0 (es ++ e ∷ []) r.0 (j.1 ∙ z) j.2,
      explained_after m db j.0 (es ++ e ∷ []) r.0 rest new r.2 (j.1 ∙ z) (next m old e r.0 r.1 ∙ ap (λ x. x + begun e) n ∙ (let b = begins-push es e in omega arith)) j.2,
    )

-- the law on every entry
pub explained_law : {D S A : Type 0} (m : Meaning D S A) (db : D) (es : List (Entry S A)) (end : State D) → Run m (start db) es end → Explained m db es
unfolding words
explained_law m db es end r = explained_after m db (λ k. db) [] (start db) es end r refl refl (kept_at_start m db)

some_const : {X : Type 0} (P : Type 0) (o : Option X) → IsSomeAnd o (λ x. P) → P
some_const P None h = elim h [ ]
some_const P (Some x) h = h

-- an open unit began at a version that was reached
pub start_reached : {D S A : Type 0} (m : Meaning D S A) (at : ℕ → D) (n : ℕ) (ts : List (Txn S A)) (st : State D) (u : ℕ) (o : Live D) → st.live u ≡ Some o → Kept m at n ts st → o.start ≤ n
start_reached {D} {S} {A} m at n ts st u o is k =
    some_const (o.start ≤ n) (find (is_open u) ts)
    (found (λ (t : Txn S A). o.start ≤ n) (is_open u) ts (All-weaken _ _ ts (λ t g e. let w = of_live m at n st.live u o t is g e in let p = g.placed.past in subst (λ v. v ≤ n) (sym w.start) p) k.each) (k.listed u o is))
