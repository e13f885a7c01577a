-- Units of selected streams that never stand open side by side keep their order.
use Rattle.std.proofs.Common.{◌≡◌, ◌⊎◌, ℕ, suc, ◌+◌, ◌≤◌, Bool, true, false, cond, ◌&&◌, nat_eq, List, [], ◌∷◌, ◌++◌, map, filter, Some, None, refl, sym, ap, ap₂, ◌∙◌, subst, inl, inr, append-nil, arith}
use Rattle.std.proofs.lemmas.Bool.{eqb-true, ne_eqb, cases_Bool, and_parts}
use Rattle.std.specs.List.{AllByRecursion as ByRecursion}
use Rattle.serial_order.specs.Journal.{Entry, Alone, Began, Ran, Denied, Ended, Failed, Commit, ReadOnly, Undone, Fate, Open, Dropped, Committed, Txn, adds, commits, units, units_from, gather, change, with_done, with_fate, is_open, is_open_fate}
use Rattle.serial_order.specs.Serial.{Meaning, serial}
use Rattle.serial_order.specs.Machine.{Live, State, start, Step, Run, HasTurn, RunByTurns, IsFree}
use Rattle.serial_order.proofs.Lists.{All-weaken, All-filter, filter-push}
use Rattle.serial_order.proofs.Fold.{Placed}
use Rattle.serial_order.proofs.Keep.{Kept, keep, kept_at_start}
use Rattle.serial_order.proofs.Law.{kept_by_run}
use Rattle.serial_order.proofs.Order.{key, key_of, key-le, Sorted, sorted_serial, filter-upto}
use Rattle.serial_order.proofs.Words.{words}

-- t ended before u began
abbrev Before : {S A : Type 0} → Txn S A → Txn S A → Type 0
Before t u = (is_open_fate t.fate ≡ false) × (key t ≤ key u)

abbrev pub Chain : {S A : Type 0} → List (Txn S A) → Type 0
Chain [] = Unit {0}
Chain (t ∷ ts) = ByRecursion (Before t) ts × Chain ts

chain_sorted : {S A : Type 0} (ts : List (Txn S A)) → Chain ts → Sorted ts
chain_sorted [] h = tt
chain_sorted (t ∷ ts) h = (All-weaken _ _ ts (λ u b. b.1) h.0, chain_sorted ts h.1)

before-push : {X : Type 0} (P : X → Type 0) (ts : List X) (x : X) → ByRecursion P ts → P x → ByRecursion P (ts ++ x ∷ [])
before-push P [] x h p = (p, tt)
before-push P (t ∷ ts) x h p = (h.0, before-push P ts x h.1 p)

chain-push : {S A : Type 0} (ts : List (Txn S A)) (x : Txn S A) → Chain ts → ByRecursion (λ t. Before t x) ts → Chain (ts ++ x ∷ [])
chain-push [] x h b = (tt, tt)
chain-push (t ∷ ts) x h b = (before-push (Before t) ts x h.0 b.0, chain-push ts x h.1 b.1)

before-map : {S A : Type 0} (P : Txn S A → Type 0) (g : Txn S A → Txn S A) (t : Txn S A) (ts : List (Txn S A)) → ((u : Txn S A) → P u → Before t u → Before (g t) (g u)) → ByRecursion P ts → ByRecursion (Before t) ts → ByRecursion (Before (g t)) (map g ts)
before-map P g t [] f p h = tt
before-map P g t (u ∷ ts) f p h = (f u p.0 h.0, before-map P g t ts f p.1 h.1)

chain-map : {S A : Type 0} (P : Txn S A → Type 0) (g : Txn S A → Txn S A) (ts : List (Txn S A)) → ((t u : Txn S A) → P u → Before t u → Before (g t) (g u)) → ByRecursion P ts → Chain ts → Chain (map g ts)
chain-map P g [] f p h = tt
chain-map P g (t ∷ ts) f p h = (before-map P g t ts (f t) p.1 h.0, chain-map P g ts f p.1 h.1)

filter-map : {X : Type 0} (p : X → Bool) (g : X → X) (ts : List X) → ((t : X) → p (g t) ≡ p t) → filter p (map g ts) ≡ map g (filter p ts)
filter-map p g [] h = refl
filter-map p g (t ∷ ts) h = ap₂ (λ b us. cond b (g t ∷ us) us) (h t) (filter-map p g ts h) ∙ step (p t) g t _
  where
    step : {X : Type 0} (b : Bool) (g : X → X) (t : X) (us : List X) → cond b (g t ∷ map g us) (map g us) ≡ map g (cond b (t ∷ us) us)
    step true g t us = refl
    step false g t us = refl

-- a statement more
ran_before : {S A : Type 0} (q : S) (a : A) (t u : Txn S A) (b c : Bool) → Before t u → Before (cond b (with_done q a t) t) (cond c (with_done q a u) u)
unfolding key
ran_before q a t u true true h = h
ran_before q a t u true false h = h
ran_before q a t u false true h = h
ran_before q a t u false false h = h

-- a unit closes: those before it were closed, and it gets no lower key
closing_key : (f g : Fate) (n w : ℕ) → is_open_fate f ≡ true → w ≤ n → (g ≡ Dropped) ⊎ (g ≡ Committed (suc n)) → key_of f w ≤ key_of g w
unfolding key_of
closing_key Open g n w e l (inl h) = subst (λ x. suc (w + w) ≤ key_of x w) (sym h) (omega arith)
closing_key Open g n w e l (inr h) = subst (λ x. suc (w + w) ≤ key_of x w) (sym h) (omega arith)
closing_key Dropped g n w e l h = cc
closing_key (Committed k) g n w e l h = cc

closed_before : {S A : Type 0} (n k : ℕ) (f : Fate) (t u : Txn S A) → (f ≡ Dropped) ⊎ (f ≡ Committed (suc n)) → u.version ≤ n → (b c : Bool) → is_open k t ≡ b → is_open k u ≡ c → Before t u → Before (cond b (with_fate f t) t) (cond c (with_fate f u) u)
unfolding key
closed_before n k f t u s l true c e d h = let both : is_open k t ≡ false = ap (λ b. b && nat_eq t.number k) h.0 in cc
closed_before n k f t u s l false true e d h = let w = closing_key u.fate f n u.version (and_parts _ _ d).0 l s in (h.0, omega (arith, h.1, w))
closed_before n k f t u s l false false e d h = h

-- no selected stream has an open unit
abbrev IsQuiet : {D : Type 0} → (ℕ → Bool) → State D → Type 0
IsQuiet {D} sel st = (k : ℕ) (o : Live D) → st.live k ≡ Some o → sel o.stream ≡ false

abbrev MayBegin : {D S A : Type 0} → (ℕ → Bool) → State D → Entry S A → Type 0
MayBegin sel st (Alone s q a w) = sel s ≡ true → IsQuiet sel st
MayBegin sel st (Began u s) = sel s ≡ true → IsQuiet sel st
MayBegin sel st e = Unit {0}

chosen : {S A : Type 0} → (ℕ → Bool) → List (Txn S A) → List (Txn S A)
chosen sel ts = filter (λ t. sel t.stream) ts

begin_before : {D S A : Type 0} (m : Meaning D S A) (at : ℕ → D) (n : ℕ) (ts : List (Txn S A)) (st : State D) (sel : ℕ → Bool) (x : Txn S A) → suc (n + n) ≤ key x → IsQuiet sel st → Kept m at n ts st → ByRecursion (λ t. Before t x) (chosen sel ts)
unfolding chosen
begin_before m at n ts st sel x l quiet k = All-filter (λ t. Before t x) (λ t. sel t.stream) ts (All-weaken _ _ ts
    (λ t g e. (
      elim (cases_Bool (is_open_fate t.fate)) [
        | inl o ↦
            let w = g.live o in
            let no_one : sel w.unit.stream ≡ false = quiet t.number w.unit w.is in
            let some_one : sel w.unit.stream ≡ true = ap sel w.stream ∙ e in
            cc
        | inr c ↦ c
      ],
      (let b = key-le m at n t g.placed in omega arith),
    )) k.each)

push_chosen : {S A : Type 0} (sel : ℕ → Bool) (ts : List (Txn S A)) (x : Txn S A) (b : Bool) → sel x.stream ≡ b → Chain (chosen sel ts) → (b ≡ true → ByRecursion (λ t. Before t x) (chosen sel ts)) → Chain (chosen sel ts ++ cond b (x ∷ []) [])
push_chosen sel ts x true e h f = chain-push (chosen sel ts) x h (f refl)
push_chosen sel ts x false e h f = subst (λ us. Chain us) (sym (append-nil (chosen sel ts))) h

begin_chain : {D S A : Type 0} (m : Meaning D S A) (at : ℕ → D) (n : ℕ) (ts : List (Txn S A)) (st : State D) (sel : ℕ → Bool) (x : Txn S A) → suc (n + n) ≤ key x → (sel x.stream ≡ true → IsQuiet sel st) → Kept m at n ts st → Chain (chosen sel ts) → Chain (chosen sel (ts ++ x ∷ []))
unfolding chosen
begin_chain m at n ts st sel x l quiet k h =
    subst (λ us. Chain us) (sym (filter-push (λ t. sel t.stream) ts x))
    (push_chosen sel ts x (sel x.stream) refl h (λ e. begin_before m at n ts st sel x l (quiet e) k))

done_stream : {S A : Type 0} (sel : ℕ → Bool) (q : S) (a : A) (t : Txn S A) (b : Bool) → sel (cond b (with_done q a t) t).stream ≡ sel t.stream
done_stream sel q a t true = refl
done_stream sel q a t false = refl

fate_stream : {S A : Type 0} (sel : ℕ → Bool) (f : Fate) (t : Txn S A) (b : Bool) → sel (cond b (with_fate f t) t).stream ≡ sel t.stream
fate_stream sel f t true = refl
fate_stream sel f t false = refl

ran_chain : {S A : Type 0} (ts : List (Txn S A)) (sel : ℕ → Bool) (u : ℕ) (q : S) (a : A) → Chain (chosen sel ts) → Chain (chosen sel (change u (with_done q a) ts))
unfolding chosen
ran_chain {S} {A} ts sel u q a h =
    subst (λ us. Chain us) (sym (filter-map (λ t. sel t.stream) (λ t. cond (is_open u t) (with_done q a t) t) ts (λ t. done_stream sel q a t (is_open u t))))
    (chain-map (λ t. Unit {0}) (λ t. cond (is_open u t) (with_done q a t) t) (chosen sel ts) (λ t v p b. ran_before q a t v (is_open u t) (is_open u v) b) (anything (chosen sel ts)) h)
  where
    anything : {X : Type 0} (ts : List X) → ByRecursion (λ (t : X). Unit {0}) ts
    anything [] = tt
    anything (t ∷ ts) = (tt, anything ts)

close_chain : {D S A : Type 0} (m : Meaning D S A) (at : ℕ → D) (n : ℕ) (ts : List (Txn S A)) (st : State D) (sel : ℕ → Bool) (u : ℕ) (f : Fate) → (f ≡ Dropped) ⊎ (f ≡ Committed (suc n)) → Kept m at n ts st → Chain (chosen sel ts) → Chain (chosen sel (change u (with_fate f) ts))
unfolding chosen
close_chain {D} {S} {A} m at n ts st sel u f s k h =
    subst (λ us. Chain us) (sym (filter-map (λ t. sel t.stream) (λ t. cond (is_open u t) (with_fate f t) t) ts (λ t. fate_stream sel f t (is_open u t))))
    (chain-map (λ (t : Txn S A). t.version ≤ n) (λ t. cond (is_open u t) (with_fate f t) t) (chosen sel ts)
    (λ t v p b. closed_before n u f t v s p (is_open u t) (is_open u v) refl refl b)
    (All-filter (λ (t : Txn S A). t.version ≤ n) (λ t. sel t.stream) ts (All-weaken _ _ ts (λ t g e. g.placed.past) k.each)) h)

lone_key : (n : ℕ) (b : Bool) → suc (n + n) ≤ key_of (cond b (Committed (suc n)) Dropped) n
unfolding key_of
lone_key n true = omega arith
lone_key n false = omega arith

step_chain : {D S A : Type 0} (m : Meaning D S A) (at : ℕ → D) (n : ℕ) (ts : List (Txn S A)) (old : State D) (sel : ℕ → Bool) (e : Entry S A) → MayBegin sel old e → Kept m at n ts old → Chain (chosen sel ts) → Chain (chosen sel (gather n ts e))
unfolding key key_of
step_chain m at n ts old sel (Alone s q a w) b k h = begin_chain m at n ts old sel _ (lone_key n w) b k h
step_chain m at n ts old sel (Began u s) b k h = begin_chain m at n ts old sel _ (omega arith) b k h
step_chain m at n ts old sel (Ran u q a) b k h = ran_chain ts sel u q a h
step_chain m at n ts old sel (Denied u d) b k h = h
step_chain m at n ts old sel (Ended u Commit) b k h = close_chain m at n ts old sel u (Committed (suc n)) (inr refl) k h
step_chain m at n ts old sel (Ended u ReadOnly) b k h = close_chain m at n ts old sel u Dropped (inl refl) k h
step_chain m at n ts old sel (Ended u (Undone undo)) b k h = close_chain m at n ts old sel u Dropped (inl refl) k h
step_chain m at n ts old sel (Failed s None cause) b k h = h
step_chain m at n ts old sel (Failed s (Some u) cause) b k h = close_chain m at n ts old sel u Dropped (inl refl) k h

-- whichever entries may begin, they do so where no selected stream has an open unit
abbrev RunQuiet : {D S A : Type 0} → (ℕ → Bool) → Meaning D S A → State D → List (Entry S A) → State D → Type 0
RunQuiet sel m old [] new = new ≡ old
RunQuiet {D} sel m old (e ∷ es) new = (mid : State D) × Step m old e mid × MayBegin sel old e × RunQuiet sel m mid es new

chain_all : {D S A : Type 0} (m : Meaning D S A) (at : ℕ → D) (n : ℕ) (ts : List (Txn S A)) (old : State D) (sel : ℕ → Bool) (es : List (Entry S A)) (new : State D) → RunQuiet sel m old es new → Kept m at n ts old → Chain (chosen sel ts) → Chain (chosen sel (units_from n ts es))
unfolding words
chain_all m at n ts old sel [] new r k h = h
chain_all m at n ts old sel (e ∷ es) new r k h =
    let j = keep m at n ts old e r.0 r.1 k in
    chain_all m j.0 (n + adds e) (gather n ts e) r.0 sel es new r.3 j.2 (step_chain m at n ts old sel e r.2 k h)

quiet_run : {D S A : Type 0} (sel : ℕ → Bool) (m : Meaning D S A) (old : State D) (es : List (Entry S A)) (new : State D) → RunQuiet sel m old es new → Run m old es new
unfolding words
quiet_run sel m old [] new r = r
quiet_run sel m old (e ∷ es) new r = (r.0, r.1, quiet_run sel m r.0 es new r.3)

quiet_order : {D S A : Type 0} (m : Meaning D S A) (db : D) (sel : ℕ → Bool) (es : List (Entry S A)) (end : State D) → RunQuiet sel m (start db) es end → filter (λ t. sel t.stream) (serial es) ≡ filter (λ t. sel t.stream) (units es)
unfolding chosen words
quiet_order {D} {S} {A} m db sel es end r =
    let k = kept_by_run m db es end (quiet_run sel m (start db) es end r) in
    let c = chain_all m (λ k. db) 0 [] (start db) sel es end r (kept_at_start m db) tt in
    filter-upto (λ t. sel t.stream) (units es) (commits es)
    ∙ sorted_serial m k.0 (commits es) (chosen sel (units es)) (All-filter (Placed m k.0 (commits es)) (λ t. sel t.stream) (units es) (All-weaken _ _ (units es) (λ t g e. g.placed) k.2.each)) (chain_sorted (chosen sel (units es)) c)

free_quiet : {D : Type 0} (st : State D) (s x : ℕ) → IsFree st s → nat_eq x s ≡ true → IsQuiet (λ y. nat_eq y s) st
free_quiet st s x f e k o i = ne_eqb o.stream s (f k o i)

run_quiet : {D S A : Type 0} (m : Meaning D S A) (s : ℕ) (old : State D) (es : List (Entry S A)) (new : State D) → Run m old es new → RunQuiet (λ y. nat_eq y s) m old es new
unfolding words
run_quiet m s old [] new r = r
run_quiet m s old (e ∷ es) new r = (r.0, r.1, may m s old e r.0 r.1, run_quiet m s r.0 es new r.2)
  where
    may : {D S A : Type 0} (m : Meaning D S A) (s : ℕ) (old : State D) (e : Entry S A) (new : State D) → Step m old e new → MayBegin (λ y. nat_eq y s) old e
    may m s old (Alone x q a w) new b = λ e. free_quiet old s x (subst (λ y. IsFree old y) (eqb-true x s e) b.free) e
    may m s old (Began u x) new b = λ e. free_quiet old s x (subst (λ y. IsFree old y) (eqb-true x s e) b.free) e
    may m s old (Ran u q a) new b = tt
    may m s old (Denied u d) new b = tt
    may m s old (Ended u h) new b = tt
    may m s old (Failed x u cause) new b = tt

-- the units of one stream keep their order
pub stream_law : {D S A : Type 0} (m : Meaning D S A) (db : D) (es : List (Entry S A)) (end : State D) → Run m (start db) es end → (s : ℕ) → filter (λ t. nat_eq t.stream s) (serial es) ≡ filter (λ t. nat_eq t.stream s) (units es)
stream_law m db es end r s = quiet_order m db (λ y. nat_eq y s) es end (run_quiet m s (start db) es end r)

turns_quiet : {D S A : Type 0} (m : Meaning D S A) (old : State D) (es : List (Entry S A)) (new : State D) → RunByTurns m old es new → RunQuiet (λ y. true) m old es new
unfolding words
turns_quiet m old [] new r = r
turns_quiet m old (e ∷ es) new r = (r.0, r.1, may old e r.2, turns_quiet m r.0 es new r.3)
  where
    may : {D S A : Type 0} (old : State D) (e : Entry S A) → HasTurn old e → MayBegin (λ y. true) old e
    may old (Alone x q a w) b = λ e k o i. let no_one = b k in cc
    may old (Began u x) b = λ e k o i. let no_one = b k in cc
    may old (Ran u q a) b = tt
    may old (Denied u d) b = tt
    may old (Ended u h) b = tt
    may old (Failed x u cause) b = tt

everything : {X : Type 0} (ts : List X) → filter (λ t. true) ts ≡ ts
everything [] = refl
everything (t ∷ ts) = ap (λ us. t ∷ us) (everything ts)

-- with one turn the serial order is the order of the journal
pub turn_law : {D S A : Type 0} (m : Meaning D S A) (db : D) (es : List (Entry S A)) (end : State D) → RunByTurns m (start db) es end → serial es ≡ units es
turn_law m db es end r = sym (everything (serial es)) ∙ quiet_order m db (λ y. true) es end (turns_quiet m (start db) es end r) ∙ everything (units es)
