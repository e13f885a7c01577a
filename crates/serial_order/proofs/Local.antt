-- The answer of one more entry can be judged by itself.
use Rattle.std.proofs.Common.{◌≡◌, ◌↔◌, ℕ, zero, suc, ◌<◌, ◌≤◌, length, Bool, true, false, cond, List, [], ◌∷◌, ◌++◌, map, filter, Option, Some, None, IsSomeAnd, find, refl, sym, ap, ap₂, ◌∙◌, subst, append-nil, append_assoc, arith}
use Rattle.std.proofs.lemmas.List.{map-append, same_from_push}
use Rattle.std.specs.List.{AllByRecursion as ByRecursion}
use Rattle.serial_order.specs.Journal.{Entry, Alone, Began, Ran, Denied, Ended, Failed, Done, Fate, Txn, commits, units, gather, with_done, with_fate, is_open}
use Rattle.serial_order.specs.Serial.{Meaning, commits_as, answers, after, last_database}
use Rattle.serial_order.specs.Explained.{begins, IsOpenAnd, Order, Answered, LawfulAfter, Lawful, database_at, IsAnswer}
use Rattle.serial_order.proofs.Lists.{All-map, All-weaken, All-push, found, from_append}
use Rattle.serial_order.proofs.Fold.{Placed, own_answers, committing, database_of_runs}
use Rattle.serial_order.proofs.Keep.{answers-push}
use Rattle.serial_order.proofs.Explain.{units-push}
use Rattle.serial_order.proofs.Check.{Sound, IsTold, sound_push, sound_at_start, to_units, from_units, both, only, some_and, of_map}
use Rattle.serial_order.proofs.Words.{words}

-- a lawful journal is sound
pub sound_all : {D S A : Type 0} (m : Meaning D S A) (at : ℕ → D) (es rest : List (Entry S A)) → LawfulAfter m es rest → Sound m at (commits es) (begins es) (units es) → (at' : ℕ → D) × (at' 0 ≡ at 0) × Sound m at' (commits (es ++ rest)) (begins (es ++ rest)) (units (es ++ rest))
unfolding words
sound_all m at es [] l h = (at, refl, rw append-nil h)
sound_all m at es (e ∷ rest) l h =
    let s = sound_push m at es e l.0 h in
    let k = sound_all m s.at' (es ++ e ∷ []) rest l.2 s.sound in
    (k.0, k.1 ∙ s.zero_at, subst (λ us. Sound m k.0 (commits us) (begins us) (units us)) (append_assoc es (e ∷ []) rest) k.2)

-- the databases are those that the units make
pub at_is : {D S A : Type 0} (m : Meaning D S A) (at : ℕ → D) (n : ℕ) (ts : List (Txn S A)) → ByRecursion (Placed m at n) ts → ((k : ℕ) → k < n → length (filter (commits_as (suc k)) ts) ≡ 1) → (v : ℕ) → v ≤ n → at v ≡ database_at m (at 0) ts v
unfolding words
at_is m at n ts placed once zero l = refl
at_is m at n ts placed once (suc v) l =
    database_of_runs m at (at v) (filter (commits_as (suc v)) ts) (at (suc v)) (committing m at n v ts placed (once v (omega arith)))
    ∙ ap (λ d. last_database m d (filter (commits_as (suc v)) ts)) (at_is m at n ts placed once v (omega arith))

found_cond : {X : Type 0} (P : X → Type 0) (b : Bool) (x t : X) (o : Option X) → cond b (Some x) o ≡ Some t → P x → (o ≡ Some t → P t) → P t
found_cond P true x t o e p f = let q : x ≡ t = cc in subst P q p
found_cond P false x t o e p f = f e

found_is : {X : Type 0} (P : X → Type 0) (p : X → Bool) (ts : List X) (t : X) → find p ts ≡ Some t → ByRecursion P ts → P t
found_is P p [] t e h = cc
found_is P p (x ∷ ts) t e h = found_cond P (p x) x t _ e h.0 (λ f. found_is P p ts t f h.1)

-- the same by the databases of a sound journal
abbrev IsAnswerAt : {D S A : Type 0} → Meaning D S A → (ℕ → D) → List (Entry S A) → Entry S A → Type 0
IsAnswerAt m at es (Alone s q a w) = a ≡ (m.exec (at (commits es)) q).1
IsAnswerAt m at es (Ran u q a) = IsOpenAnd es u (λ t. a ≡ (m.exec (after m (at t.version) t.work) q).1)
IsAnswerAt m at es e = Unit {0}

later_told : {D S A : Type 0} (m : Meaning D S A) (at at' : ℕ → D) (n : ℕ) (ts : List (Txn S A)) → ((k : ℕ) → k ≤ n → at' k ≡ at k) → ByRecursion (Placed m at n) ts → ByRecursion (IsTold m at) ts → ByRecursion (IsTold m at') ts
later_told m at at' n ts a p h = All-weaken _ (IsTold m at') ts (λ t w. ap (λ d. answers m d t.work) (a t.version w.0.past) ∙ w.1) (both (Placed m at n) (IsTold m at) ts p h)

done_more : {D S A : Type 0} (m : Meaning D S A) (at : ℕ → D) (u : ℕ) (q : S) (a : A) (t : Txn S A) (c : Bool) → is_open u t ≡ c → IsTold m at t → (is_open u t ≡ true → a ≡ (m.exec (after m (at t.version) t.work) q).1) → IsTold m at (cond c (with_done q a t) t)
done_more {D} {S} {A} m at u q a t true e h f =
    let d : Done S A = record { stmt = q; answer = a } in
    answers-push m (at t.version) t.work d ∙ ap₂ (λ x y. x ++ y ∷ []) h (sym (f e)) ∙ sym (map-append (λ x. x.answer) t.work (d ∷ []))
done_more m at u q a t false e h f = h

done_last : {D S A : Type 0} (m : Meaning D S A) (at : ℕ → D) (u : ℕ) (q : S) (a : A) (t : Txn S A) (c : Bool) → is_open u t ≡ c → IsTold m at (cond c (with_done q a t) t) → is_open u t ≡ true → a ≡ (m.exec (after m (at t.version) t.work) q).1
done_last {D} {S} {A} m at u q a t true e h o =
    let d : Done S A = record { stmt = q; answer = a } in
    sym (same_from_push (own_answers m at t) (map (λ x. x.answer) t.work) _ a (sym (answers-push m (at t.version) t.work d) ∙ h ∙ map-append (λ x. x.answer) t.work (d ∷ []))).1
done_last m at u q a t false e h o = cc

close_more : {D S A : Type 0} (m : Meaning D S A) (at : ℕ → D) (f : Fate) (t : Txn S A) (c : Bool) → IsTold m at t → IsTold m at (cond c (with_fate f t) t)
close_more m at f t true h = h
close_more m at f t false h = h

-- the open unit u is the one that is found
one_open : {D S A : Type 0} (m : Meaning D S A) (at : ℕ → D) (n b : ℕ) (es : List (Entry S A)) (u : ℕ) (P Q : Txn S A → Type 0) → IsOpenAnd es u P → Sound m at n b (units es) → IsOpenAnd es u Q → ByRecursion (λ t. is_open u t ≡ true → Q t) (units es)
unfolding words
one_open {D} {S} {A} m at n b es u P Q o h k =
    let w = some_and Q (find (is_open u) (units es)) k in
    All-weaken _ (λ (t : Txn S A). is_open u t ≡ true → Q t) (units es) (λ t e i. subst Q (sym (e i)) w.2) (only (is_open u) w.0 (units es) w.1 (h.single u)).1

found_open : {D S A : Type 0} (m : Meaning D S A) (at : ℕ → D) (n b : ℕ) (es : List (Entry S A)) (u : ℕ) (P Q : Txn S A → Type 0) → IsOpenAnd es u P → Sound m at n b (units es) → ByRecursion (λ t. is_open u t ≡ true → Q t) (units es) → IsOpenAnd es u Q
unfolding words
found_open m at n b es u P Q o h k =
    let w = some_and P (find (is_open u) (units es)) o in
    found Q (is_open u) (units es) k (only (is_open u) w.0 (units es) w.1 (h.single u)).0

-- an answer that is right keeps the units told
told_more : {D S A : Type 0} (m : Meaning D S A) (at at' : ℕ → D) (b : ℕ) (es : List (Entry S A)) (e : Entry S A) → ((k : ℕ) → k ≤ commits es → at' k ≡ at k) → Sound m at (commits es) b (units es) → Order m es e → ByRecursion (IsTold m at') (units es) → IsAnswerAt m at' es e → ByRecursion (IsTold m at') (gather (commits es) (units es) e)
unfolding words
told_more m at at' b es (Alone s q a w) g h o t i = All-push _ (units es) _ t (ap (λ x. x ∷ []) (sym i))
told_more m at at' b es (Began u s) g h o t i = All-push _ (units es) _ t refl
told_more {D} {S} {A} m at at' b es (Ran u q a) g h o t i =
    All-map _ _ (units es) (All-weaken _ _ (units es) (λ y k. done_more m at' u q a y (is_open u y) refl k.0 k.1)
    (both (IsTold m at') (λ (y : Txn S A). is_open u y ≡ true → a ≡ (m.exec (after m (at' y.version) y.work) q).1) (units es) t
    (one_open m at (commits es) b es u _ (λ (y : Txn S A). a ≡ (m.exec (after m (at' y.version) y.work) q).1) o h i)))
told_more m at at' b es (Denied u d) g h o t i = t
told_more m at at' b es (Ended u f) g h o t i = All-map _ _ (units es) (All-weaken _ _ (units es) (λ y k. close_more m at' _ y (is_open u y) k) t)
told_more m at at' b es (Failed s None cause) g h o t i = t
told_more m at at' b es (Failed s (Some u) cause) g h o t i = All-map _ _ (units es) (All-weaken _ _ (units es) (λ y k. close_more m at' _ y (is_open u y) k) t)

-- and the other way round
answer_right : {D S A : Type 0} (m : Meaning D S A) (at at' : ℕ → D) (b : ℕ) (es : List (Entry S A)) (e : Entry S A) → Sound m at (commits es) b (units es) → Order m es e → ByRecursion (IsTold m at') (gather (commits es) (units es) e) → IsAnswerAt m at' es e
unfolding words
answer_right m at at' b es (Alone s q a w) h o t = let k = (from_append (IsTold m at') (units es) _ t).1.0 in cc
answer_right m at at' b es (Began u s) h o t = tt
answer_right {D} {S} {A} m at at' b es (Ran u q a) h o t =
    found_open m at (commits es) b es u _ (λ (y : Txn S A). a ≡ (m.exec (after m (at' y.version) y.work) q).1) o h
    (All-weaken _ (λ (y : Txn S A). is_open u y ≡ true → a ≡ (m.exec (after m (at' y.version) y.work) q).1) (units es) (λ y k. done_last m at' u q a y (is_open u y) refl k) (of_map (IsTold m at') _ (units es) t))
answer_right m at at' b es (Denied u d) h o t = tt
answer_right m at at' b es (Ended u f) h o t = tt
answer_right m at at' b es (Failed s u cause) h o t = tt

-- by either word for the databases
same_open : {S A : Type 0} (P Q : Txn S A → Type 0) (es : List (Entry S A)) (u : ℕ) → ByRecursion (λ t. P t → Q t) (units es) → IsOpenAnd es u P → IsOpenAnd es u Q
unfolding words
same_open {S} {A} P Q es u h k =
    let w = some_and P (find (is_open u) (units es)) k in
    subst (λ o. IsSomeAnd o Q) (sym w.1) (found_is (λ (t : Txn S A). P t → Q t) (is_open u) (units es) w.0 w.1 h w.2)

to_answer : {D S A : Type 0} (m : Meaning D S A) (at at' : ℕ → D) (b : ℕ) (es : List (Entry S A)) (e : Entry S A) → ((k : ℕ) → k ≤ commits es → at' k ≡ at k) → Sound m at (commits es) b (units es) → IsAnswerAt m at' es e → IsAnswer m (at 0) es e
unfolding words
to_answer m at at' b es (Alone s q a w) g h i = i ∙ ap (λ d. (m.exec d q).1) (g (commits es) (omega arith) ∙ at_is m at (commits es) (units es) h.placed h.once (commits es) (omega arith))
to_answer m at at' b es (Began u s) g h i = tt
to_answer m at at' b es (Ran u q a) g h i = same_open _ _ es u (All-weaken _ _ (units es) (λ t p r. r ∙ ap (λ d. (m.exec (after m d t.work) q).1) (g t.version p.past ∙ at_is m at (commits es) (units es) h.placed h.once t.version p.past)) h.placed) i
to_answer m at at' b es (Denied u d) g h i = tt
to_answer m at at' b es (Ended u f) g h i = tt
to_answer m at at' b es (Failed s u cause) g h i = tt

of_answer : {D S A : Type 0} (m : Meaning D S A) (at at' : ℕ → D) (b : ℕ) (es : List (Entry S A)) (e : Entry S A) → ((k : ℕ) → k ≤ commits es → at' k ≡ at k) → Sound m at (commits es) b (units es) → IsAnswer m (at 0) es e → IsAnswerAt m at' es e
unfolding words
of_answer m at at' b es (Alone s q a w) g h i = i ∙ ap (λ d. (m.exec d q).1) (sym (g (commits es) (omega arith) ∙ at_is m at (commits es) (units es) h.placed h.once (commits es) (omega arith)))
of_answer m at at' b es (Began u s) g h i = tt
of_answer m at at' b es (Ran u q a) g h i = same_open _ _ es u (All-weaken _ _ (units es) (λ t p r. r ∙ ap (λ d. (m.exec (after m d t.work) q).1) (sym (g t.version p.past ∙ at_is m at (commits es) (units es) h.placed h.once t.version p.past))) h.placed) i
of_answer m at at' b es (Denied u d) g h i = tt
of_answer m at at' b es (Ended u f) g h i = tt
of_answer m at at' b es (Failed s u cause) g h i = tt

-- after a lawful and answered journal an entry in order is answered exactly where its own answer is right
pub entry_law : {D S A : Type 0} (m : Meaning D S A) (db : D) (es : List (Entry S A)) (e : Entry S A) → Lawful m es → Order m es e → Answered m db es → Answered m db (es ++ e ∷ []) ↔ IsAnswer m db es e
unfolding words
entry_law m db es e l o a =
    let s = sound_all m (λ k. db) [] es l (sound_at_start m db) in
    let at = s.0 in
    let h = s.2 in
    let n = sound_push m at es e o h in
    let told = later_told m at n.at' (commits es) (units es) n.agrees h.placed (to_units m at (begins es) es h (subst (λ d. Answered m d es) (sym s.1) a)) in (
      λ w. subst (λ d. IsAnswer m d es e) s.1 (to_answer m at n.at' (begins es) es e n.agrees h
          (answer_right m at n.at' (begins es) es e h o
          (subst (λ ts. ByRecursion (IsTold m n.at') ts) (units-push es e)
          (to_units m n.at' (begins (es ++ e ∷ [])) (es ++ e ∷ []) n.sound (subst (λ d. Answered m d (es ++ e ∷ [])) (sym (n.zero_at ∙ s.1)) w))))),
      λ i. subst (λ d. Answered m d (es ++ e ∷ [])) (n.zero_at ∙ s.1)
          (from_units m n.at' (begins (es ++ e ∷ [])) (es ++ e ∷ []) n.sound
          (subst (λ ts. ByRecursion (IsTold m n.at') ts) (sym (units-push es e))
          (told_more m at n.at' (begins es) es e n.agrees h o told (of_answer m at n.at' (begins es) es e n.agrees h (subst (λ d. IsAnswer m d es e) (sym s.1) i))))),
    )
