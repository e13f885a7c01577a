-- Laws over every list of calls, by induction on runs.
use Rattle.std.proofs.Common.{◌≡◌, ◌≢◌, ℕ, zero, suc, ◌+◌, ◌-◌, ◌^◌, ◌<◌, ◌≤◌, Bool, true, false, not, List, [], ◌∷◌, ◌++◌, get_or, Option, Some, None, slice_get, refl, sym, ap, subst, ◌∙◌, arith, inl, inr, ◌⊎◌}
use Rattle.std.specs.List.{All, AllPairs, filter, remove}
use Rattle.std.proofs.lemmas.Bool.{cases_Bool, eqb-true, eq-eqb}
use Rattle.std.proofs.lemmas.Option.{slice_get_within, get_or_from_slice_get}
use Rattle.std.proofs.lemmas.List.Elements.{All-head, All-tail}
use Rattle.hrana_value.specs.declared.StreamNo.{StreamNo}
use Rattle.baton_store.specs.Text.{text_of}
use Rattle.baton_store.specs.Batons.{IsBaton as Is, HasBaton as Has, Batons, same_stream, with_place, with_baton, without, Redeems, IsNamed, IsSound}
use Rattle.baton_store.specs.History.{Call, redeemed, Run, nothing, reserves, issues, redeems, forgets, IsHeld, issued_texts, accepted_texts, IsNotIn, AreApart}
use Rattle.baton_store.specs.Laws.{LiveExactly, TextsDiffer, AcceptedOnce}
use Rattle.baton_store.specs.declared.limits.TheConstants.{BATON_LIFE_MS}
use Rattle.baton_store.specs.declared.store.Unused.{Unused}
use Rattle.baton_store.specs.declared.store.Redeem.{Redeem}
use Rattle.baton_store.specs.declared.store.Redeem.TheVariants.{Live, Dead}
use Rattle.baton_store.proofs.TextLemmas.{number-one}
use Rattle.baton_store.proofs.StoreLemmas.{sound_none, sound_place, sound_baton, sound_remove, sound_without}

-- ---- which batons stand in a list

abbrev Apart : List Unused → Type 0
Apart us = AllPairs (λ u v. u.baton.text ≢ v.baton.text) us

Apart-tail : (u : Unused) (us : List Unused) → Apart (u ∷ us) → Apart us
Apart-tail u us p i j d lt inside = p (suc i) (suc j) d (omega arith) (omega arith)

pub Has-left : (us vs : List Unused) (t : List ℕ) (s : StreamNo) (a : ℕ) → Has us t s a → Has (us ++ vs) t s a
Has-left [] vs t s a h = absurd h
Has-left (u ∷ us) vs t s a (inl is) = inl is
Has-left (u ∷ us) vs t s a (inr h) = inr (Has-left us vs t s a h)

pub Has-last : (us : List Unused) (u : Unused) (t : List ℕ) (s : StreamNo) (a : ℕ) → Is u t s a → Has (us ++ u ∷ []) t s a
Has-last [] u t s a is = inl is
Has-last (v ∷ us) u t s a is = inr (Has-last us u t s a is)

pub Has-pushed : (us : List Unused) (u : Unused) (t : List ℕ) (s : StreamNo) (a : ℕ) → Has (us ++ u ∷ []) t s a → Is u t s a ⊎ Has us t s a
Has-pushed [] u t s a (inl is) = inl is
Has-pushed [] u t s a (inr h) = absurd h
Has-pushed (v ∷ us) u t s a (inl is) = inr (inl is)
Has-pushed (v ∷ us) u t s a (inr h) = elim (Has-pushed us u t s a h) [ inl is ↦ inl is | inr g ↦ inr (inr g) ]

some_one : {X : Type 0} {x y : X} → ◌≡◌ {A = Option X} (Some x) (Some y) → x ≡ y
some_one e = cc

none_some : {X : Type 0} {x : X} → ◌≡◌ {A = Option X} None (Some x) → ⊥
none_some e = cc

-- an element of the list stands in it
pub Has-at : (us : List Unused) (i : ℕ) (u : Unused) → slice_get us i ≡ Some u → Has us u.baton.text u.stream u.at
Has-at [] i u e = absurd (none_some e)
Has-at (v ∷ us) zero u e = let f : v ≡ u = some_one e in inl (ap (λ (x : Unused). x.baton.text) f, ap (λ (x : Unused). x.stream) f, ap (λ (x : Unused). x.at) f)
Has-at (v ∷ us) (suc i) u e = inr (Has-at us i u e)

-- a text from which each element's differs isn't among theirs
has_apart : (us : List Unused) (x t : List ℕ) (s : StreamNo) (a : ℕ) → All (λ w. x ≢ w.baton.text) us → Has us t s a → x ≢ t
has_apart [] x t s a all h e = absurd h
has_apart (u ∷ us) x t s a all (inl is) e = All-head (λ w. x ≢ w.baton.text) u us all (e ∙ sym is.0)
has_apart (u ∷ us) x t s a all (inr h) e = has_apart us x t s a (All-tail (λ w. x ≢ w.baton.text) u us all) h e

rest_apart : (u : Unused) (us : List Unused) → Apart (u ∷ us) → All (λ w. u.baton.text ≢ w.baton.text) us
rest_apart u us p k d lt = p 0 (suc k) d (omega arith) (omega arith)

-- the head of a list isn't the element at a later place
head_apart : (u v : Unused) (us : List Unused) (i : ℕ) → Apart (u ∷ us) → slice_get us i ≡ Some v → u.baton.text ≢ v.baton.text
head_apart u v us i p e same =
    let at : get_or us i v ≡ v = get_or_from_slice_get us i v v e in
    p 0 (suc i) v (omega arith) (let h = slice_get_within us i v e in omega arith) (same ∙ ap (λ (x : Unused). x.baton.text) (sym at))

Has-removed : (us : List Unused) (i : ℕ) (v : Unused) (t : List ℕ) (s : StreamNo) (a : ℕ) → Apart us → slice_get us i ≡ Some v → Has (remove us i) t s a → (v.baton.text ≢ t) × Has us t s a
Has-removed [] i v t s a p e h = absurd (none_some e)
Has-removed (u ∷ us) zero v t s a p e h =
    let f : u.baton.text ≡ v.baton.text = ap (λ (x : Unused). x.baton.text) (some_one e) in
    (λ g. has_apart us u.baton.text t s a (rest_apart u us p) h (f ∙ g), inr h)
Has-removed (u ∷ us) (suc i) v t s a p e (inl is) = (λ g. head_apart u v us i p e (is.0 ∙ sym g), inl is)
Has-removed (u ∷ us) (suc i) v t s a p e (inr h) = let r = Has-removed us i v t s a (Apart-tail u us p) e h in (r.0, inr r.1)

Has-remove : (us : List Unused) (i : ℕ) (v : Unused) (t : List ℕ) (s : StreamNo) (a : ℕ) → slice_get us i ≡ Some v → (v.baton.text ≢ t) → Has us t s a → Has (remove us i) t s a
Has-remove [] i v t s a e apart h = absurd h
Has-remove (u ∷ us) zero v t s a e apart (inl is) = absurd (apart (ap (λ (x : Unused). x.baton.text) (sym (some_one e)) ∙ is.0))
Has-remove (u ∷ us) zero v t s a e apart (inr h) = h
Has-remove (u ∷ us) (suc i) v t s a e apart (inl is) = inl is
Has-remove (u ∷ us) (suc i) v t s a e apart (inr h) = inr (Has-remove us i v t s a e apart h)

-- what stands beside an element that is taken away, said of streams
pub Has-still : (us : List Unused) (i : ℕ) (v : Unused) (t : List ℕ) (s : StreamNo) (a : ℕ) → slice_get us i ≡ Some v → (v.stream ≢ s) → Has us t s a → Has (remove us i) t s a
Has-still [] i v t s a e apart h = absurd h
Has-still (u ∷ us) zero v t s a e apart (inl is) = absurd (apart (ap (λ (x : Unused). x.stream) (sym (some_one e)) ∙ is.1))
Has-still (u ∷ us) zero v t s a e apart (inr h) = h
Has-still (u ∷ us) (suc i) v t s a e apart (inl is) = inl is
Has-still (u ∷ us) (suc i) v t s a e apart (inr h) = inr (Has-still us i v t s a e apart h)

pub Has-before : (us : List Unused) (i : ℕ) (t : List ℕ) (s : StreamNo) (a : ℕ) → Has (remove us i) t s a → Has us t s a
Has-before [] zero t s a h = absurd h
Has-before [] (suc i) t s a h = absurd h
Has-before (u ∷ us) zero t s a h = inr h
Has-before (u ∷ us) (suc i) t s a (inl is) = inl is
Has-before (u ∷ us) (suc i) t s a (inr h) = inr (Has-before us i t s a h)

pub Has-none : (us : List Unused) (t : List ℕ) (s : StreamNo) (a : ℕ) → All (λ u. u.stream ≢ s) us → Has us t s a → ⊥
Has-none [] t s a all h = h
Has-none (u ∷ us) t s a all (inl is) = All-head (λ u. u.stream ≢ s) u us all is.1
Has-none (u ∷ us) t s a all (inr h) = Has-none us t s a (All-tail (λ u. u.stream ≢ s) u us all) h

-- the element with a text is the only one
only : (us : List Unused) (i : ℕ) (v : Unused) (t : List ℕ) (s : StreamNo) (a : ℕ) → Apart us → slice_get us i ≡ Some v → v.baton.text ≡ t → Has us t s a → v.stream ≡ s
only [] i v t s a p e same h = absurd h
only (u ∷ us) zero v t s a p e same (inl is) = ap (λ (x : Unused). x.stream) (sym (some_one e)) ∙ is.1
only (u ∷ us) zero v t s a p e same (inr h) = absurd (has_apart us u.baton.text t s a (rest_apart u us p) h (ap (λ (x : Unused). x.baton.text) (some_one e) ∙ same))
only (u ∷ us) (suc i) v t s a p e same (inl is) = absurd (head_apart u v us i p e (is.0 ∙ sym same))
only (u ∷ us) (suc i) v t s a p e same (inr h) = only us i v t s a (Apart-tail u us p) e same h

abbrev pub keeps : StreamNo → Unused → Bool
keeps stream u = not (same_stream u.stream stream)

not_both : {b : Bool} → b ≡ true → not b ≡ true → ⊥
not_both {b = b} e f = absurd (go b e f)
  where
    go : (b : Bool) → b ≡ true → not b ≡ true → ⊥
    go true e f = cc
    go false e f = cc

not_false : (b : Bool) → not b ≡ false → b ≡ true
not_false true e = refl
not_false false e = sym e

stream_one : (x y : StreamNo) → x.0 ≡ y.0 → x ≡ y
stream_one x y e = ap (λ (n : ℕ). let s : StreamNo = record { 0 = n } in s) e

pub Has-filtered : (us : List Unused) (stream : StreamNo) (t : List ℕ) (s : StreamNo) (a : ℕ) → Has (filter (keeps stream) us) t s a → (stream ≢ s) × Has us t s a
Has-filtered [] stream t s a h = absurd h
Has-filtered (u ∷ us) stream t s a h = elim (cases_Bool (keeps stream u)) [
  | inl kept ↦
      let g : Is u t s a ⊎ Has (filter (keeps stream) us) t s a = rw kept at h in
      elim g [
        | inl is ↦ (λ e. not_both (eq-eqb _ _ (ap (λ (x : StreamNo). x.0) (is.1 ∙ sym e))) kept, inl is)
        | inr r ↦ let q = Has-filtered us stream t s a r in (q.0, inr q.1)
      ]
  | inr dropped ↦
      let g : Has (filter (keeps stream) us) t s a = rw dropped at h in
      let q = Has-filtered us stream t s a g in
      (q.0, inr q.1)
]

pub Has-filter : (us : List Unused) (stream : StreamNo) (t : List ℕ) (s : StreamNo) (a : ℕ) → (stream ≢ s) → Has us t s a → Has (filter (keeps stream) us) t s a
Has-filter [] stream t s a apart h = absurd h
Has-filter (u ∷ us) stream t s a apart h = elim (cases_Bool (keeps stream u)) [
  | inl kept ↦ rw kept (elim h [ inl is ↦ inl is | inr r ↦ inr (Has-filter us stream t s a apart r) ])
  | inr dropped ↦ rw dropped (elim h [
    | inl is ↦ absurd (apart (sym (stream_one _ _ (eqb-true _ _ (not_false _ dropped))) ∙ is.1))
    | inr r ↦ Has-filter us stream t s a apart r
  ])
]

-- ---- runs

texts_apart : (b : Batons) → IsSound b → Apart b.unused
texts_apart b s i j d lt inside same =
    let m = s.named i d (omega arith) in
    let n = s.named j d inside in
    let e = number-one _ _ m.words n.words m.few n.few (sym m.text ∙ (same ∙ n.text)) in
    let h : (get_or b.unused i d).number < (get_or b.unused j d).number = s.rising i j d lt inside in
    omega arith

sound_redeem : (b new : Batons) (text : List ℕ) (now : ℕ) (answer : Redeem) → IsSound b → Redeems b text now answer new → IsSound new
sound_redeem b new text now (Live s) sound r = subst IsSound (sym r.used) (sound_remove b r.place sound (slice_get_within b.unused r.place r.unused r.at_place))
sound_redeem b new text now Dead sound r = subst IsSound (sym r.same) sound

pub sound_run : (past : List Call) (b : Batons) → Run past b → IsSound b
sound_run past b nothing = sound_none
sound_run past b (reserves {past = p} {store = c} run stream) = sound_place c stream (sound_run p c run)
sound_run past b (issues {past = p} {store = c} run stream words now place none few) = sound_baton c stream words now (sound_run p c run) place none few
sound_run past b (redeems {past = p} {store = c} run text now answer new r) = sound_redeem c new text now answer (sound_run p c run) r
sound_run past b (forgets {past = p} {store = c} run stream) = sound_without c stream (sound_run p c run)

-- what is held by the calls stands in the store, and the other way round
record Stands (past : List Call) (b : Batons) (t : List ℕ) (s : StreamNo) (a : ℕ) : Type 0 where
  there : IsHeld past t s a → Has b.unused t s a
  back : Has b.unused t s a → IsHeld past t s a

stands_redeem : (past : List Call) (b new : Batons) (text : List ℕ) (now : ℕ) (answer : Redeem) (t : List ℕ) (s : StreamNo) (a : ℕ) → IsSound b → Redeems b text now answer new
    → Stands past b t s a → Stands (redeemed text now answer ∷ past) new t s a
stands_redeem past b new text now (Live stream) t s a sound r st =
    let is : new.unused ≡ remove b.unused r.place = ap (λ (x : Batons). x.unused) r.used in
    record {
      there = λ h. subst (λ us. Has us t s a) (sym is) (Has-remove b.unused r.place r.unused t s a r.at_place (λ e. h.0 (sym r.same_text ∙ e)) (st.there h.1));
      back = λ h.
          let q = Has-removed b.unused r.place r.unused t s a (texts_apart b sound) r.at_place (subst (λ us. Has us t s a) is h) in
          (λ e. q.0 (r.same_text ∙ e), st.back q.1);
    }
stands_redeem past b new text now Dead t s a sound r st = subst (λ (x : Batons). Stands (redeemed text now Dead ∷ past) x t s a) (sym r.same) (record { there = st.there; back = st.back })

stands : (past : List Call) (b : Batons) (t : List ℕ) (s : StreamNo) (a : ℕ) → Run past b → Stands past b t s a
stands past b t s a nothing = record { there = λ h. absurd h; back = λ h. absurd h }
stands past b t s a (reserves {past = p} {store = c} run stream) = let st = stands p c t s a run in record { there = st.there; back = st.back }
stands past b t s a (issues {past = p} {store = c} run stream words now place none few) =
    let st = stands p c t s a run in
    record {
      there = λ h. elim h [ inl is ↦ Has-last c.unused _ t s a is | inr r ↦ Has-left c.unused _ t s a (st.there r) ];
      back = λ h. elim (Has-pushed c.unused _ t s a h) [ inl is ↦ inl is | inr r ↦ inr (st.back r) ];
    }
stands past b t s a (redeems {past = p} {store = c} run text now answer new r) = stands_redeem p c new text now answer t s a (sound_run p c run) r (stands p c t s a run)
stands past b t s a (forgets {past = p} {store = c} run stream) =
    let st = stands p c t s a run in
    record {
      there = λ h. Has-filter c.unused stream t s a h.0 (st.there h.1);
      back = λ h. let q = Has-filtered c.unused stream t s a h in (q.0, st.back q.1);
    }

-- ---- the first law

pub old_has : (us : List Unused) (t : List ℕ) (s : StreamNo) (a now : ℕ) → All (λ u. u.baton.text ≡ t → u.at + BATON_LIFE_MS ≤ now) us → Has us t s a → a + BATON_LIFE_MS ≤ now
old_has [] t s a now all h = absurd h
old_has (u ∷ us) t s a now all (inl is) = let g : u.at + BATON_LIFE_MS ≤ now = All-head (λ v. v.baton.text ≡ t → v.at + BATON_LIFE_MS ≤ now) u us all is.0 in omega (arith, is.2)
old_has (u ∷ us) t s a now all (inr h) = old_has us t s a now (All-tail (λ v. v.baton.text ≡ t → v.at + BATON_LIFE_MS ≤ now) u us all) h

live_one : {x y : StreamNo} → Live x ≡ Live y → x ≡ y
live_one e = cc

dead_live : {x : StreamNo} → Dead ≡ Live x → ⊥
dead_live e = cc

pub live_exactly : LiveExactly
live_exactly past b new text now (Live found) run r stream = (
  λ e.
      let st = stands past b text stream r.unused.at run in
      let same : r.unused.stream ≡ stream = r.same_stream ∙ live_one e in
      let has : Has b.unused text stream r.unused.at = subst (λ x. Has b.unused x stream r.unused.at) r.same_text (subst (λ x. Has b.unused r.unused.baton.text x r.unused.at) same (Has-at b.unused r.place r.unused r.at_place)) in
      record { at = r.unused.at; held = st.back has; young = r.lives },
  λ is.
      let st = stands past b text stream is.at run in
      let h = only b.unused r.place r.unused text stream is.at (texts_apart b (sound_run past b run)) r.at_place r.same_text (st.there is.held) in
      ap Live (sym r.same_stream ∙ h),
)
live_exactly past b new text now Dead run r stream = (
  λ e. absurd (dead_live e),
  λ is.
      let st = stands past b text stream is.at run in
      let h = old_has b.unused text stream is.at now r.none (st.there is.held) in
      absurd (omega (arith, is.young)),
)

-- ---- the second law

-- the text of an issue up to the n-th
record IsIssueBy (n : ℕ) (x : List ℕ) : Type 0 where
  number : ℕ
  words : List ℕ
  below : number ≤ n
  is : x ≡ text_of number words

abbrev AreIssuesBy : ℕ → List (List ℕ) → Type 0
AreIssuesBy n [] = Unit {0}
AreIssuesBy n (x ∷ xs) = IsIssueBy n x × AreIssuesBy n xs

later_issues : (m n : ℕ) (xs : List (List ℕ)) → m ≤ n → AreIssuesBy m xs → AreIssuesBy n xs
later_issues m n [] le all = tt
later_issues m n (x ∷ xs) le all = (record { number = all.0.number; words = all.0.words; below = omega (arith, all.0.below); is = all.0.is }, later_issues m n xs le all.1)

same_count : (b new : Batons) (text : List ℕ) (now : ℕ) (answer : Redeem) → Redeems b text now answer new → new.issued ≡ b.issued
same_count b new text now (Live s) r = ap (λ (x : Batons). x.issued) r.used
same_count b new text now Dead r = ap (λ (x : Batons). x.issued) r.same

issues_by : (past : List Call) (b : Batons) → Run past b → AreIssuesBy b.issued (issued_texts past)
issues_by past b nothing = tt
issues_by past b (reserves {past = p} {store = c} run stream) = issues_by p c run
issues_by past b (issues {past = p} {store = c} run stream words now place none few) =
    (record { number = c.issued + 1; words = words; below = omega arith; is = refl }, later_issues c.issued (c.issued + 1) (issued_texts p) (omega arith) (issues_by p c run))
issues_by past b (redeems {past = p} {store = c} run text now answer new r) = subst (λ n. AreIssuesBy n (issued_texts p)) (sym (same_count c new text now answer r)) (issues_by p c run)
issues_by past b (forgets {past = p} {store = c} run stream) = issues_by p c run

-- the next text is new
next_is_new : (n : ℕ) (words : List ℕ) (x : List ℕ) → n < 2 ^ 64 - 1 → IsIssueBy n x → text_of (n + 1) words ≢ x
next_is_new n words x few by e =
    let h = number-one (n + 1) by.number words by.words (omega (arith, few)) (omega (arith, few, by.below)) (e ∙ by.is) in
    omega (arith, by.below)

next_is_not_in : (n : ℕ) (words : List ℕ) (xs : List (List ℕ)) → n < 2 ^ 64 - 1 → AreIssuesBy n xs → IsNotIn (text_of (n + 1) words) xs
next_is_not_in n words [] few all = tt
next_is_not_in n words (x ∷ xs) few all = (next_is_new n words x few all.0, next_is_not_in n words xs few all.1)

pub texts_differ : TextsDiffer
texts_differ past b nothing = tt
texts_differ past b (reserves {past = p} {store = c} run stream) = texts_differ p c run
texts_differ past b (issues {past = p} {store = c} run stream words now place none few) = (next_is_not_in c.issued words (issued_texts p) few (issues_by p c run), texts_differ p c run)
texts_differ past b (redeems {past = p} {store = c} run text now answer new r) = texts_differ p c run
texts_differ past b (forgets {past = p} {store = c} run stream) = texts_differ p c run

-- ---- the third law

-- the text was issued, and isn't unused any more
record IsSpent (b : Batons) (x : List ℕ) : Type 0 where
  by : IsIssueBy b.issued x
  gone : (s : StreamNo) (a : ℕ) → Has b.unused x s a → ⊥

abbrev AreSpent : Batons → List (List ℕ) → Type 0
AreSpent b [] = Unit {0}
AreSpent b (x ∷ xs) = IsSpent b x × AreSpent b xs

-- what isn't there after a call either
record Loses (b new : Batons) : Type 0 where
  count : b.issued ≤ new.issued
  each : (x : List ℕ) → IsIssueBy b.issued x → (s : StreamNo) (a : ℕ) → Has new.unused x s a → Has b.unused x s a

still_spent : (b new : Batons) (xs : List (List ℕ)) → Loses b new → AreSpent b xs → AreSpent new xs
still_spent b new [] l all = tt
still_spent b new (x ∷ xs) l all = (
  record {
    by = record { number = all.0.by.number; words = all.0.by.words; below = omega (arith, all.0.by.below, l.count); is = all.0.by.is };
    gone = λ s a h. all.0.gone s a (l.each x all.0.by s a h);
  },
  still_spent b new xs l all.1,
)

loses_place : (b : Batons) (stream : StreamNo) → Loses b (with_place b stream)
loses_place b stream = record { count = omega arith; each = λ x by s a h. h }

loses_baton : (b : Batons) (stream : StreamNo) (words : List ℕ) (now : ℕ) → b.issued < 2 ^ 64 - 1 → Loses b (with_baton b stream words now)
loses_baton b stream words now few = record {
  count = omega arith;
  each = λ x by s a h. elim (Has-pushed b.unused _ x s a h) [ inl is ↦ absurd (next_is_new b.issued words x few by is.0) | inr g ↦ g ];
}

loses_redeem : (b new : Batons) (text : List ℕ) (now : ℕ) (answer : Redeem) → IsSound b → Redeems b text now answer new → Loses b new
loses_redeem b new text now (Live stream) sound r =
    let is : new.unused ≡ remove b.unused r.place = ap (λ (x : Batons). x.unused) r.used in
    record {
      count = omega (arith, same_count b new text now (Live stream) r);
      each = λ x by s a h. (Has-removed b.unused r.place r.unused x s a (texts_apart b sound) r.at_place (subst (λ us. Has us x s a) is h)).1;
    }
loses_redeem b new text now Dead sound r = subst (λ (x : Batons). Loses b x) (sym r.same) (record { count = omega arith; each = λ x by s a h. h })

loses_without : (b : Batons) (stream : StreamNo) → Loses b (without b stream)
loses_without b stream = record { count = omega arith; each = λ x by s a h. (Has-filtered b.unused stream x s a h).1 }

-- an accepted text is that of an issue
accepted_issue : (b : Batons) (i : ℕ) (u : Unused) → IsSound b → slice_get b.unused i ≡ Some u → IsIssueBy b.issued u.baton.text
accepted_issue b i u s e =
    let at : get_or b.unused i u ≡ u = get_or_from_slice_get b.unused i u u e in
    let inside = slice_get_within b.unused i u e in
    let n : IsNamed u = subst IsNamed at (s.named i u inside) in
    let below : u.number ≤ b.issued = subst (λ (x : Unused). x.number ≤ b.issued) at (s.numbered i u inside) in
    record { number = u.number; words = n.words; below = below; is = n.text }

-- a text that is unused is none that is spent
not_spent : (b : Batons) (x : List ℕ) (s : StreamNo) (a : ℕ) (xs : List (List ℕ)) → Has b.unused x s a → AreSpent b xs → IsNotIn x xs
not_spent b x s a [] h all = tt
not_spent b x s a (y ∷ ys) h all = (λ e. all.0.gone s a (subst (λ z. Has b.unused z s a) e h), not_spent b x s a ys h all.1)

record Once (past : List Call) (b : Batons) : Type 0 where
  apart : AreApart (accepted_texts past)
  spent : AreSpent b (accepted_texts past)

once_redeem : (past : List Call) (b new : Batons) (text : List ℕ) (now : ℕ) (answer : Redeem) → IsSound b → Redeems b text now answer new → Once past b → Once (redeemed text now answer ∷ past) new
once_redeem past b new text now (Live stream) sound r once =
    let has : Has b.unused text r.unused.stream r.unused.at = subst (λ x. Has b.unused x r.unused.stream r.unused.at) r.same_text (Has-at b.unused r.place r.unused r.at_place) in
    let is : new.unused ≡ remove b.unused r.place = ap (λ (x : Batons). x.unused) r.used in
    let l = loses_redeem b new text now (Live stream) sound r in
    let by : IsIssueBy b.issued text = subst (IsIssueBy b.issued) r.same_text (accepted_issue b r.place r.unused sound r.at_place) in
    record {
      apart = (not_spent b text r.unused.stream r.unused.at (accepted_texts past) has once.spent, once.apart);
      spent = (
        record {
          by = record { number = by.number; words = by.words; below = omega (arith, by.below, l.count); is = by.is };
          gone = λ s a h. (Has-removed b.unused r.place r.unused text s a (texts_apart b sound) r.at_place (subst (λ us. Has us text s a) is h)).0 r.same_text;
        },
        still_spent b new (accepted_texts past) l once.spent,
      );
    }
once_redeem past b new text now Dead sound r once = record { apart = once.apart; spent = still_spent b new (accepted_texts past) (loses_redeem b new text now Dead sound r) once.spent }

once : (past : List Call) (b : Batons) → Run past b → Once past b
once past b nothing = record { apart = tt; spent = tt }
once past b (reserves {past = p} {store = c} run stream) = let o = once p c run in record { apart = o.apart; spent = still_spent c _ (accepted_texts p) (loses_place c stream) o.spent }
once past b (issues {past = p} {store = c} run stream words now place none few) = let o = once p c run in record { apart = o.apart; spent = still_spent c _ (accepted_texts p) (loses_baton c stream words now few) o.spent }
once past b (redeems {past = p} {store = c} run text now answer new r) = once_redeem p c new text now answer (sound_run p c run) r (once p c run)
once past b (forgets {past = p} {store = c} run stream) = let o = once p c run in record { apart = o.apart; spent = still_spent c _ (accepted_texts p) (loses_without c stream) o.spent }

pub accepted_once : AcceptedOnce
accepted_once past b run = (once past b run).apart
