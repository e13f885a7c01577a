-- Steps: what is next, and passing over.
use Rattle.std.proofs.Common.{◌≡◌, ◌<◌, ◌≤◌, ℕ, suc, Bool, true, false, not, List, [], ◌∷◌, ◌++◌, length, drop, slice_get, Option, Some, None, refl, sym, ap, ◌∙◌, subst, arith, add-one, length-append, All, IsSomeAnd, IfSome, map}
use Prim.Native.Nat.{zero}
use Rattle.std.proofs.lemmas.List.{drop_all}
use Rattle.std.proofs.lemmas.List.Elements.{All-nil, All-cons}
use Rattle.sql_text.specs.declared.spans.Span.{Span}
use Rattle.sql_text.specs.Spans.{AreInOrder}
use Rattle.hrana_batch.specs.Conditions.{holds_on, NamesBelow}
use Rattle.hrana_batch.specs.Means.{NextOf, NextIs}
use Rattle.hrana_batch.specs.Progress.{Progress, NamesEarlierSteps}
use Rattle.hrana_batch.specs.declared.conditions.Cond.{Cond}
use Rattle.hrana_batch.specs.declared.batches.Batch.{Batch}
use Rattle.hrana_batch.specs.declared.batches.Step.{Step}
use Rattle.hrana_batch.specs.declared.outcomes.Outcome.{Outcome}
use Rattle.hrana_batch.specs.declared.outcomes.Outcome.TheVariants.{Skipped}
use Rattle.hrana_batch.specs.declared.running.Next.{Next}
use Rattle.hrana_batch.specs.declared.running.Next.TheVariants as next
use Rattle.stream_task.specs.Steps.{Steps, steps_in, noted, later_steps, is_skipped, pass_over, NextIn, StartsAt}
use Rattle.stream_task.specs.Doing.{step_at, IsWithin}

-- ---- a run of a batch

left_first : (n : ℕ) (xs : List Step) (x : Step) → slice_get xs n ≡ Some x → drop n xs ≡ x ∷ drop (suc n) xs
left_first n [] x e = absurd (cc)
left_first zero (y ∷ ys) x e = ap (λ z. z ∷ ys) (let same : y ≡ x = cc in same)
left_first (suc n) (y ∷ ys) x e = left_first n ys x e

pub left_later : (n : ℕ) (xs : List Step) → n < length xs → later_steps (drop n xs) ≡ drop (suc n) xs
left_later n [] h = absurd (omega arith)
left_later zero (y ∷ ys) h = refl
left_later (suc n) (y ∷ ys) h = left_later n ys (omega arith)

pub left_more : (xs : List Step) (done : List Outcome) (o : Outcome) → length done < length xs → drop (length (done ++ o ∷ [])) xs ≡ later_steps (drop (length done) xs)
left_more xs done o h = ap (λ n. drop n xs) (length-append done (o ∷ []) ∙ add-one (length done)) ∙ sym (left_later (length done) xs h)

skipped : (c : Option Cond) (done : List Outcome) (auto : Bool) → IsSomeAnd c (λ x. holds_on done auto x ≡ false) → is_skipped c done auto ≡ true
skipped None done auto h = absurd h
skipped (Some c) done auto h = ap not h

kept : (c : Option Cond) (done : List Outcome) (auto : Bool) → (IsSomeAnd c (λ x. holds_on done auto x ≡ false) → ⊥) → is_skipped c done auto ≡ false
kept None done auto h = refl
kept (Some c) done auto h = by_test (holds_on done auto c) h
  where
    by_test : (b : Bool) → (b ≡ false → ⊥) → not b ≡ false
    by_test true g = refl
    by_test false g = absurd (g refl)

some_and : (P : Step → Type 0) (o : Option Step) → IsSomeAnd o P → (x : Step) × (o ≡ Some x) × P x
some_and P None h = absurd h
some_and P (Some x) h = (x, refl, h)

pub next_in : (p : Progress) (auto : Bool) (r : Next) → NextIs p auto r → NextIn auto (drop (length p.outcomes) p.batch.steps) p.outcomes r
next_in p auto (next.Run stmt) h = at (some_and _ _ h.1)
  where
    at : ((x : Step) × (slice_get p.batch.steps (length p.outcomes) ≡ Some x) × NextOf x p.outcomes auto (next.Run stmt)) → NextIn auto (drop (length p.outcomes) p.batch.steps) p.outcomes (next.Run stmt)
    at f = subst (λ l. NextIn auto l p.outcomes (next.Run stmt)) (sym (left_first (length p.outcomes) p.batch.steps f.0 f.1)) (kept f.0.condition p.outcomes auto f.2.0, f.2.1)
next_in p auto next.Skip h = at (some_and _ _ h.1)
  where
    at : ((x : Step) × (slice_get p.batch.steps (length p.outcomes) ≡ Some x) × NextOf x p.outcomes auto next.Skip) → NextIn auto (drop (length p.outcomes) p.batch.steps) p.outcomes next.Skip
    at f = subst (λ l. NextIn auto l p.outcomes next.Skip) (sym (left_first (length p.outcomes) p.batch.steps f.0 f.1)) (skipped f.0.condition p.outcomes auto f.2)
next_in p auto next.Finished h = subst (λ l. NextIn auto l p.outcomes next.Finished) (sym (drop_all (length p.outcomes) p.batch.steps (omega arith))) refl

pub none_left : (n : ℕ) (xs : List Step) → n ≤ length xs → drop n xs ≡ [] → n ≡ length xs
none_left zero [] h e = refl
none_left zero (x ∷ xs) h e = absurd (cc)
none_left (suc n) [] h e = absurd (omega arith)
none_left (suc n) (x ∷ xs) h e = ap suc (none_left n xs (omega arith) e)

pub some_left : (n : ℕ) (xs : List Step) → 0 < length (drop n xs) → n < length xs
some_left zero [] h = h
some_left (suc n) [] h = absurd (omega arith)
some_left zero (x ∷ xs) h = omega arith
some_left (suc n) (x ∷ xs) h = let more : n < length xs = some_left n xs h in omega arith

pub unfinished : (auto : Bool) (left : List Step) (done : List Outcome) (r : Next) → NextIn auto left done r → (r ≡ next.Finished → ⊥) → left ≡ [] → ⊥
unfinished auto [] done r h n e = n h
unfinished auto (x ∷ xs) done r h n e = cc

-- ---- passing over

pub has_first : (auto : Bool) (left : List Step) (done : List Outcome) → NextIn auto left done next.Skip → 0 < length left
has_first auto [] done h = absurd (cc)
has_first auto (x ∷ xs) done h = omega arith

pub passed-one : (auto : Bool) (left : List Step) (done : List Outcome) → NextIn auto left done next.Skip → pass_over auto (later_steps left) (done ++ Skipped ∷ []) ≡ pass_over auto left done
passed-one auto [] done h = absurd (cc)
passed-one auto (x ∷ xs) done h = rw h refl

pub later_less : (left : List Step) → 0 < length left → length (later_steps left) < length left
later_less [] h = absurd (omega arith)
later_less (x ∷ xs) h = omega arith

pub starts_here : (auto : Bool) (left : List Step) (done : List Outcome) (r : Next) → NextIn auto left done r → (r ≡ next.Skip → ⊥) → (pass_over auto left done ≡ record { left = left; done = done }) × StartsAt auto left done
starts_here auto [] done r h n = (refl, tt)
starts_here auto (x ∷ xs) done (next.Run stmt) h n = (rw h.0 refl, h.0)
starts_here auto (x ∷ xs) done next.Skip h n = absurd (n refl)
starts_here auto (x ∷ xs) done next.Finished h n = absurd h

-- ---- the statements of a text

pub within_order : (from most : ℕ) (spans : List Span) → AreInOrder from most spans → All (IsWithin most) spans
within_order from most [] h = All-nil (IsWithin most)
within_order from most (span ∷ spans) h = All-cons (IsWithin most) span spans (omega (arith, h.1), ends span.end spans h.2 (omega arith)) (within_order span.end most spans h.2)
  where
    ends : (at : ℕ) (rest : List Span) → AreInOrder at most rest → at ≤ at → at ≤ most
    ends at [] g e = g
    ends at (s ∷ ss) g e = let last : s.end ≤ most = ends s.end ss g.2 (omega arith) in omega (arith, g.0, g.1)

pub names_nothing : (text : List ℕ) (spans : List Span) (P : ℕ → Cond → Type 0) (i : ℕ) → IfSome (slice_get (map (step_at text) spans) i) (λ s. IfSome s.condition (P i))
names_nothing text [] P i = tt
names_nothing text (span ∷ spans) P zero = tt
names_nothing text (span ∷ spans) P (suc i) = names_nothing text spans (λ n. P (suc n)) i

pub names_earlier : (text : List ℕ) (spans : List Span) (steps : List Step) → steps ≡ map (step_at text) spans → NamesEarlierSteps (record { steps = steps })
names_earlier text spans steps e = subst (λ xs. NamesEarlierSteps (record { steps = xs })) (sym e) (names_nothing text spans NamesBelow)

pub note_is : (old new : Progress) (s : Steps) (o : Outcome) → steps_in old ≡ s → 0 < length s.left → new.batch ≡ old.batch → new.outcomes ≡ old.outcomes ++ o ∷ [] → steps_in new ≡ noted s o
note_is old new s o v h b e = moved new.batch new.outcomes b e ∙ ap (λ (x : Steps). noted x o) v
  where
    room : 0 < length (drop (length old.outcomes) old.batch.steps)
    room = subst (λ (x : Steps). 0 < length x.left) (sym v) h

    here : steps_in (record { batch = old.batch; outcomes = old.outcomes ++ o ∷ [] }) ≡ noted (steps_in old) o
    here = ap (λ l. record { left = l; done = old.outcomes ++ o ∷ [] }) (left_more old.batch.steps old.outcomes o (some_left (length old.outcomes) old.batch.steps room))

    moved : (batch : Batch) (outcomes : List Outcome) → batch ≡ old.batch → outcomes ≡ old.outcomes ++ o ∷ [] → steps_in (record { batch = batch; outcomes = outcomes }) ≡ noted (steps_in old) o
    moved batch outcomes b e = ap (λ x. steps_in (record { batch = x; outcomes = outcomes })) b ∙ ap (λ x. steps_in (record { batch = old.batch; outcomes = x })) e ∙ here
