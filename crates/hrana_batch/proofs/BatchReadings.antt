-- What the readers of a batch answer, by its parts.
use Rattle.std.proofs.Common.{◌≡◌, inl, inr, ℕ, zero, suc, ◌+◌, ◌<◌, ◌≤◌, List, [], ◌∷◌, ◌++◌, length, get_or, take, refl, ap, subst, sym, ◌∙◌, arith, codes}
use Rattle.std.specs.Prelude.{Result}
use Rattle.std.proofs.lemmas.List.{take_more}
use Rattle.serde_json.specs.Data.{Data}
use Rattle.serde_json.specs.View.{view, items_view}
use Rattle.serde_json.specs.declared.value.Value.{Value as Json}
use Rattle.hrana_value.specs.declared.failures.Decline.{Decline}
use Rattle.hrana_value.specs.declared.failures.Decline.TheVariants.{Range}
use Rattle.hrana_value.specs.declared.failures.ReadFail.{ReadFail}
use Rattle.hrana_value.specs.Declines.{Reads, EitherStands, Only, more_of}
use Rattle.hrana_value.specs.Members.{part_at}
use Rattle.hrana_value.specs.Trees.{ItemsTree, ArrayTree}
use Rattle.hrana_value.proofs.DeclineLemmas.{Reads-more, Reads-same}
use Rattle.hrana_value.proofs.ItemsLemmas.{ItemsTree-snoc}
use Rattle.hrana_stmt.specs.Tree.{count_of}
use Rattle.hrana_batch.specs.declared.limits.TheConstants.{MAX_STEPS}
use Rattle.hrana_batch.specs.declared.batches.Step.{Step}
use Rattle.hrana_batch.specs.declared.batches.Batch.{Batch}
use Rattle.hrana_batch.specs.Tree.{StepTree, StepStands, StepsStand, StepArrayStands, BatchTree, BatchStands}

-- ---- one step more

steps_to : (n : ℕ) (js : List Json) (j : Json) (k : Decline) → EitherStands (StepsStand n (items_view js)) (StepStands (n + length js) (view j)) k → StepsStand n (items_view (js ++ j ∷ [])) k
steps_to n [] j k (inl a) = absurd a
steps_to n [] j k (inr b) = inl (subst (λ m. StepStands m (view j) k) (omega arith) b)
steps_to n (i ∷ js) j k (inl (inl a)) = inl a
steps_to n (i ∷ js) j k (inl (inr a)) = inr (steps_to (suc n) js j k (inl a))
steps_to n (i ∷ js) j k (inr b) = inr (steps_to (suc n) js j k (inr (subst (λ m. StepStands m (view j) k) (omega arith) b)))

steps_from : (n : ℕ) (js : List Json) (j : Json) (k : Decline) → StepsStand n (items_view (js ++ j ∷ [])) k → EitherStands (StepsStand n (items_view js)) (StepStands (n + length js) (view j)) k
steps_from n [] j k (inl b) = inr (subst (λ m. StepStands m (view j) k) (omega arith) b)
steps_from n [] j k (inr a) = absurd a
steps_from n (i ∷ js) j k (inl a) = inl (inl a)
steps_from n (i ∷ js) j k (inr a) = elim (steps_from (suc n) js j k a) [
  | inl b ↦ inl (inr b)
  | inr b ↦ inr (subst (λ m. StepStands m (view j) k) (omega arith) b)
]

steps_snoc : (js : List Json) (j : Json) (ss : Result (List Step) ReadFail) (s : Result Step ReadFail) → Reads (λ l. ItemsTree StepTree l (items_view js)) (StepsStand 0 (items_view js)) ss
    → Reads (λ x. StepTree x (view j)) (StepStands (0 + length js) (view j)) s → Reads (λ l. ItemsTree StepTree l (items_view (js ++ j ∷ []))) (StepsStand 0 (items_view (js ++ j ∷ []))) (more_of ss s)
steps_snoc js j ss s p q =
    Reads-same (λ l. ItemsTree StepTree l (items_view (js ++ j ∷ []))) (EitherStands (StepsStand 0 (items_view js)) (StepStands (0 + length js) (view j))) (StepsStand 0 (items_view (js ++ j ∷ []))) (more_of ss s)
    (steps_to 0 js j) (steps_from 0 js j)
    (Reads-more (λ l. ItemsTree StepTree l (items_view js)) (λ x. StepTree x (view j)) (λ l. ItemsTree StepTree l (items_view (js ++ j ∷ []))) (StepsStand 0 (items_view js)) (StepStands (0 + length js) (view j)) ss s
    (λ l x t u. ItemsTree-snoc StepTree js j l x t u) p q)

take_length : {A : Type 0} (xs : List A) (i : ℕ) → i ≤ length xs → length (take i xs) ≡ i
take_length xs zero h = refl
take_length [] (suc i) h = absurd (omega arith)
take_length (x ∷ xs) (suc i) h = omega (arith, take_length xs i (omega arith))

count_from : {A : Type 0} (xs : List A) (i : ℕ) → i ≤ length xs → 0 + length (take i xs) ≡ i
count_from xs i h = omega (arith, take_length xs i h)

-- what was read of the first i steps, and of the next one
pub steps_more : (js : List Json) (i : ℕ) (j : Json) (ss : Result (List Step) ReadFail) (s : Result Step ReadFail) → i < length js → j ≡ get_or js i j
    → Reads (λ l. ItemsTree StepTree l (items_view (take i js))) (StepsStand 0 (items_view (take i js))) ss → Reads (λ x. StepTree x (view j)) (StepStands i (view j)) s
    → Reads (λ l. ItemsTree StepTree l (items_view (take (i + 1) js))) (StepsStand 0 (items_view (take (i + 1) js))) (more_of ss s)
steps_more js i j ss s h e p q =
    let same : take (i + 1) js ≡ take i js ++ j ∷ [] = take_more js i j h ∙ ap (λ k. take i js ++ k ∷ []) (sym e) in
    subst (λ l. Reads (λ ss. ItemsTree StepTree ss (items_view l)) (StepsStand 0 (items_view l)) (more_of ss s)) (sym same)
    (steps_snoc (take i js) j ss s p (subst (λ n. Reads (λ x. StepTree x (view j)) (StepStands n (view j)) s) (sym (count_from js i (omega arith))) q))

-- ---- a batch

pub batch_read : (t steps : Data) (r : Result Batch ReadFail) → steps ≡ part_at (codes "steps") t
    → Reads (λ b. ArrayTree StepTree b.steps steps) (EitherStands (StepArrayStands steps) (Only Range (MAX_STEPS < count_of steps))) r → Reads (λ b. BatchTree b t) (BatchStands t) r
batch_read t steps r p reads = subst (λ d. Reads (λ b. ArrayTree StepTree b.steps d) (EitherStands (StepArrayStands d) (Only Range (MAX_STEPS < count_of d))) r) p reads
