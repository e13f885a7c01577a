-- The outcomes of a run are those that its batch means.
use Rattle.std.proofs.Common.{◌≡◌, ◌⊎◌, inl, inr, ◌↔◌, ℕ, zero, suc, ◌<◌, ◌≤◌, Bool, List, [], ◌∷◌, ◌++◌, length, take, Option, Some, sym, ◌∙◌, refl, ap, subst, arith, length-append}
use Rattle.std.specs.Prelude.{slice_get, IsSomeAnd}
use Rattle.hrana_batch.specs.declared.batches.Step.{Step}
use Rattle.hrana_batch.specs.declared.batches.Batch.{Batch}
use Rattle.hrana_batch.specs.declared.outcomes.Outcome.{Outcome}
use Rattle.hrana_batch.specs.declared.outcomes.Outcome.TheVariants.{Skipped}
use Rattle.hrana_batch.specs.declared.running.Next.{Next}
use Rattle.hrana_batch.specs.declared.running.Next.TheVariants.{Run, Skip, Finished}
use Rattle.hrana_batch.specs.Means.{IsPassedOver, BatchMeans, NextIs, no_turn, more_turns, TurnsAreMeant}

-- ---- a list and one item more

get_more : {A : Type 0} (xs : List A) (x y : A) (i : ℕ) → slice_get (xs ++ x ∷ []) i ≡ Some y → ((i < length xs) × (slice_get xs i ≡ Some y)) ⊎ ((i ≡ length xs) × (x ≡ y))
get_more [] x y zero e = inr (refl, cc e)
get_more [] x y (suc i) e = cc e
get_more (z ∷ xs) x y zero e = inl (omega arith, e)
get_more (z ∷ xs) x y (suc i) e = elim (get_more xs x y i e) [
  | inl h ↦ inl (omega (arith, h.0), h.1)
  | inr h ↦ inr (omega (arith, h.0), h.1)
]

take_within : {A : Type 0} (xs ys : List A) (i : ℕ) → i ≤ length xs → take i (xs ++ ys) ≡ take i xs
take_within xs ys zero h = refl
take_within [] ys (suc i) h = absurd (omega arith)
take_within (x ∷ xs) ys (suc i) h = ap (λ zs. x ∷ zs) (take_within xs ys i (omega arith))

take_length : {A : Type 0} (xs ys : List A) → take (length xs) (xs ++ ys) ≡ xs
take_length [] ys = refl
take_length (x ∷ xs) ys = ap (λ zs. x ∷ zs) (take_length xs ys)

is_some : {A : Type 0} (o : Option A) (P : A → Type 0) (x : A) → o ≡ Some x → IsSomeAnd o P → P x
is_some o P x e h = subst (λ p. IsSomeAnd p P) e h

-- ---- one turn more

skipped_now : (b : Batch) (outcomes : List Outcome) (auto : Bool) (next : Next) (o : Outcome) (s : Step) → slice_get b.steps (length outcomes) ≡ Some s
    → NextIs (record { batch = b; outcomes = outcomes }) auto next → (next ≡ Finished → ⊥) → (o ≡ Skipped) ↔ (next ≡ Skip) → (o ≡ Skipped) ↔ IsPassedOver outcomes auto s
skipped_now b outcomes auto (Run stmt) o s e is unfinished skip = (λ p. cc (skip.0 p), λ passed. absurd ((is_some _ _ s e is.1).0 passed))
skipped_now b outcomes auto Skip o s e is unfinished skip = (λ p. is_some _ _ s e is.1, λ passed. skip.1 refl)
skipped_now b outcomes auto Finished o s e is unfinished skip = absurd (unfinished refl)

has_step : (b : Batch) (outcomes : List Outcome) (auto : Bool) (next : Next) → NextIs (record { batch = b; outcomes = outcomes }) auto next → (next ≡ Finished → ⊥) → length outcomes < length b.steps
has_step b outcomes auto (Run stmt) is unfinished = is.0
has_step b outcomes auto Skip is unfinished = is.0
has_step b outcomes auto Finished is unfinished = absurd (unfinished refl)

module _ (b : Batch) (autos : List Bool) (outcomes : List Outcome) (auto : Bool) (next : Next) (o : Outcome) (before : BatchMeans b autos outcomes)
    (is : NextIs (record { batch = b; outcomes = outcomes }) auto next) (unfinished : next ≡ Finished → ⊥) (skip : (o ≡ Skipped) ↔ (next ≡ Skip)) where
  skipped_before : (i : ℕ) (s : Step) (a : Bool) (p : Outcome) → i < length outcomes → slice_get b.steps i ≡ Some s → slice_get autos i ≡ Some a → slice_get outcomes i ≡ Some p
      → (p ≡ Skipped) ↔ IsPassedOver (take i (outcomes ++ o ∷ [])) a s
  skipped_before i s a p h e f g =
      subst (λ l. (p ≡ Skipped) ↔ IsPassedOver l a s) (sym (take_within outcomes (o ∷ []) i (omega arith))) (before.skipped i s a p e f g)

  skipped_last : (i : ℕ) (s : Step) (p : Outcome) → i ≡ length outcomes → slice_get b.steps i ≡ Some s → o ≡ p → (p ≡ Skipped) ↔ IsPassedOver (take i (outcomes ++ o ∷ [])) auto s
  skipped_last i s p h e same =
      subst (λ l. (p ≡ Skipped) ↔ IsPassedOver l auto s) (sym (ap (λ n. take n (outcomes ++ o ∷ [])) h ∙ take_length outcomes (o ∷ [])))
      (subst (λ q. (q ≡ Skipped) ↔ IsPassedOver outcomes auto s) same (skipped_now b outcomes auto next o s (ap (slice_get b.steps) (sym h) ∙ e) is unfinished skip))

  skipped_more : (i : ℕ) (s : Step) (a : Bool) (p : Outcome) → slice_get b.steps i ≡ Some s → slice_get (autos ++ auto ∷ []) i ≡ Some a → slice_get (outcomes ++ o ∷ []) i ≡ Some p
      → (p ≡ Skipped) ↔ IsPassedOver (take i (outcomes ++ o ∷ [])) a s
  skipped_more i s a p e f g = elim (get_more outcomes o p i g) [
    | inl h ↦ elim (get_more autos auto a i f) [
      | inl k ↦ skipped_before i s a p h.0 e k.1 h.1
      | inr k ↦ absurd (omega (arith, before.flags, h.0, k.0))
    ]
    | inr h ↦ elim (get_more autos auto a i f) [
      | inl k ↦ absurd (omega (arith, before.flags, h.0, k.0))
      | inr k ↦ subst (λ x. (p ≡ Skipped) ↔ IsPassedOver (take i (outcomes ++ o ∷ [])) x s) k.1 (skipped_last i s p h.0 e h.1)
    ]
  ]

  one_more : BatchMeans b (autos ++ auto ∷ []) (outcomes ++ o ∷ [])
  one_more = record {
    within = let more = has_step b outcomes auto next is unfinished in omega (arith, length-append outcomes (o ∷ []));
    flags = omega (arith, before.flags, length-append outcomes (o ∷ []), length-append autos (auto ∷ []));
    skipped = skipped_more;
  }

pub turns_mean : TurnsAreMeant
turns_mean b autos outcomes no_turn = record { within = omega arith; flags = refl; skipped = λ i s auto o e f g. cc g }
turns_mean b autos outcomes (more_turns autos' outcomes' auto next o turns is unfinished skip) =
    one_more b autos' outcomes' auto next o (turns_mean b autos' outcomes' turns) is unfinished skip
