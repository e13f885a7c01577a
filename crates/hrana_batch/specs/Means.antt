-- What a batch means: which of its steps are passed over. A batch that is cut short has the outcomes of its first steps.
use Rattle.std.specs.Prelude.{◌≡◌, ◌↔◌, ℕ, ◌≤◌, ◌<◌, Bool, false, List, [], ◌∷◌, ◌++◌, length, take, Some, slice_get, IsSomeAnd}
use Rattle.hrana_batch.specs.declared.batches.Step.{Step}
use Rattle.hrana_batch.specs.declared.batches.Batch.{Batch}
use Rattle.hrana_batch.specs.declared.outcomes.Outcome.{Outcome}
use Rattle.hrana_batch.specs.declared.outcomes.Outcome.TheVariants.{Skipped}
use Rattle.hrana_batch.specs.declared.running.Next.{Next}
use Rattle.hrana_batch.specs.declared.running.Next.TheVariants.{Run, Skip, Finished}
use Rattle.hrana_batch.specs.Conditions.{holds_on}
use Rattle.hrana_batch.specs.Progress.{Progress}

-- the step has a condition that is false after these outcomes
abbrev pub IsPassedOver : List Outcome → Bool → Step → Type 0
IsPassedOver outcomes auto s = IsSomeAnd s.condition (λ c. holds_on outcomes auto c ≡ false)

-- The outcomes of the first steps of a batch, for whether the session is in autocommit at the turn of each: a step is
-- skipped exactly where it has a condition that is false after the outcomes before it.
pub record BatchMeans (b : Batch) (autos : List Bool) (outcomes : List Outcome) : Type 0 where
  pub within : length outcomes ≤ length b.steps
  pub flags : length autos ≡ length outcomes
  pub skipped : (i : ℕ) (s : Step) (auto : Bool) (o : Outcome) → slice_get b.steps i ≡ Some s → slice_get autos i ≡ Some auto → slice_get outcomes i ≡ Some o
      → (o ≡ Skipped) ↔ IsPassedOver (take i outcomes) auto s

-- ---- a run

-- the step whose turn it is
abbrev pub NextStep : Progress → (Step → Type 0) → Type 0
NextStep p P = (length p.outcomes < length p.batch.steps) × IsSomeAnd (slice_get p.batch.steps (length p.outcomes)) P

-- what is next where it is the turn of this step
abbrev pub NextOf : Step → List Outcome → Bool → Next → Type 0
NextOf s outcomes auto (Run stmt) = (IsPassedOver outcomes auto s → ⊥) × (stmt.now ≡ s.stmt)
NextOf s outcomes auto Skip = IsPassedOver outcomes auto s
NextOf s outcomes auto Finished = ⊥

-- what is next: the statement of the step whose turn it is, or to pass the step over, or nothing more
abbrev pub NextIs : Progress → Bool → Next → Type 0
NextIs p auto (Run stmt) = NextStep p (λ s. NextOf s p.outcomes auto (Run stmt))
NextIs p auto Skip = NextStep p (λ s. NextOf s p.outcomes auto Skip)
NextIs p auto Finished = length p.outcomes ≡ length p.batch.steps

-- The turns of a run: at each it was asked with a flag and told an outcome, which was `Skipped` exactly where `Skip` was
-- next.
pub data Turns (b : Batch) : List Bool → List Outcome → Type 0 where
  no_turn : Turns b [] []
  more_turns : (autos : List Bool) (outcomes : List Outcome) (auto : Bool) (next : Next) (o : Outcome) → Turns b autos outcomes
      → NextIs (record { batch = b; outcomes = outcomes }) auto next → (next ≡ Finished → ⊥) → (o ≡ Skipped) ↔ (next ≡ Skip) → Turns b (autos ++ auto ∷ []) (outcomes ++ o ∷ [])

-- the outcomes of a run are those that the batch means
abbrev pub TurnsAreMeant : Type 0
TurnsAreMeant = (b : Batch) (autos : List Bool) (outcomes : List Outcome) → Turns b autos outcomes → BatchMeans b autos outcomes
