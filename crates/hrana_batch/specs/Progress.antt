-- How far a run of a batch is.
use Rattle.std.specs.Prelude.{ℕ, List, slice_get, IfSome}
use Rattle.hrana_batch.specs.declared.batches.Batch.{Batch}
use Rattle.hrana_batch.specs.Conditions.{NamesBelow}
use Rattle.hrana_batch.specs.declared.outcomes.Outcome.{Outcome}

-- the batch, and the outcomes of the steps whose turn is over
pub record Progress : Type 0 where
  pub batch : Batch
  pub outcomes : List Outcome

-- each condition names steps before its own
abbrev pub NamesEarlierSteps : Batch → Type 0
NamesEarlierSteps b = (i : ℕ) → IfSome (slice_get b.steps i) (λ s. IfSome s.condition (NamesBelow i))
