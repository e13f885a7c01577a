use Rattle.hrana_serve.proofs.DrawLemmas.{draws_as}
use Rattle.hrana_serve.proofs.OutcomeLemmas.{outcome_of}
use Rattle.hrana_serve.proofs.top.replay.Goals as goal

pub returns-in-Ok-clause-outcome : goal.returns-in-Ok-clause-outcome
returns-in-Ok-clause-outcome g c = draws_as _ _ _ _ _ _ (rw c.as_slice.ensures.value at c.run.ensures.outcome) (λ draws o. outcome_of _ c.in-Ok.script.items c.in-Ok.ensures.whole o)
