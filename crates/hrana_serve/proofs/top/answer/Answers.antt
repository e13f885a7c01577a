use Rattle.hrana_serve.proofs.OutcomeLemmas.{token_is, asks_replay}
use Rattle.hrana_serve.proofs.top.answer.Goals as goal

pub returns-in-Some-clause-outcome : goal.returns-in-Some-clause-outcome
returns-in-Some-clause-outcome g c = rw (token_is _ _ c.in-Some.ensures) at c.replay.ensures.outcome

pub returns-in-Some-clause-words : goal.returns-in-Some-clause-words
returns-in-Some-clause-words g c = (λ is. absurd (c.replay.ensures.words is), λ not. absurd (not (asks_replay _ _ c.in-Some.ensures)))
