use Rattle.hrana_serve.proofs.DrawLemmas.{draws_none}
use Rattle.hrana_serve.proofs.OutcomeLemmas.{early_outcome}
use Rattle.hrana_serve.proofs.top.at_once.Goals as goal

pub returns-clause-outcome : goal.returns-clause-outcome
returns-clause-outcome g c = λ token left. draws_none _ _ _ _ (early_outcome _ _ _ _ _ _ _ _ _ _ _ _ _ token left _ _ c.requires.early c.new.ensures.items c.requires.quiet
    (c.journal_says_what_stands.ensures.explained _ _ _ _ _ _ _ (c.streams_stand_at_first.ensures _ _ c.requires.quiet)))
