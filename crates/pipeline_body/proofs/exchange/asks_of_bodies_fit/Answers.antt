use Rattle.pipeline_body.proofs.ExchangeLemmas.{asks_fit}
use Rattle.pipeline_body.proofs.exchange.asks_of_bodies_fit.Goals as goal

pub returns : goal.returns
returns c = asks_fit c.fitting_asks_are_taken.ensures
