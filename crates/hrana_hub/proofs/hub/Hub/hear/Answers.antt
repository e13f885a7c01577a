use Rattle.std.proofs.Common.{subst}
use Rattle.pipeline_body.specs.Exchanges.{IsAsked}
use Rattle.pipeline_body.specs.declared.exchange.Asked.{Asked}
use Rattle.pipeline_body.specs.declared.exchange.Asked.TheVariants.{Pipeline}
use Rattle.hrana_hub.proofs.Hearing.{may_all_be_asked}
use Rattle.hrana_hub.proofs.hub.Hub.hear.Goals as goal

pub pipeline-requires-clause-asked : goal.pipeline-requires-clause-asked
pipeline-requires-clause-asked g c =
    let body = c.in-Pipeline.body in
    let is : IsAsked c.accepts-let_in.result c.args.ask.now (Pipeline body) = subst (λ (a : Asked). IsAsked c.accepts-let_in.result c.args.ask.now a) c.in-Pipeline.is c.in_ok-answer.ensures in
    may_all_be_asked _ (c.asks_of_bodies_fit.ensures c.args.ask.now.body body is.1)
