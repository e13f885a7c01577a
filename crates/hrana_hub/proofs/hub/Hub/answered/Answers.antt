use Rattle.std.proofs.Common.{◌∙◌, ap}
use Rattle.hrana_hub.specs.Maps.{at}
use Rattle.hrana_hub.specs.State.{Seen}
use Rattle.hrana_hub.specs.contracts.hub.Hub.{the_view}
use Rattle.hrana_hub.proofs.Polling.{both_passed}
use Rattle.hrana_hub.proofs.hub.Hub.answered.Goals as goal

pub returns-clause-hub : goal.returns-clause-hub
returns-clause-hub c = λ k x reply ek ex.
    let is = c.self.view_is ∙ c.pass_first-over.ensures.hub x ex in
    both_passed c.args.self.now (the_view c.self.inside) c.args.stream c.args.conn c.pass_first-over.result k x reply c.answered.new.self is (c.pass_first-over.ensures.over x ex)
    (c.answered.ensures k reply (ap (λ (h : Seen). at c.args.conn h.state.conns) is ∙ ek))
