use Rattle.std.proofs.Common.{[], refl, sym, subst, arith}
use Rattle.hrana_hub.specs.Step.{ComesOf}
use Rattle.hrana_hub.proofs.Adding.{adds_as}
use Rattle.hrana_hub.proofs.ArrivalAdding.{arrived_adds}
use Rattle.hrana_hub.proofs.Drawing.{nothing_drawn, drawn_as}
use Rattle.hrana_hub.proofs.ExchangeArriving.{exchange_moved, exchange_agrees}
use Rattle.hrana_hub.proofs.Stepping.{comes_of, not_exchange}
use Rattle.hrana_hub.proofs.hub.Hub.come.Goals as goal

pub returns-in-Exchange-clause-adds : goal.returns-in-Exchange-clause-adds
returns-in-Exchange-clause-adds g c =
    let old = c.args.self.now in
    let new = c.exchange.new.self in
    drawn_as _ _ _ _ _ _
    (λ draws steps. arrived_adds c.args.engine.now old new (λ added. ComesOf old.token g.E.Engine.SHARED old.state c.args.event draws added c.exchange.result new.state) c.a_joined_stream_stands.ensures c.requires.agrees c.exchange.ensures.entered.noted c.exchange.ensures.entered.turns
    (subst (λ e. ComesOf old.token g.E.Engine.SHARED old.state e draws [] c.exchange.result new.state) (sym c.in-Exchange.is) (refl, steps)) (exchange_moved old.token old.state c.in-Exchange.conn c.in-Exchange.ask draws c.exchange.result new.state steps).moves) c.exchange.ensures.drawn

pub returns-in-Exchange-clause-agrees : goal.returns-in-Exchange-clause-agrees
returns-in-Exchange-clause-agrees g c =
    let d = c.exchange.ensures.drawn in
    exchange_agrees _ _ _ _ c.args.self.now c.exchange.new.self c.a_stream_joins.ensures c.requires.ahead c.requires.agrees c.exchange.ensures.entered (exchange_moved c.args.self.now.token c.args.self.now.state c.in-Exchange.conn c.in-Exchange.ask d.draws c.exchange.result c.exchange.new.self.state d.holds)

pub returns-in_default : goal.returns-in_default
returns-in_default g c =
    let h = c.happen.ensures in
    record {
      adds = nothing_drawn _ _ _ _ _ refl (adds_as _ _ c.args.self.now c.happen.new.self _ _ (λ added comes. comes_of _ _ _ c.args.event added _ _ (not_exchange c.args.event c.in_default.not-Exchange) comes) h.adds);
      agrees = h.agrees;
      freed = h.freed;
      token = h.token;
      later = h.later;
      draws_later = omega arith;
    }
