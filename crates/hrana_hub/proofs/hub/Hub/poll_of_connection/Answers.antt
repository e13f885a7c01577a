use Rattle.std.proofs.Common.{◌∙◌, refl, sym, ap}
use Rattle.hrana_hub.specs.Calls.{is_heard}
use Rattle.hrana_hub.specs.Maps.{at}
use Rattle.hrana_hub.proofs.Adding.{alike, adds_none}
use Rattle.hrana_hub.proofs.Polling.{some_of, polls_unheard}
use Rattle.hrana_hub.proofs.hub.Hub.poll_of_connection.Goals as goal

pub returns-then-not-hears-clause-adds : goal.returns-then-not-hears-clause-adds
returns-then-not-hears-clause-adds g c =
    let h = c.args.self.now in
    let x = some_of _ c.requires.stream in
    let own = c.requires.answers x.0 x.1 in
    adds_none _ h h _ refl (alike h h refl refl refl)
    (polls_unheard g.E.Engine.SHARED h.state c.args.stream x.0 c.nothing.result c.nothing.ensures x.1 (c.requires.waits x.0 x.1) own.0 (ap (λ n. is_heard (at n h.state.conns)) own.1 ∙ sym c.if-not-hears.ensures))
