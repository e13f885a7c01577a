use Rattle.std.proofs.Common.{◌∙◌, true, ap}
use Rattle.hrana_hub.specs.State.{Seen}
use Rattle.hrana_hub.specs.contracts.hub.Hub.{the_view}
use Rattle.hrana_hub.proofs.Adding.{alike, adds_until}
use Rattle.hrana_hub.proofs.Ending.{stop_leaves}
use Rattle.hrana_hub.proofs.hub.Hub.stop.Goals as goal

pub returns-clause-adds : goal.returns-clause-adds
returns-clause-adds g c =
    let mid = c.end_all.new.self in
    let left : Seen = the_view (record { alloc = c.self.inside.alloc; token = c.self.inside.token; conns = c.clear.new.self; streams = c.self.inside.streams; exchanges = c.clear-2.new.self; issued = c.self.inside.issued; opened = c.self.inside.opened; events = c.self.inside.events; moment = c.self.inside.moment; stopped = true; turns = c.self.inside.turns; store = c.self.inside.store; entries = c.self.inside.entries }) in
    let state = ap (λ (h : Seen). h.state) c.self.view_is ∙ c.end_all.ensures.state in
    adds_until _ _ c.args.self.now mid left _ _ (ap (λ (h : Seen). h.noted.list) c.self.view_is)
    (alike mid left (ap (λ (h : Seen). h.state.streams) c.self.view_is) (ap (λ (h : Seen). h.turns) c.self.view_is) (ap (λ (h : Seen). h.noted.next) c.self.view_is))
    (λ added ends. (ends, c.nothing.ensures, stop_leaves c.clear.new.self c.clear-2.new.self (the_view c.self.inside).state c.args.self.now.state c.clear.ensures c.clear-2.ensures state)) c.end_all.ensures.adds
