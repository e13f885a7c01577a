use Rattle.std.proofs.Common.{◌≡◌, ◌≤◌, ◌++◌}
use Rattle.hrana_hub.specs.Adds.{Adds}
use Rattle.hrana_hub.specs.Agrees.{HubAgrees}
use Rattle.hrana_hub.specs.Maps.{those_left}
use Rattle.hrana_hub.specs.Moments.{after, expiries}
use Rattle.hrana_hub.specs.Polled.{with_streams}
use Rattle.hrana_hub.proofs.Expiring.{NoneBelow, Silent, due_count}
use Rattle.hrana_hub.proofs.hub.Hub.expire_due.Given as goal

abbrev pub invariant-loop-stream : goal.invariant-loop-stream
invariant-loop-stream g l = record {
  adds : Adds g.E.Engine.told g.E.Engine.SHARED g.E.Engine.meaning g.E.Engine.db g.E.Engine.live g.E.Engine.faults l.fn.engine l.engine l.fn.self l.self (λ added. expiries l.moment l.fn.self.state.streams ≡ added ++ expiries l.moment l.self.state.streams);
  left : those_left (after l.moment) l.fn.self.state.streams ≡ those_left (after l.moment) l.self.state.streams;
  below : NoneBelow l.moment l.from l.self.state.streams;
  silent : Silent l.moment l.fn.self l.self;
  state : l.self.state ≡ with_streams l.self.state.streams l.fn.self.state;
  agrees : HubAgrees g.E.Engine.told g.E.Engine.SHARED (g.E.Engine.db l.engine) (g.E.Engine.live l.engine) l.self;
  token : l.self.token ≡ l.fn.self.token;
  later : g.E.Engine.faults l.fn.engine ≤ g.E.Engine.faults l.engine;
}

abbrev pub decreases-loop-stream : goal.decreases-loop-stream
decreases-loop-stream g l = due_count l.moment l.self.state.streams
