use Rattle.std.proofs.Common.{◌≡◌, ◌≤◌, ◌++◌, drop, length}
use Rattle.hrana_hub.specs.Adds.{Adds}
use Rattle.hrana_hub.specs.Agrees.{HubAgrees}
use Rattle.hrana_hub.specs.Ended.{all_ends}
use Rattle.hrana_hub.specs.Polled.{with_streams}
use Rattle.hrana_hub.proofs.hub.Hub.end_all.Given as goal

abbrev pub invariant-loop : goal.invariant-loop
invariant-loop g l = record {
  adds : Adds g.E.Engine.told g.E.Engine.SHARED g.E.Engine.meaning g.E.Engine.db g.E.Engine.live g.E.Engine.faults l.fn.engine l.engine l.fn.self l.self (λ added. all_ends l.why l.fn.self.state.streams ≡ added ++ all_ends l.why l.self.state.streams);
  left : l.self.state.streams ≡ drop l.counter l.fn.self.state.streams;
  last : l.end ≡ length l.fn.self.state.streams;
  state : l.self.state ≡ with_streams l.self.state.streams l.fn.self.state;
  agrees : HubAgrees g.E.Engine.told g.E.Engine.SHARED (g.E.Engine.db l.engine) (g.E.Engine.live l.engine) l.self;
  token : l.self.token ≡ l.fn.self.token;
  later : g.E.Engine.faults l.fn.engine ≤ g.E.Engine.faults l.engine;
}
