use Rattle.std.proofs.Common.{◌≡◌, ◌≤◌, ◌++◌, drop}
use Rattle.hrana_hub.specs.Adds.{Adds}
use Rattle.hrana_hub.specs.Agrees.{HubAgrees}
use Rattle.hrana_hub.specs.Ended.{ends_of, let_go}
use Rattle.hrana_hub.specs.Polled.{with_streams}
use Rattle.hrana_hub.proofs.hub.Hub.end_streams.Given as goal

abbrev pub invariant-loop-stream : goal.invariant-loop-stream
invariant-loop-stream g l = record {
  adds : Adds g.E.Engine.told g.E.Engine.SHARED g.E.Engine.meaning g.E.Engine.db g.E.Engine.live g.E.Engine.faults l.fn.engine l.engine l.fn.self l.self (λ added. ends_of l.why l.streams l.fn.self.state.streams ≡ added ++ ends_of l.why (drop l.stream-index l.streams) l.self.state.streams);
  left : let_go l.streams l.fn.self.state.streams ≡ let_go (drop l.stream-index l.streams) l.self.state.streams;
  state : l.self.state ≡ with_streams l.self.state.streams l.fn.self.state;
  agrees : HubAgrees g.E.Engine.told g.E.Engine.SHARED (g.E.Engine.db l.engine) (g.E.Engine.live l.engine) l.self;
  token : l.self.token ≡ l.fn.self.token;
  later : g.E.Engine.faults l.fn.engine ≤ g.E.Engine.faults l.engine;
}
