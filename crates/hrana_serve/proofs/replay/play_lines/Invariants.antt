use Rattle.std.proofs.Common.{◌≡◌, ◌≤◌, ◌+◌, take, drop, length, []}
use Rattle.engine_core.specs.Bytes.{lines_of}
use Rattle.hrana_hub.specs.Agrees.{HubAgrees}
use Rattle.hrana_hub.specs.Drawn.{DrawsFrom}
use Rattle.hrana_serve.specs.Lines.{lines_left, left_measure}
use Rattle.hrana_serve.specs.Notes.{AddsNoted}
use Rattle.hrana_serve.specs.Replay.{Playing}
use Rattle.hrana_serve.proofs.replay.play_lines.Given as goal

abbrev pub invariant-loop-left : goal.invariant-loop-left
invariant-loop-left g l = record {
  adds : DrawsFrom g.T.Tokens.drawn g.T.Tokens.faults l.fn.tokens l.tokens
      (λ draws. AddsNoted g.E.Engine.told g.E.Engine.SHARED g.E.Engine.meaning g.E.Engine.db g.E.Engine.live g.E.Engine.faults l.fn.engine l.engine l.fn.hub l.hub (g.J.Journal.noted l.fn.journal) (g.J.Journal.noted l.journal)
      (Playing l.fn.hub.token g.E.Engine.SHARED (take l.at (lines_of l.fn.script)) l.hub.state l.events (g.O.Sink.written l.fn.sink) (g.O.Sink.written l.sink) draws));
  agrees : HubAgrees g.E.Engine.told g.E.Engine.SHARED (g.E.Engine.db l.engine) (g.E.Engine.live l.engine) l.hub;
  token : l.hub.token ≡ l.fn.hub.token;
  saved : l.hub.noted.list ≡ [];
  rest : drop l.at (lines_of l.fn.script) ≡ lines_left l.left;
  fewer : l.at + left_measure l.left ≤ length l.fn.script + 1;
  few : l.events ≤ l.at;
  later : g.J.Journal.faults l.fn.journal ≤ g.J.Journal.faults l.journal;
  sink_later : g.O.Sink.faults l.fn.sink ≤ g.O.Sink.faults l.sink;
}

abbrev pub decreases-loop-left : goal.decreases-loop-left
decreases-loop-left g l = left_measure l.left
