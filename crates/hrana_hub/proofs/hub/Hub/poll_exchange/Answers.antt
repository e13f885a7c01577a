use Rattle.hrana_hub.specs.Maps.{at}
use Rattle.hrana_hub.specs.Settled.{PollsStream}
use Rattle.hrana_hub.specs.Polled.{with_task}
use Rattle.hrana_hub.proofs.Adding.{adds_on}
use Rattle.hrana_hub.proofs.Polling.{some_of, is_known, known_left}
use Rattle.hrana_hub.proofs.ExchangePolling.{session_ends, polled_may, polled_stopped, polled_kind, polled_runs, running_left}
use Rattle.hrana_hub.proofs.hub.Hub.poll_exchange.Goals as goal

pub settle_exchange-requires-clause-issues : goal.settle_exchange-requires-clause-issues
settle_exchange-requires-clause-issues g c =
    let x = some_of _ c.requires.stream in
    polled_may _ c.args.self.now.state c.poll_stream-polled.new.self.state c.args.stream x.0 _ _ (c.poll_stream-polled.ensures.adds.holds x.0 x.1) c.requires.ahead

pub settle_exchange-requires-clause-running : goal.settle_exchange-requires-clause-running
settle_exchange-requires-clause-running g c =
    let x = some_of _ c.requires.stream in
    polled_stopped _ c.args.self.now.state c.poll_stream-polled.new.self.state c.args.stream x.0 _ _ (c.poll_stream-polled.ensures.adds.holds x.0 x.1) c.requires.running

pub settle_exchange-requires-clause-kind : goal.settle_exchange-requires-clause-kind
settle_exchange-requires-clause-kind g c =
    let x = some_of _ c.requires.stream in
    polled_kind _ c.args.self.now.state c.poll_stream-polled.new.self.state c.args.stream x.0 _ _ c.polls_reply_to_pipelines.ensures (c.poll_stream-polled.ensures.adds.holds x.0 x.1)

pub settle_exchange-requires-clause-runs : goal.settle_exchange-requires-clause-runs
settle_exchange-requires-clause-runs g c =
    let x = some_of _ c.requires.stream in
    polled_runs _ c.args.self.now.state c.poll_stream-polled.new.self.state c.args.stream x.0 _ _ c.args.conn c.args.close x.1 (c.poll_stream-polled.ensures.adds.holds x.0 x.1) (c.requires.runs x.0 x.1)

pub settle_exchange-requires-clause-stream : goal.settle_exchange-requires-clause-stream
settle_exchange-requires-clause-stream g c =
    let x = some_of _ c.requires.stream in
    let polls = c.poll_stream-polled.ensures.adds.holds x.0 x.1 in
    is_known (at c.args.stream c.poll_stream-polled.new.self.state.streams) (with_task polls.task x.0) (known_left _ _ _ _ _ _ _ x.1 polls)

pub returns-clause-adds : goal.returns-clause-adds
returns-clause-adds g c =
    let s = c.args.self.now.state in
    let mid = c.poll_stream-polled.new.self.state in
    adds_on _ _ _ c.args.self.now c.poll_stream-polled.new.self c.settle_exchange.new.self _ _ _ c.poll_stream-polled.ensures.later c.settle_exchange.ensures.later c.poll_stream-polled.ensures.adds c.settle_exchange.ensures.adds
    (λ added more p q x e r.
    let polls : PollsStream g.E.Engine.SHARED s c.args.stream x added c.poll_stream-polled.result mid = p x r.known in
    session_ends g.E.Engine.SHARED s mid c.settle_exchange.new.self.state c.args.stream x e added more c.poll_stream-polled.result c.settle_exchange.result polls
    (q (with_task polls.task x) e (running_left _ _ _ _ _ _ _ _ r polls)))
