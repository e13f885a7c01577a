use Rattle.std.proofs.Common.{◌∙◌, ap}
use Rattle.hrana_hub.specs.Maps.{at}
use Rattle.hrana_hub.specs.Polled.{with_task}
use Rattle.hrana_hub.specs.Settled.{PollsStream}
use Rattle.hrana_hub.proofs.Adding.{adds_on}
use Rattle.hrana_hub.proofs.Polling.{Known, both_known, is_known, known_left, conns_left, poll_ends}
use Rattle.hrana_hub.proofs.hub.Hub.poll_placed.Goals as goal

pub settle-requires-clause-connection : goal.settle-requires-clause-connection
settle-requires-clause-connection g c =
    let known : Known c.args.self.now c.args.stream c.args.conn = both_known _ _ _ c.requires.connection c.requires.stream in
    let polls = c.poll_stream-polled.ensures.adds.holds known.stream known.stream_at in
    is_known (at c.args.conn c.poll_stream-polled.new.self.state.conns) known.conn (ap (at c.args.conn) (conns_left _ _ _ _ _ _ _ polls) ∙ known.conn_at)

pub settle-requires-clause-stream : goal.settle-requires-clause-stream
settle-requires-clause-stream g c =
    let known : Known c.args.self.now c.args.stream c.args.conn = both_known _ _ _ c.requires.connection c.requires.stream in
    let polls = c.poll_stream-polled.ensures.adds.holds known.stream known.stream_at in
    is_known (at c.args.stream c.poll_stream-polled.new.self.state.streams) (with_task polls.task known.stream) (known_left _ _ _ _ _ _ _ known.stream_at polls)

pub returns-clause-adds : goal.returns-clause-adds
returns-clause-adds g c =
    let s = c.args.self.now.state in
    let mid = c.poll_stream-polled.new.self.state in
    adds_on _ _ _ c.args.self.now c.poll_stream-polled.new.self c.settle.new.self _ _ _ c.poll_stream-polled.ensures.later c.settle.ensures.later c.poll_stream-polled.ensures.adds c.settle.ensures.adds
    (λ added more p q k x ek ex.
    let polls : PollsStream g.E.Engine.SHARED s c.args.stream x added c.poll_stream-polled.result mid = p x ex in
    poll_ends g.E.Engine.SHARED s mid c.settle.new.self.state c.args.stream c.args.conn x k added more c.poll_stream-polled.result c.settle.result polls
    (q k (with_task polls.task x) (ap (at c.args.conn) (conns_left _ _ _ _ _ _ _ polls) ∙ ek) (known_left _ _ _ _ _ _ _ ex polls)))
