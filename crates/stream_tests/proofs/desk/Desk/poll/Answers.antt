use Rattle.std.proofs.Common.{◌≡◌, ◌<◌, length, refl, ap, ◌∙◌, arith}
use Rattle.stream_tests.proofs.DeskLemmas.{place_may, sound_polled}
use Rattle.stream_tests.proofs.desk.Desk.poll.Goals as goal

pub poll-requires-clause-agrees : goal.poll-requires-clause-agrees
poll-requires-clause-agrees g c =
    let l : c.args.place < length c.self.inside.streams.items = omega arith in
    (place_may g.E.Engine.told g.E.Engine.SHARED (g.E.Engine.db c.self.inside.engine) (g.E.Engine.live c.self.inside.engine) c.self.inside.turns c.self.inside.entries.next c.self.inside.entries.next c.self.inside.streams.items c.args.place c.index_mut-stream.result.now c.self.invariant l c.index_mut-stream.ensures.value refl).agrees

pub poll-requires-clause-reserved : goal.poll-requires-clause-reserved
poll-requires-clause-reserved g c =
    let l : c.args.place < length c.self.inside.streams.items = omega arith in
    (place_may g.E.Engine.told g.E.Engine.SHARED (g.E.Engine.db c.self.inside.engine) (g.E.Engine.live c.self.inside.engine) c.self.inside.turns c.self.inside.entries.next c.self.inside.entries.next c.self.inside.streams.items c.args.place c.index_mut-stream.result.now c.self.invariant l c.index_mut-stream.ensures.value refl).reserved

pub invariant_of-self-2 : goal.invariant_of-self-2
invariant_of-self-2 g c =
    let l : c.args.place < length c.self.inside.streams.items = omega arith in
    let p = c.poll.ensures in
    sound_polled g.E.Engine.told g.E.Engine.SHARED g.E.Engine.meaning g.E.Engine.db g.E.Engine.live g.E.Engine.faults c.self.inside.engine c.poll.new.engine c.self.inside.turns c.poll.new.turns c.reserve.new.self c.poll.new.entries c.self.inside.entries.next c.self.inside.streams.items c.args.place c.index_mut-stream.result.now c.poll.new.self c.poll.result
    (record { reads = g.met.E.Engine.reads; writes = g.met.E.Engine.writes; refusals = g.met.E.Engine.refusals }) c.self.invariant l c.index_mut-stream.ensures.value c.reserve.ensures.next
    (record { adds = p.adds; agrees = p.agrees; stream = p.stream; below = p.below; writers = p.writers; one = p.one })
