use Rattle.std.proofs.Common.{◌≡◌, ◌<◌, length, refl, ap, ◌∙◌, arith}
use Rattle.stream_tests.proofs.DeskLemmas.{place_may, sound_ended}
use Rattle.stream_tests.proofs.desk.Desk.end.Goals as goal

pub end-requires-clause-agrees : goal.end-requires-clause-agrees
end-requires-clause-agrees g c =
    let l : c.args.place < length c.self.inside.streams.items = omega arith in
    (place_may g.E.Engine.told g.E.Engine.SHARED (g.E.Engine.db c.self.inside.engine) (g.E.Engine.live c.self.inside.engine) c.self.inside.turns c.self.inside.entries.next c.self.inside.entries.next c.self.inside.streams.items c.args.place c.index_mut-stream.result.now c.self.invariant l c.index_mut-stream.ensures.value refl).agrees

pub invariant_of-self-2 : goal.invariant_of-self-2
invariant_of-self-2 g c =
    let l : c.args.place < length c.self.inside.streams.items = omega arith in
    let p = c.end.ensures in
    sound_ended g.E.Engine.told g.E.Engine.SHARED g.E.Engine.meaning g.E.Engine.db g.E.Engine.live g.E.Engine.faults c.self.inside.engine c.end.new.engine c.self.inside.turns c.end.new.turns c.reserve.new.self c.end.new.entries c.self.inside.entries.next c.self.inside.streams.items c.args.place c.index_mut-stream.result.now c.end.new.self c.args.how
    (record { reads = g.met.E.Engine.reads; writes = g.met.E.Engine.writes; refusals = g.met.E.Engine.refusals }) c.self.invariant l c.index_mut-stream.ensures.value c.reserve.ensures.next
    (record { ends = p.ends; below = p.below; writers = p.writers; one = p.one }) p.stream
