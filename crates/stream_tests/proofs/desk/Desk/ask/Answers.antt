use Rattle.std.proofs.Common.{◌≡◌, ◌<◌, length, refl, ap, ◌∙◌, arith}
use Rattle.stream_tests.proofs.DeskLemmas.{sound_add}
use Rattle.stream_tests.proofs.desk.Desk.ask.Goals as goal

pub invariant_of-self : goal.invariant_of-self
invariant_of-self g c =
    let l : c.args.place < length c.self.inside.streams.items = omega arith in
    sound_add g.E.Engine.told g.E.Engine.SHARED (g.E.Engine.db c.self.inside.engine) (g.E.Engine.live c.self.inside.engine) c.self.inside.turns c.self.inside.entries.next c.self.inside.streams.items c.args.place c.index_mut.result.now c.add.new.self c.args.ask c.add.result c.self.invariant l c.index_mut.ensures.value c.add.ensures.ok c.add.ensures.err
