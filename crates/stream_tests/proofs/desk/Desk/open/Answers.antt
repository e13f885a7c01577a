use Rattle.std.proofs.Common.{◌≡◌, ◌<◌, length, refl, ap, ◌∙◌, arith}
use Rattle.hrana_value.specs.declared.StreamNo.{StreamNo}
use Rattle.stream_task.specs.Together.{numbered}
use Rattle.stream_tests.proofs.DeskLemmas.{sound_open}
use Rattle.stream_tests.proofs.desk.Desk.open.Goals as goal

pub invariant_of-self-2 : goal.invariant_of-self-2
invariant_of-self-2 g c =
    let count : c.len.result ≡ length c.self.inside.streams.items = omega arith in
    let at : numbered c.len.result ≡ numbered (length c.self.inside.streams.items) = ap numbered count in
    rw (c.push_reserved.ensures.items, c.reserve.ensures.items)
    (sound_open g.E.Engine.told g.E.Engine.SHARED (g.E.Engine.db c.self.inside.engine) (g.E.Engine.live c.self.inside.engine) c.self.inside.turns c.reserve_stream.new.self c.self.inside.entries.next c.self.inside.streams.items (numbered c.len.result) c.in_ok-task.task _ c.self.invariant at c.in_ok-task.ensures c.in_ok-reserve_stream.ensures.ok c.in_ok-reserve_stream.ensures.place)
