use Rattle.std.proofs.Common.{◌∙◌, ap, w32}
use Rattle.std.proofs.lemmas.Int.{to_z-of_z}
use Rattle.hrana_hub.specs.Maps.{id_at}
use Rattle.hrana_hub.proofs.connection.Connection.stream_of.Goals as goal

pub returns : goal.returns
returns c =
    let same = to_z-of_z w32 c.args.id c.ranges.id in
    rw (← c.self.view_is) (c.copied.ensures ∙ (c.get.ensures.value ∙ ap (λ z. id_at z c.self.inside.ids.entries) same))
