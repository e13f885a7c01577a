use Rattle.std.proofs.Common.{◌∙◌, ap, refl, w32}
use Rattle.std.proofs.lemmas.Int.{to_z-of_z}
use Rattle.hrana_hub.specs.Maps.{without_id}
use Rattle.hrana_hub.proofs.connection.Connection.wait.Goals as goal

pub returns-then-closes : goal.returns-then-closes
returns-then-closes c =
    let same = to_z-of_z w32 c.args.stream c.ranges.stream in
    let left = c.remove-freed.ensures.entries ∙ ap (λ z. without_id z c.self.inside.ids.entries) same in
    rw (← c.self.view_is, c.if-closes.true) (rw left refl)
