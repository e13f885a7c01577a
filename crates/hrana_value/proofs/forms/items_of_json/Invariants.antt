use Rattle.std.proofs.Common.{take}
use Rattle.serde_json.specs.View.{items_view}
use Rattle.hrana_value.specs.Declines.{Reads, items_of_reading}
use Rattle.hrana_value.specs.Trees.{ItemsTree, ItemsStand}
use Rattle.hrana_value.proofs.forms.items_of_json.Given as goal

abbrev pub invariant-loop-item : goal.invariant-loop-item
invariant-loop-item g l =
    let items = items_view (take l.item-index l.items) in
    Reads (λ xs. ItemsTree g.T.JsonForm.tree xs items) (ItemsStand g.T.JsonForm.stands items) (items_of_reading l.read)
