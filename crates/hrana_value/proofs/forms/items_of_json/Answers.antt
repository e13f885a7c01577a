use Rattle.std.proofs.Common.{take, ◌+◌}
use Rattle.serde_json.specs.View.{items_view}
use Rattle.hrana_value.specs.Declines.{items_of_reading}
use Rattle.hrana_value.specs.Trees.{ItemsTree, ItemsStand}
use Rattle.hrana_value.proofs.DeclineLemmas.{Reads-with_item}
use Rattle.hrana_value.proofs.ItemsLemmas.{ItemsReads-more}
use Rattle.hrana_value.proofs.forms.items_of_json.Goals as goal

pub loop-item-preserved : goal.loop-item-preserved
loop-item-preserved g c =
    let js = c.args.items.now in let i = c.loop-item.item-index in
    Reads-with_item (λ vs. ItemsTree g.T.JsonForm.tree vs (items_view (take (i + 1) js))) (ItemsStand g.T.JsonForm.stands (items_view (take (i + 1) js))) (items_of_reading c.loop-item.read) c.of_json.result
    c.with_item-read.result c.with_item-read.ensures.ok c.with_item-read.ensures.declined
    (ItemsReads-more g.T.JsonForm.tree g.T.JsonForm.stands js i c.item-item.result (items_of_reading c.loop-item.read) c.of_json.result c.loop-item-test.true c.item-item.is c.loop-item.invariant c.of_json.ensures)
