use Rattle.std.proofs.Common.{◌+◌, ◌*◌, take}
use Rattle.serde_json.specs.Data.{depth, items_depth}
use Rattle.serde_json.specs.View.{view, items_view}
use Rattle.hrana_value.specs.Declines.{Reads, items_of_reading}
use Rattle.hrana_value.specs.Trees.{ItemsTree, ItemsStand}
use Rattle.hrana_batch.specs.Tree.{CondTree, StandsWithin}
use Rattle.hrana_batch.proofs.condition_json.+conditions.Given as goal

abbrev pub decreases-cond_of_tree : goal.decreases-cond_of_tree
decreases-cond_of_tree l = 3 * depth (view l.json.now) + 1

abbrev pub decreases-conds_of_tree : goal.decreases-conds_of_tree
decreases-conds_of_tree l = 3 * depth (view l.json.now)

abbrev pub decreases-conds_of_items : goal.decreases-conds_of_items
decreases-conds_of_items l = 3 * items_depth (items_view l.items.now) + 2

abbrev pub invariant-conds_of_items-loop-item : goal.invariant-conds_of_items-loop-item
invariant-conds_of_items-loop-item l =
    Reads (λ cs. ItemsTree CondTree cs (items_view (take l.item-index l.items))) (ItemsStand (StandsWithin l.step) (items_view (take l.item-index l.items))) (items_of_reading l.conds)
