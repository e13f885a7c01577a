use Rattle.std.proofs.Common.{take}
use Rattle.serde_json.specs.View.{items_view}
use Rattle.hrana_value.specs.Declines.{Reads, items_of_reading}
use Rattle.hrana_value.specs.Trees.{ItemsTree}
use Rattle.hrana_batch.specs.Tree.{StepTree, StepsStand}
use Rattle.hrana_batch.proofs.batch_json.steps_of_items.Given as goal

abbrev pub invariant-loop-i : goal.invariant-loop-i
invariant-loop-i l = Reads (λ steps. ItemsTree StepTree steps (items_view (take l.i l.items))) (StepsStand 0 (items_view (take l.i l.items))) (items_of_reading l.steps)
