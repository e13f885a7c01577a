use Rattle.std.proofs.Common.{take, ◌+◌}
use Rattle.serde_json.specs.View.{items_view}
use Rattle.hrana_value.specs.Declines.{items_of_reading}
use Rattle.hrana_value.specs.Trees.{ItemsTree}
use Rattle.hrana_value.proofs.DeclineLemmas.{Reads-with_item}
use Rattle.hrana_batch.specs.Tree.{StepTree, StepsStand}
use Rattle.hrana_batch.proofs.BatchReadings.{steps_more}
use Rattle.hrana_batch.proofs.batch_json.steps_of_items.Goals as goal

pub loop-i-preserved : goal.loop-i-preserved
loop-i-preserved c =
    let js = c.args.items.now in let i = c.loop-i.i in
    Reads-with_item (λ steps. ItemsTree StepTree steps (items_view (take (i + 1) js))) (StepsStand 0 (items_view (take (i + 1) js))) (items_of_reading c.loop-i.steps) c.step_of_json.result c.with_item-steps.result
    c.with_item-steps.ensures.ok c.with_item-steps.ensures.declined
    (steps_more js i c.index-items-i.result (items_of_reading c.loop-i.steps) c.step_of_json.result c.loop-i-test.true c.index-items-i.is c.loop-i.invariant c.step_of_json.ensures)
