use Rattle.std.proofs.Common.{take, ◌+◌, subst, sym}
use Rattle.hrana_batch.specs.Tree.{StepTree}
use Rattle.hrana_batch.specs.Written.{step_data}
use Rattle.hrana_batch.proofs.WrittenItems.{ItemsWritten, ItemsWritten-array, ItemsWritten-tree, ItemsWritten-more}
use Rattle.hrana_batch.proofs.batch_json.steps_to_json.Goals as goal

pub returns-clause-written : goal.returns-clause-written
returns-clause-written c = ItemsWritten-array StepTree step_data c.args.steps.now c.loop-step.step-index c.loop-step.items c.loop-step-test.false c.loop-step.invariant

pub returns-clause-reads_back : goal.returns-clause-reads_back
returns-clause-reads_back c = ItemsWritten-tree StepTree step_data c.args.steps.now c.loop-step.step-index c.loop-step.items c.loop-step-test.false c.loop-step.invariant

pub loop-step-preserved : goal.loop-step-preserved
loop-step-preserved c =
    subst (ItemsWritten StepTree step_data (take (c.loop-step.step-index + 1) c.args.steps.now)) (sym c.in_ok-push.ensures.items)
    (ItemsWritten-more StepTree step_data c.args.steps.now c.loop-step.step-index c.step-item.result c.loop-step.items.items c.in_ok-step_to_json.field-0 c.loop-step-test.true c.step-item.is
    c.loop-step.invariant c.in_ok-step_to_json.ensures.written c.in_ok-step_to_json.ensures.reads_back)
