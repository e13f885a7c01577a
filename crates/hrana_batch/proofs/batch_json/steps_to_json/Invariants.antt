use Rattle.std.proofs.Common.{take}
use Rattle.hrana_batch.specs.Tree.{StepTree}
use Rattle.hrana_batch.specs.Written.{step_data}
use Rattle.hrana_batch.proofs.WrittenItems.{ItemsWritten}
use Rattle.hrana_batch.proofs.batch_json.steps_to_json.Given as goal

abbrev pub invariant-loop-step : goal.invariant-loop-step
invariant-loop-step l = ItemsWritten StepTree step_data (take l.step-index l.steps) l.items.items
