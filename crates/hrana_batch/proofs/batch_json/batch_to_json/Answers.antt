use Rattle.std.proofs.Common.{◌≡◌, subst}
use Rattle.serde_json.specs.View.{view}
use Rattle.hrana_batch.proofs.WrittenItems.{IfOk-weaken}
use Rattle.hrana_value.specs.Trees.{ArrayTree}
use Rattle.hrana_batch.specs.Tree.{StepTree, BatchTree}
use Rattle.hrana_batch.specs.Written.{batch_object}
use Rattle.hrana_batch.proofs.BatchWritten.{batch_back}
use Rattle.hrana_batch.proofs.batch_json.batch_to_json.Goals as goal

pub returns-clause-reads_back : goal.returns-clause-reads_back
returns-clause-reads_back c =
    IfOk-weaken c.object_of_one.result (λ json. view json ≡ batch_object (view c.in_ok-steps.steps)) (λ json. BatchTree c.args.batch.now (view json))
    (λ json is. batch_back c.args.batch.now (view json) (view c.in_ok-steps.steps) is (subst (λ steps. ArrayTree StepTree steps (view c.in_ok-steps.steps)) c.as_slice.ensures c.in_ok-steps.ensures.reads_back)) c.object_of_one.ensures
