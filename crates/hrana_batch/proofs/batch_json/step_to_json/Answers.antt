use Rattle.std.proofs.Common.{◌≡◌, option_map}
use Rattle.serde_json.specs.View.{view}
use Rattle.hrana_batch.proofs.WrittenItems.{IfOk-weaken}
use Rattle.hrana_batch.specs.Tree.{StepTree}
use Rattle.hrana_batch.specs.Written.{step_object, step_data}
use Rattle.hrana_batch.proofs.BatchWritten.{step_written, step_back}
use Rattle.hrana_batch.proofs.batch_json.step_to_json.Goals as goal

pub returns-clause-written : goal.returns-clause-written
returns-clause-written c =
    IfOk-weaken c.step_members.result (λ json. view json ≡ step_object (option_map view c.in_ok-condition.condition) (view c.in_ok-stmt.stmt)) (λ json. view json ≡ step_data c.args.step.now)
    (λ json is. step_written c.args.step.now (view json) (option_map view c.in_ok-condition.condition) (view c.in_ok-stmt.stmt) is c.in_ok-condition.ensures.written c.in_ok-stmt.ensures.written) c.step_members.ensures

pub returns-clause-reads_back : goal.returns-clause-reads_back
returns-clause-reads_back c =
    IfOk-weaken c.step_members.result (λ json. view json ≡ step_object (option_map view c.in_ok-condition.condition) (view c.in_ok-stmt.stmt)) (λ json. StepTree c.args.step.now (view json))
    (λ json is. step_back c.args.step.now (view json) (option_map view c.in_ok-condition.condition) (view c.in_ok-stmt.stmt) is c.in_ok-condition.ensures.reads_back c.in_ok-stmt.ensures.reads_back) c.step_members.ensures
