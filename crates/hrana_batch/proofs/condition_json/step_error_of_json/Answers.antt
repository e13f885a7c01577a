use Rattle.std.proofs.Common.{inr}
use Rattle.serde_json.specs.View.{view}
use Rattle.hrana_batch.proofs.CondReadings.{step_error_read, step_failed}
use Rattle.hrana_batch.proofs.condition_json.step_error_of_json.Goals as goal

pub returns-in-Ok : goal.returns-in-Ok
returns-in-Ok c =
    step_error_read c.args.step (view c.args.json.now) (view c.member_or_null.result.now) c.step_number_of_json.result c.in-Ok.number c.requires c.member_or_null.ensures c.in-Ok.is c.step_number_of_json.ensures

pub returns-in-Err : goal.returns-in-Err
returns-in-Err c =
    step_failed c.args.step (view c.args.json.now) (view c.member_or_null.result.now) c.step_number_of_json.result c.in-Err.fail (inr c.requires) c.member_or_null.ensures c.in-Err.is c.step_number_of_json.ensures
