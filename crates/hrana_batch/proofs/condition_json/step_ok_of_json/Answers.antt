use Rattle.std.proofs.Common.{inl}
use Rattle.serde_json.specs.View.{view}
use Rattle.hrana_batch.proofs.CondReadings.{step_ok_read, step_failed}
use Rattle.hrana_batch.proofs.condition_json.step_ok_of_json.Goals as goal

pub returns-in-Ok : goal.returns-in-Ok
returns-in-Ok c =
    step_ok_read c.args.step (view c.args.json.now) (view c.member_or_null.result.now) c.step_number_of_json.result c.in-Ok.number c.requires c.member_or_null.ensures c.in-Ok.is c.step_number_of_json.ensures

pub returns-in-Err : goal.returns-in-Err
returns-in-Err c =
    step_failed c.args.step (view c.args.json.now) (view c.member_or_null.result.now) c.step_number_of_json.result c.in-Err.fail (inl c.requires) c.member_or_null.ensures c.in-Err.is c.step_number_of_json.ensures
