use Rattle.std.proofs.Common.{inl}
use Rattle.serde_json.specs.View.{view}
use Rattle.hrana_batch.proofs.CondReadings.{all_read, list_failed}
use Rattle.hrana_batch.proofs.condition_json.all_of.Goals as goal

pub returns-in-Ok : goal.returns-in-Ok
returns-in-Ok c = all_read c.args.step (view c.args.json.now) c.args.parts c.in-Ok.parts c.requires.kind c.in-Ok.is c.requires.parts

pub returns-in-Err : goal.returns-in-Err
returns-in-Err c = list_failed c.args.step (view c.args.json.now) c.args.parts c.in-Err.fail (inl c.requires.kind) c.in-Err.is c.requires.parts
