use Rattle.std.proofs.Common.{inr}
use Rattle.serde_json.specs.View.{view}
use Rattle.hrana_batch.proofs.CondReadings.{any_read, list_failed}
use Rattle.hrana_batch.proofs.condition_json.any_of.Goals as goal

pub returns-in-Ok : goal.returns-in-Ok
returns-in-Ok c = any_read c.args.step (view c.args.json.now) c.args.parts c.in-Ok.parts c.requires.kind c.in-Ok.is c.requires.parts

pub returns-in-Err : goal.returns-in-Err
returns-in-Err c = list_failed c.args.step (view c.args.json.now) c.args.parts c.in-Err.fail (inr c.requires.kind) c.in-Err.is c.requires.parts
