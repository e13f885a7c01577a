use Rattle.std.proofs.Common.{refl}
use Rattle.serde_json.specs.View.{view}
use Rattle.hrana_batch.proofs.CondLaws.{depth_read, cond_failed}
use Rattle.hrana_batch.proofs.condition_json.cond_of_json.Goals as goal

pub returns-in-Err : goal.returns-in-Err
returns-in-Err c = cond_failed c.args.step (view c.args.json.now) c.cond_of_tree.result c.in-Err.fail c.in-Err.is c.cond_of_tree.ensures

pub returns-then-is_within : goal.returns-then-is_within
returns-then-is_within c = depth_read c.args.step (view c.args.json.now) c.cond_of_tree.result c.in-Ok.cond c.in-Ok.is (c.if-is_within.ensures.0 refl) c.cond_of_tree.ensures
