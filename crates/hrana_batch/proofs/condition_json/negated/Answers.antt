use Rattle.serde_json.specs.View.{view}
use Rattle.std.proofs.Common.{◌∙◌, ap, sym}
use Rattle.std.specs.Prelude.{Ok}
use Rattle.hrana_batch.proofs.CondReadings.{not_read, not_failed}
use Rattle.hrana_batch.proofs.condition_json.negated.Goals as goal

pub returns-in-Ok-new : goal.returns-in-Ok-new
returns-in-Ok-new c = not_read c.args.step (view c.args.json.now) c.args.part c.in-Ok-new.part c.requires.kind (c.in-Ok.is ∙ ap Ok (sym c.in-Ok-new.ensures)) c.requires.part

pub returns-in-Err : goal.returns-in-Err
returns-in-Err c = not_failed c.args.step (view c.args.json.now) c.args.part c.in-Err.fail c.requires.kind c.in-Err.is c.requires.part
