use Rattle.std.proofs.Common.{rules}
use Rattle.std.proofs.lemmas.Fn.{filter_same}
use Rattle.keeper_rows.specs.Chosen.{stays}
use Rattle.keeper_rows.proofs.rows.retain_rows.Goals as goal

pub returns : goal.returns
returns c = filter_same _ (stays c.args.condition.now) _ (λ x b f' k. search rules) _ _ c.retain.ensures.filtered
