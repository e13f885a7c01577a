use Rattle.hrana_batch.proofs.CondLaws.{CondTree-one}
use Rattle.hrana_batch.proofs.condition_json.no_tree_is_two_conditions.Goals as goal

pub returns : goal.returns
returns c = CondTree-one
