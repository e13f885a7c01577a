use Rattle.hrana_stmt.proofs.ResultReadings.{WireErrorTree-one}
use Rattle.hrana_stmt.proofs.error_json.no_tree_is_two_errors.Goals as goal

pub returns : goal.returns
returns c = WireErrorTree-one
