use Rattle.hrana_stmt.proofs.ResultReadings.{StmtResultTree-one}
use Rattle.hrana_stmt.proofs.result_json.no_tree_is_two_results.Goals as goal

pub returns : goal.returns
returns c = StmtResultTree-one
