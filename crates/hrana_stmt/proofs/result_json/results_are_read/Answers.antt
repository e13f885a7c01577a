use Rattle.hrana_stmt.proofs.ResultReadings.{StmtResultTree-none}
use Rattle.hrana_stmt.proofs.result_json.results_are_read.Goals as goal

pub returns : goal.returns
returns c = StmtResultTree-none
