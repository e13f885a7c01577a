use Rattle.hrana_stmt.proofs.StmtLemmas.{StmtTree-fits}
use Rattle.hrana_stmt.proofs.statement_json.fitting_statements_are_read.Goals as goal

pub returns : goal.returns
returns c = StmtTree-fits
