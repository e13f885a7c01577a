use Rattle.hrana_stmt.proofs.StmtLemmas.{StmtTree-one}
use Rattle.hrana_stmt.proofs.statement_json.no_tree_is_two_statements.Goals as goal

pub returns : goal.returns
returns c = StmtTree-one
