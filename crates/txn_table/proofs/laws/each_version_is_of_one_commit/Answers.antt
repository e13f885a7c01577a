use Rattle.txn_table.proofs.LawLemmas.{versions_exact}
use Rattle.txn_table.proofs.laws.each_version_is_of_one_commit.Goals as goal

pub returns : goal.returns
returns c = versions_exact
