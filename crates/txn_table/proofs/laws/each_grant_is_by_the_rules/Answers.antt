use Rattle.txn_table.proofs.LawLemmas.{grants_exact}
use Rattle.txn_table.proofs.laws.each_grant_is_by_the_rules.Goals as goal

pub returns : goal.returns
returns c = grants_exact
