use Rattle.txn_table.proofs.OrderLemmas.{orderly}
use Rattle.txn_table.proofs.laws.each_waiter_waits_once.Goals as goal

pub returns : goal.returns
returns c = orderly
