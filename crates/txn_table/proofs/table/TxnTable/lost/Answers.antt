use Rattle.txn_table.proofs.StreamLemmas.{none_left}
use Rattle.txn_table.proofs.table.TxnTable.lost.Goals as goal

pub give_back-requires : goal.give_back-requires
give_back-requires c = rw c.leave.ensures (none_left _ _)
