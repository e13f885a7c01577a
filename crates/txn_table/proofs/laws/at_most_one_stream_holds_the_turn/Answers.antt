use Rattle.txn_table.proofs.LawLemmas.{one_holder}
use Rattle.txn_table.proofs.laws.at_most_one_stream_holds_the_turn.Goals as goal

pub returns : goal.returns
returns c = one_holder
