use Rattle.hrana_value.proofs.TreeLemmas.{ValueTree-none}
use Rattle.hrana_value.proofs.tree.no_value_is_declined.Goals as goal

pub returns : goal.returns
returns c = ValueTree-none
