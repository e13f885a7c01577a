use Rattle.hrana_value.proofs.TreeLemmas.{ValueTree-one}
use Rattle.hrana_value.proofs.tree.no_tree_is_two_values.Goals as goal

pub returns : goal.returns
returns c = ValueTree-one
