use Rattle.std.proofs.Common.{refl, map}
use Rattle.hrana_value.proofs.NameLemmas.{RowsDiffer-tested}
use Rattle.hrana_value.specs.declared.tree.TheConstants.{VALUE_KINDS}
use Rattle.hrana_value.proofs.tree.value_kinds_differ.Goals as goal

pub returns : goal.returns
returns c = RowsDiffer-tested (map (λ row. row.now) VALUE_KINDS) refl
