use Rattle.std.proofs.Common.{refl, map}
use Rattle.hrana_value.proofs.NameLemmas.{RowsDiffer-tested}
use Rattle.hrana_stmt.specs.declared.codes.TheConstants.{CODE_MESSAGES}
use Rattle.hrana_stmt.proofs.codes.code_messages_differ.Goals as goal

pub returns : goal.returns
returns c = RowsDiffer-tested (map (λ row. row.now) CODE_MESSAGES) refl
