use Rattle.std.proofs.Common.{◌∙◌, ap, not}
use Rattle.sql_text.specs.Parameters.{has_number}
use Rattle.sql_text.proofs.ParameterLemmas.{table_has}
use Rattle.sql_text.proofs.parameter_table.ParameterTable.has_number.Goals as goal

pub returns : goal.returns
returns c = ap not c.is_empty.ensures ∙ table_has c.self.inside.texts c.args.number c.from.result _ c.from.ensures c.self.told c.requires ∙ ap (λ ps. has_number ps c.args.number) c.self.view_is
