use Rattle.std.proofs.Common.{◌∙◌, sym, ap}
use Rattle.sql_text.specs.Parameters.{number_of_name, unnamed}
use Rattle.sql_text.proofs.ParameterLemmas.{unnamed_none}
use Rattle.sql_text.proofs.UnnamedLemmas.{unnamed_all_unnamed, listed_none}
use Rattle.sql_text.proofs.parameters.Parameters.number_of_name.Goals as goal

pub returns-in-None-clause-number : goal.returns-in-None-clause-number
returns-in-None-clause-number c =
    sym (unnamed_none c.args.prefix c.args.name.now (unnamed c.self.inside.unnamed) c.requires (unnamed_all_unnamed c.self.inside.unnamed))
    ∙ ap (number_of_name c.args.prefix c.args.name.now) (listed_none c.self.inside.unnamed c.self.inside.table c.args.self.now c.in-None.is c.self.view_is)
