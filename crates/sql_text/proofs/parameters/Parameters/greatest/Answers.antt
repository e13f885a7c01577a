use Rattle.std.proofs.Common.{◌∙◌, sym, ap}
use Rattle.sql_text.specs.Parameters.{greatest}
use Rattle.sql_text.proofs.UnnamedLemmas.{greatest-unnamed, listed_none}
use Rattle.sql_text.proofs.parameters.Parameters.greatest.Goals as goal

pub returns-in-None-clause-greatest : goal.returns-in-None-clause-greatest
returns-in-None-clause-greatest c =
    sym (greatest-unnamed c.self.inside.unnamed) ∙ ap greatest (listed_none c.self.inside.unnamed c.self.inside.table c.args.self.now c.in-None.is c.self.view_is)
