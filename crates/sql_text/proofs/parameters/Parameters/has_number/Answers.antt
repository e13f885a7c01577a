use Rattle.std.proofs.Common.{◌∙◌, ap}
use Rattle.sql_text.specs.Parameters.{has_number}
use Rattle.sql_text.proofs.UnnamedLemmas.{has_number-unnamed, has_number-none, listed_none}
use Rattle.sql_text.proofs.parameters.Parameters.has_number.Goals as goal

pub returns-then-number-gt0 : goal.returns-then-number-gt0
returns-then-number-gt0 c =
    has_number-unnamed c.self.inside.unnamed c.args.number c.if-number-gt0.true
    ∙ ap (λ ps. has_number ps c.args.number) (listed_none c.self.inside.unnamed c.self.inside.table c.args.self.now c.in-None.is c.self.view_is)

pub returns-else-number-gt0 : goal.returns-else-number-gt0
returns-else-number-gt0 c =
    has_number-none c.self.inside.unnamed c.args.number c.if-number-gt0.false
    ∙ ap (λ ps. has_number ps c.args.number) (listed_none c.self.inside.unnamed c.self.inside.table c.args.self.now c.in-None.is c.self.view_is)
