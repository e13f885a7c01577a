use Rattle.std.proofs.Common.{◌∙◌, ap}
use Rattle.sql_text.specs.Parameters.{with_number, listed}
use Rattle.sql_text.proofs.UnnamedLemmas.{unnamed_more, listed_none}
use Rattle.sql_text.proofs.parameters.Parameters.add.Goals as goal

pub returns-then-is_unnamed-clause-ok : goal.returns-then-is_unnamed-clause-ok
returns-then-is_unnamed-clause-ok c =
    ap (listed c.args.number) c.in-None.is
    ∙ unnamed_more c.self.inside.unnamed c.args.number c.args.text.now c.if-number-self.true (c.is_unnamed.ensures.0 c.if-is_unnamed.true)
    ∙ ap (λ ps. with_number ps c.args.number c.args.text.now) (listed_none c.self.inside.unnamed c.self.inside.table c.args.self.now c.in-None.is c.self.view_is)
