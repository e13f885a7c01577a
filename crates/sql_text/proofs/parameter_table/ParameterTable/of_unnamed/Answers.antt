use Rattle.std.proofs.Common.{◌≡◌, ◌∷◌, [], ◌+◌, ◌-◌, ◌∙◌, sym, ap, refl, arith}
use Rattle.sql_text.specs.Parameters.{unnamed, with_number}
use Rattle.sql_text.proofs.UnnamedLemmas.{unnamed_more}
use Rattle.sql_text.proofs.parameter_table.ParameterTable.of_unnamed.Goals as goal

pub loop-number-preserved : goal.loop-number-preserved
loop-number-preserved c =
    let same : c.loop-number.number ≡ c.loop-number.number + 1 - 1 = omega arith in
    c.add.ensures ∙ ap (λ table. with_number table c.loop-number.number (63 ∷ [])) c.loop-number.invariant
    ∙ sym (unnamed_more (c.loop-number.number - 1) c.loop-number.number (63 ∷ []) (omega arith) refl) ∙ ap unnamed same
