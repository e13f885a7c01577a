use Rattle.std.proofs.Common.{◌≡◌, sym, ◌∙◌, ap, arith}
use Rattle.keeper_rows.specs.Chosen.{is_chosen}
use Rattle.keeper_rows.proofs.NarrowLemmas.{chosen_by_value}
use Rattle.keeper_rows.proofs.conditions.sum_of_constants.Goals as goal

pub returns-in-Some-Ok : goal.returns-in-Some-Ok
returns-in-Some-Ok c = λ row.
    let at : c.in-Some.equation.place ≡ c.args.place = omega arith in
    ap (λ o. is_chosen o row) c.in-Some.is
    ∙ chosen_by_value c.in-Some.equation c.args.place c.in-Some-Ok.value at (sym c.if-not-names_no_column.ensures) (sym c.in-Some-Ok.ensures.value ∙ c.in-Some-Ok.field-0-is) row
