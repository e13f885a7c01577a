use Rattle.std.proofs.Common.{ap, length, arith}
use Rattle.std.proofs.lemmas.List.{take_rest}
use Rattle.keeper_formulas.specs.Values.{value_at, is_equal}
use Rattle.keeper_formulas.proofs.FormulaLemmas.{first_only, with_second}
use Rattle.keeper_formulas.proofs.formulas.is_met.Goals as goal

pub returns-in-empty : goal.returns-in-empty
returns-in-empty c =
    let row = c.args.row.now in
    let equation = c.args.equation.now in
    first_only (is_equal (value_at row equation.place)) row equation.formula.first equation.formula.rest _
    (omega (arith, ap length c.as_slice.ensures))
    (cc (c.are_equal.ensures, c.value_at-left.ensures, c.operand_value.ensures))

pub returns-in-len1-up : goal.returns-in-len1-up
returns-in-len1-up c =
    let row = c.args.row.now in
    let equation = c.args.equation.now in
    with_second (is_equal (value_at row equation.place)) row equation.formula.first equation.formula.rest c.as_slice.result.now _ _ _ _
    c.as_slice.ensures (take_rest c.as_slice.result.now 1) (omega arith) c.second-item.is c.sum_on_row.ensures
    (cc (c.equals_sum.ensures, c.value_at-left.ensures))
