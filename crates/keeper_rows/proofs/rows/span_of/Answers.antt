use Rattle.keeper_formulas.specs.Values.{value_at, is_equal}
use Rattle.keeper_rows.proofs.NarrowLemmas.{spans_by_test}
use Rattle.keeper_rows.proofs.rows.span_of.Goals as goal

pub returns-in-Some : goal.returns-in-Some
returns-in-Some c =
    spans_by_test c.args.condition.now (λ row. is_equal (value_at row.values c.args.index.now.column) c.in-Some.key.now) c.span_with_key.result c.args.rows.now c.in-Some.ensures c.span_with_key.ensures

pub returns-in-Some-sum_of_constants : goal.returns-in-Some-sum_of_constants
returns-in-Some-sum_of_constants c =
    spans_by_test c.args.condition.now (λ row. is_equal (value_at row.values c.args.index.now.column) c.in-Some-sum_of_constants.key) c.span_with_key-in-Some-sum_of_constants.result c.args.rows.now c.in-Some-sum_of_constants.ensures c.span_with_key-in-Some-sum_of_constants.ensures
