-- Where the clauses are proved whose proofs aren't found by the check alone.
-- resolve_each                resolve/resolve_each, EachLemmas
-- is_met                      formulas/is_met, FormulaLemmas
-- formula_value, constant_sum the loop of sum_on_row: formulas/sum_on_row/Invariants
-- For the crates above: EachLemmas on steps that may be refused, FormulaLemmas (constant_formula) on constants.
pub mod EachLemmas
pub mod FormulaLemmas
