use Rattle.std.proofs.Common.{◌≡◌, ◌∷◌, drop}
use Rattle.keeper_formulas.specs.Formulas.{operand_value, sums}
use Rattle.keeper_formulas.proofs.formulas.sum_on_row.Given as goal

abbrev pub invariant-loop-addend : goal.invariant-loop-addend
invariant-loop-addend l = sums l.row l.sum (drop l.addend-index l.rest) ≡ sums l.row (operand_value l.row l.first) (l.second ∷ l.rest)
