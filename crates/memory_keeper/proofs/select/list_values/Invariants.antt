use Rattle.std.proofs.Common.{◌≡◌, Ok, take}
use Rattle.keeper_formulas.specs.Each.{each}
use Rattle.keeper_formulas.specs.Formulas.{formula_value}
use Rattle.memory_keeper.proofs.select.list_values.Given as goal

abbrev pub invariant-loop-formula : goal.invariant-loop-formula
invariant-loop-formula l = each (formula_value l.row) (take l.formula-index l.formulas) ≡ Ok l.values
