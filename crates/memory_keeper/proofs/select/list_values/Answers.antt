use Rattle.std.proofs.Common.{arith}
use Rattle.keeper_formulas.specs.Formulas.{formula_value}
use Rattle.keeper_formulas.specs.Each.{each}
use Rattle.keeper_formulas.proofs.EachLemmas.{each_more, refuses_each, gives_refused}
use Rattle.memory_keeper.proofs.select.list_values.Goals as goal

pub returns-in_err-formula_value : goal.returns-in_err-formula_value
returns-in_err-formula_value c =
    gives_refused (each (formula_value c.args.row.now) c.args.formulas.now) _ _ c.from_residual.ensures.1
    (refuses_each (formula_value c.args.row.now) c.args.formulas.now _ _ _ _ c.loop-formula.invariant (omega arith) c.formula-item.is c.in_err-formula_value.ensures)

pub loop-formula-preserved : goal.loop-formula-preserved
loop-formula-preserved c =
    rw c.in_ok-push.ensures.ok
    (each_more (formula_value c.args.row.now) c.args.formulas.now _ _ _ _ c.loop-formula.invariant (omega arith) c.formula-item.is c.in_ok-formula_value.ensures)
