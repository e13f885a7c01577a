use Rattle.std.proofs.Common.{◌∙◌, sym, ap, add-zero, Ok, true, false, arith}
use Rattle.keeper_rows.specs.Chosen.{chosen_count}
use Rattle.keeper_formulas.proofs.EachLemmas.{result_refused}
use Rattle.keeper_rows.proofs.RowLemmas.{chosen_count_more, chosen_count_refused}
use Rattle.keeper_rows.proofs.conditions.chosen_count.Goals as goal
use Rattle.keeper_rows.proofs.conditions.chosen_count.Goals.{then-branch, else-branch}

pub returns-in_err-is_chosen-clause-count : goal.returns-in_err-is_chosen-clause-count
returns-in_err-is_chosen-clause-count c =
    let condition = c.args.condition.now in
    let rows = c.args.rows.now in
    result_refused (chosen_count condition rows) _ _ c.from_residual.ensures.1
    (chosen_count_refused condition rows c.loop-row.row-index _ _ _ c.loop-row.invariant.counted (omega arith) c.row-item.is (sym c.in_err-is_chosen.ensures))

pub loop-row-preserved : goal.loop-row-preserved
loop-row-preserved c =
    let condition = c.args.condition.now in
    let rows = c.args.rows.now in
    elim c.if-branch.branch [
      | then-branch w ↦ record {
        counted = rw w.count-is (chosen_count_more condition rows c.loop-row.row-index _ _ true c.loop-row.invariant.counted (omega arith) c.row-item.is (sym c.in_ok-is_chosen.ensures ∙ ap (λ b. Ok b) w.if-branch.true));
        within = omega arith;
      }
      | else-branch w ↦ record {
        counted = rw (w.count-is, ← add-zero c.loop-row.count) (chosen_count_more condition rows c.loop-row.row-index _ _ false c.loop-row.invariant.counted (omega arith) c.row-item.is (sym c.in_ok-is_chosen.ensures ∙ ap (λ b. Ok b) w.if-branch.false));
        within = omega arith;
      }
    ]
