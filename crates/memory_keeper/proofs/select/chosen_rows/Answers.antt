use Rattle.std.proofs.Common.{◌∙◌, ap, Ok, None, append-nil, arith}
use Rattle.keeper_formulas.specs.Each.{somes}
use Rattle.keeper_rows.specs.Chosen.{row_shown, chosen_rows}
use Rattle.keeper_formulas.proofs.EachLemmas.{gives_refused}
use Rattle.memory_keeper.proofs.RowLemmas.{chosen_rows_more}
use Rattle.keeper_rows.proofs.RowLemmas.{refuses_mapped}
use Rattle.memory_keeper.proofs.select.chosen_rows.Goals as goal
use Rattle.memory_keeper.proofs.select.chosen_rows.Goals.{in-Some+in_ok-push-in-Some, in-None}

pub returns-in_err-values : goal.returns-in_err-values
returns-in_err-values c =
    let f = row_shown c.args.picture.now c.args.condition.now in
    let rows = c.args.rows.now in
    gives_refused (chosen_rows c.args.picture.now c.args.condition.now rows) _ _ c.from_residual.ensures.1
    (refuses_mapped somes f rows c.loop-row.row-index c.row-item.result _ _ c.loop-row.invariant (omega arith) c.row-item.is c.in_err-values.ensures)

pub loop-row-preserved : goal.loop-row-preserved
loop-row-preserved c =
    let picture = c.args.picture.now in
    let condition = c.args.condition.now in
    let rows = c.args.rows.now in
    let i = c.loop-row.row-index in
    elim c.match-branch-2.branch [
      | in-Some+in_ok-push-in-Some w ↦ rw (w.shown-is, w.in_ok-push-in-Some.ensures.ok)
          (chosen_rows_more picture condition rows i c.row-item.result _ _ c.loop-row.invariant (omega arith) c.row-item.is (c.in_ok-values.ensures ∙ ap (λ v. Ok v) w.in-Some.is))
      | in-None w ↦ rw (w.shown-is, ← append-nil c.loop-row.shown)
          (chosen_rows_more picture condition rows i c.row-item.result _ None c.loop-row.invariant (omega arith) c.row-item.is (c.in_ok-values.ensures ∙ ap (λ v. Ok v) w.in-None.is))
    ]
