use Rattle.std.proofs.Common.{◌∷◌, [], ◌++◌, ◌+◌, Ok, length, length-append, sym, ap, ◌∙◌, arith}
use Rattle.keeper_formulas.specs.Each.{somes}
use Rattle.memory_keeper.specs.Tables.{all_renewed}
use Rattle.keeper_formulas.proofs.EachLemmas.{err_refused}
use Rattle.memory_keeper.proofs.RowLemmas.{all_renewed_more, refuses_renewed}
use Rattle.memory_keeper.proofs.update.all_renewed.Goals as goal

pub returns-in_err-new-clause-err : goal.returns-in_err-new-clause-err
returns-in_err-new-clause-err c =
    let rows = c.args.rows.now in
    err_refused (all_renewed c.args.condition.now c.args.sets.now rows) _ _ c.from_residual.ensures.1
    (refuses_renewed c.args.condition.now c.args.sets.now rows c.loop-row.row-index c.row-item.result _ _ _ c.loop-row.invariant.renewed (omega arith) c.row-item.is c.in_err-new.ensures)

pub loop-row-preserved : goal.loop-row-preserved
loop-row-preserved c =
    let condition = c.args.condition.now in
    let sets = c.args.sets.now in
    let rows = c.args.rows.now in
    let made = c.loop-row.new_rows.items in
    let n = c.loop-row.count in
    let new = c.in_ok-new.new in
    record {
      renewed = rw c.in_ok-push.ensures.items
          (all_renewed_more condition sets rows c.loop-row.row-index c.row-item.result new made n c.loop-row.invariant.renewed (omega arith) c.row-item.is c.in_ok-new.ensures
          ∙ ap (λ r. Ok (made ++ r ∷ [], n + length (somes (new ∷ [])))) (sym c.in_ok-renewed_row.ensures)
          ∙ ap (λ m. Ok (made ++ c.in_ok-renewed_row.field-0 ∷ [], n + m)) (sym c.change_count.ensures.count));
      within = omega arith;
      many = ap length c.in_ok-push.ensures.items ∙ length-append made (c.in_ok-renewed_row.field-0 ∷ []) ∙ omega arith;
    }
