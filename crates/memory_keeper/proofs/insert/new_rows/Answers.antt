use Rattle.std.proofs.Common.{◌≡◌, ◌+◌, length, ap, ◌∙◌, length-append, arith}
use Rattle.memory_keeper.specs.Tables.{tuples_added}
use Rattle.keeper_formulas.proofs.EachLemmas.{err_refused}
use Rattle.memory_keeper.proofs.TableLemmas.{tuples_added_more, refuses_tuples}
use Rattle.memory_keeper.proofs.insert.new_rows.Goals as goal

pub returns-in_err-row-clause-err : goal.returns-in_err-row-clause-err
returns-in_err-row-clause-err c =
    let table = c.args.table.now in
    let tuples = c.args.tuples.now in
    err_refused (tuples_added table tuples) _ _ c.from_residual.ensures.1
    (refuses_tuples table tuples c.loop-tuple.tuple-index c.tuple-item.result _ _ c.loop-tuple.invariant.added (omega arith) c.tuple-item.is
    (rw c.as_slice.ensures at c.in_err-row.ensures.err))

pub loop-tuple-preserved : goal.loop-tuple-preserved
loop-tuple-preserved c =
    let table = c.args.table.now in
    let tuples = c.args.tuples.now in
    let long : length c.push.new.self ≡ length c.loop-tuple.fresh + 1 = ap length c.in_ok-push.ensures.ok ∙ length-append _ _ in
    let room = c.in_ok-row.ensures.room in
    record {
      added = rw c.in_ok-push.ensures.ok
          (tuples_added_more table tuples c.loop-tuple.tuple-index c.tuple-item.result _ _ c.loop-tuple.invariant.added (omega arith) c.tuple-item.is
          (rw c.as_slice.ensures at c.in_ok-row.ensures.ok));
      room = omega arith;
      last = λ _. omega arith;
    }
