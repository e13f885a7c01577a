use Rattle.std.proofs.Common.{arith}
use Rattle.memory_keeper.specs.Tables.{tuple_of}
use Rattle.keeper_formulas.specs.Each.{each}
use Rattle.keeper_formulas.proofs.EachLemmas.{each_more, refuses_each, err_refused}
use Rattle.memory_keeper.proofs.insert.tuples_of.Goals as goal

pub returns-in_err-equations-clause-err : goal.returns-in_err-equations-clause-err
returns-in_err-equations-clause-err c =
    let f = tuple_of c.args.bound.now c.args.places.now in
    err_refused (each f c.args.tuples.now) _ _ c.from_residual.ensures.1
    (refuses_each f c.args.tuples.now c.loop-tuple.tuple-index c.tuple-item.result _ _ c.loop-tuple.invariant (omega arith) c.tuple-item.is
    (rw c.as_slice.ensures at c.in_err-equations.ensures))

pub loop-tuple-preserved : goal.loop-tuple-preserved
loop-tuple-preserved c =
    let f = tuple_of c.args.bound.now c.args.places.now in
    rw c.in_ok-push.ensures.items
    (each_more f c.args.tuples.now c.loop-tuple.tuple-index c.tuple-item.result _ _ c.loop-tuple.invariant (omega arith) c.tuple-item.is
    (rw c.as_slice.ensures at c.in_ok-equations.ensures))
