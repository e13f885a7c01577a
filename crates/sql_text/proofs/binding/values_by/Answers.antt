use Rattle.std.proofs.Common.{arith}
use Rattle.std.proofs.lemmas.Result.{err_from_is_err_and}
use Rattle.sql_text.proofs.BindLemmas.{goes_more, goes_refused}
use Rattle.sql_text.proofs.binding.values_by.Goals as goal

pub returns-in_err-value_of : goal.returns-in_err-value_of
returns-in_err-value_of c = λ named last.
    let p = err_from_is_err_and c.from_residual-in_err-value_of.result c.from_residual-in_err-value_of.ensures.1 in
    rw (p.1, p.2) (goes_refused c.args.parameters.now c.args.args.now c.args.table.now c.loop-number.number c.greatest-most.result c.from.result c.value_given-given.result (omega arith) c.greatest-most.ensures.small c.from.ensures c.value_given-given.ensures named c.loop-number.values _ last c.in_err-value_of.ensures (c.loop-number.invariant named last))

pub loop-number-preserved : goal.loop-number-preserved
loop-number-preserved c = λ named last.
    goes_more c.args.parameters.now c.args.args.now c.args.table.now c.loop-number.number c.greatest-most.result c.from.result c.value_given-given.result (omega arith) c.greatest-most.ensures.small c.from.ensures c.value_given-given.ensures named c.loop-number.values c.push.new.self c.in_ok-value_of.field-0 last c.in_ok-value_of.ensures c.in_ok-push.ensures.ok (c.loop-number.invariant named last)
