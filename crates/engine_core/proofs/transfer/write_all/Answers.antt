use Rattle.std.proofs.Common.{arith}
use Rattle.engine_core.proofs.BytesLemmas.{Appends-take_more, AppendsFront-take, within_rest}
use Rattle.engine_core.proofs.transfer.write_all.Goals as goal

pub loop-done-preserved : goal.loop-done-preserved
loop-done-preserved g c = record {
  within = within_rest _ _ _ c.loop-done.invariant.within c.in-Ok.ensures.bound;
  written = Appends-take_more _ _ _ _ _ _ c.loop-done.invariant.written c.in-Ok.ensures.bytes;
  later = omega (arith, c.in-Ok.ensures.cause.later);
}

pub returns-in_default-clause-err : goal.returns-in_default-clause-err
returns-in_default-clause-err g c = AppendsFront-take _ _ _ _ _ c.loop-done.invariant.written c.in_default.ensures.bytes
