use Rattle.std.proofs.Common.{arith}
use Rattle.keeper_formulas.specs.Each.{each}
use Rattle.keeper_formulas.proofs.EachLemmas.{each_more, refuses_each, gives_refused}
use Rattle.keeper_formulas.proofs.resolve.resolve_each.Goals as goal

pub returns-in_err-resolve : goal.returns-in_err-resolve
returns-in_err-resolve g c =
    gives_refused (each (g.T.Resolve.meant c.args.columns.now c.args.bound.now) c.args.sources.now) _ _ c.from_residual.ensures.1
    (refuses_each (g.T.Resolve.meant c.args.columns.now c.args.bound.now) c.args.sources.now _ _ _ _ c.loop-source.invariant (omega arith) c.source-item.is c.in_err-resolve.ensures)

pub loop-source-preserved : goal.loop-source-preserved
loop-source-preserved g c =
    rw c.in_ok-push.ensures.ok
    (each_more (g.T.Resolve.meant c.args.columns.now c.args.bound.now) c.args.sources.now _ _ _ _ c.loop-source.invariant (omega arith) c.source-item.is c.in_ok-resolve.ensures)
