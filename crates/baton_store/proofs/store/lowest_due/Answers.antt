use Rattle.std.proofs.Common.{take, refl}
use Rattle.baton_store.proofs.StoreLemmas.{due_step, due_rest}
use Rattle.baton_store.proofs.store.lowest_due.Goals as goal

pub loop-baton-preserved : goal.loop-baton-preserved
loop-baton-preserved c =
    due_step c.args.unused.now c.loop-baton.baton-index _ c.args.now c.lower_due-lowest.result c.loop-baton-test.true
    (c.lower_due-lowest.ensures (take c.loop-baton.baton-index c.args.unused.now) c.loop-baton.invariant)

pub returns-then-lives : goal.returns-then-lives
returns-then-lives c =
    due_rest c.args.unused.now c.loop-baton.baton-index _ c.args.now c.loop-baton.lowest (c.requires c.if-moments_rise.true) c.loop-baton-test.true (c.if-lives.ensures.0 refl) c.loop-baton.invariant
