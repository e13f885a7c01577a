use Rattle.std.proofs.Common.{sym}
use Rattle.std.proofs.lemmas.Bool.{leb-true}
use Rattle.baton_store.proofs.StoreLemmas.{rising_to}
use Rattle.baton_store.proofs.store.still_rise.Goals as goal

pub returns-then-moments_rise : goal.returns-then-moments_rise
returns-then-moments_rise c is =
    let rise = c.requires c.if-moments_rise.true in
    (rise, rising_to c.args.unused.now c.in-Some.last.now c.args.now rise (sym (c.in-Some.ensures.value)) (leb-true _ _ is))
