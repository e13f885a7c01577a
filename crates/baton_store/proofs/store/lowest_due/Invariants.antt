use Rattle.std.proofs.Common.{take}
use Rattle.baton_store.specs.Batons.{IsDueAmong}
use Rattle.baton_store.proofs.store.lowest_due.Given as goal

abbrev pub invariant-loop-baton : goal.invariant-loop-baton
invariant-loop-baton l = IsDueAmong (take l.baton-index l.unused) l.now l.lowest
