use Rattle.std.proofs.Common.{◌≡◌, drop}
use Rattle.keeper_formulas.specs.Formulas.{assigned}
use Rattle.memory_keeper.proofs.rows.assigned.Given as goal

abbrev pub invariant-loop-set : goal.invariant-loop-set
invariant-loop-set l = assigned l.old l.row.items (drop l.set-index l.sets) ≡ assigned l.old l.initial.row.items l.sets
