use Rattle.std.proofs.Common.{◌≡◌, Ok, take}
use Rattle.keeper_formulas.specs.Each.{each}
use Rattle.memory_keeper.specs.Tables.{tuple_of}
use Rattle.memory_keeper.proofs.insert.tuples_of.Given as goal

abbrev pub invariant-loop-tuple : goal.invariant-loop-tuple
invariant-loop-tuple l = each (tuple_of l.bound l.places) (take l.tuple-index l.tuples) ≡ Ok l.resolved.items
