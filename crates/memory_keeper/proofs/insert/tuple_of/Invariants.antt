use Rattle.std.proofs.Common.{◌≡◌, Ok, take}
use Rattle.std.specs.List.{zip}
use Rattle.keeper_formulas.specs.Each.{each}
use Rattle.memory_keeper.specs.Tables.{tuple_equation}
use Rattle.memory_keeper.proofs.insert.tuple_of.Given as goal

abbrev pub invariant-loop-index : goal.invariant-loop-index
invariant-loop-index l = each (tuple_equation l.bound) (take l.index (zip l.places l.exprs)) ≡ Ok l.equations
