use Rattle.std.proofs.Common.{◌≡◌, replicate}
use Rattle.hrana_value.specs.declared.value.Value.TheVariants.{Null}
use Rattle.memory_keeper.proofs.insert.nulls.Given as goal

abbrev pub invariant-loop : goal.invariant-loop
invariant-loop l = l.row.items ≡ replicate l.counter Null
