use Rattle.std.proofs.Common.{◌≡◌, ◌+◌, take}
use Rattle.engine_core.specs.Results.{values_size}
use Rattle.memory_keeper.proofs.select.size_left.Given as goal

abbrev pub invariant-loop-value : goal.invariant-loop-value
invariant-loop-value l = l.rest + values_size (take l.value-index l.row) ≡ l.left
