use Rattle.std.proofs.Common.{◌≡◌, take, map}
use Rattle.memory_keeper.specs.Tables.{named}
use Rattle.memory_keeper.proofs.select.cols_of_names.Given as goal

abbrev pub invariant-loop-name : goal.invariant-loop-name
invariant-loop-name l = l.cols ≡ map named (take l.name-index l.names)
