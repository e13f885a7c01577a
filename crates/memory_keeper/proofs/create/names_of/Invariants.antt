use Rattle.std.proofs.Common.{◌≡◌, take, map}
use Rattle.memory_keeper.proofs.create.names_of.Given as goal

abbrev pub invariant-loop-col : goal.invariant-loop-col
invariant-loop-col l = l.names ≡ map (λ col. col.name) (take l.col-index l.cols)
