use Rattle.std.proofs.Common.{◌≡◌, take, map}
use Rattle.memory_keeper.specs.Tables.{named}
use Rattle.memory_keeper.proofs.select.cols_of_items.Given as goal

abbrev pub invariant-loop-item : goal.invariant-loop-item
invariant-loop-item l = l.cols ≡ map named (map (λ item. item.text) (take l.item-index l.items))
