use Rattle.std.proofs.Common.{◌≡◌, Ok, take}
use Rattle.keeper_rows.specs.Chosen.{chosen_rows}
use Rattle.memory_keeper.proofs.select.chosen_rows.Given as goal

abbrev pub invariant-loop-row : goal.invariant-loop-row
invariant-loop-row l = chosen_rows l.picture l.condition (take l.row-index l.rows) ≡ Ok l.shown
