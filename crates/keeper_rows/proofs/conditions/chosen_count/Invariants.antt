use Rattle.std.proofs.Common.{◌≡◌, ◌≤◌, Ok, take}
use Rattle.keeper_rows.specs.Chosen.{chosen_count}
use Rattle.keeper_rows.proofs.conditions.chosen_count.Given as goal

abbrev pub invariant-loop-row : goal.invariant-loop-row
invariant-loop-row l = record {
  counted : chosen_count l.condition (take l.row-index l.rows) ≡ Ok l.count;
  within : l.count ≤ l.row-index;
}
