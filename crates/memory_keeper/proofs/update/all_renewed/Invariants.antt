use Rattle.std.proofs.Common.{◌≡◌, ◌≤◌, Ok, take, length}
use Rattle.memory_keeper.specs.Tables.{all_renewed}
use Rattle.memory_keeper.proofs.update.all_renewed.Given as goal

abbrev pub invariant-loop-row : goal.invariant-loop-row
invariant-loop-row l = record {
  renewed : all_renewed l.condition l.sets (take l.row-index l.rows) ≡ Ok (l.new_rows.items, l.count);
  within : l.count ≤ l.row-index;
  many : length l.new_rows.items ≡ l.row-index;
}
