use Rattle.std.proofs.Common.{◌≡◌, ℕ, ◌+◌}
use Rattle.hrana_value.specs.declared.value.Value.{Value}
use Rattle.keeper_rows.specs.Keys.{HasKeys, Leaves, changed_up_to}
use Rattle.keeper_rows.proofs.leaving.remove_rows.Given as goal

abbrev pub invariant-loop-row : goal.invariant-loop-row
invariant-loop-row l = record {
  removed : (from : ℕ) (old left : ℕ → Value) → Leaves l.condition l.initial.index.column from l.rows old left → HasKeys l.initial.index old → HasKeys l.index (changed_up_to (from + l.row-index) old left);
  column : l.index.column ≡ l.initial.index.column;
}
