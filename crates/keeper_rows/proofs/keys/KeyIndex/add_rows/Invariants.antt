use Rattle.std.proofs.Common.{◌≡◌, List, Some, ◌++◌, take, drop}
use Rattle.keeper_rows.specs.declared.row.Row.{Row}
use Rattle.keeper_rows.specs.Keys.{HasKeys, keys_at}
use Rattle.keeper_rows.specs.Constraint.{keeps_key}
use Rattle.keeper_rows.proofs.keys.KeyIndex.add_rows.Given as goal

abbrev pub invariant-loop-row : goal.invariant-loop-row
invariant-loop-row l = record {
  kept : (before : List Row) → HasKeys l.initial.self (keys_at l.initial.self.column before) → keeps_key (Some l.initial.self.column) (before ++ take l.row-index l.rows) (drop l.row-index l.rows) ≡ keeps_key (Some l.initial.self.column) before l.rows;
  keys : (before : List Row) → HasKeys l.initial.self (keys_at l.initial.self.column before) → HasKeys l.self (keys_at l.initial.self.column (before ++ take l.row-index l.rows));
  column : l.self.column ≡ l.initial.self.column;
}
