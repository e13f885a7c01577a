-- How large a result may be.
use Rattle.std.specs.Prelude.{ℕ, ◌+◌, ◌≤◌, List, length, sum_by}
use Rattle.hrana_value.specs.declared.value.Value.{Value}
use Rattle.hrana_value.specs.declared.value.Value.TheVariants.{Null, Integer, Text, Blob}
use Rattle.hrana_stmt.specs.declared.results.StmtResult.{StmtResult}
use Rattle.engine_core.specs.declared.limits.TheConstants.{MAX_ROWS, MAX_RESULT_BYTES}

-- how much a value counts in a result, in bytes
abbrev pub value_size : Value → ℕ
value_size Null = 8
value_size (Integer number) = 8
value_size (Text text) = 8 + length text
value_size (Blob bytes) = 8 + length bytes

abbrev pub values_size : List Value → ℕ
values_size values = sum_by value_size values

abbrev pub rows_size : List (List Value) → ℕ
rows_size rows = sum_by values_size rows

-- a result is within its limits
pub record IsSmall (given : StmtResult) : Type 0 where
  pub rows : length given.rows ≤ MAX_ROWS
  pub bytes : rows_size given.rows ≤ MAX_RESULT_BYTES
