use Rattle.std.proofs.Common.{◌≡◌, ◌-◌}
use Rattle.sql_text.specs.Parameters.{unnamed}
use Rattle.sql_text.proofs.parameter_table.ParameterTable.of_unnamed.Given as goal

abbrev pub invariant-loop-number : goal.invariant-loop-number
invariant-loop-number l = l.table ≡ unnamed (l.number - 1)
