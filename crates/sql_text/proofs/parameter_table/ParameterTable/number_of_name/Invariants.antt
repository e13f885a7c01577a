use Rattle.std.proofs.Common.{◌≡◌, drop}
use Rattle.sql_text.specs.Parameters.{number_of_name, table_from, texts_of}
use Rattle.sql_text.proofs.parameter_table.ParameterTable.number_of_name.Given as goal

abbrev pub invariant-loop-number : goal.invariant-loop-number
invariant-loop-number l = number_of_name l.prefix l.name (table_from l.number (drop l.number (texts_of l.self-inside.texts))) ≡ number_of_name l.prefix l.name (table_from 0 (texts_of l.self-inside.texts))
