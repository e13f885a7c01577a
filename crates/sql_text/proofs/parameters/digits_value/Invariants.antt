use Rattle.std.proofs.Common.{◌≡◌, ◌≤◌, drop}
use Rattle.sql_text.specs.declared.limits.TheConstants.{MAX_PARAMETERS}
use Rattle.sql_text.specs.Parameters.{digits_value}
use Rattle.sql_text.proofs.parameters.digits_value.Given as goal

abbrev pub invariant-loop-digit : goal.invariant-loop-digit
invariant-loop-digit l = record {
  rest : digits_value l.value (drop l.digit-index l.digits) ≡ digits_value 0 l.digits;
  small : l.value ≤ MAX_PARAMETERS;
}
