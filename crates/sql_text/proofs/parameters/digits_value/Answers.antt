use Rattle.std.proofs.Common.{◌≡◌, ◌+◌, ◌-◌, ◌*◌, ℕ, get_or, drop, arith}
use Rattle.std.proofs.lemmas.List.{at_drop_more}
use Rattle.sql_text.specs.Parameters.{digits_value}
use Rattle.sql_text.proofs.ParameterLemmas.{digits_value_least}
use Rattle.sql_text.proofs.parameters.digits_value.Goals as goal

pub returns-then-value-gt-MAX_PARAMETERS : goal.returns-then-value-gt-MAX_PARAMETERS
returns-then-value-gt-MAX_PARAMETERS c =
    let value : ℕ = c.loop-digit.value in
    let here : ℕ = value * 10 + (get_or c.args.digits.now c.loop-digit.digit-index 0 - 48) in
    let step : digits_value value (drop c.loop-digit.digit-index c.args.digits.now) ≡ digits_value here (drop (c.loop-digit.digit-index + 1) c.args.digits.now) = at_drop_more (digits_value value) c.args.digits.now c.loop-digit.digit-index 0 c.loop-digit-test.true in
    let least = digits_value_least here (drop (c.loop-digit.digit-index + 1) c.args.digits.now) in
    omega (arith, step, least, c.loop-digit.invariant.rest, c.saturating_sub.ensures, c.from.ensures)
