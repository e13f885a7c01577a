-- The values that arguments give the parameters of a text.
use Rattle.std.specs.Prelude.{◌==◌, ◌+◌, ◌-◌, ◌≡◌, ◌≤◌, ℕ, zero, suc, nat_le, Bool, true, false, ◌&&◌, List, [], ◌∷◌, length, map, drop, slice_index, slice_index_or, slice_get, Option, Some, None, Result, Ok, Err, is_some, is_none, unwrap_or, if◌then◌else◌}
use Rattle.std.specs.Option.{option_or, option_copied}
use Rattle.std.specs.Borrow.{Bor}
use Rattle.std.specs.List.{list_all, find}
use Rattle.hrana_value.specs.declared.value.Value.{Value}
use Rattle.hrana_value.specs.declared.value.Value.TheVariants.{Null}
use Rattle.hrana_stmt.specs.declared.statements.NamedArg.{NamedArg}
use Rattle.sql_text.specs.declared.limits.TheConstants.{MAX_PARAMETERS}
use Rattle.sql_text.specs.declared.binding.BindFail.{BindFail}
use Rattle.sql_text.specs.declared.binding.BindFail.TheVariants as fail
use Rattle.sql_text.specs.Pieces.{pieces, is_prefix}
use Rattle.sql_text.specs.Spans.{unclosed_at}
use Rattle.sql_text.specs.Parameters.{Numbered, parameter_texts, all_fit, all_numbered, greatest, has_number, number_of_name}

-- A name with its sign meets the parameter of that name. Another is tried behind `:`, then `@`, then `$`.
abbrev pub number_met : List Numbered → List ℕ → Option ℕ
number_met ps name =
    if is_prefix (slice_index name 0) then number_of_name (slice_index name 0) (drop 1 name) ps
    else option_or (number_of_name 58 name ps) (option_or (number_of_name 64 name ps) (number_of_name 36 name ps))

abbrev pub is_number : Option ℕ → ℕ → Bool
is_number None n = false
is_number (Some m) n = m == n

-- the value of the last named argument that meets a number, or what was given before
abbrev pub last_given : List Numbered → ℕ → Option Value → List NamedArg → Option Value
last_given ps n given [] = given
last_given ps n given (arg ∷ args) = last_given ps n (if is_number (number_met ps arg.name) n then Some arg.value else given) args

-- a table has by number what named arguments gave
abbrev pub HasLast : List Numbered → List NamedArg → List (Option (Bor Value)) → Type 0
HasLast ps named table = (n : ℕ) → n ≤ MAX_PARAMETERS → option_copied (slice_index_or table n None) ≡ last_given ps n None named

-- the value of a number: that of the last named argument that meets it, else the positional argument of that number
abbrev pub value_given : List Numbered → List Value → List NamedArg → ℕ → Option Value
value_given ps args named n = option_or (last_given ps n None named) (slice_get args (n - 1))

-- so many numbers from one on
abbrev pub numbers_from : ℕ → ℕ → List ℕ
numbers_from n zero = []
numbers_from n (suc count) = n ∷ numbers_from (n + 1) count

-- the numbers of a text's values: 1 to the greatest
abbrev pub all_numbers : List Numbered → List ℕ
all_numbers ps = numbers_from 1 (greatest ps)

-- a number that occurs and has no value
abbrev pub is_missing : List Numbered → List Value → List NamedArg → ℕ → Bool
is_missing ps args named n = is_none (value_given ps args named n) && has_number ps n

-- a number that doesn't occur has its positional argument, or null
abbrev pub value_of : List Numbered → List Value → List NamedArg → ℕ → Value
value_of ps args named n = unwrap_or (value_given ps args named n) Null

-- the least number that occurs and has no value
abbrev pub first_missing : List Numbered → List Value → List NamedArg → Option ℕ
first_missing ps args named = find (is_missing ps args named) (all_numbers ps)

abbrev pub values_of : List Numbered → List Value → List NamedArg → List Value
values_of ps args named = map (value_of ps args named) (all_numbers ps)

-- no more positional arguments than numbers, and each named argument meets a parameter
abbrev pub all_expected : List Numbered → List Value → List NamedArg → Bool
all_expected ps args named = nat_le (length args) (greatest ps) && list_all (λ arg. is_some (number_met ps arg.name)) named

abbrev pub or_missing : Option ℕ → List Value → Result (List Value) BindFail
or_missing None values = Ok values
or_missing (Some n) values = Err (fail.Missing n)

-- the values of numbered parameters, or the refusal
abbrev pub bound_values : List Numbered → List Value → List NamedArg → Result (List Value) BindFail
bound_values ps args named =
    if all_expected ps args named then or_missing (first_missing ps args named) (values_of ps args named)
    else Err fail.Unexpected

-- the parameters of a text
abbrev pub parameters_of : List ℕ → List Numbered
parameters_of sql = all_numbered [] (parameter_texts (pieces sql))

-- whether the numbers of a text's parameters are all from 1 to the most
abbrev pub numbers_fit : List ℕ → Bool
numbers_fit sql = all_fit [] (parameter_texts (pieces sql))

-- the values of parameters whose numbers fit, or the refusal
abbrev pub bound_read : Bool → List Numbered → List Value → List NamedArg → Result (List Value) BindFail
bound_read fit ps args named = if fit then bound_values ps args named else Err fail.BadNumber

abbrev pub or_unclosed : Option ℕ → Result (List Value) BindFail → Result (List Value) BindFail
or_unclosed None bound = bound
or_unclosed (Some at) bound = Err (fail.Unclosed at)

-- the values that arguments give a text, or the first refusal in this order: a piece isn't closed, a number doesn't
-- fit, an argument isn't expected, a value is missing
unfoldable pub bound : List ℕ → List Value → List NamedArg → Result (List Value) BindFail
bound sql args named =
    or_unclosed (unclosed_at sql)
    (bound_read (numbers_fit sql) (parameters_of sql) args named)

-- an answer is the expected one, unless memory ran out
abbrev pub AnswersAs : Result (List Value) BindFail → Result (List Value) BindFail → Type 0
AnswersAs (Err fail.NoMemory) expected = Unit {0}
AnswersAs answer expected = expected ≡ answer

-- what one number is given: the value, or why there is none
abbrev pub ValueAs : Option Value → Bool → ℕ → Result Value BindFail → Type 0
ValueAs given occurs n (Ok value) = ((is_none given && occurs) ≡ false) × (value ≡ unwrap_or given Null)
ValueAs given occurs n (Err (fail.Missing m)) = (m ≡ n) × ((is_none given && occurs) ≡ true)
ValueAs given occurs n (Err fail.NoMemory) = Unit {0}
ValueAs given occurs n (Err failure) = ⊥
