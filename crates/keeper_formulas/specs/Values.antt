-- Values: at a place, their equality, their sums.
use Rattle.std.specs.Prelude.{ℕ, ℤ, pos, neg_ℤ, ◌^◌, ◌+ℤ◌, ◌-ℤ◌, int_lt, int_le, nat_eq, Bool, true, false, ◌&&◌, List, slice_get, Option, Some, None, Result, Ok, Err, if◌then◌else◌}
use Rattle.std.specs.Ordering.{int_eq}
use Rattle.std.specs.Cmp.Lexicographic.{pointwise}
use Rattle.hrana_value.specs.declared.value.Value.{Value}
use Rattle.hrana_value.specs.declared.value.Value.TheVariants.{Null, Integer, Text, Blob}
use Rattle.keeper_formulas.specs.declared.fail.Refusal.{Refusal}
use Rattle.keeper_formulas.specs.declared.fail.Refusal.TheVariants.{BadType, Overflow}

-- a value that may be missing
abbrev pub value_or_null : Option Value → Value
value_or_null None = Null
value_or_null (Some value) = value

-- the value at a place, null where there are fewer
abbrev pub value_at : List Value → ℕ → Value
value_at values place = value_or_null (slice_get values place)

abbrev pub is_null : Value → Bool
is_null Null = true
is_null _ = false

-- Two values are equal where both are of one kind and the same. Null equals nothing.
abbrev pub is_equal : Value → Value → Bool
is_equal (Integer m) (Integer n) = int_eq m n
is_equal (Text s) (Text t) = pointwise nat_eq s t
is_equal (Blob a) (Blob b) = pointwise nat_eq a b
is_equal left right = false

-- the number, where it is an i64
abbrev pub within_i64 : ℤ → Result Value Refusal
within_i64 number = if int_le (neg_ℤ (pos (2 ^ 63))) number && int_lt number (pos (2 ^ 63)) then Ok (Integer number) else Err Overflow

-- The sum or the difference: null where a side is null, else of two integers.
abbrev pub sum_of : Bool → Value → Value → Result Value Refusal
sum_of minus Null right = Ok Null
sum_of minus left Null = Ok Null
sum_of minus (Integer m) (Integer n) = within_i64 (if minus then m -ℤ n else m +ℤ n)
sum_of minus left right = Err BadType
