-- Units one after another: between the `Began` of a unit and its end stands no entry of another one.
use Rattle.std.specs.Prelude.{ℕ, Bool, true, false, not, ◌&&◌, ◌||◌, nat_eq, List, [], ◌∷◌, Some, None}
use Rattle.serial_order.specs.Journal.{Entry, Alone, Began, Ran, Denied, Ended, Failed}

-- whether an entry is of another unit than this one; a statement alone is a unit by itself, and a failure that names no unit is of none
abbrev pub is_of_another : {S A : Type 0} → ℕ → Entry S A → Bool
is_of_another unit (Alone stream stmt answer wrote) = true
is_of_another unit (Began its stream) = not (nat_eq its unit)
is_of_another unit (Ran its stmt answer) = not (nat_eq its unit)
is_of_another unit (Denied its deny) = not (nat_eq its unit)
is_of_another unit (Ended its how) = not (nat_eq its unit)
is_of_another unit (Failed stream None cause) = false
is_of_another unit (Failed stream (Some its) cause) = not (nat_eq its unit)

-- whether an entry ends this unit
abbrev pub ends : {S A : Type 0} → ℕ → Entry S A → Bool
ends unit (Ended its how) = nat_eq its unit
ends unit (Failed stream (Some its) cause) = nat_eq its unit
ends unit entry = false

-- whether no entry is of another unit, up to the end of this one
unfoldable pub has_the_turn : {S A : Type 0} → ℕ → List (Entry S A) → Bool
has_the_turn unit [] = true
has_the_turn unit (entry ∷ rest) = not (is_of_another unit entry) && (ends unit entry || has_the_turn unit rest)

-- whether no entry of another unit stands between the `Began` of a unit and its end
unfoldable pub one_after_another : {S A : Type 0} → List (Entry S A) → Bool
one_after_another [] = true
one_after_another (Began unit stream ∷ rest) = has_the_turn unit rest && one_after_another rest
one_after_another (entry ∷ rest) = one_after_another rest
