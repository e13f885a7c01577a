-- The constraint of a key: which keys are taken, and whether rows keep it.
use Rattle.std.specs.Prelude.{ℕ, Bool, true, false, not, ◌&&◌, ◌||◌, List, [], ◌∷◌, ◌++◌, Option, Some, None}
use Rattle.std.specs.List.{list_any}
use Rattle.hrana_value.specs.declared.value.Value.{Value}
use Rattle.keeper_rows.specs.declared.row.Row.{Row}
use Rattle.keeper_formulas.specs.Values.{value_at, is_null, is_equal}

-- a row has this key
abbrev pub has_key : ℕ → List Row → Value → Bool
has_key place rows value = list_any (λ row. is_equal (value_at row.values place) value) rows

-- the key is null, or that of a row
abbrev pub is_taken : ℕ → List Row → Value → Bool
is_taken place rows value = is_null value || has_key place rows value

-- the key of a new row is null, or that of a row that is there
abbrev pub breaks_key : Option ℕ → List Row → List Value → Bool
breaks_key None rows values = false
breaks_key (Some place) rows values = is_taken place rows (value_at values place)

-- no row breaks the key of those before it
abbrev pub keeps_key : Option ℕ → List Row → List Row → Bool
keeps_key key before [] = true
keeps_key key before (row ∷ rows) = not (breaks_key key before row.values) && keeps_key key (before ++ row ∷ []) rows
