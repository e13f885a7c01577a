-- Which rows a condition chooses, and what is shown of them.
use Rattle.std.specs.Prelude.{ℕ, pos, Bool, true, false, not, List, [], ◌∷◌, count_by, Option, Some, None, Result, Ok, Err}
use Rattle.hrana_value.specs.declared.value.Value.{Value}
use Rattle.hrana_value.specs.declared.value.Value.TheVariants.{Integer}
use Rattle.keeper_formulas.specs.declared.fail.Refusal.{Refusal}
use Rattle.keeper_formulas.specs.declared.formulas.Equation.{Equation}
use Rattle.keeper_formulas.specs.declared.formulas.Picture.{Picture}
use Rattle.keeper_formulas.specs.declared.formulas.Picture.TheVariants as picture
use Rattle.keeper_rows.specs.declared.row.Row.{Row}
use Rattle.keeper_formulas.specs.Each.{map_ok, each, somes}
use Rattle.keeper_formulas.specs.Formulas.{formula_value, is_met}

-- a row is chosen where there is no WHERE, or it is met
abbrev pub is_chosen : Option Equation → Row → Result Bool Refusal
is_chosen None row = Ok true
is_chosen (Some condition) row = is_met row.values condition

-- how many rows are chosen
abbrev pub chosen_count : Option Equation → List Row → Result ℕ Refusal
chosen_count condition rows = map_ok (count_by (λ chosen. chosen)) (each (is_chosen condition) rows)

abbrev pub is_ok_true : Result Bool Refusal → Bool
is_ok_true (Ok chosen) = chosen
is_ok_true (Err refusal) = false

-- the row isn't chosen
abbrev pub stays : Option Equation → Row → Bool
stays condition row = not (is_ok_true (is_chosen condition row))

-- ---- what is shown

-- what a step gives on a chosen row
abbrev pub on_chosen : {A : Type 0} → Result Bool Refusal → Result A Refusal → Result (Option A) Refusal
on_chosen (Ok true) given = map_ok Some given
on_chosen (Ok false) given = Ok None
on_chosen (Err refusal) given = Err refusal

abbrev pub shown_values : Picture → List Value → Result (List Value) Refusal
shown_values picture.All row = Ok row
shown_values picture.Count row = Ok []
shown_values (picture.List formulas) row = each (formula_value row) formulas

-- what is shown of a row, if it is chosen
abbrev pub row_shown : Picture → Option Equation → Row → Result (Option (List Value)) Refusal
row_shown picture condition row = on_chosen (is_chosen condition row) (shown_values picture row.values)

abbrev pub chosen_rows : Picture → Option Equation → List Row → Result (List (List Value)) Refusal
chosen_rows picture condition rows = map_ok somes (each (row_shown picture condition) rows)

abbrev pub shown_rows : Picture → Option Equation → List Row → Result (List (List Value)) Refusal
shown_rows picture.Count condition rows = map_ok (λ count. (Integer (pos count) ∷ []) ∷ []) (chosen_count condition rows)
shown_rows shown condition rows = chosen_rows shown condition rows
