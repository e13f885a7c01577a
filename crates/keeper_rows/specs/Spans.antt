-- Places of rows among which a condition chooses, so that the others need no look.
use Rattle.std.specs.Prelude.{◌≡◌, ◌≤◌, Bool, true, false, not, List, ◌++◌, length, take, drop, Option, Result, Ok, Err}
use Rattle.std.specs.List.{list_any, list_all}
use Rattle.keeper_formulas.specs.declared.fail.Refusal.{Refusal}
use Rattle.keeper_formulas.specs.declared.formulas.Equation.{Equation}
use Rattle.keeper_rows.specs.declared.spans.PlaceSpan.{PlaceSpan}
use Rattle.keeper_rows.specs.declared.row.Row.{Row}
use Rattle.keeper_rows.specs.Chosen.{is_chosen}

-- the places are those of rows, and no row at another place passes the test
pub record Encloses (test : Row → Bool) (span : PlaceSpan) (rows : List Row) : Type 0 where
  pub ordered : span.from ≤ span.to
  pub within : span.to ≤ length rows
  pub before : list_any test (take span.from rows) ≡ false
  pub behind : list_any test (drop span.to rows) ≡ false

abbrev pub is_ok_false : Result Bool Refusal → Bool
is_ok_false (Ok chosen) = not chosen
is_ok_false (Err refusal) = false

-- the row isn't chosen, and nothing is refused on it
abbrev pub is_passed : Option Equation → Row → Bool
is_passed condition row = is_ok_false (is_chosen condition row)

-- the places are those of rows, and no row at another place is chosen
pub record Spans (condition : Option Equation) (span : PlaceSpan) (rows : List Row) : Type 0 where
  pub ordered : span.from ≤ span.to
  pub within : span.to ≤ length rows
  pub before : list_all (is_passed condition) (take span.from rows) ≡ true
  pub behind : list_all (is_passed condition) (drop span.to rows) ≡ true

-- the rows with others in the place of those at some places
abbrev pub replaced : List Row → PlaceSpan → List Row → List Row
replaced rows span news = take span.from rows ++ news ++ drop span.to rows
