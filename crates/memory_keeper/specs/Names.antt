-- The places of tables by their names.
use Rattle.std.specs.Prelude.{◌≡◌, ℕ, List, Option, IfSome}
use Rattle.std.specs.List.{position}
use Rattle.std.specs.Str.{str_eq_ignore_ascii_case, str_to_ascii_lowercase}
use Rattle.memory_keeper.specs.declared.names.TableNames.{TableNames}
use Rattle.memory_keeper.specs.declared.tables.Table.{Table}
use Rattle.keeper_rows.specs.Keys.{value_of_bytes}

-- the place of the table of a name; names compare without regard to ASCII case
abbrev pub table_place : List Table → List ℕ → Option ℕ
table_place db name = position (λ t. str_eq_ignore_ascii_case t.name name) db

-- the place that the map has for a name
abbrev pub place_of_name : TableNames → List ℕ → Option ℕ
place_of_name names name = value_of_bytes names.places (str_to_ascii_lowercase name)

-- the map finds each table by its name, and no others
abbrev pub HasNamesOf : TableNames → List Table → Type 0
HasNamesOf names tables = (name : List ℕ) → place_of_name names name ≡ table_place tables name

-- the map, if there is one, finds each table by its name
abbrev pub FindsTables : Option TableNames → List Table → Type 0
FindsTables names tables = IfSome names (λ n. HasNamesOf n tables)
