-- Rows of a table of names.
use Rattle.std.specs.Prelude.{◌≡◌, ℕ, List, ◌<◌, length, map, get_or, []}
use Rattle.std.specs.Borrow.{Bor}

-- the texts of a table, row by row
abbrev pub rows_of : List (Bor (List ℕ)) → List (List ℕ)
rows_of rows = map (λ r. r.now) rows

-- the row has this text
abbrev pub IsRow : List (Bor (List ℕ)) → ℕ → List ℕ → Type 0
IsRow rows i text = get_or (rows_of rows) i [] ≡ text

-- no row has this text
abbrev pub IsNoRow : List (Bor (List ℕ)) → List ℕ → Type 0
IsNoRow rows text = (i : ℕ) → i < length rows → IsRow rows i text → ⊥

-- no two rows have one text
abbrev pub RowsDiffer : List (List ℕ) → Type 0
RowsDiffer rows = (i j : ℕ) → i < length rows → j < length rows → get_or rows i [] ≡ get_or rows j [] → i ≡ j
