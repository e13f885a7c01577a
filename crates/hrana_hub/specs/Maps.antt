-- Maps by number, as the lists of their entries in rising number.
use Rattle.std.specs.Prelude.{◌≡◌, ◌<◌, ◌≤◌, ◌&&◌, ℕ, ℤ, Bool, cond, List, [], ◌∷◌, Option, None, Some, length, get_or, Result, Ok, Err}
use Rattle.std.specs.Ordering.{nat_cmp, int_cmp}
use Rattle.std.specs.Map.{lookup, set_value, remove_entry}
use Rattle.std.specs.BTreeMap.{is_at, insert_entry}

abbrev pub Numbered : Type 0 → Type 0
Numbered A = List (ℕ × A)

-- what stands at this number
abbrev pub at : {A : Type 0} → ℕ → Numbered A → Option A
at n entries = lookup (is_at (nat_cmp n)) entries

-- where something stands at the number, it is now this
abbrev pub put : {A : Type 0} → ℕ → A → Numbered A → Numbered A
put n x entries = set_value (is_at (nat_cmp n)) entries x

-- this stands at the number, and is put at its place
abbrev pub placed : {A : Type 0} → ℕ → A → Numbered A → Numbered A
placed n x entries = insert_entry nat_cmp entries n x

-- nothing stands at the number
abbrev pub without : {A : Type 0} → ℕ → Numbered A → Numbered A
without n entries = remove_entry (is_at (nat_cmp n)) entries

-- this stands at the number, where it is there
abbrev pub and_left : {A : Type 0} → ℕ → Option A → Numbered A → Numbered A
and_left n None entries = entries
and_left n (Some x) entries = (n, x) ∷ entries

-- what stood at the number has become this, or is gone
abbrev pub left_at : {A : Type 0} → ℕ → Option A → Numbered A → Numbered A
left_at n None entries = without n entries
left_at n (Some x) entries = put n x entries

-- each has become another, or is gone
abbrev pub those_left : {A : Type 0} → (A → Option A) → Numbered A → Numbered A
those_left f [] = []
those_left f (entry ∷ entries) = and_left entry.0 (f entry.1) (those_left f entries)

-- the lowest number
abbrev pub first_number : {A : Type 0} → Numbered A → Option ℕ
first_number [] = None
first_number (entry ∷ entries) = Some entry.0

-- the first whose number is within a bound, and which passes a test
abbrev pub first_that : {A : Type 0} → (ℕ → Bool) → (A → Bool) → Numbered A → Option ℕ
first_that within test [] = None
first_that within test (entry ∷ entries) = cond (within entry.0 && test entry.1) (Some entry.0) (first_that within test entries)

-- ---- the ids that a client gives

abbrev pub Ids : Type 0
Ids = List (ℤ × ℕ)

abbrev pub id_at : ℤ → Ids → Option ℕ
id_at id ids = lookup (is_at (int_cmp id)) ids

abbrev pub id_placed : ℤ → ℕ → Ids → Ids
id_placed id n ids = insert_entry int_cmp ids id n

abbrev pub without_id : ℤ → Ids → Ids
without_id id ids = remove_entry (is_at (int_cmp id)) ids

-- ---- places in the list

-- the entry at this place is that of the number
pub record IsPlaceOf {A : Type 0} (n : ℕ) (entries : Numbered A) (place : ℕ) : Type 0 where
  pub within : place < length entries
  pub below : (j : ℕ) (d : ℕ × A) → j < place → (get_or entries j d).0 < n
  pub here : (d : ℕ × A) → (get_or entries place d).0 ≡ n

-- the numbers before this place are less, and the others more
pub record IsGapFor {A : Type 0} (n : ℕ) (entries : Numbered A) (place : ℕ) : Type 0 where
  pub within : place ≤ length entries
  pub below : (j : ℕ) (d : ℕ × A) → j < place → (get_or entries j d).0 < n
  pub above : (j : ℕ) (d : ℕ × A) → place ≤ j → j < length entries → n < (get_or entries j d).0

-- the place of the number, or the place where it would be put
abbrev pub IsSearched : {A : Type 0} → ℕ → Numbered A → Result ℕ ℕ → Type 0
IsSearched n entries (Ok place) = IsPlaceOf n entries place
IsSearched n entries (Err place) = IsGapFor n entries place
