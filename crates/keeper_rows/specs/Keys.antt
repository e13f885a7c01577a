-- The keys of rows, and an index by them.
use Rattle.std.specs.Prelude.{◌≡◌, ℕ, ◌+◌, ◌<◌, ◌≤◌, true, nat_lt, List, [], length, get_or, map, cond, is_some, Option, Some, None, Vec, IfSome}
use Rattle.std.specs.BTreeMap.{BTreeMap, get, get_by}
use Rattle.std.specs.Cmp.Lexicographic.{slice_cmp}
use Rattle.std.specs.Ordering.{int_cmp, nat_cmp}
use Rattle.hrana_value.specs.declared.value.Value.{Value}
use Rattle.hrana_value.specs.declared.value.Value.TheVariants.{Null, Integer, Text, Blob}
use Rattle.keeper_rows.specs.declared.keys.KeyIndex.{KeyIndex}
use Rattle.keeper_rows.specs.declared.row.Row.{Row}
use Rattle.keeper_formulas.specs.Values.{value_at, is_equal}
use Rattle.keeper_formulas.specs.declared.formulas.Equation.{Equation}
use Rattle.keeper_rows.specs.Chosen.{stays}
use Rattle.keeper_rows.specs.Constraint.{keeps_key}

-- the value that a map has for the bytes of a key
abbrev pub value_of_bytes : {A V : Type 0} → BTreeMap (Vec ℕ A) V → List ℕ → Option V
value_of_bytes map bytes = get_by (λ key. slice_cmp nat_cmp bytes key.items) map

-- the rowid that the index has for a key
abbrev pub rowid_of_key : KeyIndex → Value → Option ℕ
rowid_of_key index Null = None
rowid_of_key index (Integer number) = get int_cmp index.integers number
rowid_of_key index (Text text) = value_of_bytes index.texts text
rowid_of_key index (Blob bytes) = value_of_bytes index.blobs bytes

-- the keys of rows
abbrev pub keys_of : ℕ → List Row → List Value
keys_of column rows = map (λ row. value_at row.values column) rows

-- the key of the row at a place, null behind the last
abbrev pub keys_at : ℕ → List Row → ℕ → Value
keys_at column rows place = get_or (keys_of column rows) place Null

-- the index has each of the keys, and no others; no two are equal, and a null key is none
pub record HasKeys (index : KeyIndex) (keys : ℕ → Value) : Type 0 where
  pub has : (key : Value) (place : ℕ) → is_equal (keys place) key ≡ true → is_some (rowid_of_key index key) ≡ true
  pub finds : (key : Value) → is_some (rowid_of_key index key) ≡ true → (place : ℕ) × (is_equal (keys place) key ≡ true)
  pub apart : (key : Value) (place other : ℕ) → is_equal (keys place) key ≡ true → is_equal (keys other) key ≡ true → place ≡ other

-- the index, if there is one, has the keys of the rows, and the rows keep the constraint of the key
abbrev pub Indexes : Option KeyIndex → List Row → Type 0
Indexes index rows = IfSome index (λ i. HasKeys i (keys_at i.column rows) × (keeps_key (Some i.column) [] rows ≡ true))

-- ---- rows that go

-- from a place on some rows go if a condition chooses them, and the other keys stay
pub record Leaves (condition : Option Equation) (column from : ℕ) (rows : List Row) (old left : ℕ → Value) : Type 0 where
  pub ahead : (place : ℕ) → place < from → left place ≡ old place
  pub was : (i : ℕ) (row : Row) → i < length rows → row ≡ get_or rows i row → old (from + i) ≡ value_at row.values column
  pub is : (i : ℕ) (row : Row) → i < length rows → row ≡ get_or rows i row → left (from + i) ≡ cond (stays condition row) (old (from + i)) Null
  pub behind : (place : ℕ) → from + length rows ≤ place → left place ≡ old place

-- ---- new keys

-- the old key where the new one is the same, else none
abbrev pub stay : Value → Value → Value
stay old new = cond (is_equal new old) old Null

-- from a place on the keys of some rows become those of others, and the other keys stay
pub record Moves (column from : ℕ) (olds news : List Row) (old new : ℕ → Value) : Type 0 where
  pub ahead : (place : ℕ) → place < from → new place ≡ old place
  pub was : (i : ℕ) (row : Row) → i < length olds → row ≡ get_or olds i row → old (from + i) ≡ value_at row.values column
  pub is : (i : ℕ) (row : Row) → i < length olds → row ≡ get_or news i row → new (from + i) ≡ value_at row.values column
  pub behind : (place : ℕ) → from + length olds ≤ place → new place ≡ old place

-- the keys, some of which are others up to a place
abbrev pub changed_up_to : ℕ → (ℕ → Value) → (ℕ → Value) → ℕ → Value
changed_up_to count old new place = cond (nat_lt place count) (new place) (old place)
