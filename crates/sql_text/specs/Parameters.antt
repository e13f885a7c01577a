-- The parameters of a text and their numbers, off the list of its pieces.
use Rattle.std.specs.Prelude.{◌≡◌, ◌==◌, ◌+◌, ◌-◌, ◌*◌, ◌≤◌, ℕ, zero, suc, max, nat_lt, nat_le, Bool, true, false, ◌&&◌, List, [], ◌∷◌, length, map, drop, slice_index, Option, Some, None, unwrap_or, if◌then◌else◌, All, Box}
use Rattle.std.specs.List.{list_any}
use Rattle.std.specs.Borrow.{Bor}
use Rattle.std.specs.Str.{bytes_eq}
use Rattle.std.specs.declared.alloc.Global.{Global}
use Rattle.sql_text.specs.declared.pieces.PieceKind.{PieceKind}
use Rattle.sql_text.specs.declared.pieces.PieceKind.TheVariants as kind
use Rattle.sql_text.specs.declared.limits.TheConstants.{MAX_PARAMETERS}
use Rattle.sql_text.specs.Pieces.{Token}

abbrev pub is_parameter : PieceKind → Bool
is_parameter kind.Parameter = true
is_parameter k = false

-- the texts of the parameters, in the order of the text
abbrev pub parameter_texts : List Token → List (List ℕ)
parameter_texts [] = []
parameter_texts (t ∷ tokens) = if is_parameter t.kind then t.bytes ∷ parameter_texts tokens else parameter_texts tokens

-- A parameter that came first with its number: the number, the sign before the name, and the name. Behind a `?` there
-- is no name, but perhaps digits. Parameters are listed in the order of their numbers.
pub record Numbered : Type 0 where
  pub number : ℕ
  pub prefix : ℕ
  pub name : List ℕ

-- the greatest number so far, 0 where there is none
abbrev pub greatest_from : ℕ → List Numbered → ℕ
greatest_from n [] = n
greatest_from n (p ∷ ps) = greatest_from (max n p.number) ps

abbrev pub greatest : List Numbered → ℕ
greatest ps = greatest_from 0 ps

abbrev pub has_number : List Numbered → ℕ → Bool
has_number ps n = list_any (λ p. p.number == n) ps

abbrev pub is_named : ℕ → List ℕ → Numbered → Bool
is_named prefix name p = p.prefix == prefix && bytes_eq p.name name

-- whether a text, perhaps an empty one, is a name behind a sign
abbrev pub is_name : ℕ → List ℕ → List ℕ → Bool
is_name prefix name text = nat_lt 0 (length text) && (slice_index text 0 == prefix && bytes_eq (drop 1 text) name)

-- the number of a name behind a sign; names compare byte by byte
abbrev pub number_of_name : ℕ → List ℕ → List Numbered → Option ℕ
number_of_name prefix name [] = None
number_of_name prefix name (p ∷ ps) = if is_named prefix name p then Some p.number else number_of_name prefix name ps

-- the value of decimal digits that follow a number
abbrev pub digits_value : ℕ → List ℕ → ℕ
digits_value n [] = n
digits_value n (d ∷ ds) = digits_value (n * 10 + (d - 48)) ds

-- `?` takes the greatest number so far and one, `?N` takes N
abbrev pub number_behind : List Numbered → List ℕ → ℕ
number_behind seen [] = greatest seen + 1
number_behind seen (d ∷ ds) = digits_value 0 (d ∷ ds)

-- the number that a parameter takes after others: a name that came before keeps its number
abbrev pub number_taken : List Numbered → List ℕ → ℕ
number_taken seen text =
    if slice_index text 0 == 63 then number_behind seen (drop 1 text)
    else unwrap_or (number_of_name (slice_index text 0) (drop 1 text) seen) (greatest seen + 1)

abbrev pub numbered : ℕ → List ℕ → Numbered
numbered n text = record { number = n; prefix = slice_index text 0; name = drop 1 text }

-- one more, in the order of the numbers
abbrev pub inserted : Numbered → List Numbered → List Numbered
inserted p [] = p ∷ []
inserted p (q ∷ qs) = if nat_lt p.number q.number then p ∷ q ∷ qs else q ∷ inserted p qs

-- the parameters so far, and one if its number is new
abbrev pub with_number : List Numbered → ℕ → List ℕ → List Numbered
with_number seen n text = if has_number seen n then seen else inserted (numbered n text) seen

abbrev pub with_parameter : List Numbered → List ℕ → List Numbered
with_parameter seen text = with_number seen (number_taken seen text) text

-- a number from 1 to the most
abbrev pub fits : ℕ → Bool
fits n = nat_lt 0 n && nat_le n MAX_PARAMETERS

-- a number, if it fits
abbrev pub number_within : ℕ → Option ℕ
number_within n = if fits n then Some n else None

-- the parameters so far, and one more if its number fits
abbrev pub with_fitting : List Numbered → List ℕ → List Numbered
with_fitting seen text = if fits (number_taken seen text) then with_parameter seen text else seen

-- whether the numbers of the parameters to come all fit
abbrev pub all_fit : List Numbered → List (List ℕ) → Bool
all_fit seen [] = true
all_fit seen (text ∷ texts) = fits (number_taken seen text) && all_fit (with_parameter seen text) texts

-- the parameters, one for each number that occurs
abbrev pub all_numbered : List Numbered → List (List ℕ) → List Numbered
all_numbered seen [] = seen
all_numbered seen (text ∷ texts) = all_numbered (with_parameter seen text) texts

-- the parameters of a table that has from some number on the text that came first with each, or nothing
abbrev pub table_from : ℕ → List (List ℕ) → List Numbered
table_from n [] = []
table_from n ([] ∷ texts) = table_from (n + 1) texts
table_from n ((b ∷ bs) ∷ texts) = numbered n (b ∷ bs) ∷ table_from (n + 1) texts

-- the texts of a table, without where they lie in memory
abbrev pub texts_of : List (Bor (List ℕ)) → List (List ℕ)
texts_of texts = map (λ text. text.now) texts

-- what is kept beside a table of parameters: their greatest number, and whether any may have a name
pub record IsKept (most : ℕ) (are_named : Bool) (texts : List (List ℕ)) : Type 0 where
  pub small : most ≤ MAX_PARAMETERS
  pub is_greatest : most ≡ greatest (table_from 0 texts)
  pub past : table_from (most + 1) (drop (most + 1) texts) ≡ []
  pub unnamed : are_named ≡ false → All (λ p. p.prefix ≡ 63) (table_from 0 texts)

-- so many `?` from some number on
abbrev pub unnamed_from : ℕ → ℕ → List Numbered
unnamed_from n zero = []
unnamed_from n (suc count) = numbered n (63 ∷ []) ∷ unnamed_from (n + 1) count

-- so many parameters that are a `?` and nothing else
abbrev pub unnamed : ℕ → List Numbered
unnamed count = unnamed_from 1 count

-- the parameters in a table, or so many `?` where there is none
abbrev pub listed : ℕ → Option (Box (List Numbered) Global) → List Numbered
listed count None = unnamed count
listed count (Some table) = table.value
