-- Header fields by name and value, and the words that a value lists (RFC 9110, sections 5.1 and 5.6.1).
use Rattle.std.specs.Prelude.{ℕ, ◌==◌, Bool, not, ◌&&◌, ◌||◌, List, [], ◌∷◌, map, Option, option_map, if◌then◌else◌, bytes_eq}
use Rattle.std.specs.List.{list_any, list_all, find}
use Rattle.std.specs.Str.{str_eq_ignore_ascii_case}
use Rattle.httparse.specs.Ascii.{comma}
use Rattle.httparse.specs.Grammar.{trim_ows}
use Rattle.http_wire.specs.declared.fields.Comparison.{Comparison}
use Rattle.http_wire.specs.declared.fields.Comparison.TheVariants.{AnyCase, Exact}

-- a name, and a value without the blanks round it
abbrev pub Named : Type 0
Named = List ℕ × List ℕ

-- names compare without regard to ASCII case
abbrev pub is_named : List ℕ → Named → Bool
is_named name f = str_eq_ignore_ascii_case f.0 name

-- a field has the name
abbrev pub has_field : List ℕ → List Named → Bool
has_field name fields = list_any (is_named name) fields

-- the value of the first field of the name
abbrev pub first_value : List ℕ → List Named → Option (List ℕ)
first_value name fields = option_map (λ f. f.1) (find (is_named name) fields)

-- a field of the name has a value that passes
abbrev pub any_value : (List ℕ → Bool) → List ℕ → List Named → Bool
any_value test name fields = list_any (λ f. is_named name f && test f.1) fields

-- each field of the name has a value that passes
abbrev pub every_value : (List ℕ → Bool) → List ℕ → List Named → Bool
every_value test name fields = list_all (λ f. not (is_named name f) || test f.1) fields

-- the pieces, with a byte more at the front of the first
abbrev pub longer_first : ℕ → List (List ℕ) → List (List ℕ)
longer_first b [] = (b ∷ []) ∷ []
longer_first b (piece ∷ pieces) = (b ∷ piece) ∷ pieces

-- the pieces between commas
abbrev pub between_commas : List ℕ → List (List ℕ)
between_commas [] = [] ∷ []
between_commas (b ∷ bytes) = if b == comma then [] ∷ between_commas bytes else longer_first b (between_commas bytes)

-- the parts of a value between its commas, without the blanks round each
unfoldable pub parts : List ℕ → List (List ℕ)
parts value = map trim_ows (between_commas value)

abbrev pub is_same : Comparison → List ℕ → List ℕ → Bool
is_same AnyCase text word = str_eq_ignore_ascii_case text word
is_same Exact text word = bytes_eq text word

-- a part of the value is the word
abbrev pub lists : Comparison → List ℕ → List ℕ → Bool
lists comparison word value = list_any (λ part. is_same comparison part word) (parts value)
