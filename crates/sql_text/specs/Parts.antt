-- The parts of a text: its pieces cut at each sign `;`, without blanks and comments, and without the parts in which
-- nothing else stands. An unclosed piece doesn't count.
use Rattle.std.specs.Prelude.{◌==◌, Bool, true, false, List, [], ◌∷◌, filter, if◌then◌else◌}
use Rattle.sql_text.specs.declared.pieces.PieceKind.{PieceKind}
use Rattle.sql_text.specs.declared.pieces.PieceKind.TheVariants as kind

-- neither blank nor comment, and closed
abbrev pub is_solid : PieceKind → Bool
is_solid kind.Blank = false
is_solid kind.Comment = false
is_solid kind.Unclosed = false
is_solid k = true

-- the sign `;`
abbrev pub is_cut : PieceKind → Bool
is_cut (kind.Sign b) = b == 59
is_cut k = false

module _ {A : Type 0} (kind_of : A → PieceKind) where
  -- one more piece at the front of the first part
  abbrev pub with_front : A → List (List A) → List (List A)
  with_front x [] = (x ∷ []) ∷ []
  with_front x (part ∷ parts) = (x ∷ part) ∷ parts

  -- cut at each `;`
  abbrev pub cut : List A → List (List A)
  cut [] = [] ∷ []
  cut (x ∷ xs) = if is_cut (kind_of x) then [] ∷ cut xs else with_front x (cut xs)

  -- the parts with something in them
  abbrev pub left : List (List A) → List (List A)
  left [] = []
  left ([] ∷ parts) = left parts
  left ((x ∷ part) ∷ parts) = (x ∷ part) ∷ left parts

  -- the parts of pieces that are left
  abbrev pub parts : List A → List (List A)
  parts xs = left (cut (filter (λ x. is_solid (kind_of x)) xs))
