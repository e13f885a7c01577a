-- Where the pieces of a text stand, the spans of its parts, and the first piece that isn't closed.
use Rattle.std.specs.Prelude.{◌≡◌, ◌<◌, ◌≤◌, ◌+◌, ℕ, Bool, true, false, List, [], ◌∷◌, map, filter, length, Option, Some, None, if◌then◌else◌, slice_range, All}
use Rattle.std.specs.Str.{IsCharBoundary}
use Rattle.sql_text.specs.declared.pieces.PieceKind.{PieceKind}
use Rattle.sql_text.specs.declared.pieces.PieceKind.TheVariants as kind
use Rattle.sql_text.specs.declared.spans.Span.{Span}
use Rattle.sql_text.specs.Pieces.{Token, pieces}
use Rattle.sql_text.specs.Parts.{is_solid, cut, left, parts}

-- a piece, and the place of its first byte
pub record Placed : Type 0 where
  pub token : Token
  pub start : ℕ

-- the pieces with their places, the first of which is given
abbrev pub placed : ℕ → List Token → List Placed
placed at [] = []
placed at (token ∷ tokens) = record { token = token; start = at } ∷ placed (at + length token.bytes) tokens

abbrev pub end_of : Placed → ℕ
end_of p = p.start + length p.token.bytes

abbrev pub kind_of : Placed → PieceKind
kind_of p = p.token.kind

-- the end of the last piece, or the end of what comes before
abbrev pub last_end : ℕ → List Placed → ℕ
last_end end [] = end
last_end end (p ∷ ps) = last_end (end_of p) ps

-- from the first piece of a part to the end of its last
abbrev pub span_of : List Placed → Span
span_of [] = record { start = 0; end = 0 }
span_of (p ∷ ps) = record { start = p.start; end = last_end (end_of p) ps }

abbrev pub placed_pieces : List ℕ → List Placed
placed_pieces sql = placed 0 (pieces sql)

-- the spans of the parts of a text that are left
unfoldable pub spans_of : List ℕ → List Span
spans_of sql = map span_of (parts kind_of (placed_pieces sql))

abbrev pub is_unclosed : PieceKind → Bool
is_unclosed kind.Unclosed = true
is_unclosed k = false

-- the place of the first piece that isn't closed
abbrev pub first_unclosed : List Placed → Option ℕ
first_unclosed [] = None
first_unclosed (p ∷ ps) = if is_unclosed p.token.kind then Some p.start else first_unclosed ps

-- where the quote or comment of a text starts that isn't closed
unfoldable pub unclosed_at : List ℕ → Option ℕ
unclosed_at sql = first_unclosed (placed_pieces sql)

-- the spans stand from one place to another, in order, apart, each with something in it
abbrev pub AreInOrder : ℕ → ℕ → List Span → Type 0
AreInOrder from most [] = from ≤ most
AreInOrder from most (span ∷ spans) = (from ≤ span.start) × (span.start < span.end) × AreInOrder span.end most spans

-- each piece is the slice of the text at its place
abbrev pub EachPieceIsItsSlice : Type 0
EachPieceIsItsSlice = (sql : List ℕ) → All (λ p. slice_range sql p.start (end_of p) ≡ p.token.bytes) (placed_pieces sql)

-- what stood open, made longer by a piece
abbrev pub grown : Option Span → ℕ → ℕ → Span
grown None start end = record { start = start; end = end }
grown (Some span) start end = record { start = span.start; end = end }

-- the span that stood open, if one did
abbrev pub closed_span : Option Span → List Span
closed_span None = []
closed_span (Some span) = span ∷ []

-- a span begins and ends between characters
abbrev pub StandsBetween : List ℕ → Span → Type 0
StandsBetween sql span = IsCharBoundary sql span.start × IsCharBoundary sql span.end

abbrev pub solid : List Placed → List Placed
solid ps = filter (λ p. is_solid (kind_of p)) ps

abbrev pub cuts : List Placed → List (List Placed)
cuts ps = cut kind_of (solid ps)

-- the spans of parts, where a span stands open before them, or none
abbrev pub resume : Option Span → List (List Placed) → List Span
resume None ps = map span_of (left kind_of ps)
resume (Some span) [] = span ∷ []
resume (Some span) (part ∷ ps) = record { start = span.start; end = last_end span.end part } ∷ map span_of (left kind_of ps)

-- the spans that pieces give, where a span stands open before them, or none
abbrev pub spans_from : Option Span → List Placed → List Span
spans_from current ps = resume current (cuts ps)
