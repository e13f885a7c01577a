-- The pieces of a text, over its bytes. Each form says what piece of that form stands at the front of the bytes, if one
-- does. The piece there is the first form that fits, in the order of the list of forms. A place past the end counts as
-- the byte 0, which begins no form but a sign.
use Rattle.std.specs.Prelude.{◌≡◌, ◌==◌, ◌<◌, ◌+◌, ◌-◌, ℕ, suc, zero, Bool, ◌&&◌, ◌||◌, not, nat_le, nat_lt, List, [], ◌∷◌, length, take, drop, slice_index, Option, None, Some, if◌then◌else◌, unwrap_or}
use Rattle.std.specs.List.{flat_map}
use Rattle.std.specs.Char.{is_ascii_digit, is_ascii_alphabetic}
use Rattle.sql_text.specs.declared.pieces.PieceKind.{PieceKind}
use Rattle.sql_text.specs.declared.pieces.PieceKind.TheVariants as kind
use Rattle.sql_text.specs.declared.pieces.Piece.{Piece}
use Rattle.sql_text.specs.declared.pieces.Run.{Run}
use Rattle.sql_text.specs.declared.pieces.Run.TheVariants as run

-- space, tab, line feed, form feed and carriage return
abbrev pub is_blank : ℕ → Bool
is_blank b = b == 32 || b == 9 || b == 10 || b == 12 || b == 13

-- a letter, `_`, or a byte of a character past ASCII
abbrev pub is_letter : ℕ → Bool
is_letter b = is_ascii_alphabetic b || b == 95 || nat_le 128 b

-- what goes on a line comment, a run in brackets, digits, a name and a word
abbrev pub passes : Run → ℕ → Bool
passes run.Line b = not (b == 10)
passes run.Bracket b = not (b == 93)
passes run.Digits b = is_ascii_digit b
passes run.Name b = is_letter b || is_ascii_digit b
passes run.Word b = is_letter b || is_ascii_digit b || b == 36

-- where the run ends that goes on at the front of these bytes, the first of which stands at this place
abbrev pub run_end : Run → ℕ → List ℕ → ℕ
run_end r at [] = at
run_end r at (b ∷ bs) = if passes r b then run_end r (at + 1) bs else at

-- the place after the first `*/`
abbrev pub comment_end : ℕ → List ℕ → Option ℕ
comment_end at [] = None
comment_end at (b ∷ bs) = if b == 42 && slice_index bs 0 == 47 then Some (at + 2) else comment_end (at + 1) bs

-- the place after the first such quote that isn't doubled
abbrev pub quote_end : ℕ → ℕ → List ℕ → Option ℕ
quote_end q at [] = None
quote_end q at (b ∷ []) = if b == q then Some (at + 1) else None
quote_end q at (b ∷ c ∷ bs) =
    if b == q then (if c == q then quote_end q (at + 2) bs else Some (at + 1))
    else quote_end q (at + 1) (c ∷ bs)

abbrev pub sized : PieceKind → ℕ → Piece
sized k n = record { kind = k; size = n }

-- a piece of this kind that ends at a place, or one that isn't closed, which takes all that is left
abbrev pub ended : PieceKind → Option ℕ → List ℕ → Piece
ended k (Some end) rest = sized k end
ended k None rest = sized kind.Unclosed (length rest)

unfoldable pub blank : List ℕ → Option Piece
blank rest = if is_blank (slice_index rest 0) then Some (sized kind.Blank 1) else None

-- `--` up to, and without, the next line feed or the end
unfoldable pub line_comment : List ℕ → Option Piece
line_comment rest =
    if slice_index rest 0 == 45 && slice_index rest 1 == 45 then Some (sized kind.Comment (run_end run.Line 2 (drop 2 rest)))
    else None

-- `/*` up to the first `*/` after it
unfoldable pub block_comment : List ℕ → Option Piece
block_comment rest =
    if slice_index rest 0 == 47 && slice_index rest 1 == 42 then Some (ended kind.Comment (comment_end 2 (drop 2 rest)) rest)
    else None

-- `'`, `"` or a backquote
abbrev pub is_quote : ℕ → Bool
is_quote b = b == 39 || b == 34 || b == 96

unfoldable pub quoted : List ℕ → Option Piece
quoted rest =
    if is_quote (slice_index rest 0) then Some (ended kind.Quoted (quote_end (slice_index rest 0) 1 (drop 1 rest)) rest)
    else None

-- what stands before the first `]`, if one comes
abbrev pub bracket_ended : ℕ → List ℕ → Piece
bracket_ended end rest = if nat_lt end (length rest) then sized kind.Quoted (end + 1) else sized kind.Unclosed (length rest)

unfoldable pub bracketed : List ℕ → Option Piece
bracketed rest =
    if slice_index rest 0 == 91 then Some (bracket_ended (run_end run.Bracket 1 (drop 1 rest)) rest)
    else None

-- `?` and all digits that follow, perhaps none
unfoldable pub numbered_parameter : List ℕ → Option Piece
numbered_parameter rest =
    if slice_index rest 0 == 63 then Some (sized kind.Parameter (run_end run.Digits 1 (drop 1 rest)))
    else None

-- `:`, `@` or `$`
abbrev pub is_prefix : ℕ → Bool
is_prefix b = b == 58 || b == 64 || b == 36

-- such a prefix and all name characters that follow, at least one
unfoldable pub named_parameter : List ℕ → Option Piece
named_parameter rest =
    if is_prefix (slice_index rest 0) && nat_lt 1 (run_end run.Name 1 (drop 1 rest)) then Some (sized kind.Parameter (run_end run.Name 1 (drop 1 rest)))
    else None

unfoldable pub word : List ℕ → Option Piece
word rest =
    if is_letter (slice_index rest 0) then Some (sized kind.Word (run_end run.Word 1 (drop 1 rest)))
    else None

unfoldable pub number : List ℕ → Option Piece
number rest =
    if is_ascii_digit (slice_index rest 0) then Some (sized kind.Number (run_end run.Digits 1 (drop 1 rest)))
    else None

-- any other single character
abbrev pub sign : List ℕ → Piece
sign rest = sized (kind.Sign (slice_index rest 0)) 1

-- the first that fits
abbrev pub first_of : List (Option Piece) → Option Piece
first_of [] = None
first_of (Some piece ∷ forms) = Some piece
first_of (None ∷ forms) = first_of forms

abbrev pub enclosed_forms : List ℕ → List (Option Piece)
enclosed_forms rest = line_comment rest ∷ block_comment rest ∷ quoted rest ∷ bracketed rest ∷ []

abbrev pub named_forms : List ℕ → List (Option Piece)
named_forms rest = numbered_parameter rest ∷ named_parameter rest ∷ word rest ∷ number rest ∷ []

-- all forms in their order, a sign apart
abbrev pub forms : List ℕ → List (Option Piece)
forms rest = blank rest ∷ first_of (enclosed_forms rest) ∷ first_of (named_forms rest) ∷ []

-- the piece at the front of the bytes
unfoldable pub first_piece : List ℕ → Piece
first_piece rest = unwrap_or (first_of (forms rest)) (sign rest)

-- a piece with its bytes
pub record Token : Type 0 where
  pub kind : PieceKind
  pub bytes : List ℕ

abbrev pub token : PieceKind → List ℕ → Token
token kind bytes = record { kind = kind; bytes = bytes }

-- the piece at the front of the bytes, with its own bytes
abbrev pub first_token : List ℕ → Token
first_token rest = token (first_piece rest).kind (take (first_piece rest).size rest)

-- the pieces after the next so many bytes, which are left out
abbrev pub pieces_after : ℕ → List ℕ → List Token
pieces_after skipped [] = []
pieces_after zero (b ∷ bs) = first_token (b ∷ bs) ∷ pieces_after ((first_piece (b ∷ bs)).size - 1) bs
pieces_after (suc skipped) (b ∷ bs) = pieces_after skipped bs

-- the pieces of a text
unfoldable pub pieces : List ℕ → List Token
pieces text = pieces_after 0 text

abbrev pub bytes_of : Token → List ℕ
bytes_of token = token.bytes

-- the bytes of the pieces, joined
abbrev pub joined : List Token → List ℕ
joined tokens = flat_map bytes_of tokens

-- each piece is the first form that fits where it stands, with something in it
abbrev pub EachIsFirst : List Token → Type 0
EachIsFirst [] = Unit {0}
EachIsFirst (token ∷ tokens) =
    (token ≡ first_token (joined (token ∷ tokens))) × (0 < length token.bytes) × EachIsFirst tokens

-- the tokens are the pieces of the text: they join to it, and each is the first form that fits at its place
pub record ArePieces (text : List ℕ) (tokens : List Token) : Type 0 where
  pub joined : joined tokens ≡ text
  pub first : EachIsFirst tokens

-- each text has one such list, and it is `pieces`
pub record EachTextHasOneList : Type 0 where
  pub one : (text : List ℕ) → ArePieces text (pieces text)
  pub only : (text : List ℕ) (tokens : List Token) → ArePieces text tokens → tokens ≡ pieces text
