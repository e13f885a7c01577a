-- The tokens of a text: its pieces that are neither blank nor comment, and one more where the text ends.
use Rattle.std.specs.Prelude.{◌==◌, ◌+◌, ℕ, Bool, true, false, List, [], ◌∷◌, ◌++◌, map, length, slice_index, codes, Option, Some, None, if◌then◌else◌}
use Rattle.std.specs.Str.{str_eq_ignore_ascii_case}
use Rattle.sql_text.specs.declared.pieces.PieceKind.{PieceKind}
use Rattle.sql_text.specs.declared.pieces.PieceKind.TheVariants as kind
use Rattle.sql_text.specs.Pieces.{Token as Piece, pieces}
use Rattle.sql_text.specs.Parameters.{Numbered, number_taken, number_within, with_fitting}
use Rattle.keeper_dialect.specs.declared.tokens.Keyword.{Keyword}
use Rattle.keeper_dialect.specs.declared.tokens.Keyword.TheVariants as keyword
use Rattle.keeper_dialect.specs.declared.tokens.Symbol.{Symbol}
use Rattle.keeper_dialect.specs.declared.tokens.Symbol.TheVariants as symbol
use Rattle.keeper_dialect.specs.declared.tokens.Token.{Token as HeldToken}

-- a token: what it is, the blanks and comments before it, its own bytes, and where these start
pub record Token : Type 0 where
  pub symbol : Symbol
  pub before : List ℕ
  pub text : List ℕ
  pub start : ℕ

-- names and words compare without regard to ASCII case
abbrev pub is_same_name : List ℕ → List ℕ → Bool
is_same_name a b = str_eq_ignore_ascii_case a b

-- the reserved words from `COUNT` to `NULL`
unfoldable pub early_keyword : List ℕ → Option Keyword
early_keyword word =
    if is_same_name word (codes "COUNT") then Some keyword.Count
    else (if is_same_name word (codes "CREATE") then Some keyword.Create
    else (if is_same_name word (codes "DELETE") then Some keyword.Delete
    else (if is_same_name word (codes "FROM") then Some keyword.From
    else (if is_same_name word (codes "INSERT") then Some keyword.Insert
    else (if is_same_name word (codes "INTO") then Some keyword.Into
    else (if is_same_name word (codes "KEY") then Some keyword.Key
    else (if is_same_name word (codes "NULL") then Some keyword.Null
    else None)))))))

-- the reserved words from `PRIMARY` to `WHERE`
unfoldable pub late_keyword : List ℕ → Option Keyword
late_keyword word =
    if is_same_name word (codes "PRIMARY") then Some keyword.Primary
    else (if is_same_name word (codes "SELECT") then Some keyword.Select
    else (if is_same_name word (codes "SET") then Some keyword.Set
    else (if is_same_name word (codes "TABLE") then Some keyword.Table
    else (if is_same_name word (codes "UPDATE") then Some keyword.Update
    else (if is_same_name word (codes "VALUES") then Some keyword.Values
    else (if is_same_name word (codes "WHERE") then Some keyword.Where
    else None))))))

abbrev pub keyword_or_word : Option Keyword → Symbol
keyword_or_word (Some k) = symbol.Keyword k
keyword_or_word None = symbol.Word

abbrev pub or_keyword : Option Keyword → Option Keyword → Option Keyword
or_keyword (Some k) other = Some k
or_keyword None other = other

-- a word that is reserved, without regard to ASCII case, or another
abbrev pub symbol_of_word : List ℕ → Symbol
symbol_of_word word = keyword_or_word (or_keyword (early_keyword word) (late_keyword word))

-- a run between quotes, by its first byte
abbrev pub symbol_of_run : ℕ → Symbol
symbol_of_run quote = if quote == 34 then symbol.QuotedName else (if quote == 39 then symbol.Text else symbol.Stray)

abbrev pub parameter_or_stray : Option ℕ → Symbol
parameter_or_stray (Some n) = symbol.Parameter n
parameter_or_stray None = symbol.Stray

-- what a piece is, after some parameters
abbrev pub symbol_of : List Numbered → PieceKind → List ℕ → Symbol
symbol_of seen kind.Quoted bytes = symbol_of_run (slice_index bytes 0)
symbol_of seen kind.Parameter bytes = parameter_or_stray (number_within (number_taken seen bytes))
symbol_of seen kind.Word bytes = symbol_of_word bytes
symbol_of seen kind.Number bytes = symbol.Number
symbol_of seen (kind.Sign b) bytes = symbol.Sign b
symbol_of seen _ bytes = symbol.Stray

-- the parameters so far, and a piece, if it is one
abbrev pub seen_after : List Numbered → PieceKind → List ℕ → List Numbered
seen_after seen kind.Parameter bytes = with_fitting seen bytes
seen_after seen _ bytes = seen

-- blanks and comments
abbrev pub is_passed : PieceKind → Bool
is_passed kind.Blank = true
is_passed kind.Comment = true
is_passed _ = false

abbrev pub end_token : List ℕ → ℕ → Token
end_token before start = record { symbol = symbol.End; before = before; text = []; start = start }

abbrev pub token_of : List Numbered → List ℕ → ℕ → PieceKind → List ℕ → Token
token_of seen before start k bytes = record { symbol = symbol_of seen k bytes; before = before; text = bytes; start = start }

-- the tokens of the pieces from a place on, after some parameters, and after blanks and comments just before the place
unfoldable pub tokens_from : List Numbered → List ℕ → ℕ → List Piece → List Token
tokens_from seen before start [] = end_token before start ∷ []
tokens_from seen before start (piece ∷ rest) =
    if is_passed piece.kind then tokens_from seen (before ++ piece.bytes) (start + length piece.bytes) rest
    else token_of seen before start piece.kind piece.bytes ∷ tokens_from (seen_after seen piece.kind piece.bytes) [] (start + length piece.bytes) rest

-- the tokens of a text
abbrev pub tokens_of : List ℕ → List Token
tokens_of sql = tokens_from [] [] 0 (pieces sql)

-- a token without where its text lies in memory
abbrev pub view : HeldToken → Token
view t = record { symbol = t.symbol; before = t.before.now; text = t.text.now; start = t.start }

abbrev pub views : List HeldToken → List Token
views ts = map view ts
