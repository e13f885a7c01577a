-- Names, terms and expressions at the front of some tokens.
use Rattle.std.specs.Prelude.{◌==◌, ◌-◌, ◌^◌, ℕ, zero, suc, ℤ, pos, negsuc, nat_lt, nat_le, Bool, true, false, ◌&&◌, List, [], ◌∷◌, length, drop, slice_index, slice_range, codes, Option, Some, None, Result, Ok, Err, if◌then◌else◌}
use Rattle.sql_text.specs.Parameters.{digits_value}
use Rattle.hex.specs.Hex.{decode_of}
use Rattle.hex.specs.declared.error.FromHexError.{FromHexError}
use Rattle.keeper_dialect.specs.declared.tokens.Keyword.TheVariants as keyword
use Rattle.keeper_dialect.specs.declared.tokens.Symbol.{Symbol}
use Rattle.keeper_dialect.specs.declared.tokens.Symbol.TheVariants as symbol
use Rattle.keeper_dialect.specs.declared.query.Term.{Term}
use Rattle.keeper_dialect.specs.declared.query.Term.TheVariants as term
use Rattle.keeper_dialect.specs.declared.query.Add.{Add}
use Rattle.keeper_dialect.specs.declared.query.Expr.{Expr}
use Rattle.keeper_dialect.specs.declared.query.ColExpr.{ColExpr}
use Rattle.keeper_dialect.specs.Tokens.{Token, is_same_name}
use Rattle.keeper_dialect.specs.Reading.{Reading, and_then, symbol_at, text_at, before_at, place_at, is_keyword, is_sign, sign_at, repeated}

-- a run without the quotes round it
unfoldable pub without_quotes : ℕ → List ℕ → List ℕ
without_quotes quote text =
    if nat_le 2 (length text) && (slice_index text 0 == quote && slice_index text (length text - 1) == quote)
    then slice_range text 1 (length text - 1) else text

-- doubled quotes made single
abbrev pub undoubled : ℕ → List ℕ → List ℕ
undoubled quote [] = []
undoubled quote (b ∷ []) = b ∷ []
undoubled quote (b ∷ c ∷ bs) = if b == quote && c == quote then b ∷ undoubled quote bs else b ∷ undoubled quote (c ∷ bs)

-- what stands between quotes
abbrev pub unquoted : ℕ → List ℕ → List ℕ
unquoted quote text = undoubled quote (without_quotes quote text)

-- the name that a token is
abbrev pub name_of : Symbol → List ℕ → Option (List ℕ)
name_of symbol.Word text = Some text
name_of symbol.QuotedName text = Some (unquoted 34 text)
name_of _ text = None

-- one token, if it is what is read
abbrev pub one_at : {A : Type 0} → Option A → List Token → Reading A
one_at None ts = Err (place_at ts)
one_at (Some x) ts = Ok (x, drop 1 ts)

unfoldable pub name_at : List Token → Reading (List ℕ)
name_at ts = one_at (name_of (symbol_at ts) (text_at ts)) ts

-- the opposite of a number
abbrev pub opposite : ℕ → ℤ
opposite zero = pos 0
opposite (suc n) = negsuc n

-- a number with its sign, if it is an i64
abbrev pub signed : Bool → ℕ → Option ℤ
signed false n = if nat_lt n (2 ^ 63) then Some (pos n) else None
signed true n = if nat_le n (2 ^ 63) then Some (opposite n) else None

-- the term that a number is, behind a minus or not
abbrev pub number_term : Option ℤ → Option Term
number_term (Some n) = Some (term.Number n)
number_term None = None

abbrev pub number_of : Bool → Symbol → List ℕ → Option Term
number_of minus symbol.Number text = number_term (signed minus (digits_value 0 text))
number_of minus _ text = None

unfoldable pub number_at : Bool → List Token → Reading Term
number_at minus ts = one_at (number_of minus (symbol_at ts) (text_at ts)) ts

abbrev pub is_text : Symbol → Bool
is_text symbol.Text = true
is_text _ = false

abbrev pub ok_of : Result (List ℕ) FromHexError → Option (List ℕ)
ok_of (Ok bytes) = Some bytes
ok_of (Err e) = None

-- the bytes of a run of hexadecimal digits that follows at once
abbrev pub digits_behind : List Token → Option (List ℕ)
digits_behind ts =
    if is_text (symbol_at ts) && length (before_at ts) == 0 then ok_of (decode_of (without_quotes 39 (text_at ts)))
    else None

-- the word `X` with such a run is a blob, and any other word a name
abbrev pub blob_or_name : List ℕ → Option (List ℕ) → List Token → Reading Term
blob_or_name word None rest = Ok (term.Name word, rest)
blob_or_name word (Some bytes) rest = Ok (term.Blob bytes, drop 1 rest)

unfoldable pub word_term_at : List Token → Reading Term
word_term_at ts =
    blob_or_name (text_at ts) (if is_same_name (text_at ts) (codes "X") then digits_behind (drop 1 ts) else None) (drop 1 ts)

-- the term of one token that is neither a word nor a number
abbrev pub other_term_of : Symbol → List ℕ → Option Term
other_term_of (symbol.Keyword k) text = if is_keyword keyword.Null (symbol.Keyword k) then Some term.Null else None
other_term_of symbol.QuotedName text = Some (term.Name (unquoted 34 text))
other_term_of symbol.Text text = Some (term.Text (unquoted 39 text))
other_term_of (symbol.Parameter n) text = Some (term.Param n)
other_term_of _ text = None

unfoldable pub other_term_at : List Token → Reading Term
other_term_at ts = one_at (other_term_of (symbol_at ts) (text_at ts)) ts

-- a term with no minus
abbrev pub unsigned_term_by : Symbol → List Token → Reading Term
unsigned_term_by symbol.Word ts = word_term_at ts
unsigned_term_by symbol.Number ts = number_at false ts
unsigned_term_by _ ts = other_term_at ts

unfoldable pub term_at : List Token → Reading Term
term_at ts = if is_sign 45 (symbol_at ts) then number_at true (drop 1 ts) else unsigned_term_by (symbol_at ts) ts

-- `+` or `-`, and whether it is `-`
abbrev pub operator_of : Symbol → Option Bool
operator_of s = if is_sign 43 s then Some false else (if is_sign 45 s then Some true else None)

-- the term behind an operator
abbrev pub operand_at : Option Bool → List Token → Option (Reading Add)
operand_at None ts = None
operand_at (Some minus) ts = Some (and_then (term_at ts) (λ t rest. Ok (record { minus = minus; term = t }, rest)))

abbrev pub add_at : List Add → List Token → Option (Reading Add)
add_at done ts = operand_at (operator_of (symbol_at ts)) (drop 1 ts)

unfoldable pub adds_at : List Token → Reading (List Add)
adds_at ts = repeated add_at (length ts) [] ts

unfoldable pub expr_at : List Token → Reading Expr
expr_at ts = and_then (term_at ts) (λ t after. and_then (adds_at after) (λ adds rest. Ok (record { first = t; rest = adds }, rest)))

-- a name, `=` and an expression
unfoldable pub col_expr_at : List Token → Reading ColExpr
col_expr_at ts =
    and_then (name_at ts) (λ name after.
    and_then (sign_at 61 after) (λ _ right.
    and_then (expr_at right) (λ e rest. Ok (record { column = name; expr = e }, rest))))
