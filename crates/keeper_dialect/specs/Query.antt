-- The query that a text is, or the place of the first token that can't follow.
use Rattle.std.specs.Prelude.{◌≡◌, ℕ, Bool, true, false, List, drop, Option, Some, None, Result, Ok, Err, if◌then◌else◌}
use Rattle.keeper_dialect.specs.declared.tokens.Keyword.{Keyword}
use Rattle.keeper_dialect.specs.declared.tokens.Keyword.TheVariants as keyword
use Rattle.keeper_dialect.specs.declared.tokens.Symbol.{Symbol}
use Rattle.keeper_dialect.specs.declared.tokens.Symbol.TheVariants as symbol
use Rattle.keeper_dialect.specs.declared.query.DialectFail.{DialectFail}
use Rattle.keeper_dialect.specs.declared.query.DialectFail.TheVariants as fail
use Rattle.keeper_dialect.specs.declared.query.ColExpr.{ColExpr}
use Rattle.keeper_dialect.specs.declared.query.Shown.{Shown}
use Rattle.keeper_dialect.specs.declared.query.Shown.TheVariants as shown
use Rattle.keeper_dialect.specs.declared.query.Query.{Query}
use Rattle.keeper_dialect.specs.declared.query.Query.TheVariants as query
use Rattle.keeper_dialect.specs.Tokens.{Token, tokens_of}
use Rattle.keeper_dialect.specs.Reading.{Reading, and_then, symbol_at, place_at, is_keyword, is_sign, keyword_at, sign_at}
use Rattle.keeper_dialect.specs.Terms.{name_at, col_expr_at}
use Rattle.keeper_dialect.specs.Lists.{names_at, tuples_at, sets_at, items_at, col_defs_at, front, source_text}

-- `WHERE` and its comparison, if it stands
unfoldable pub filter_at : List Token → Reading (Option ColExpr)
filter_at ts =
    if is_keyword keyword.Where (symbol_at ts) then and_then (col_expr_at (drop 1 ts)) (λ filter rest. Ok (Some filter, rest))
    else Ok (None, ts)

-- behind `CREATE`
unfoldable pub create_at : List Token → Reading Query
create_at ts =
    and_then (keyword_at keyword.Table ts) (λ _ named.
    and_then (name_at named) (λ table after.
    and_then (col_defs_at after) (λ cols rest. Ok (query.Create table cols, rest))))

-- the names of an insert's columns, if they stand
unfoldable pub some_names_at : List Token → Reading (Option (List (List ℕ)))
some_names_at ts =
    if is_sign 40 (symbol_at ts) then and_then (names_at ts) (λ names rest. Ok (Some names, rest)) else Ok (None, ts)

-- behind `INSERT`
unfoldable pub insert_at : List Token → Reading Query
insert_at ts =
    and_then (keyword_at keyword.Into ts) (λ _ named.
    and_then (name_at named) (λ table after.
    and_then (some_names_at after) (λ names behind.
    and_then (keyword_at keyword.Values behind) (λ _ values.
    and_then (tuples_at values) (λ tuples rest. Ok (query.Insert table names tuples, rest))))))

-- the table of a select and its filter, behind `FROM`
unfoldable pub from_at : Shown → List Token → Reading Query
from_at what ts =
    and_then (keyword_at keyword.From ts) (λ _ named.
    and_then (name_at named) (λ table after.
    and_then (filter_at after) (λ filter rest. Ok (query.Select what (Some table) filter, rest))))

-- `COUNT(*)`
unfoldable pub count_at : List Token → Reading Shown
count_at ts =
    and_then (keyword_at keyword.Count ts) (λ _ inner.
    and_then (sign_at 40 inner) (λ _ star.
    and_then (sign_at 42 star) (λ _ after.
    and_then (sign_at 41 after) (λ _ rest. Ok (shown.Count (source_text (front ts rest)), rest)))))

-- a list, and `FROM` if it stands
unfoldable pub list_at : List Token → Reading Query
list_at ts =
    and_then (items_at ts) (λ items rest.
    if is_keyword keyword.From (symbol_at rest) then from_at (shown.List items) rest
    else Ok (query.Select (shown.List items) None None, rest))

-- behind `SELECT`
unfoldable pub select_at : List Token → Reading Query
select_at ts =
    if is_sign 42 (symbol_at ts) then from_at shown.All (drop 1 ts)
    else (if is_keyword keyword.Count (symbol_at ts) then and_then (count_at ts) from_at
    else list_at ts)

-- behind `UPDATE`
unfoldable pub update_at : List Token → Reading Query
update_at ts =
    and_then (name_at ts) (λ table after.
    and_then (keyword_at keyword.Set after) (λ _ settings.
    and_then (sets_at settings) (λ sets behind.
    and_then (filter_at behind) (λ filter rest. Ok (query.Update table sets filter, rest)))))

-- behind `DELETE`
unfoldable pub delete_at : List Token → Reading Query
delete_at ts =
    and_then (keyword_at keyword.From ts) (λ _ named.
    and_then (name_at named) (λ table after.
    and_then (filter_at after) (λ filter rest. Ok (query.Delete table filter, rest))))

-- a statement, by its first word
abbrev pub statement_by : Keyword → List Token → Reading Query
statement_by keyword.Create ts = create_at (drop 1 ts)
statement_by keyword.Insert ts = insert_at (drop 1 ts)
statement_by keyword.Select ts = select_at (drop 1 ts)
statement_by keyword.Update ts = update_at (drop 1 ts)
statement_by keyword.Delete ts = delete_at (drop 1 ts)
statement_by _ ts = Err (place_at ts)

abbrev pub statement_of : Symbol → List Token → Reading Query
statement_of (symbol.Keyword k) ts = statement_by k ts
statement_of _ ts = Err (place_at ts)

unfoldable pub statement_at : List Token → Reading Query
statement_at ts = statement_of (symbol_at ts) ts

abbrev pub is_end : Symbol → Bool
is_end symbol.End = true
is_end _ = false

-- a whole query, behind which the text ends
unfoldable pub whole_at : List Token → Reading Query
whole_at ts = and_then (statement_at ts) (λ q rest. if is_end (symbol_at rest) then Ok (q, rest) else Err (place_at rest))

abbrev pub answer_of : Reading Query → Result Query ℕ
answer_of (Ok read) = Ok read.0
answer_of (Err at) = Err at

-- the query of a text, or the place where it stops
unfoldable pub query_of : List ℕ → Result Query ℕ
query_of sql = answer_of (whole_at (tokens_of sql))

-- an answer is the expected one, unless memory ran out
abbrev pub AnswersAs : Result Query DialectFail → Result Query ℕ → Type 0
AnswersAs (Ok q) expected = expected ≡ Ok q
AnswersAs (Err (fail.Syntax at)) expected = expected ≡ Err at
AnswersAs (Err fail.NoMemory) expected = Unit {0}
