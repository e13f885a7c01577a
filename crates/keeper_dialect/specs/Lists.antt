-- The lists of the dialect: columns, names, tuples, settings and what is shown.
use Rattle.std.specs.Prelude.{◌-◌, ℕ, nat_lt, Bool, true, false, List, [], ◌∷◌, ◌++◌, length, drop, take, flat_map, Ok, Err, if◌then◌else◌}
use Rattle.std.specs.List.{list_any}
use Rattle.keeper_dialect.specs.declared.tokens.Keyword.TheVariants as keyword
use Rattle.keeper_dialect.specs.declared.tokens.Symbol.{Symbol}
use Rattle.keeper_dialect.specs.declared.tokens.Symbol.TheVariants as symbol
use Rattle.keeper_dialect.specs.declared.limits.TheConstants.{MAX_COLUMNS}
use Rattle.keeper_dialect.specs.declared.query.Expr.{Expr}
use Rattle.keeper_dialect.specs.declared.query.ColDef.{ColDef}
use Rattle.keeper_dialect.specs.declared.query.ColExpr.{ColExpr}
use Rattle.keeper_dialect.specs.declared.query.Item.{Item}
use Rattle.keeper_dialect.specs.Tokens.{Token, is_same_name}
use Rattle.keeper_dialect.specs.Reading.{Reading, and_then, symbol_at, place_at, is_keyword, keyword_at, sign_at, separated, bracketed_at}
use Rattle.keeper_dialect.specs.Terms.{name_at, expr_at}

abbrev pub is_among : List (List ℕ) → List ℕ → Bool
is_among names name = list_any (λ other. is_same_name other name) names

-- a name that isn't taken
unfoldable pub new_name_at : (List ℕ → Bool) → List Token → Reading (List ℕ)
new_name_at is_taken ts = and_then (name_at ts) (λ name rest. if is_taken name then Err (place_at ts) else Ok (name, rest))

-- names, no two the same
unfoldable pub name_list_at : List Token → Reading (List (List ℕ))
name_list_at ts = separated (λ done. new_name_at (is_among done)) ts

-- names in brackets, no two the same
unfoldable pub names_at : List Token → Reading (List (List ℕ))
names_at ts = bracketed_at name_list_at ts

unfoldable pub exprs_at : List Token → Reading (List Expr)
exprs_at ts = separated (λ done. expr_at) ts

-- expressions in brackets
unfoldable pub tuple_at : List Token → Reading (List Expr)
tuple_at ts = bracketed_at exprs_at ts

unfoldable pub tuples_at : List Token → Reading (List (List Expr))
tuples_at ts = separated (λ done. tuple_at) ts

abbrev pub is_set : List ColExpr → List ℕ → Bool
is_set sets name = list_any (λ s. is_same_name s.column name) sets

-- a setting of a column whose name isn't taken
unfoldable pub setting_at : (List ℕ → Bool) → List Token → Reading ColExpr
setting_at is_taken ts =
    and_then (new_name_at is_taken ts) (λ name after.
    and_then (sign_at 61 after) (λ _ right.
    and_then (expr_at right) (λ e rest. Ok (record { column = name; expr = e }, rest))))

-- a setting of a column that none before it sets
abbrev pub set_at : List ColExpr → List Token → Reading ColExpr
set_at done = setting_at (is_set done)

unfoldable pub sets_at : List Token → Reading (List ColExpr)
sets_at ts = separated set_at ts

-- the tokens before a rest of them
abbrev pub front : List Token → List Token → List Token
front ts rest = take (length ts - length rest) ts

abbrev pub source_of_token : Token → List ℕ
source_of_token t = t.before ++ t.text

-- the source text from the first token to the last
abbrev pub source_text : List Token → List ℕ
source_text [] = []
source_text (t ∷ ts) = t.text ++ flat_map source_of_token ts

unfoldable pub item_at : List Token → Reading Item
item_at ts = and_then (expr_at ts) (λ e rest. Ok (record { text = source_text (front ts rest); expr = e }, rest))

unfoldable pub items_at : List Token → Reading (List Item)
items_at ts = separated (λ done. item_at) ts

-- a word that isn't reserved
abbrev pub is_plain_word : Symbol → Bool
is_plain_word symbol.Word = true
is_plain_word _ = false

-- behind a type's name, which may be left out
abbrev pub after_type : Symbol → List Token → List Token
after_type s ts = if is_plain_word s then drop 1 ts else ts

abbrev pub is_col : List ColDef → List ℕ → Bool
is_col cols name = list_any (λ col. is_same_name col.name name) cols

abbrev pub has_key : List ColDef → Bool
has_key cols = list_any (λ col. col.key) cols

-- whether `PRIMARY KEY` stands, which mustn't come a second time
unfoldable pub key_at : Bool → List Token → Reading Bool
key_at had ts =
    if is_keyword keyword.Primary (symbol_at ts)
    then (if had then Err (place_at ts) else and_then (keyword_at keyword.Key (drop 1 ts)) (λ _ rest. Ok (true, rest)))
    else Ok (false, ts)

-- the name of a column, of which a table has at most so many, no two the same
unfoldable pub col_name_at : List ColDef → List Token → Reading (List ℕ)
col_name_at done ts = if nat_lt (length done) MAX_COLUMNS then new_name_at (is_col done) ts else Err (place_at ts)

unfoldable pub col_def_at : List ColDef → List Token → Reading ColDef
col_def_at done ts =
    and_then (col_name_at done ts) (λ name after.
    and_then (key_at (has_key done) (after_type (symbol_at after) after)) (λ key rest. Ok (record { name = name; key = key }, rest)))

unfoldable pub cols_at : List Token → Reading (List ColDef)
cols_at ts = separated col_def_at ts

-- columns in brackets
unfoldable pub col_defs_at : List Token → Reading (List ColDef)
col_defs_at ts = bracketed_at cols_at ts
