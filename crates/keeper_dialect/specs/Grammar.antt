-- The grammar of the dialect. A part says which tokens are which value: all of them, and no more.
use Rattle.std.specs.Prelude.{◌≡◌, ℕ, ℤ, Bool, true, false, List, [], ◌∷◌, ◌++◌, length, nat_lt, not, ◌&&◌, if◌then◌else◌, codes, Option, Some, None, Ok}
use Rattle.sql_text.specs.Parameters.{digits_value}
use Rattle.hex.specs.Hex.{decode_of}
use Rattle.keeper_dialect.specs.declared.limits.TheConstants.{MAX_COLUMNS}
use Rattle.keeper_dialect.specs.declared.tokens.Keyword.{Keyword}
use Rattle.keeper_dialect.specs.declared.tokens.Keyword.TheVariants as keyword
use Rattle.keeper_dialect.specs.declared.tokens.Symbol.TheVariants as symbol
use Rattle.keeper_dialect.specs.declared.query.DialectFail.{DialectFail}
use Rattle.keeper_dialect.specs.declared.query.DialectFail.TheVariants as fail
use Rattle.keeper_dialect.specs.declared.query.Term.{Term}
use Rattle.keeper_dialect.specs.declared.query.Term.TheVariants as term
use Rattle.keeper_dialect.specs.declared.query.Add.{Add}
use Rattle.keeper_dialect.specs.declared.query.Expr.{Expr}
use Rattle.keeper_dialect.specs.declared.query.ColDef.{ColDef}
use Rattle.keeper_dialect.specs.declared.query.ColExpr.{ColExpr}
use Rattle.keeper_dialect.specs.declared.query.Item.{Item}
use Rattle.keeper_dialect.specs.declared.query.Shown.{Shown}
use Rattle.keeper_dialect.specs.declared.query.Shown.TheVariants as shown
use Rattle.keeper_dialect.specs.declared.query.Query.{Query}
use Rattle.keeper_dialect.specs.declared.query.Query.TheVariants as query
use Rattle.keeper_dialect.specs.Tokens.{Token, tokens_of, is_same_name}
use Rattle.keeper_dialect.specs.Reading.{symbol_at, is_keyword, is_sign}
use Rattle.keeper_dialect.specs.Terms.{name_of, signed, unquoted, without_quotes, operator_of}
use Rattle.keeper_dialect.specs.Query.{is_end, query_of}
use Rattle.keeper_dialect.specs.Lists.{is_among, is_set, is_col, has_key, is_plain_word, source_text}

-- a value that takes no token
pub data Is {A : Type 0} (x : A) : A → List Token → Type 0 where
  here : Is x x []

-- one part, and then one that may depend on its value
pub data Then {A B : Type 0} (P : A → List Token → Type 0) (Q : A → B → List Token → Type 0) : B → List Token → Type 0 where
  both : (x : A) (y : B) (us vs : List Token) → P x us → Q x y vs → Then P Q y (us ++ vs)

-- one part or another
pub data Either {A : Type 0} (P Q : A → List Token → Type 0) : A → List Token → Type 0 where
  first : (x : A) (us : List Token) → P x us → Either P Q x us
  second : (x : A) (us : List Token) → Q x us → Either P Q x us

-- as often as wanted, each of which may depend on those before it, of which these came before
pub data Repeated {A : Type 0} (P : List A → A → List Token → Type 0) : List A → List A → List Token → Type 0 where
  none : (done : List A) → Repeated P done [] []
  more : (done : List A) (x : A) (xs : List A) (us vs : List Token) → P done x us → Repeated P (done ++ x ∷ []) xs vs → Repeated P done (x ∷ xs) (us ++ vs)

-- one token that has a value
pub data Single {A : Type 0} (value_of : Token → Option A) : A → List Token → Type 0 where
  one : (t : Token) (x : A) → value_of t ≡ Some x → Single value_of x (t ∷ [])

-- whether one token is there, which has no other value
abbrev pub standing : Bool → Option (Unit {0})
standing b = if b then Some tt else None

-- a reserved word
abbrev pub Keyed : Keyword → Unit {0} → List Token → Type 0
Keyed k = Single (λ t. standing (is_keyword k t.symbol))

-- a sign
abbrev pub Signed : ℕ → Unit {0} → List Token → Type 0
Signed sign = Single (λ t. standing (is_sign sign t.symbol))

-- a word that isn't reserved, or a run between `"` with doubled quotes made single
abbrev pub Name : List ℕ → List Token → Type 0
Name = Single (λ t. name_of t.symbol t.text)

-- [ - ] number | text | blob | NULL | parameter | name
pub data IsTerm : Term → List Token → Type 0 where
  number : (t : Token) (n : ℤ) → t.symbol ≡ symbol.Number → signed false (digits_value 0 t.text) ≡ Some n → IsTerm (term.Number n) (t ∷ [])
  negative : (minus t : Token) (n : ℤ) → minus.symbol ≡ symbol.Sign 45 → t.symbol ≡ symbol.Number → signed true (digits_value 0 t.text) ≡ Some n → IsTerm (term.Number n) (minus ∷ t ∷ [])
  text : (t : Token) → t.symbol ≡ symbol.Text → IsTerm (term.Text (unquoted 39 t.text)) (t ∷ [])
  blob : (x t : Token) (bytes : List ℕ) → x.symbol ≡ symbol.Word → is_same_name x.text (codes "X") ≡ true → t.symbol ≡ symbol.Text → t.before ≡ [] → decode_of (without_quotes 39 t.text) ≡ Ok bytes → IsTerm (term.Blob bytes) (x ∷ t ∷ [])
  null : (t : Token) → t.symbol ≡ symbol.Keyword keyword.Null → IsTerm term.Null (t ∷ [])
  parameter : (t : Token) (n : ℕ) → t.symbol ≡ symbol.Parameter n → IsTerm (term.Param n) (t ∷ [])
  name : (t : Token) (name : List ℕ) → name_of t.symbol t.text ≡ Some name → IsTerm (term.Name name) (t ∷ [])

-- ( + | - ) term
abbrev pub IsAdd : Add → List Token → Type 0
IsAdd = Then (Single (λ t. operator_of t.symbol)) (λ minus. Then IsTerm (λ t. Is (record { minus = minus; term = t })))

-- term { ( + | - ) term }
abbrev pub IsExpr : Expr → List Token → Type 0
IsExpr = Then IsTerm (λ t. Then (Repeated (λ done. IsAdd) []) (λ adds. Is (record { first = t; rest = adds })))

-- a part whose value isn't refused
pub data Unless {A : Type 0} (refused : A → Bool) (P : A → List Token → Type 0) : A → List Token → Type 0 where
  unless : (x : A) (us : List Token) → P x us → refused x ≡ false → Unless refused P x us

-- parts with commas between them, each of which may depend on those before it
abbrev pub Separated : {A : Type 0} → (List A → A → List Token → Type 0) → List A → List Token → Type 0
Separated P = Then (P []) (λ x. Then (Repeated (λ done. Then (Signed 44) (λ _. P done)) (x ∷ [])) (λ xs. Is (x ∷ xs)))

-- a part in brackets
abbrev pub Bracketed : {A : Type 0} → (A → List Token → Type 0) → A → List Token → Type 0
Bracketed P = Then (Signed 40) (λ _. Then P (λ x. Then (Signed 41) (λ _. Is x)))

-- a name that isn't taken by one before it
abbrev pub NewName : (List ℕ → Bool) → List ℕ → List Token → Type 0
NewName is_taken = Unless is_taken Name

-- name = expr
abbrev pub Equation : (List ℕ → List Token → Type 0) → ColExpr → List Token → Type 0
Equation N = Then N (λ column. Then (Signed 61) (λ _. Then IsExpr (λ e. Is (record { column = column; expr = e }))))

-- an expression with its source text
pub data IsItem : Item → List Token → Type 0 where
  item : (e : Expr) (us : List Token) → IsExpr e us → IsItem (record { text = source_text us; expr = e }) us

abbrev pub Nothing : Unit {0} → List Token → Type 0
Nothing = Is tt

-- [ word ], a type's name, which means nothing
abbrev pub TypeName : Unit {0} → List Token → Type 0
TypeName = Either (Then (Single (λ t. standing (is_plain_word t.symbol))) (λ _. Nothing)) Nothing

-- [ PRIMARY KEY ], and whether it stands; where one came before, none may
abbrev pub KeyMark : Bool → Bool → List Token → Type 0
KeyMark had = Unless (λ key. key && had) (Either (Then (Keyed keyword.Primary) (λ _. Then (Keyed keyword.Key) (λ _. Is true))) (Is false))

-- name [ word ] [ PRIMARY KEY ], of which a table has at most so many, no two with one name
abbrev pub IsColDef : List ColDef → ColDef → List Token → Type 0
IsColDef done = Then (Unless (λ name. not (nat_lt (length done) MAX_COLUMNS)) (NewName (is_col done))) (λ name. Then TypeName (λ _. Then (KeyMark (has_key done)) (λ key. Is (record { name = name; key = key }))))

-- [ WHERE name = expr ]
abbrev pub Filter : Option ColExpr → List Token → Type 0
Filter = Either (Then (Keyed keyword.Where) (λ _. Then (Equation Name) (λ filter. Is (Some filter)))) (Is None)

-- ( name { , name } )
abbrev pub Names : List (List ℕ) → List Token → Type 0
Names = Bracketed (Separated (λ done. NewName (is_among done)))

-- ( expr { , expr } )
abbrev pub Tuple : List Expr → List Token → Type 0
Tuple = Bracketed (Separated (λ done. IsExpr))

-- COUNT ( * ), with its source text
pub data Counted : Shown → List Token → Type 0 where
  counted : (us : List Token) → Then (Keyed keyword.Count) (λ _. Bracketed (Signed 42)) tt us → Counted (shown.Count (source_text us)) us

-- FROM name [ where ]
abbrev pub From : Shown → Query → List Token → Type 0
From what = Then (Keyed keyword.From) (λ _. Then Name (λ table. Then Filter (λ filter. Is (query.Select what (Some table) filter))))

-- CREATE TABLE name ( coldef { , coldef } )
abbrev pub Create : Query → List Token → Type 0
Create = Then (Keyed keyword.Create) (λ _. Then (Keyed keyword.Table) (λ _. Then Name (λ table. Then (Bracketed (Separated IsColDef)) (λ cols. Is (query.Create table cols)))))

-- INSERT INTO name [ ( name { , name } ) ] VALUES tuple { , tuple }
abbrev pub Insert : Query → List Token → Type 0
Insert = Then (Keyed keyword.Insert) (λ _. Then (Keyed keyword.Into) (λ _. Then Name (λ table. Then (Either (Then Names (λ names. Is (Some names))) (Is None)) (λ names. Then (Keyed keyword.Values) (λ _. Then (Separated (λ done. Tuple)) (λ tuples. Is (query.Insert table names tuples)))))))

-- SELECT expr { , expr } [ FROM name [ where ] ], or SELECT ( * | COUNT ( * ) ) FROM name [ where ]
abbrev pub Select : Query → List Token → Type 0
Select = Then (Keyed keyword.Select) (λ _.
    Either (Then (Signed 42) (λ _. From shown.All))
    (Either (Then Counted From)
    (Then (Separated (λ done. IsItem)) (λ items. Either (From (shown.List items)) (Is (query.Select (shown.List items) None None))))))

-- UPDATE name SET name = expr { , name = expr } [ where ]
abbrev pub Update : Query → List Token → Type 0
Update = Then (Keyed keyword.Update) (λ _. Then Name (λ table. Then (Keyed keyword.Set) (λ _. Then (Separated (λ done. Equation (NewName (is_set done)))) (λ sets. Then Filter (λ filter. Is (query.Update table sets filter))))))

-- DELETE FROM name [ where ]
abbrev pub Delete : Query → List Token → Type 0
Delete = Then (Keyed keyword.Delete) (λ _. Then (Keyed keyword.From) (λ _. Then Name (λ table. Then Filter (λ filter. Is (query.Delete table filter)))))

-- the tokens of a text without the last, which is its end, are a query
pub data IsQuery : Query → List Token → Type 0 where
  create : (q : Query) (us : List Token) → Create q us → IsQuery q us
  insert : (q : Query) (us : List Token) → Insert q us → IsQuery q us
  select : (q : Query) (us : List Token) → Select q us → IsQuery q us
  update : (q : Query) (us : List Token) → Update q us → IsQuery q us
  delete : (q : Query) (us : List Token) → Delete q us → IsQuery q us

-- the tokens of a text, up to its end, are a query
pub record IsQueryOf (q : Query) (sql : List ℕ) : Type 0 where
  pub tokens : List Token
  pub rest : List Token
  pub query : IsQuery q tokens
  pub whole : tokens_of sql ≡ tokens ++ rest
  pub ends : is_end (symbol_at rest) ≡ true

-- no text is two queries
abbrev pub NoTextIsTwoQueries : Type 0
NoTextIsTwoQueries = (sql : List ℕ) (p q : Query) → IsQueryOf p sql → IsQueryOf q sql → p ≡ q

-- what `query_of` says of a text is its query exactly where it has one
pub record QueriesAreRead : Type 0 where
  pub sound : (sql : List ℕ) (q : Query) → query_of sql ≡ Ok q → IsQueryOf q sql
  pub complete : (sql : List ℕ) (q : Query) → IsQueryOf q sql → query_of sql ≡ Ok q

-- no query is that of a text that is refused, unless for want of memory
abbrev pub RefusesRightly : List ℕ → DialectFail → Type 0
RefusesRightly sql (fail.Syntax at) = (q : Query) → ¬ IsQueryOf q sql
RefusesRightly sql fail.NoMemory = Unit {0}
