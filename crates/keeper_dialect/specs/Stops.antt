-- The place where a text stops, by the grammar.
use Rattle.std.specs.Prelude.{◌≡◌, ℕ, nat_lt, true, List, [], ◌∷◌, ◌++◌, length}
use Rattle.keeper_dialect.specs.declared.limits.TheConstants.{MAX_COLUMNS}
use Rattle.keeper_dialect.specs.declared.tokens.Keyword.TheVariants as keyword
use Rattle.keeper_dialect.specs.declared.query.DialectFail.{DialectFail}
use Rattle.keeper_dialect.specs.declared.query.DialectFail.TheVariants as fail
use Rattle.keeper_dialect.specs.declared.query.Query.{Query}
use Rattle.keeper_dialect.specs.Tokens.{Token, tokens_of}
use Rattle.keeper_dialect.specs.Query.{is_end}
use Rattle.keeper_dialect.specs.Grammar.{Then, Unless, Keyed, Signed, Name, Separated, IsColDef, IsQuery, IsQueryOf}

-- coldef { , coldef } , with as many columns as a table may have
abbrev pub FullCols : Unit {0} → List Token → Type 0
FullCols = Then (Unless (λ cols. nat_lt (length cols) MAX_COLUMNS) (Separated IsColDef)) (λ cols. Signed 44)

-- CREATE TABLE name ( coldef { , coldef } , behind which one column more is too many
abbrev pub FullTable : Unit {0} → List Token → Type 0
FullTable = Then (Keyed keyword.Create) (λ _. Then (Keyed keyword.Table) (λ _. Then Name (λ table. Then (Signed 40) (λ _. FullCols))))

-- Tokens that a query may begin with. A column too many is refused where it starts, so the comma before it may still stand.
pub data CanBegin (us : List Token) : Type 0 where
  by_query : (q : Query) (more : List Token) → IsQuery q (us ++ more) → CanBegin us
  by_columns : FullTable tt us → CanBegin us

-- A text stops at a place: there its first token starts that can't follow those before it, which a query may begin with.
-- That token may be the end of the text, where those before it are no query yet.
pub record StopsAt (sql : List ℕ) (at : ℕ) : Type 0 where
  pub before : List Token
  pub token : Token
  pub rest : List Token
  pub whole : tokens_of sql ≡ before ++ token ∷ rest
  pub place : token.start ≡ at
  pub begins : CanBegin before
  pub stops : ¬ CanBegin (before ++ token ∷ [])
  pub ends : is_end token.symbol ≡ true → at ≡ length sql
  pub short : is_end token.symbol ≡ true → (q : Query) → ¬ IsQuery q before

-- the place of a text that is refused is where it stops, unless memory ran out
abbrev pub StopsRightly : List ℕ → DialectFail → Type 0
StopsRightly sql (fail.Syntax at) = StopsAt sql at
StopsRightly sql fail.NoMemory = Unit {0}

-- no text that is a query stops
abbrev pub NoQueryStops : Type 0
NoQueryStops = (sql : List ℕ) (q : Query) (at : ℕ) → IsQueryOf q sql → ¬ StopsAt sql at

-- no text stops at two places
abbrev pub NoTextStopsAtTwoPlaces : Type 0
NoTextStopsAtTwoPlaces = (sql : List ℕ) (at other : ℕ) → StopsAt sql at → StopsAt sql other → at ≡ other
