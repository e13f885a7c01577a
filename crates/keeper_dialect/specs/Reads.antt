-- What the class of a text says of its query.
use Rattle.std.specs.Prelude.{◌≡◌, ℕ, Bool, true, false, List, Ok}
use Rattle.sql_text.specs.declared.class.Class.TheVariants as class
use Rattle.sql_text.specs.Class.{class_of_text}
use Rattle.keeper_dialect.specs.declared.query.Query.{Query}
use Rattle.keeper_dialect.specs.declared.query.Query.TheVariants as query
use Rattle.keeper_dialect.specs.Query.{query_of}

-- a query that only reads
abbrev pub is_select : Query → Bool
is_select (query.Select what table filter) = true
is_select _ = false

-- the query of a text whose class is `Read` only reads
abbrev pub EachReadIsASelect : Type 0
EachReadIsASelect = (sql : List ℕ) (q : Query) → query_of sql ≡ Ok q → class_of_text sql ≡ class.Read → is_select q ≡ true
