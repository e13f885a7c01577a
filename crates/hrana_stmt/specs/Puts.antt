-- What puts into an object do.
use Rattle.std.specs.Prelude.{codes, FitsSigned}
use Rattle.std.specs.Int.{w32}
use Rattle.serde_json.specs.Data.{number, string, Members, put}
use Rattle.serde_json.specs.Find.{of_integer}
use Rattle.hrana_stmt.specs.declared.statements.SqlRef.{SqlRef}
use Rattle.hrana_stmt.specs.declared.statements.SqlRef.TheVariants.{Text, Id}

abbrev pub put_sql : SqlRef → Members → Members
put_sql (Text s) ms = put (codes "sql") (string s) ms
put_sql (Id z) ms = put (codes "sql_id") (number (of_integer z)) ms

-- the number of a stored text is one of 32 bits
abbrev pub SqlIdFits : SqlRef → Type 0
SqlIdFits (Text s) = Unit {0}
SqlIdFits (Id z) = FitsSigned w32 z
