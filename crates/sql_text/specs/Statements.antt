-- The one statement of a text, and how it reads as a text of its own.
use Rattle.std.specs.Prelude.{◌≡◌, ◌≤◌, ℕ, false, List, [], ◌∷◌, ◌++◌, length, None, All, slice_range}
use Rattle.hrana_value.specs.declared.value.Value.{Value}
use Rattle.hrana_stmt.specs.declared.statements.NamedArg.{NamedArg}
use Rattle.sql_text.specs.declared.spans.Span.{Span}
use Rattle.sql_text.specs.declared.spans.SplitFail.{SplitFail}
use Rattle.sql_text.specs.declared.spans.SplitFail.TheVariants as split
use Rattle.sql_text.specs.declared.statements.StatementFail.{StatementFail}
use Rattle.sql_text.specs.declared.statements.StatementFail.TheVariants as fail
use Rattle.sql_text.specs.Pieces.{Token, pieces, joined}
use Rattle.sql_text.specs.Spans.{spans_of, unclosed_at, is_unclosed}
use Rattle.sql_text.specs.Class.{class_of_text}
use Rattle.sql_text.specs.Binding.{bound}

-- all pieces of the text are closed, it has one span, and the statement is what stands there
pub record IsStatementOf (sql statement : List ℕ) : Type 0 where
  pub span : Span
  pub closed : unclosed_at sql ≡ None
  pub one : spans_of sql ≡ span ∷ []
  pub cut : statement ≡ slice_range sql span.start span.end

-- all pieces are closed, and nothing but blanks, comments and `;` stands in the text
pub record HasNoStatement (sql : List ℕ) : Type 0 where
  pub closed : unclosed_at sql ≡ None
  pub none : spans_of sql ≡ []

-- all pieces are closed, and the text has two statements or more
pub record HasManyStatements (sql : List ℕ) : Type 0 where
  pub closed : unclosed_at sql ≡ None
  pub many : 2 ≤ length (spans_of sql)

-- why a text that wasn't split hasn't one statement
abbrev pub from_split : SplitFail → StatementFail
from_split (split.Unclosed at) = fail.Unclosed at
from_split split.NoMemory = fail.NoMemory

abbrev pub IsClosed : Token → Type 0
IsClosed token = is_unclosed token.kind ≡ false

-- closed pieces that stand side by side in a text, cut out of it and read alone, are the same pieces
abbrev pub EachRunHasItsPieces : Type 0
EachRunHasItsPieces =
    (sql : List ℕ) (before run after : List Token) → pieces sql ≡ before ++ run ++ after → All IsClosed run
    → pieces (slice_range sql (length (joined before)) (length (joined (before ++ run)))) ≡ run

-- a statement reads as its text: it is its own one statement, and has the text's class and the values of its parameters
pub record ReadsAsItsText (sql statement : List ℕ) : Type 0 where
  pub itself : IsStatementOf statement statement
  pub class : class_of_text statement ≡ class_of_text sql
  pub values : (args : List Value) (named : List NamedArg) → bound statement args named ≡ bound sql args named

abbrev pub EachStatementReadsAsItsText : Type 0
EachStatementReadsAsItsText = (sql statement : List ℕ) → IsStatementOf sql statement → ReadsAsItsText sql statement
