-- What a text with arguments is prepared as: its one statement with its class and values, or the first refusal.
use Rattle.std.specs.Prelude.{◌≡◌, ◌≤◌, ℕ, List, [], ◌∷◌, length, Option, None, Some, Result, Ok, Err, slice_range}
use Rattle.hrana_value.specs.declared.value.Value.{Value}
use Rattle.hrana_stmt.specs.declared.statements.NamedArg.{NamedArg}
use Rattle.sql_text.specs.declared.binding.BindFail.{BindFail}
use Rattle.sql_text.specs.declared.binding.BindFail.TheVariants as bind
use Rattle.sql_text.specs.declared.class.Class.{Class}
use Rattle.sql_text.specs.declared.class.Class.TheVariants as class
use Rattle.sql_text.specs.declared.spans.Span.{Span}
use Rattle.sql_text.specs.declared.prepared.Prepared.{Prepared}
use Rattle.sql_text.specs.declared.prepared.PrepareFail.{PrepareFail}
use Rattle.sql_text.specs.declared.prepared.PrepareFail.TheVariants as fail
use Rattle.sql_text.specs.declared.prepared.Statement.{Statement}
use Rattle.sql_text.specs.Binding.{bound}
use Rattle.sql_text.specs.Class.{class_of_text}
use Rattle.sql_text.specs.Spans.{spans_of, unclosed_at}

-- the span of the one statement of a text, by its unclosed piece and its spans
abbrev pub one_span : Option ℕ → List Span → Result Span PrepareFail
one_span (Some at) spans = Err (fail.Unclosed at)
one_span None [] = Err fail.Empty
one_span None (span ∷ []) = Ok span
one_span None (span ∷ other ∷ spans) = Err fail.Many

-- the classes of statements that aren't run; a statement is not empty
abbrev pub class_refused : Class → Option PrepareFail
class_refused class.Savepoint = Some fail.Savepoint
class_refused class.Barred = Some fail.Barred
class_refused class.Empty = Some fail.Empty
class_refused (class.Begin mode) = None
class_refused class.Commit = None
class_refused class.Rollback = None
class_refused class.Read = None
class_refused class.Write = None

abbrev pub with_values : List ℕ → Class → Result (List Value) BindFail → Result Prepared PrepareFail
with_values sql c (Ok values) = Ok (record { sql = sql; class = c; values = values })
with_values sql c (Err refusal) = Err fail.Args

-- a statement of this text and class, by what is refused of its class and by its values
abbrev pub prepared_by : List ℕ → Class → Option PrepareFail → Result (List Value) BindFail → Result Prepared PrepareFail
prepared_by sql c (Some refusal) values = Err refusal
prepared_by sql c None values = with_values sql c values

abbrev pub prepared_text : List ℕ → List Value → List NamedArg → Result Prepared PrepareFail
prepared_text sql args named = prepared_by sql (class_of_text sql) (class_refused (class_of_text sql)) (bound sql args named)

abbrev pub prepared_at : List ℕ → List Value → List NamedArg → Result Span PrepareFail → Result Prepared PrepareFail
prepared_at sql args named (Err refusal) = Err refusal
prepared_at sql args named (Ok span) = prepared_text (slice_range sql span.start span.end) args named

-- the one statement of a text with its class and values, or the first refusal in this order: a piece isn't closed,
-- there is no statement, or more than one, its class is not run, its arguments don't match its parameters
unfoldable pub prepared_of : List ℕ → List Value → List NamedArg → Result Prepared PrepareFail
prepared_of sql args named = prepared_at sql args named (one_span (unclosed_at sql) (spans_of sql))

-- an answer is the expected one, unless memory ran out
abbrev pub PreparesAs : Result Prepared PrepareFail → Result Prepared PrepareFail → Type 0
PreparesAs (Err fail.NoMemory) expected = Unit {0}
PreparesAs answer expected = expected ≡ answer

-- why a statement whose arguments weren't bound isn't prepared
abbrev pub from_bind : BindFail → PrepareFail
from_bind bind.NoMemory = fail.NoMemory
from_bind f = fail.Args

-- the one statement of a text of these spans and this class, or why there isn't one
abbrev pub IsFoundAs : List Span → Class → Result Statement PrepareFail → Type 0
IsFoundAs spans c (Ok statement) = (spans ≡ statement.span ∷ []) × (c ≡ statement.class)
IsFoundAs spans c (Err fail.Empty) = spans ≡ []
IsFoundAs spans c (Err fail.Many) = 2 ≤ length spans
IsFoundAs spans c (Err refusal) = ⊥
