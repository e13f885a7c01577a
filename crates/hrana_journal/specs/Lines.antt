-- The line that an entry is written as.
use Rattle.std.specs.Prelude.{ℕ, List, [], ◌∷◌, ◌++◌, Option, None, Some, codes}
use Rattle.serde_json.specs.Data.{Data, null, boolean, number, unsigned, string, array, object, member, no_members}
use Rattle.serde_json.specs.Written.{compact_text}
use Rattle.hrana_value.specs.Written.{values_data}
use Rattle.hrana_stmt.specs.Codes.{name_of}
use Rattle.hrana_stmt.specs.Written.{result_data}
use Rattle.engine_core.specs.declared.statement.BoundStmt.{BoundStmt}
use Rattle.engine_core.specs.declared.entries.Answer.{Answer}
use Rattle.engine_core.specs.declared.entries.Answer.TheVariants.{Gave, Refused}
use Rattle.engine_core.specs.declared.entries.Broken.{Broken}
use Rattle.engine_core.specs.declared.entries.Broken.TheVariants as broken
use Rattle.engine_core.specs.declared.entries.Deny.TheVariants.{Stale, Held}
use Rattle.engine_core.specs.declared.entries.Entry.{Entry}
use Rattle.engine_core.specs.declared.entries.Entry.TheVariants.{Alone, Began, Ran, Denied, Ended, Failed}
use Rattle.engine_core.specs.declared.entries.How.{How}
use Rattle.engine_core.specs.declared.entries.How.TheVariants.{Committed, Read, Undone}
use Rattle.engine_core.specs.declared.entries.Undo.TheVariants as undo
use Rattle.hrana_journal.specs.declared.line_journal.LineJournal.{LineJournal}

abbrev pub answer_data : Answer → Data
answer_data (Gave given) = result_data given
answer_data (Refused code) = object (member (codes "refused") (string (name_of code)) no_members)

-- a statement with its values; its class is read off the text
abbrev pub bound_data : BoundStmt → Data
bound_data s = object (member (codes "sql") (string s.sql) (member (codes "values") (array (values_data s.values)) no_members))

abbrev pub unit_data : Option ℕ → Data
unit_data None = null
unit_data (Some unit) = number (unsigned unit)

abbrev pub how_name : How → List ℕ
how_name Committed = codes "committed"
how_name Read = codes "read"
how_name (Undone undo.Close) = codes "close"
how_name (Undone undo.Lost) = codes "lost"
how_name (Undone undo.Expired) = codes "expired"
how_name (Undone undo.Rollback) = codes "rollback"
how_name (Undone undo.Stop) = codes "stop"

abbrev pub cause_name : Broken → List ℕ
cause_name broken.Fault = codes "fault"
cause_name broken.NoMemory = codes "memory"

abbrev pub entry_data : Entry → Data
entry_data (Alone stream stmt answer wrote) =
    object (member (codes "answer") (answer_data answer) (member (codes "kind") (string (codes "alone")) (member (codes "stmt") (bound_data stmt) (member (codes "stream") (number (unsigned stream.0)) (member (codes "wrote") (boolean wrote) no_members)))))
entry_data (Began unit stream) = object (member (codes "kind") (string (codes "began")) (member (codes "stream") (number (unsigned stream.0)) (member (codes "unit") (number (unsigned unit)) no_members)))
entry_data (Ran unit stmt answer) =
    object (member (codes "answer") (answer_data answer) (member (codes "kind") (string (codes "ran")) (member (codes "stmt") (bound_data stmt) (member (codes "unit") (number (unsigned unit)) no_members))))
entry_data (Denied unit (Stale had now)) =
    object (member (codes "had") (number (unsigned had)) (member (codes "kind") (string (codes "stale")) (member (codes "now") (number (unsigned now)) (member (codes "unit") (number (unsigned unit)) no_members))))
entry_data (Denied unit (Held by)) = object (member (codes "by") (number (unsigned by.0)) (member (codes "kind") (string (codes "held")) (member (codes "unit") (number (unsigned unit)) no_members)))
entry_data (Ended unit how) = object (member (codes "how") (string (how_name how)) (member (codes "kind") (string (codes "ended")) (member (codes "unit") (number (unsigned unit)) no_members)))
entry_data (Failed stream unit cause) =
    object (member (codes "cause") (string (cause_name cause)) (member (codes "kind") (string (codes "failed")) (member (codes "stream") (number (unsigned stream.0)) (member (codes "unit") (unit_data unit) no_members))))

-- one compact JSON object, and a newline
abbrev pub entry_line : Entry → List ℕ
entry_line entry = compact_text (entry_data entry) ++ 10 ∷ []

-- where a journal of lines writes
abbrev pub sink_of : {O : Type 0} → LineJournal O → O
sink_of j = j.sink
