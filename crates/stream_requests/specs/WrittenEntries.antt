-- The trees that cursor entries are written as.
use Rattle.std.specs.Prelude.{ℕ, List, map, codes}
use Rattle.serde_json.specs.Data.{Data, number, unsigned, string, array, object, member, no_members}
use Rattle.serde_json.specs.View.{items_of}
use Rattle.hrana_stmt.specs.Written.{cols_data, row_data, rowid_data, error_data}
use Rattle.hrana_batch.specs.Written.{type_member}
use Rattle.stream_requests.specs.declared.entries.CursorEntry.{CursorEntry}
use Rattle.stream_requests.specs.declared.entries.CursorEntry.TheVariants.{StepBegin, StepEnd, StepError, Row, Error}

-- ---- an entry of these parts

abbrev pub begin_object : ℕ → Data → Data
begin_object step cols = object (member (codes "cols") cols (member (codes "step") (number (unsigned step)) (member (codes "type") (string (codes "step_begin")) no_members)))

abbrev pub end_object : ℕ → Data → Data
end_object affected rowid =
    object (member (codes "affected_row_count") (number (unsigned affected)) (member (codes "last_insert_rowid") rowid (member (codes "type") (string (codes "step_end")) no_members)))

abbrev pub step_error_object : ℕ → Data → Data
step_error_object step error = object (member (codes "error") error (member (codes "step") (number (unsigned step)) (member (codes "type") (string (codes "step_error")) no_members)))

abbrev pub row_object : Data → Data
row_object row = object (member (codes "row") row (member (codes "type") (string (codes "row")) no_members))

-- also of other errors, by their `type`
abbrev pub error_object : List ℕ → Data → Data
error_object kind error = object (member (codes "error") error (type_member kind))

-- ---- entries

abbrev pub entry_data : CursorEntry → Data
entry_data (StepBegin step cols) = begin_object step (cols_data cols)
entry_data (StepEnd affected rowid) = end_object affected (rowid_data rowid)
entry_data (StepError step error) = step_error_object step (error_data error)
entry_data (Row row) = row_object (row_data row)
entry_data (Error error) = error_object (codes "error") (error_data error)

abbrev pub entries_data : List CursorEntry → Data
entries_data entries = array (items_of (map entry_data entries))
