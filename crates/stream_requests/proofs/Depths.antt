-- How deep what is written nests.
use Rattle.std.proofs.Common.{◌≤◌, List, arith}
use Rattle.serde_json.specs.Data.{depth}
use Rattle.hrana_value.proofs.Depths.{items_depth-map, depth-values_data}
use Rattle.hrana_stmt.proofs.Depths.{depth-cols_data, depth-rowid_data, depth-error_data}
use Rattle.stream_requests.specs.declared.entries.CursorEntry.{CursorEntry}
use Rattle.stream_requests.specs.declared.entries.CursorEntry.TheVariants.{StepBegin, StepEnd, StepError, Row, Error}
use Rattle.stream_requests.specs.WrittenEntries.{entry_data, entries_data}

depth-entry_data : (e : CursorEntry) → depth (entry_data e) ≤ 3
depth-entry_data (StepBegin step cols) = omega (arith, depth-cols_data cols)
depth-entry_data (StepEnd affected rowid) = omega (arith, depth-rowid_data rowid)
depth-entry_data (StepError step error) = omega (arith, depth-error_data error)
depth-entry_data (Row row) = omega (arith, depth-values_data row)
depth-entry_data (Error error) = omega (arith, depth-error_data error)

pub depth-entries_data : (entries : List CursorEntry) → depth (entries_data entries) ≤ 4
depth-entries_data entries = omega (arith, items_depth-map entry_data 3 depth-entry_data entries)
