use Rattle.std.proofs.Common.{◌≡◌, ◌+◌, ◌<◌, ◌^◌, Ok, take, length}
use Rattle.memory_keeper.specs.Tables.{tuples_added, with_rows}
use Rattle.memory_keeper.proofs.insert.new_rows.Given as goal

abbrev pub invariant-loop-tuple : goal.invariant-loop-tuple
invariant-loop-tuple l = record {
  added : tuples_added l.table (take l.tuple-index l.tuples) ≡ Ok (with_rows l.table l.fresh);
  room : l.table.next_rowid + length l.fresh < 2 ^ 64;
  last : 0 < l.tuple-index → l.table.next_rowid + length l.fresh < 2 ^ 63;
}
