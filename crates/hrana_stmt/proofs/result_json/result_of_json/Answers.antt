use Rattle.std.specs.Prelude.{codes}
use Rattle.serde_json.specs.View.{view}
use Rattle.hrana_value.specs.Members.{part_at, Uint64Tree, Uint64Stands}
use Rattle.hrana_value.specs.Tree.{Int64TextTree, Int64TextStands}
use Rattle.hrana_value.specs.Trees.{ArrayTree, ArrayStands, OptionalTree, OptionalStands}
use Rattle.hrana_value.proofs.DeclineLemmas.{Reads-both-ok, Reads-both-failed, Reads-joined, Reads-at}
use Rattle.hrana_stmt.specs.Tree.{ColTree, ColStands, RowTree, RowStands}
use Rattle.hrana_stmt.proofs.result_json.result_of_json.Goals as goal

pub returns-in-Ok : goal.returns-in-Ok
returns-in-Ok c =
    let cols = part_at (codes "cols") (view c.args.json.now) in
    let rows = part_at (codes "rows") (view c.args.json.now) in
    let affected = part_at (codes "affected_row_count") (view c.args.json.now) in
    let rowid = part_at (codes "last_insert_rowid") (view c.args.json.now) in
    Reads-both-ok c.both_readings.ensures c.in-Ok.is
    (Reads-joined {m = λ m. ArrayTree ColTree m cols} {n = λ m. ArrayTree RowTree m rows} {s = ArrayStands ColStands cols} {t = ArrayStands RowStands rows} c.both_readings-lists.ensures
    (search (Reads-at (ArrayTree ColTree) (ArrayStands ColStands))) (search (Reads-at (ArrayTree RowTree) (ArrayStands RowStands))))
    (Reads-joined {m = λ m. Uint64Tree m affected} {n = λ m. OptionalTree Int64TextTree m rowid} {s = Uint64Stands affected} {t = OptionalStands Int64TextStands rowid} c.both_readings-numbers.ensures
    (search (Reads-at Uint64Tree Uint64Stands)) (search (Reads-at (OptionalTree Int64TextTree) (OptionalStands Int64TextStands))))
    (λ h. record { cols = h.0.0; rows = h.0.1; affected = h.1.0; last_rowid = h.1.1 })

pub returns-in-Err : goal.returns-in-Err
returns-in-Err c =
    let cols = part_at (codes "cols") (view c.args.json.now) in
    let rows = part_at (codes "rows") (view c.args.json.now) in
    let affected = part_at (codes "affected_row_count") (view c.args.json.now) in
    let rowid = part_at (codes "last_insert_rowid") (view c.args.json.now) in
    Reads-both-failed c.both_readings.ensures c.in-Err.is
    (Reads-joined {m = λ m. ArrayTree ColTree m cols} {n = λ m. ArrayTree RowTree m rows} {s = ArrayStands ColStands cols} {t = ArrayStands RowStands rows} c.both_readings-lists.ensures
    (search (Reads-at (ArrayTree ColTree) (ArrayStands ColStands))) (search (Reads-at (ArrayTree RowTree) (ArrayStands RowStands))))
    (Reads-joined {m = λ m. Uint64Tree m affected} {n = λ m. OptionalTree Int64TextTree m rowid} {s = Uint64Stands affected} {t = OptionalStands Int64TextStands rowid} c.both_readings-numbers.ensures
    (search (Reads-at Uint64Tree Uint64Stands)) (search (Reads-at (OptionalTree Int64TextTree) (OptionalStands Int64TextStands))))
