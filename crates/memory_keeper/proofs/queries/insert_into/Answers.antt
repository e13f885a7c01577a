use Rattle.memory_keeper.specs.declared.tables.Table.{Table}
use Rattle.memory_keeper.specs.Tables.{insert}
use Rattle.memory_keeper.proofs.ExecLemmas.{changes_on_table}
use Rattle.memory_keeper.proofs.queries.insert_into.Goals as goal

pub returns-clause-changes : goal.returns-clause-changes
returns-clause-changes c =
    changes_on_table c.args.tables.now.items c.args.name.now c.in_ok-place.place c.index_mut.result.now c.insert.new.table
    (λ (t : Table). insert t c.args.columns.now c.args.tuples.now c.args.bound.now) _
    (rw (c.as_slice.ensures.value, c.as_str.ensures) at c.in_ok-place.ensures.ok)
    (rw c.as_slice.ensures.value at c.in_ok-place.ensures.within)
    c.index_mut.ensures.value
    (rw c.as_slice-2.ensures at c.insert.ensures.changes)
