use Rattle.memory_keeper.specs.declared.tables.Table.{Table}
use Rattle.memory_keeper.specs.Tables.{update}
use Rattle.memory_keeper.proofs.ExecLemmas.{changes_on_table}
use Rattle.memory_keeper.proofs.queries.update_in.Goals as goal

pub returns-clause-changes : goal.returns-clause-changes
returns-clause-changes c =
    changes_on_table c.args.tables.now.items c.args.name.now c.in_ok-place.place c.index_mut.result.now c.update.new.table
    (λ (t : Table). update t c.args.sets.now c.args.wanted.now c.args.bound.now) _
    (rw (c.as_slice.ensures.value, c.as_str.ensures) at c.in_ok-place.ensures.ok)
    (rw c.as_slice.ensures.value at c.in_ok-place.ensures.within)
    c.index_mut.ensures.value
    (rw c.as_slice-2.ensures at c.update.ensures.changes)
