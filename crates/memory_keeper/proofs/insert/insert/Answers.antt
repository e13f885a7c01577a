use Rattle.std.proofs.Common.{length, ap, arith}
use Rattle.memory_keeper.specs.declared.tables.Table.{Table}
use Rattle.memory_keeper.specs.Tables.{tuple_of}
use Rattle.memory_keeper.proofs.RowLemmas.{length-each}
use Rattle.memory_keeper.proofs.insert.insert.Goals as goal

pub last_rowid-requires : goal.last_rowid-requires
last_rowid-requires c = λ some.
    let long = length-each (tuple_of c.args.bound.now c.as_slice-2.result.now) c.args.tuples.now c.in_ok-resolved.resolved.items c.in_ok-resolved.ensures.ok in
    let next = ap (λ (t : Table). t.next_rowid) c.in_ok-put_rows.ensures.ok in
    let there = ap length c.as_slice-3.ensures.value in
    let room = c.in_ok-fresh.ensures.last (omega (arith, long, there)) in
    omega (arith, next, room)
