use Rattle.memory_keeper.specs.declared.tables.Table.{Table}
use Rattle.memory_keeper.specs.Tables.{select}
use Rattle.memory_keeper.proofs.ExecLemmas.{gives_on_table}
use Rattle.memory_keeper.proofs.queries.selected_from.Goals as goal

pub returns-in_ok-push-in-None-clause-gives : goal.returns-in_ok-push-in-None-clause-gives
returns-in_ok-push-in-None-clause-gives c =
    rw c.in-None.is (rw (c.in_ok-push-in-None.ensures.ok, c.new-rows.ensures, c.no_columns.ensures) at c.select.ensures.gives)

pub returns-in_ok-place-in-Some-clause-gives : goal.returns-in_ok-place-in-Some-clause-gives
returns-in_ok-place-in-Some-clause-gives c =
    rw c.in-Some.is
    (gives_on_table c.args.tables.now c.in-Some.name c.in_ok-place-in-Some.place c.index-tables-place.result
    (λ (t : Table). select t.columns t.rows c.args.shown.now c.args.wanted.now c.args.bound.now) _
    (rw c.as_str.ensures at c.in_ok-place-in-Some.ensures.ok)
    c.in_ok-place-in-Some.ensures.within c.index-tables-place.is
    (rw c.as_slice.ensures at c.select-in-Some.ensures.gives))
