use Rattle.memory_keeper.proofs.queries.run_query.Goals as goal

pub returns-in-Insert-clause-changes : goal.returns-in-Insert-clause-changes
returns-in-Insert-clause-changes c = rw c.in-Insert.is c.insert_into.ensures.changes

pub returns-in-Update-clause-changes : goal.returns-in-Update-clause-changes
returns-in-Update-clause-changes c = rw c.in-Update.is c.update_in.ensures.changes

pub returns-in-Delete-clause-changes : goal.returns-in-Delete-clause-changes
returns-in-Delete-clause-changes c = rw c.in-Delete.is c.delete_from.ensures.changes
