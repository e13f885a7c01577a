use Rattle.memory_keeper.proofs.insert.places_of.Goals as goal

pub returns-in-Some-clause-err : goal.returns-in-Some-clause-err
returns-in-Some-clause-err c = rw (c.in-Some.is, ← c.as_slice.ensures) c.places_of_names.ensures.err
