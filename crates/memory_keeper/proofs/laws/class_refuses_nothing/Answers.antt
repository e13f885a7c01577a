use Rattle.memory_keeper.proofs.ClassLemmas.{query_fits, query_runs}
use Rattle.memory_keeper.proofs.laws.class_refuses_nothing.Goals as goal

pub returns : goal.returns
returns c = record { fits = query_fits; runs = query_runs }
