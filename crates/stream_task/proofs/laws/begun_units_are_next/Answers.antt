use Rattle.stream_task.proofs.BegunLemmas.{begun_are_next}
use Rattle.stream_task.proofs.laws.begun_units_are_next.Goals as goal

pub returns : goal.returns
returns c = begun_are_next
