use Rattle.stream_task.proofs.BatchLemmas.{batches_meant}
use Rattle.stream_task.proofs.laws.batches_are_meant.Goals as goal

pub returns : goal.returns
returns c = batches_meant
