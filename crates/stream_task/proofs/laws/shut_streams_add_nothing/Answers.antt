use Rattle.stream_task.proofs.TaskLemmas.{shut_adds_nothing}
use Rattle.stream_task.proofs.laws.shut_streams_add_nothing.Goals as goal

pub returns : goal.returns
returns c = shut_adds_nothing
