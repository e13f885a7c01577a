use Rattle.stream_task.proofs.TaskLemmas.{task_means}
use Rattle.stream_task.proofs.laws.replies_stand_in_order.Goals as goal

pub returns : goal.returns
returns c = task_means
