use Rattle.stream_task.proofs.TogetherLemmas.{joins_together}
use Rattle.stream_task.proofs.together.a_stream_joins.Goals as goal

pub returns : goal.returns
returns g c = joins_together _ _
