use Rattle.stream_task.proofs.TogetherLemmas.{begins_together}
use Rattle.stream_task.proofs.together.streams_begin.Goals as goal

pub returns : goal.returns
returns g c = begins_together _ _
