use Rattle.stream_task.proofs.TogetherLemmas.{polls_together}
use Rattle.stream_task.proofs.together.polls_keep_agreement.Goals as goal

pub returns : goal.returns
returns g c = λ engine engine' t t' old new task task' result states states' h at p put.
    polls_together _ _ _ _ _ _ engine engine' t t' old new task task' result states states' (record { reads = g.met.E.Engine.reads; writes = g.met.E.Engine.writes; refusals = g.met.E.Engine.refusals }) h at p put
