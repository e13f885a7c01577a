use Rattle.stream_task.proofs.TogetherLemmas.{ends_together}
use Rattle.stream_task.proofs.together.ends_keep_agreement.Goals as goal

pub returns : goal.returns
returns g c = λ engine engine' t t' old new task why now states states' h at p shut put.
    ends_together _ _ _ _ _ _ engine engine' t t' old new task why now states states' (record { reads = g.met.E.Engine.reads; writes = g.met.E.Engine.writes; refusals = g.met.E.Engine.refusals }) h at p shut put
