use Rattle.std.proofs.Common.{rules}
use Rattle.stream_task.proofs.StepLemmas.{unfinished}
use Rattle.stream_task.proofs.steps.StepRun.is_finished.Goals as goal

pub returns-in_default : goal.returns-in_default
returns-in_default c = (λ h. search rules, λ e. absurd (unfinished _ _ _ _ c.next.ensures c.in_default.not-Finished e))
