use Rattle.std.proofs.Common.{subst}
use Rattle.stream_task.specs.Steps.{Steps, NextIn}
use Rattle.stream_task.proofs.StepLemmas.{next_in}
use Rattle.stream_task.proofs.steps.StepRun.next.Goals as goal

pub returns : goal.returns
returns c = subst (λ (s : Steps). NextIn c.args.auto s.left s.done c.next.result) c.self.view_is (next_in _ _ _ c.next.ensures)
