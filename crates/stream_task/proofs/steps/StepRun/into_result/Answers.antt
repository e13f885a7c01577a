use Rattle.std.proofs.Common.{ap, ◌∙◌}
use Rattle.stream_task.specs.Steps.{Steps}
use Rattle.stream_task.proofs.StepLemmas.{none_left}
use Rattle.stream_task.proofs.steps.StepRun.into_result.Goals as goal

pub into_result-requires : goal.into_result-requires
into_result-requires c = none_left _ _ c.self.invariant (ap (λ (s : Steps). s.left) c.self.view_is ∙ c.requires)
