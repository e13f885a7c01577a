use Rattle.std.proofs.Common.{◌≡◌, length}
use Rattle.stream_task.specs.Steps.{passed}
use Rattle.stream_task.proofs.steps.StepRun.pass_over.Given as goal

abbrev pub invariant-loop-self : goal.invariant-loop-self
invariant-loop-self l = passed l.fn.auto l.self ≡ passed l.fn.auto l.fn.self

abbrev pub decreases-loop-self : goal.decreases-loop-self
decreases-loop-self l = length l.self.left
