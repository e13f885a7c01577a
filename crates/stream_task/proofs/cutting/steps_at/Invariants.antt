use Rattle.std.proofs.Common.{◌≡◌, map, take}
use Rattle.stream_task.specs.Doing.{step_at}
use Rattle.stream_task.proofs.cutting.steps_at.Given as goal

abbrev pub invariant-loop-span : goal.invariant-loop-span
invariant-loop-span l = l.steps.items ≡ map (step_at l.text) (take l.span-index l.spans)
