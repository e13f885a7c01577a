use Rattle.std.proofs.Common.{◌≡◌}
use Rattle.hrana_hub.specs.Texts.{put_steps}
use Rattle.hrana_hub.proofs.TextLemmas.{steps_behind}
use Rattle.hrana_hub.proofs.texts.put_steps.Given as goal

-- the steps that are done, and the others with the texts put into them
abbrev pub invariant-loop-step : goal.invariant-loop-step
invariant-loop-step l = steps_behind l.put (put_steps l.texts l.step-iterator.rest.items) ≡ put_steps l.texts l.fn.steps
