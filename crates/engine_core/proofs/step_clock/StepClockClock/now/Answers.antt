use Rattle.std.proofs.Common.{◌≡◌, ◌-◌, min, length, rules, arith, slice_index}
use Rattle.std.proofs.lemmas.Grind.{common_steps}
use Rattle.engine_core.specs.Readings.{reading_after}
use Rattle.engine_core.proofs.ToldLemmas.{told_more}
use Rattle.engine_core.proofs.step_clock.StepClockClock.now.Goals as goal

pub returns-clause-reading : goal.returns-clause-reading
returns-clause-reading c =
    let value : slice_index c.args.self.now.listed.items (min c.args.self.now.given (length c.args.self.now.listed.items - 1)) ≡ c.index.result.now = grind (arith, common_steps) in
    told_more (reading_after c.args.self.now.listed.items) 0 c.args.self.now.given c.args.self.now.given c.saturating_add-self.result c.index.result.now (omega arith) (search rules) (λ _. value)
