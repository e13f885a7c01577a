use Rattle.hrana_hub.proofs.Kept.{limits}
use Rattle.hrana_hub.proofs.laws.limits_hold.Goals as goal

pub returns : goal.returns
returns c = limits
