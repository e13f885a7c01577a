use Rattle.hrana_hub.proofs.Versions.{runs_have_versions as versions}
use Rattle.hrana_hub.proofs.laws.runs_have_versions.Goals as goal

pub returns : goal.returns
returns c = versions c.begun_units_are_next.ensures
