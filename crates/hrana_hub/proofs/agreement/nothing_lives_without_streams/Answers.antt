use Rattle.hrana_hub.proofs.Beginning.{nothing_lives}
use Rattle.hrana_hub.proofs.agreement.nothing_lives_without_streams.Goals as goal

pub returns : goal.returns
returns g c = nothing_lives _ _ _
