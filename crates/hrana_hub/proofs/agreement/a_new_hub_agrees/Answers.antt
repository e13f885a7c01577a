use Rattle.hrana_hub.proofs.Beginning.{new_agrees}
use Rattle.hrana_hub.proofs.agreement.a_new_hub_agrees.Goals as goal

pub returns : goal.returns
returns g c = new_agrees _ _ _ c.streams_begin.ensures c.streams_stand_at_first.ensures
