use Rattle.hrana_hub.proofs.Dead.{dead_add_nothing}
use Rattle.hrana_hub.proofs.laws.the_dead_add_nothing.Goals as goal

pub returns : goal.returns
returns c = dead_add_nothing c.shut_streams_add_nothing.ensures
