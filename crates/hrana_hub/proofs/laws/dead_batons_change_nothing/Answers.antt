use Rattle.hrana_hub.proofs.DeadBatons.{dead_batons}
use Rattle.hrana_hub.proofs.laws.dead_batons_change_nothing.Goals as goal

pub returns : goal.returns
returns c = dead_batons c.no_bytes_have_two_body_readings.ensures
