use Rattle.hrana_hub.proofs.BatonRuns.{no_baton_twice}
use Rattle.hrana_hub.proofs.laws.no_baton_is_accepted_twice.Goals as goal

pub returns : goal.returns
returns c = no_baton_twice c.no_bytes_have_two_body_readings.ensures
