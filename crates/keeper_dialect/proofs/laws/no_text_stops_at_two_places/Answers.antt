use Rattle.keeper_dialect.proofs.Stopping.{one_place}
use Rattle.keeper_dialect.proofs.laws.no_text_stops_at_two_places.Goals as goal

pub returns : goal.returns
returns c = one_place
