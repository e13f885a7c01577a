use Rattle.keeper_dialect.proofs.Stopping.{no_query_stops}
use Rattle.keeper_dialect.proofs.laws.no_query_stops.Goals as goal

pub returns : goal.returns
returns c = no_query_stops
