use Rattle.hrana_hub.proofs.Counted.{waits_counted}
use Rattle.hrana_hub.proofs.laws.waiting_requests_are_counted.Goals as goal

pub returns : goal.returns
returns c = waits_counted c.streams_are_closed_by_closes.ensures
