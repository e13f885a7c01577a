use Rattle.hrana_hub.proofs.Following.{replies_in_order}
use Rattle.hrana_hub.proofs.laws.replies_follow_requests.Goals as goal

pub returns : goal.returns
returns c = replies_in_order c.replies_stand_in_order.ensures
