use Rattle.hrana_hub.proofs.AnsweredOnce.{answered_once}
use Rattle.hrana_hub.proofs.laws.exchanges_are_answered_once.Goals as goal

pub returns : goal.returns
returns c = answered_once
