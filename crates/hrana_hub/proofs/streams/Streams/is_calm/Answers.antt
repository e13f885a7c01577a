use Rattle.std.proofs.lemmas.Bool.{ltb-true}
use Rattle.hrana_hub.proofs.Summing.{none_due, all_calm}
use Rattle.hrana_hub.proofs.streams.Streams.is_calm.Goals as goal

pub returns : goal.returns
returns c = λ early from. none_due c.args.moment from c.args.self.now c.settled.ensures.rising (all_calm c.settled.result 0 c.args.self.now c.settled.ensures.all c.settled.ensures.sums c.args.moment (ltb-true c.args.moment c.settled.result.calm_until early))
