use Rattle.hrana_hub.proofs.TextLemmas.{put_asked}
use Rattle.hrana_hub.proofs.hub.Hub.put_ask.Goals as goal

pub returns-in-Some-clause-asked : goal.returns-in-Some-clause-asked
returns-in-Some-clause-asked c = λ may. put_asked c.texts.result.now c.args.ask c.put_ask.result may c.put_ask.ensures
