use Rattle.stream_requests.proofs.AskNameLemmas.{none_named}
use Rattle.stream_requests.proofs.ask_kinds.ask_kind_of_name.Goals as goal

pub returns-in-None : goal.returns-in-None
returns-in-None c = none_named c.args.text.now c.in-None.ensures
