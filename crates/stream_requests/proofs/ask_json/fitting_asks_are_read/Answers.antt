use Rattle.stream_requests.proofs.AskLemmas.{AskMembers-fits}
use Rattle.stream_requests.proofs.ask_json.fitting_asks_are_read.Goals as goal

pub returns : goal.returns
returns c = AskMembers-fits c.fitting_batches_are_read.ensures
