use Rattle.stream_requests.proofs.AskLemmas.{AskMembers-one}
use Rattle.stream_requests.proofs.ask_json.no_members_are_two_asks.Goals as goal

pub returns : goal.returns
returns c = AskMembers-one c.no_tree_is_two_batches.ensures
