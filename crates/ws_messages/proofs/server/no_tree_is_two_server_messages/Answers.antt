use Rattle.ws_messages.proofs.ServerLemmas.{ServerTree-one}
use Rattle.ws_messages.proofs.server.no_tree_is_two_server_messages.Goals as goal

pub returns : goal.returns
returns c = ServerTree-one c.no_members_are_two_replies.ensures
