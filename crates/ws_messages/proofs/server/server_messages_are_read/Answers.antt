use Rattle.ws_messages.proofs.ServerLemmas.{ServerTree-none}
use Rattle.ws_messages.proofs.server.server_messages_are_read.Goals as goal

pub returns : goal.returns
returns c = ServerTree-none c.replies_are_read.ensures
