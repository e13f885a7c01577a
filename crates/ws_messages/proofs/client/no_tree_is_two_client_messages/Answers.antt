use Rattle.ws_messages.proofs.RequestLemmas.{RequestTree-one}
use Rattle.ws_messages.proofs.ClientLemmas.{ClientTree-one}
use Rattle.ws_messages.proofs.client.no_tree_is_two_client_messages.Goals as goal

pub returns : goal.returns
returns c = ClientTree-one (RequestTree-one c.no_tree_is_two_batches.ensures c.no_members_are_two_asks.ensures)
