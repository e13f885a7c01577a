use Rattle.ws_messages.proofs.RequestLemmas.{RequestTree-fits}
use Rattle.ws_messages.proofs.ClientLemmas.{ClientTree-fits}
use Rattle.ws_messages.proofs.client.fitting_client_messages_are_read.Goals as goal

pub returns : goal.returns
returns c = ClientTree-fits (RequestTree-fits c.fitting_batches_are_read.ensures c.fitting_asks_are_read.ensures)
