use Rattle.stream_requests.proofs.AskLemmas.{AskMembers-fits}
use Rattle.stream_requests.proofs.BatchFacts.{batches_fit}
use Rattle.ws_messages.proofs.RequestLemmas.{RequestTree-fits}
use Rattle.ws_messages.proofs.ClientLemmas.{ClientTree-fits}
use Rattle.ws_messages.proofs.ClientWritten.{encoded}
use Rattle.ws_messages.proofs.client.encode_client.Goals as goal

pub returns-clause-reads_back : goal.returns-clause-reads_back
returns-clause-reads_back c =
    encoded (ClientTree-fits (RequestTree-fits batches_fit (AskMembers-fits batches_fit))) c.args.msg.now c.text_of.result c.requires c.text_of.ensures.utf8 c.text_of.ensures.reads_back c.text_of.ensures.back
