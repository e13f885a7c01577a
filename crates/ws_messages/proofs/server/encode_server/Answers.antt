use Rattle.ws_messages.proofs.ServerWritten.{encoded}
use Rattle.ws_messages.proofs.server.encode_server.Goals as goal

pub returns-clause-reads_back : goal.returns-clause-reads_back
returns-clause-reads_back c = encoded c.args.msg.now c.text_of.result c.requires c.text_of.ensures.utf8 c.text_of.ensures.reads_back c.text_of.ensures.back
