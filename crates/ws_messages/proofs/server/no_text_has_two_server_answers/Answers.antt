use Rattle.ws_messages.proofs.ServerAnswerLemmas.{ServerAnswer-one}
use Rattle.ws_messages.proofs.server.no_text_has_two_server_answers.Goals as goal

pub returns : goal.returns
returns c = ServerAnswer-one c.no_tree_is_two_server_messages.ensures c.server_messages_are_read.ensures
