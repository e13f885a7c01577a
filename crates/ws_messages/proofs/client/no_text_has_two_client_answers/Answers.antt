use Rattle.ws_messages.proofs.AnswerLemmas.{ClientAnswer-one}
use Rattle.ws_messages.proofs.client.no_text_has_two_client_answers.Goals as goal

pub returns : goal.returns
returns c = ClientAnswer-one c.no_tree_is_two_client_messages.ensures
