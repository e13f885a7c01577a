use Rattle.ws_messages.proofs.KindLemmas.{name_of-one}
use Rattle.ws_messages.proofs.kinds.request_kinds_differ.Goals as goal

pub returns : goal.returns
returns c = name_of-one
