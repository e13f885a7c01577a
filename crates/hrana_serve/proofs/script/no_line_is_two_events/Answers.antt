use Rattle.hrana_serve.proofs.ScriptLemmas.{IsLineOf-one}
use Rattle.hrana_serve.proofs.script.no_line_is_two_events.Goals as goal

pub returns : goal.returns
returns c = IsLineOf-one
