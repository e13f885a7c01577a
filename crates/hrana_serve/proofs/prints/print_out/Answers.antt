use Rattle.std.proofs.Common.{◌∙◌}
use Rattle.hrana_serve.proofs.PrintLemmas.{message_is, vec_bytes}
use Rattle.hrana_serve.proofs.prints.print_out.Goals as goal

pub returns-in_ok-line-in-Message : goal.returns-in_ok-line-in-Message
returns-in_ok-line-in-Message c = rw c.in-Message.is (vec_bytes c.into_bytes.result c.in_ok-line-in-Message.line c.into_bytes.ensures.value ∙ message_is _ c.args.conn c.as_str.result.now c.in-Message.text c.as_str.ensures c.in_ok-line-in-Message.ensures.ok)
