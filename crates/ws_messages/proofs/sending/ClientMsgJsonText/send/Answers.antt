use Rattle.std.proofs.Common.{rules}
use Rattle.std.specs.Prelude.{FitsSigned}
use Rattle.std.specs.Int.{w32}
use Rattle.std.proofs.lemmas.Result.{on_ok_weaker}
use Rattle.ws_messages.proofs.ClientWritten.{client_back, numbered_back}
use Rattle.ws_messages.proofs.sending.ClientMsgJsonText.send.Goals as goal

pub returns-in-Request-clause-back : goal.returns-in-Request-clause-back
returns-in-Request-clause-back g c =
    let m = c.args.self.now in let id = c.in-Request.request_id in let fits : FitsSigned w32 id = search rules in
    on_ok_weaker c.send_numbered.result (λ back. λ formed. client_back m formed (numbered_back m id c.in-Request.request c.in-Request.is fits back.1)) c.send_numbered.ensures.back
