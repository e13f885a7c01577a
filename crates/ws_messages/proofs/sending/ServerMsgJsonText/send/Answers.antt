use Rattle.std.proofs.Common.{rules, subst, sym}
use Rattle.std.specs.Prelude.{FitsSigned, OnOk}
use Rattle.std.specs.Int.{w32}
use Rattle.std.proofs.lemmas.Int.{to_z-of_z}
use Rattle.serde_json.specs.Events.{SendsValue}
use Rattle.hrana_stmt.specs.Written.{error_data}
use Rattle.ws_messages.specs.WrittenServer.{refusal_object, server_data}
use Rattle.ws_messages.proofs.sending.ServerMsgJsonText.send.Goals as goal

pub returns-in-Error-clause-sends : goal.returns-in-Error-clause-sends
returns-in-Error-clause-sends g c =
    let w = g.S.Serializer.written in let id = c.in-Error.request_id in let fits : FitsSigned w32 id = search rules in
    subst (λ m. OnOk c.send_refusal.result (SendsValue (server_data m) (w c.args.out.now) (w c.send_refusal.new.out))) (sym c.in-Error.is)
    (subst (λ z. OnOk c.send_refusal.result (SendsValue (refusal_object z (error_data c.in-Error.error)) (w c.args.out.now) (w c.send_refusal.new.out))) (to_z-of_z w32 id fits) c.send_refusal.ensures.sends)
