use Rattle.std.proofs.Common.{subst}
use Rattle.std.specs.Prelude.{OnOk}
use Rattle.std.proofs.lemmas.Result.{on_ok_weaker}
use Rattle.serde_json.specs.Events.{SendsValue}
use Rattle.hrana_value.specs.Whole.{IsWhole}
use Rattle.stream_requests.proofs.ResultWritten.{replied, replied_back}
use Rattle.stream_requests.proofs.result_text.ReplyJsonText.send.Goals as goal

pub returns-in_default : goal.returns-in_default
returns-in_default g c =
    let w = g.S.Serializer.written in let r = c.args.self.now in let sent = c.send_replied.ensures in let same = replied r c.in_default.not-Failed in
    record {
      sends = subst (λ d. OnOk c.send_replied.result (SendsValue d (w c.args.out.now) (w c.send_replied.new.out))) same sent.sends;
      whole = subst (λ d. OnOk c.send_replied.result (IsWhole d)) same sent.whole;
      back = on_ok_weaker c.send_replied.result (λ h formed. replied_back r c.in_default.not-Failed h formed) sent.back;
    }
