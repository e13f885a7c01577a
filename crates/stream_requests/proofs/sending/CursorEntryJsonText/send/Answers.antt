use Rattle.std.proofs.Common.{subst, sym}
use Rattle.std.specs.Prelude.{OnOk}
use Rattle.serde_json.specs.Events.{SendsValue}
use Rattle.stream_requests.specs.WrittenEntries.{entry_data}
use Rattle.stream_requests.proofs.sending.CursorEntryJsonText.send.Goals as goal

pub returns-in-StepError-clause-sends : goal.returns-in-StepError-clause-sends
returns-in-StepError-clause-sends g c =
    let w = g.S.Serializer.written in
    subst (λ e. OnOk c.send_step_error.result (SendsValue (entry_data e) (w c.args.out.now) (w c.send_step_error.new.out))) (sym c.in-StepError.is) c.send_step_error.ensures.sends
