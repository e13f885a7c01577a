use Rattle.std.proofs.Common.{subst}
use Rattle.std.specs.Prelude.{OnOk}
use Rattle.std.proofs.lemmas.Result.{on_ok_weaker}
use Rattle.serde_json.specs.Events.{SendsValue}
use Rattle.hrana_value.specs.Whole.{IsWhole}
use Rattle.hrana_value.proofs.SendingLemmas.{whole_null}
use Rattle.stream_requests.proofs.FrontLemmas.{response_some, response_none}
use Rattle.stream_requests.proofs.result_text.send_answered.Goals as goal

pub returns-in-Some-clause-sends : goal.returns-in-Some-clause-sends
returns-in-Some-clause-sends g c =
    let w = g.S.Serializer.written in
    subst (λ d. OnOk c.send_response.result (SendsValue d (w c.args.out.now) (w c.send_response.new.out))) (response_some c.args.reply.now c.in-Some.kind c.ask_kind_name.result.now c.ask_kind_name.ensures c.in-Some.ensures) c.send_response.ensures.sends

pub returns-in-Some-clause-whole : goal.returns-in-Some-clause-whole
returns-in-Some-clause-whole g c = subst (λ d. OnOk c.send_response.result (IsWhole d)) (response_some c.args.reply.now c.in-Some.kind c.ask_kind_name.result.now c.ask_kind_name.ensures c.in-Some.ensures) c.send_response.ensures.whole

pub returns-in-None-clause-sends : goal.returns-in-None-clause-sends
returns-in-None-clause-sends g c =
    let w = g.S.Serializer.written in subst (λ d. OnOk c.unit.result (SendsValue d (w c.args.out.now) (w c.unit.new.self))) (response_none c.args.reply.now c.in-None.ensures) c.unit.ensures

pub returns-in-None-clause-whole : goal.returns-in-None-clause-whole
returns-in-None-clause-whole g c = on_ok_weaker c.unit.result (λ e. subst IsWhole (response_none c.args.reply.now c.in-None.ensures) whole_null) c.unit.ensures
