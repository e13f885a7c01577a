use Rattle.std.proofs.lemmas.Result.{on_ok_weaker}
use Rattle.std.proofs.Common.{codes, refl, subst}
use Rattle.serde_json.specs.Data.{string, member, no_members}
use Rattle.serde_json.specs.Events.{SendsValue}
use Rattle.hrana_value.specs.Whole.{IsWhole}
use Rattle.hrana_value.proofs.SendingLemmas.{whole_object, whole_text, whole_int32}
use Rattle.stream_requests.specs.WrittenResults.{response_object}
use Rattle.ws_messages.specs.WrittenClient.{integer}
use Rattle.ws_messages.specs.WrittenServer.{response_data}
use Rattle.ws_messages.proofs.FrontLemmas.{id_sent}
use Rattle.ws_messages.proofs.sending.send_ok.Goals as goal

pub returns-clause-sends : goal.returns-clause-sends
returns-clause-sends g c =
    let w = g.S.Serializer.written in
    let response = subst (λ name. SendsValue (response_object c.args.reply.now name) (w c.key.new.self) (w c.send_response.new.out)) c.kind_name.ensures c.in_ok-send_response.ensures.sends in
    on_ok_weaker c.end_with_text.result (λ e. (w c.begin_map.new.self, c.in_ok-begin_map.ensures, id_sent _ c.args.request_id _ _ c.ranges.request_id c.in_ok-send_id.ensures.sends (member (codes "response") (response_data c.args.kind c.args.reply.now) (member (codes "type") (string (codes "response_ok")) no_members)) (w c.end_with_text.new.out) (w c.key.new.self, w c.send_response.new.out, c.in_ok-key.ensures, response, e))) c.end_with_text.ensures

pub returns-clause-whole : goal.returns-clause-whole
returns-clause-whole g c =
    let id = c.args.request_id in let response = response_data c.args.kind c.args.reply.now in
    let members = member (codes "request_id") (integer id) (member (codes "response") response (member (codes "type") (string (codes "response_ok")) no_members)) in
    let whole = subst (λ name. IsWhole (response_object c.args.reply.now name)) c.kind_name.ensures c.in_ok-send_response.ensures.whole in
    on_ok_weaker c.end_with_text.result (λ e. whole_object members refl (whole_int32 id c.ranges.request_id, (whole, (whole_text (codes "response_ok"), tt)))) c.end_with_text.ensures
