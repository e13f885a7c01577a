use Rattle.std.proofs.lemmas.Result.{on_ok_weaker}
use Rattle.std.proofs.Common.{codes, refl}
use Rattle.serde_json.specs.Data.{string, member, no_members}
use Rattle.hrana_value.proofs.SendingLemmas.{whole_object, whole_text, whole_int32}
use Rattle.hrana_stmt.specs.Written.{error_data}
use Rattle.ws_messages.specs.WrittenClient.{integer}
use Rattle.ws_messages.proofs.FrontLemmas.{id_sent}
use Rattle.ws_messages.proofs.sending.send_refusal.Goals as goal

pub returns-clause-sends : goal.returns-clause-sends
returns-clause-sends g c =
    let w = g.S.Serializer.written in
    on_ok_weaker c.end_with_text.result (λ e. (w c.begin_map.new.self, c.in_ok-begin_map.ensures, (w c.key.new.self, w c.send.new.out, c.in_ok-key.ensures, c.in_ok-send.ensures.sends, id_sent _ c.args.request_id _ _ c.ranges.request_id c.in_ok-send_id.ensures.sends (member (codes "type") (string (codes "response_error")) no_members) (w c.end_with_text.new.out) e))) c.end_with_text.ensures

pub returns-clause-whole : goal.returns-clause-whole
returns-clause-whole g c =
    let id = c.args.request_id in
    let members = member (codes "error") (error_data c.args.error.now) (member (codes "request_id") (integer id) (member (codes "type") (string (codes "response_error")) no_members)) in
    on_ok_weaker c.end_with_text.result (λ e. whole_object members refl (c.in_ok-send.ensures.whole, (whole_int32 id c.ranges.request_id, (whole_text (codes "response_error"), tt)))) c.end_with_text.ensures
