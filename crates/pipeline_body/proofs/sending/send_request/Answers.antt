use Rattle.std.proofs.Common.{◌+◌, ap, ◌∙◌, subst}
use Rattle.std.proofs.lemmas.Result.{on_ok_weaker}
use Rattle.serde_json.specs.Events.{SendsMembers}
use Rattle.hrana_batch.specs.Written.{type_member}
use Rattle.stream_requests.specs.AskNames.{ask_name}
use Rattle.stream_requests.specs.Asks.{ask_kind, ask_front}
use Rattle.stream_requests.specs.WrittenResults.{kind_member}
use Rattle.stream_requests.proofs.FrontLemmas.{front_sent, ask_count, ask_whole}
use Rattle.pipeline_body.proofs.sending.send_request.Goals as goal

pub returns-clause-sends : goal.returns-clause-sends
returns-clause-sends g c =
    let w = g.S.Serializer.written in let a = c.args.ask.now in let k = ask_kind a in
    on_ok_weaker c.end_with_text.result (λ e. front_sent (ask_front a) (kind_member k) (c.ask_member_count.result + 1) (w c.args.out.now) (w c.begin_map.new.self) (w c.send_ask.new.out) (w c.end_with_text.new.out)
    (ap (λ n. n + 1) c.ask_member_count.ensures.count ∙ ask_count a (kind_member k)) c.in_ok-begin_map.ensures c.in_ok-send_ask.ensures.sends
    (subst (λ name. SendsMembers (type_member name) (w c.send_ask.new.out) (w c.end_with_text.new.out)) (c.ask_kind_name.ensures ∙ ap ask_name c.kind.ensures) e)) c.end_with_text.ensures

pub returns-clause-whole : goal.returns-clause-whole
returns-clause-whole g c = on_ok_weaker c.end_with_text.result (λ e. ask_whole c.args.ask.now (ask_name (ask_kind c.args.ask.now)) c.in_ok-send_ask.ensures.whole) c.end_with_text.ensures
