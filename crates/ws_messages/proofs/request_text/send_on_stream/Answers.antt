use Rattle.std.proofs.lemmas.Result.{on_ok_weaker}
use Rattle.std.proofs.Common.{subst, ap, ◌∙◌}
use Rattle.serde_json.specs.Events.{SendsMembers}
use Rattle.stream_requests.specs.Asks.{ask_kind}
use Rattle.ws_messages.specs.Kinds.{kind_of}
use Rattle.ws_messages.specs.WrittenClient.{on_stream}
use Rattle.ws_messages.proofs.FrontLemmas.{stream_sent, stream_whole, asked_sent, asked_whole}
use Rattle.ws_messages.proofs.request_text.send_on_stream.Goals as goal

pub returns-clause-sends : goal.returns-clause-sends
returns-clause-sends g c =
    let w = g.S.Serializer.written in let a = c.args.ask.now in let s = c.args.stream_id in
    on_ok_weaker c.end_on_stream.result (λ e. asked_sent a s (kind_of (ask_kind a)) c.ask_member_count.result (w c.args.out.now) (w c.begin_map.new.self) (w c.send_ask.new.out) (w c.end_on_stream.new.out)
    c.ask_member_count.ensures.count c.in_ok-begin_map.ensures c.in_ok-send_ask.ensures.sends
    (subst (λ k. SendsMembers (on_stream s k) (w c.send_ask.new.out) (w c.end_on_stream.new.out)) (c.kind_of.ensures ∙ ap kind_of c.kind.ensures) (stream_sent s c.kind_of.result _ _ c.ranges.stream_id e))) c.end_on_stream.ensures.sends

pub returns-clause-whole : goal.returns-clause-whole
returns-clause-whole g c =
    let a = c.args.ask.now in let s = c.args.stream_id in
    on_ok_weaker c.end_on_stream.result (λ e. asked_whole a s (kind_of (ask_kind a)) c.in_ok-send_ask.ensures.whole (stream_whole s (kind_of (ask_kind a)) c.ranges.stream_id)) c.end_on_stream.ensures.sends
