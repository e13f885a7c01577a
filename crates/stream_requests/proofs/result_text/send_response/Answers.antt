use Rattle.std.proofs.Common.{◌+◌, ap, ◌∙◌}
use Rattle.std.proofs.lemmas.Result.{on_ok_weaker}
use Rattle.stream_requests.specs.Replies.{reply_front}
use Rattle.hrana_batch.specs.Written.{type_member}
use Rattle.stream_requests.proofs.FrontLemmas.{front_sent, reply_count, reply_whole}
use Rattle.stream_requests.proofs.result_text.send_response.Goals as goal

pub returns-clause-sends : goal.returns-clause-sends
returns-clause-sends g c =
    let w = g.S.Serializer.written in let r = c.args.reply.now in let name = c.args.kind.now in
    on_ok_weaker c.end_with_text.result (λ e. front_sent (reply_front r) (type_member name) (c.reply_member_count.result + 1) (w c.args.out.now) (w c.begin_map.new.self) (w c.send_reply.new.out) (w c.end_with_text.new.out)
    (ap (λ n. n + 1) c.reply_member_count.ensures.count ∙ reply_count r (type_member name)) c.in_ok-begin_map.ensures c.in_ok-send_reply.ensures.sends e) c.end_with_text.ensures

pub returns-clause-whole : goal.returns-clause-whole
returns-clause-whole g c = on_ok_weaker c.end_with_text.result (λ e. reply_whole c.args.reply.now c.args.kind.now c.in_ok-send_reply.ensures.whole) c.end_with_text.ensures
