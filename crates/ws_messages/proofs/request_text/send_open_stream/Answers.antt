use Rattle.std.proofs.lemmas.Result.{on_ok_weaker}
use Rattle.std.proofs.Common.{refl}
use Rattle.hrana_value.proofs.SendingLemmas.{whole_object}
use Rattle.ws_messages.specs.WrittenClient.{on_stream}
use Rattle.ws_messages.specs.declared.kinds.Kind.TheVariants.{OpenStream}
use Rattle.ws_messages.proofs.FrontLemmas.{stream_sent, stream_whole}
use Rattle.ws_messages.proofs.request_text.send_open_stream.Goals as goal

pub returns-clause-sends : goal.returns-clause-sends
returns-clause-sends g c =
    let w = g.S.Serializer.written in
    on_ok_weaker c.end_on_stream.result (λ e. (w c.begin_map.new.self, c.in_ok-begin_map.ensures, stream_sent c.args.stream_id OpenStream _ _ c.ranges.stream_id e)) c.end_on_stream.ensures.sends

pub returns-clause-whole : goal.returns-clause-whole
returns-clause-whole g c =
    on_ok_weaker c.end_on_stream.result (λ e. whole_object (on_stream c.args.stream_id OpenStream) refl (stream_whole c.args.stream_id OpenStream c.ranges.stream_id)) c.end_on_stream.ensures.sends
