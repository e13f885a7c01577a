use Rattle.std.proofs.Common.{codes, refl}
use Rattle.std.proofs.lemmas.Result.{on_ok_weaker}
use Rattle.serde_json.specs.Data.{member}
use Rattle.hrana_value.proofs.SendingLemmas.{whole_object, whole_int32}
use Rattle.hrana_batch.specs.Written.{batch_data}
use Rattle.ws_messages.specs.declared.kinds.Kind.TheVariants.{OpenCursor}
use Rattle.ws_messages.specs.WrittenClient.{on_stream, on_cursor}
use Rattle.ws_messages.proofs.FrontLemmas.{id_sent, stream_sent, stream_whole}
use Rattle.ws_messages.proofs.request_text.send_open_cursor.Goals as goal

pub returns-clause-sends : goal.returns-clause-sends
returns-clause-sends g c =
    let w = g.S.Serializer.written in
    on_ok_weaker c.end_on_stream.result (λ e. (w c.begin_map.new.self, c.in_ok-begin_map.ensures, (w c.key.new.self, w c.send.new.out, c.in_ok-key.ensures, c.in_ok-send.ensures.sends, id_sent _ c.args.cursor_id _ _ c.ranges.cursor_id c.in_ok-send_id.ensures.sends (on_stream c.args.stream_id OpenCursor) (w c.end_on_stream.new.out) (stream_sent c.args.stream_id OpenCursor _ _ c.ranges.stream_id e)))) c.end_on_stream.ensures.sends

pub returns-clause-whole : goal.returns-clause-whole
returns-clause-whole g c =
    let s = c.args.stream_id in let id = c.args.cursor_id in let members = member (codes "batch") (batch_data c.args.batch.now) (on_cursor id (on_stream s OpenCursor)) in
    on_ok_weaker c.end_on_stream.result (λ e. whole_object members refl (c.in_ok-send.ensures.whole, (whole_int32 id c.ranges.cursor_id, stream_whole s OpenCursor c.ranges.stream_id))) c.end_on_stream.ensures.sends
