use Rattle.std.proofs.Common.{refl}
use Rattle.std.proofs.lemmas.Result.{on_ok_weaker}
use Rattle.hrana_value.proofs.SendingLemmas.{whole_object, whole_int32}
use Rattle.ws_messages.specs.declared.kinds.Kind.TheVariants.{CloseCursor}
use Rattle.ws_messages.specs.WrittenClient.{kind_member, on_cursor}
use Rattle.ws_messages.proofs.FrontLemmas.{id_sent, kind_whole}
use Rattle.ws_messages.proofs.request_text.send_close_cursor.Goals as goal

pub returns-clause-sends : goal.returns-clause-sends
returns-clause-sends g c =
    let w = g.S.Serializer.written in
    on_ok_weaker c.end_with_kind.result (λ e. (w c.begin_map.new.self, c.in_ok-begin_map.ensures, id_sent _ c.args.cursor_id _ _ c.ranges.cursor_id c.in_ok-send_id.ensures.sends (kind_member CloseCursor) (w c.end_with_kind.new.out) e)) c.end_with_kind.ensures

pub returns-clause-whole : goal.returns-clause-whole
returns-clause-whole g c =
    let id = c.args.cursor_id in on_ok_weaker c.end_with_kind.result (λ e. whole_object (on_cursor id (kind_member CloseCursor)) refl (whole_int32 id c.ranges.cursor_id, kind_whole CloseCursor)) c.end_with_kind.ensures
