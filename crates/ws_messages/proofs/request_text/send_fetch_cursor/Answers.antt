use Rattle.std.proofs.lemmas.Result.{on_ok_weaker}
use Rattle.std.proofs.Common.{◌<◌, ◌^◌, codes, refl, subst, arith}
use Rattle.serde_json.specs.Data.{member, number, unsigned}
use Rattle.serde_json.specs.Events.{SendsValue}
use Rattle.hrana_value.proofs.SendingLemmas.{whole_object, whole_int32, whole_unsigned}
use Rattle.ws_messages.specs.declared.kinds.Kind.TheVariants.{FetchCursor}
use Rattle.ws_messages.specs.WrittenClient.{kind_member, on_cursor}
use Rattle.ws_messages.proofs.FrontLemmas.{id_sent, kind_whole}
use Rattle.ws_messages.proofs.request_text.send_fetch_cursor.Goals as goal

pub returns-clause-sends : goal.returns-clause-sends
returns-clause-sends g c =
    let w = g.S.Serializer.written in
    let count = subst (λ n. SendsValue (number (unsigned n)) (w c.key.new.self) (w c.send_uint64.new.out)) c.from.ensures c.in_ok-send_uint64.ensures.sends in
    on_ok_weaker c.end_with_kind.result (λ e. (w c.begin_map.new.self, c.in_ok-begin_map.ensures, id_sent _ c.args.cursor_id _ _ c.ranges.cursor_id c.in_ok-send_id.ensures.sends (member (codes "max_count") (number (unsigned c.args.max_count)) (kind_member FetchCursor)) (w c.end_with_kind.new.out) (w c.key.new.self, w c.send_uint64.new.out, c.in_ok-key.ensures, count, e))) c.end_with_kind.ensures

pub returns-clause-whole : goal.returns-clause-whole
returns-clause-whole g c =
    let id = c.args.cursor_id in let n = c.args.max_count in let members = on_cursor id (member (codes "max_count") (number (unsigned n)) (kind_member FetchCursor)) in
    let small : n < 2 ^ 32 = c.ranges.max_count.fits in
    on_ok_weaker c.end_with_kind.result (λ e. whole_object members refl (whole_int32 id c.ranges.cursor_id, (whole_unsigned n (omega arith), kind_whole FetchCursor))) c.end_with_kind.ensures
