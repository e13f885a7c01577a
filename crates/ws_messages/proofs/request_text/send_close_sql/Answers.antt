use Rattle.std.proofs.Common.{codes, refl}
use Rattle.std.proofs.lemmas.Result.{on_ok_weaker}
use Rattle.serde_json.specs.Data.{member}
use Rattle.hrana_value.proofs.SendingLemmas.{whole_object, whole_int32}
use Rattle.ws_messages.specs.declared.kinds.Kind.TheVariants.{CloseSql}
use Rattle.ws_messages.specs.WrittenClient.{integer, kind_member}
use Rattle.ws_messages.proofs.FrontLemmas.{id_sent, kind_whole}
use Rattle.ws_messages.proofs.request_text.send_close_sql.Goals as goal

pub returns-clause-sends : goal.returns-clause-sends
returns-clause-sends g c =
    let w = g.S.Serializer.written in
    on_ok_weaker c.end_with_kind.result (λ e. (w c.begin_map.new.self, c.in_ok-begin_map.ensures, id_sent _ c.args.id _ _ c.ranges.id c.in_ok-send_id.ensures.sends (kind_member CloseSql) (w c.end_with_kind.new.out) e)) c.end_with_kind.ensures

pub returns-clause-whole : goal.returns-clause-whole
returns-clause-whole g c =
    let id = c.args.id in on_ok_weaker c.end_with_kind.result (λ e. whole_object (member (codes "sql_id") (integer id) (kind_member CloseSql)) refl (whole_int32 id c.ranges.id, kind_whole CloseSql)) c.end_with_kind.ensures
