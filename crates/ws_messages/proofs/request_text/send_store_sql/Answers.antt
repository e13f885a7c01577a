use Rattle.std.proofs.lemmas.Result.{on_ok_weaker}
use Rattle.std.proofs.Common.{codes, refl, subst}
use Rattle.serde_json.specs.Data.{string, member}
use Rattle.serde_json.specs.Events.{SendsValue}
use Rattle.hrana_value.proofs.SendingLemmas.{whole_object, whole_text, whole_int32}
use Rattle.ws_messages.specs.declared.kinds.Kind.TheVariants.{StoreSql}
use Rattle.ws_messages.specs.WrittenClient.{integer, kind_member}
use Rattle.ws_messages.proofs.FrontLemmas.{id_sent, kind_whole}
use Rattle.ws_messages.proofs.request_text.send_store_sql.Goals as goal

pub returns-clause-sends : goal.returns-clause-sends
returns-clause-sends g c =
    let w = g.S.Serializer.written in
    let text = subst (λ t. SendsValue (string t) (w c.key.new.self) (w c.str.new.self)) c.as_str.ensures c.in_ok-str.ensures in
    on_ok_weaker c.end_with_kind.result (λ e. (w c.begin_map.new.self, c.in_ok-begin_map.ensures, (w c.key.new.self, w c.str.new.self, c.in_ok-key.ensures, text, id_sent _ c.args.id _ _ c.ranges.id c.in_ok-send_id.ensures.sends (kind_member StoreSql) (w c.end_with_kind.new.out) e))) c.end_with_kind.ensures

pub returns-clause-whole : goal.returns-clause-whole
returns-clause-whole g c =
    let id = c.args.id in let text = c.args.sql.now in let members = member (codes "sql") (string text) (member (codes "sql_id") (integer id) (kind_member StoreSql)) in
    on_ok_weaker c.end_with_kind.result (λ e. whole_object members refl (whole_text text, (whole_int32 id c.ranges.id, kind_whole StoreSql))) c.end_with_kind.ensures
