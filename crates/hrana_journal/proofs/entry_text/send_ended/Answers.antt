use Rattle.std.proofs.Common.{subst, codes}
use Rattle.std.proofs.lemmas.Result.{on_ok_weaker}
use Rattle.serde_json.specs.Data.{string}
use Rattle.hrana_journal.specs.Sent.{SendsMember}
use Rattle.hrana_journal.proofs.entry_text.send_ended.Goals as goal

pub returns-clause-sends : goal.returns-clause-sends
returns-clause-sends g c =
    let w = g.S.Serializer.written in
    let how = subst (λ name. SendsMember (codes "how") (string name) (w c.begin_map.new.self) (w c.send_word.new.out)) c.name_of_how.ensures c.in_ok-send_word.ensures in
    let kind = c.in_ok-send_word-2.ensures in
    let unit = c.in_ok-send_number.ensures.sends in
    on_ok_weaker c.end_map.result (λ e. (w c.begin_map.new.self, c.in_ok-begin_map.ensures, (how.0, w c.send_word.new.out, how.1, how.2, (kind.0, w c.send_word-2.new.out, kind.1, kind.2, (unit.0, w c.send_number.new.out, unit.1, unit.2, e))))) c.end_map.ensures
