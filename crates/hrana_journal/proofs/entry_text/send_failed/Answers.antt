use Rattle.std.proofs.Common.{subst, codes}
use Rattle.std.proofs.lemmas.Result.{on_ok_weaker}
use Rattle.serde_json.specs.Data.{string}
use Rattle.hrana_journal.specs.Sent.{SendsMember}
use Rattle.hrana_journal.proofs.entry_text.send_failed.Goals as goal

pub returns-clause-sends : goal.returns-clause-sends
returns-clause-sends g c =
    let w = g.S.Serializer.written in
    let cause = subst (λ name. SendsMember (codes "cause") (string name) (w c.begin_map.new.self) (w c.send_word.new.out)) c.name_of_cause.ensures c.in_ok-send_word.ensures in
    let kind = c.in_ok-send_word-2.ensures in
    let stream = c.in_ok-send_number.ensures.sends in
    on_ok_weaker c.end_map.result (λ e. (w c.begin_map.new.self, c.in_ok-begin_map.ensures, (cause.0, w c.send_word.new.out, cause.1, cause.2, (kind.0, w c.send_word-2.new.out, kind.1, kind.2, (stream.0, w c.send_number.new.out, stream.1, stream.2, (w c.key.new.self, w c.send_unit.new.out, c.in_ok-key.ensures, c.in_ok-send_unit.ensures.sends, e)))))) c.end_map.ensures
