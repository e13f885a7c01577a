use Rattle.std.proofs.lemmas.Result.{on_ok_weaker}
use Rattle.hrana_journal.proofs.entry_text.send_ran.Goals as goal

pub returns-clause-sends : goal.returns-clause-sends
returns-clause-sends g c =
    let w = g.S.Serializer.written in
    let kind = c.in_ok-send_word.ensures in
    let unit = c.in_ok-send_number.ensures.sends in
    on_ok_weaker c.end_map.result (λ e. (w c.begin_map.new.self, c.in_ok-begin_map.ensures, (w c.key.new.self, w c.send_answer.new.out, c.in_ok-key.ensures, c.in_ok-send_answer.ensures.sends, (kind.0, w c.send_word.new.out, kind.1, kind.2, (w c.key-2.new.self, w c.send_bound.new.out, c.in_ok-key-2.ensures, c.in_ok-send_bound.ensures.sends, (unit.0, w c.send_number.new.out, unit.1, unit.2, e)))))) c.end_map.ensures
