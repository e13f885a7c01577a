use Rattle.std.proofs.lemmas.Result.{on_ok_weaker}
use Rattle.hrana_journal.proofs.entry_text.send_began.Goals as goal

pub returns-clause-sends : goal.returns-clause-sends
returns-clause-sends g c =
    let w = g.S.Serializer.written in
    let kind = c.in_ok-send_word.ensures in
    let stream = c.in_ok-send_number.ensures.sends in
    let unit = c.in_ok-send_number-2.ensures.sends in
    on_ok_weaker c.end_map.result (λ e. (w c.begin_map.new.self, c.in_ok-begin_map.ensures, (kind.0, w c.send_word.new.out, kind.1, kind.2, (stream.0, w c.send_number.new.out, stream.1, stream.2, (unit.0, w c.send_number-2.new.out, unit.1, unit.2, e))))) c.end_map.ensures
