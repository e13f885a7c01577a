use Rattle.std.proofs.lemmas.Result.{on_ok_weaker}
use Rattle.hrana_batch.proofs.sending.end_with_stmt.Goals as goal

pub returns : goal.returns
returns g c =
    let w = g.S.Serializer.written in let sent = c.in_ok-send.ensures in
    record {
      sends = on_ok_weaker c.end_map.result (λ e. (w c.key.new.self, w c.send.new.out, c.in_ok-key.ensures, sent.sends, e)) c.end_map.ensures;
      whole = on_ok_weaker c.end_map.result (λ e. sent.whole) c.end_map.ensures;
      back = on_ok_weaker c.end_map.result (λ e. sent.back) c.end_map.ensures;
    }
