use Rattle.std.proofs.lemmas.Result.{on_ok_weaker}
use Rattle.hrana_stmt.proofs.SendingLemmas.{whole_result}
use Rattle.hrana_stmt.proofs.WrittenLemmas.{result_back}
use Rattle.hrana_stmt.proofs.sending.StmtResultJsonText.send.Goals as goal

pub returns-clause-sends : goal.returns-clause-sends
returns-clause-sends g c =
    let w = g.S.Serializer.written in
    on_ok_weaker c.end_map.result (λ e. (
      w c.begin_map.new.self,
      c.in_ok-begin_map.ensures,
      (
        w c.key.new.self,
        w c.send_uint64.new.out,
        c.in_ok-key.ensures,
        c.in_ok-send_uint64.ensures.sends,
        (
          w c.key-2.new.self,
          w c.send.new.out,
          c.in_ok-key-2.ensures,
          c.in_ok-send.ensures.sends,
          (
            w c.key-3.new.self,
            w c.send_optional_int64.new.out,
            c.in_ok-key-3.ensures,
            c.in_ok-send_optional_int64.ensures.sends,
            (w c.key-4.new.self, w c.send-2.new.out, c.in_ok-key-4.ensures, c.in_ok-send-2.ensures.sends, e),
          ),
        ),
      ),
    )) c.end_map.ensures

pub returns-clause-whole : goal.returns-clause-whole
returns-clause-whole g c =
    on_ok_weaker c.end_map.result (λ e. whole_result c.args.self.now c.send_uint64.ensures.whole c.in_ok-send.ensures.whole c.in_ok-send-2.ensures.whole) c.end_map.ensures

pub returns-clause-back : goal.returns-clause-back
returns-clause-back g c =
    on_ok_weaker c.end_map.result (λ e. result_back c.args.self.now c.send_uint64.ensures.fits c.in_ok-send.ensures.back c.send_optional_int64.ensures.back c.in_ok-send-2.ensures.back) c.end_map.ensures
