use Rattle.std.proofs.Common.{codes, refl}
use Rattle.std.proofs.lemmas.Result.{on_ok_weaker}
use Rattle.serde_json.specs.Data.{member, no_members}
use Rattle.hrana_value.proofs.SendingLemmas.{whole_object}
use Rattle.hrana_stmt.specs.Written.{stmt_data}
use Rattle.hrana_batch.specs.Written.{cond_data}
use Rattle.hrana_batch.proofs.sending.send_conditional.Goals as goal

pub returns : goal.returns
returns g c =
    let w = g.S.Serializer.written in let begun = c.in_ok-begin_with.ensures in let sent = c.in_ok-send_cond.ensures in let ended = c.end_with_stmt in
    let members = member (codes "condition") (cond_data c.args.condition.now) (member (codes "stmt") (stmt_data c.args.stmt.now) no_members) in
    record {
      sends = on_ok_weaker ended.result (λ e. (begun.0, begun.1, (w c.begin_with.new.out, w c.send_cond.new.out, begun.2, sent.sends, e))) ended.ensures.sends;
      whole = on_ok_weaker ended.result (λ whole. whole_object members refl (sent.whole, (whole, tt))) ended.ensures.whole;
      condition = on_ok_weaker ended.result (λ whole. sent.back) ended.ensures.whole;
      stmt = ended.ensures.back;
    }
