use Rattle.std.proofs.Common.{rules}
use Rattle.std.proofs.lemmas.Result.{on_ok_weaker}
use Rattle.hrana_value.proofs.SendingLemmas.{list_sent}
use Rattle.hrana_value.proofs.sending.send_list.Goals as goal

pub returns-clause-sends : goal.returns-clause-sends
returns-clause-sends g c =
    let w = g.S.Serializer.written in
    on_ok_weaker c.end_seq.result (λ e. list_sent g.T.JsonText.form c.args.items.now c.loop-item.item-index _ (w c.args.out.now) (w c.begin_seq.new.self) (w c.loop-item.out) (w c.end_seq.new.self) (search rules)
    c.loop-item-test.false c.in_ok-begin_seq.ensures c.loop-item.invariant.0 e) c.end_seq.ensures
