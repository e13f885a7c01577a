use Rattle.std.proofs.Common.{length, refl}
use Rattle.std.proofs.lemmas.Result.{on_ok_weaker}
use Rattle.hrana_value.proofs.SendingLemmas.{list_sent}
use Rattle.hrana_batch.proofs.SentItems.{items_more, whole_more, tree_more, whole_end, tree_end}
use Rattle.hrana_batch.specs.Sent.{entry_of, EntryTree}
use Rattle.hrana_batch.proofs.sending.send_entries.Goals as goal

pub loop-outcome-preserved : goal.loop-outcome-preserved
loop-outcome-preserved g c =
    let w = g.S.Serializer.written in let f = entry_of c.args.side in let xs = c.args.outcomes.now in let i = c.loop-outcome.outcome-index in
    let x = c.outcome-item.result in let below = c.loop-outcome-test.true in let is = c.outcome-item.is in let inv = c.loop-outcome.invariant in let sent = c.in_ok-send_entry.ensures in
    (items_more f xs i x (w c.begin_seq.new.self) (w c.loop-outcome.out) (w c.send_entry.new.out) below is inv.0 sent.sends, whole_more f xs i x below is inv.1 sent.whole, tree_more (EntryTree c.args.side) f xs i x below is inv.2 sent.back)

pub returns : goal.returns
returns g c =
    let w = g.S.Serializer.written in let f = entry_of c.args.side in let xs = c.args.outcomes.now in let i = c.loop-outcome.outcome-index in let over = c.loop-outcome-test.false in let inv = c.loop-outcome.invariant in
    record {
      sends = on_ok_weaker c.end_seq.result (λ e. list_sent f xs i (length xs) (w c.args.out.now) (w c.begin_seq.new.self) (w c.loop-outcome.out) (w c.end_seq.new.self) refl over c.in_ok-begin_seq.ensures inv.0 e) c.end_seq.ensures;
      whole = on_ok_weaker c.end_seq.result (λ e. whole_end f xs i over inv.1) c.end_seq.ensures;
      back = on_ok_weaker c.end_seq.result (λ e. tree_end (EntryTree c.args.side) f xs i over inv.2) c.end_seq.ensures;
    }
