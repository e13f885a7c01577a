use Rattle.std.proofs.Common.{codes, map, refl}
use Rattle.std.proofs.lemmas.Result.{on_ok_weaker}
use Rattle.serde_json.specs.Data.{array, member, no_members}
use Rattle.serde_json.specs.View.{items_of}
use Rattle.hrana_value.proofs.SendingLemmas.{whole_object}
use Rattle.hrana_batch.specs.Written.{step_data}
use Rattle.hrana_batch.proofs.sending.BatchJsonText.send.Goals as goal

pub returns : goal.returns
returns g c =
    let w = g.S.Serializer.written in let begun = c.in_ok-begin_with.ensures in let sent = c.in_ok-send.ensures in
    record {
      sends = on_ok_weaker c.end_map.result (λ e. (begun.0, begun.1, (w c.begin_with.new.out, w c.send.new.out, begun.2, sent.sends, e))) c.end_map.ensures;
      whole = on_ok_weaker c.end_map.result (λ e. whole_object (member (codes "steps") (array (items_of (map step_data c.args.self.now.steps))) no_members) refl (sent.whole, tt)) c.end_map.ensures;
      back = on_ok_weaker c.end_map.result (λ e. sent.back) c.end_map.ensures;
    }
