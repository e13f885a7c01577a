use Rattle.std.proofs.Common.{codes, map, refl}
use Rattle.std.proofs.lemmas.Result.{on_ok_weaker}
use Rattle.serde_json.specs.Data.{array, member, no_members}
use Rattle.serde_json.specs.View.{items_of}
use Rattle.hrana_value.proofs.SendingLemmas.{whole_object}
use Rattle.hrana_batch.specs.Written.{result_entry, error_entry}
use Rattle.hrana_batch.proofs.sending.send_outcomes.Goals as goal

pub returns : goal.returns
returns g c =
    let w = g.S.Serializer.written in let begun = c.in_ok-begin_with.ensures in let errors = c.in_ok-send_entries.ensures in let results = c.in_ok-send_entries-2.ensures in let os = c.args.outcomes.now in
    let members = member (codes "step_errors") (array (items_of (map error_entry os))) (member (codes "step_results") (array (items_of (map result_entry os))) no_members) in
    record {
      sends = on_ok_weaker c.end_map.result (λ e. (
        begun.0,
        begun.1,
        (
          w c.begin_with.new.out,
          w c.send_entries.new.out,
          begun.2,
          errors.sends,
          (w c.key.new.self, w c.send_entries-2.new.out, c.in_ok-key.ensures, results.sends, e),
        ),
      )) c.end_map.ensures;
      whole = on_ok_weaker c.end_map.result (λ e. whole_object members refl (errors.whole, (results.whole, tt))) c.end_map.ensures;
      back = on_ok_weaker c.end_map.result (λ e. (results.back, errors.back)) c.end_map.ensures;
    }
