use Rattle.std.proofs.Common.{take, ◌+◌}
use Rattle.serde_json.specs.View.{items_view}
use Rattle.hrana_value.specs.Declines.{items_of_reading}
use Rattle.hrana_value.proofs.DeclineLemmas.{Reads-with_item}
use Rattle.hrana_batch.specs.Parts.{OutcomesTree, OutcomesStand}
use Rattle.hrana_batch.proofs.OutcomeReadings.{places_more}
use Rattle.hrana_batch.proofs.result_json.outcomes_of_items.Goals as goal

pub loop-i-preserved : goal.loop-i-preserved
loop-i-preserved c =
    let js = c.args.results.now in let ks = c.args.errors.now in let i = c.loop-i.i in
    Reads-with_item (λ os. OutcomesTree os (items_view (take (i + 1) js)) (items_view (take (i + 1) ks))) (OutcomesStand (items_view (take (i + 1) js)) (items_view (take (i + 1) ks))) (items_of_reading c.loop-i.outcomes)
    c.outcome_of_entries.result c.with_item-outcomes.result c.with_item-outcomes.ensures.ok c.with_item-outcomes.ensures.declined
    (places_more js ks i c.index-results-i.result c.index-errors-i.result (items_of_reading c.loop-i.outcomes) c.outcome_of_entries.result c.requires c.loop-i-test.true c.index-results-i.is c.index-errors-i.is
    c.loop-i.invariant c.outcome_of_entries.ensures)
