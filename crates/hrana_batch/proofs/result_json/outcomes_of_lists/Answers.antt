use Rattle.hrana_batch.proofs.OutcomeReadings.{lists_read, lengths_differ}
use Rattle.hrana_batch.proofs.result_json.outcomes_of_lists.Goals as goal

pub returns-then-results-errors : goal.returns-then-results-errors
returns-then-results-errors c = lists_read c.args.results.now c.args.errors.now c.outcomes_of_items.result c.if-results-errors.true c.outcomes_of_items.ensures

pub returns-else-results-errors : goal.returns-else-results-errors
returns-else-results-errors c = lengths_differ c.args.results.now c.args.errors.now c.if-results-errors.false
