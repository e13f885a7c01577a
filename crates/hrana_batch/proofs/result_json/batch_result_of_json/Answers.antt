use Rattle.serde_json.specs.View.{view}
use Rattle.hrana_batch.proofs.OutcomeReadings.{batch_result_read}
use Rattle.hrana_batch.proofs.result_json.batch_result_of_json.Goals as goal

pub returns-in-Ok : goal.returns-in-Ok
returns-in-Ok c =
    batch_result_read (view c.args.json.now) (view c.member_or_null-results.result.now) (view c.member_or_null.result.now) c.outcomes_of_parts.result c.in-Ok.outcomes c.member_or_null-results.ensures c.member_or_null.ensures c.in-Ok.is
    c.outcomes_of_parts.ensures
