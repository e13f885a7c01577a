use Rattle.std.proofs.Common.{sym}
use Rattle.serde_json.specs.View.{view}
use Rattle.hrana_value.proofs.PartLemmas.{is_null_false}
use Rattle.hrana_batch.proofs.OutcomeReadings.{both_read}
use Rattle.hrana_batch.proofs.result_json.outcome_of_entries.Goals as goal

pub returns-else-is_null-3 : goal.returns-else-is_null-3
returns-else-is_null-3 c =
    both_read (view c.args.done.now) (view c.args.failed.now) (is_null_false (view c.args.done.now) (sym c.if-is_null.ensures)) (is_null_false (view c.args.failed.now) (sym c.if-is_null-3.ensures))
