use Rattle.std.proofs.Common.{sym}
use Rattle.serde_json.specs.View.{view}
use Rattle.hrana_batch.proofs.OutcomeReadings.{arrays_read, no_results, no_errors}
use Rattle.hrana_batch.proofs.result_json.outcomes_of_parts.Goals as goal

pub returns-in_default : goal.returns-in_default
returns-in_default c = no_results (view c.args.results.now) (view c.args.errors.now) (sym c.in_default.ensures)

pub returns-in_default-as_array : goal.returns-in_default-as_array
returns-in_default-as_array c = no_errors (view c.args.results.now) (view c.args.errors.now) (sym c.in_default-as_array.ensures)

pub returns : goal.returns
returns c =
    arrays_read (view c.args.results.now) (view c.args.errors.now) c.in-Some.results.now.items c.in-Some-as_array.errors.now.items c.as_slice.result.now c.as_slice-2.result.now c.outcomes_of_lists.result
    (sym c.in-Some.ensures) (sym c.in-Some-as_array.ensures) c.as_slice.ensures.value c.as_slice-2.ensures.value c.outcomes_of_lists.ensures
