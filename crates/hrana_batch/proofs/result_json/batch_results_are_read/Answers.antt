use Rattle.hrana_batch.proofs.OutcomeLaws.{BatchResultTree-none}
use Rattle.hrana_batch.proofs.result_json.batch_results_are_read.Goals as goal

pub returns : goal.returns
returns c = BatchResultTree-none
