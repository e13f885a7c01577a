use Rattle.hrana_batch.proofs.OutcomeLaws.{BatchResultTree-one}
use Rattle.hrana_batch.proofs.result_json.no_tree_is_two_batch_results.Goals as goal

pub returns : goal.returns
returns c = BatchResultTree-one
