use Rattle.hrana_batch.proofs.FitsLemmas.{BatchTree-one}
use Rattle.hrana_batch.proofs.batch_json.no_tree_is_two_batches.Goals as goal

pub returns : goal.returns
returns c = BatchTree-one
