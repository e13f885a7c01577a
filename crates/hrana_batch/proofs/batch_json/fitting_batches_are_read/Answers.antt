use Rattle.hrana_batch.proofs.FitsLemmas.{BatchTree-fits}
use Rattle.hrana_batch.proofs.batch_json.fitting_batches_are_read.Goals as goal

pub returns : goal.returns
returns c = BatchTree-fits
