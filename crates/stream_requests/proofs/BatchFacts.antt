-- Batches are read where they fit, and their results always.
use Rattle.hrana_batch.specs.Tree.{FittingBatchesAreRead, BatchResultsAreRead}
use Rattle.hrana_batch.proofs.FitsLemmas.{BatchTree-fits}
use Rattle.hrana_batch.proofs.OutcomeLaws.{BatchResultTree-none}

pub batches_fit : FittingBatchesAreRead
batches_fit = BatchTree-fits

pub results_none : BatchResultsAreRead
results_none = BatchResultTree-none
