use Rattle.pipeline_body.proofs.RequestLemmas.{RequestTree-fits}
use Rattle.pipeline_body.proofs.pipelines.fitting_asks_are_taken.Goals as goal

pub returns : goal.returns
returns c = RequestTree-fits c.fitting_asks_are_read.ensures
