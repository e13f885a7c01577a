use Rattle.hrana_batch.proofs.MeansLemmas.{turns_mean}
use Rattle.hrana_batch.proofs.running.turns_are_meant.Goals as goal

pub returns : goal.returns
returns c = turns_mean
