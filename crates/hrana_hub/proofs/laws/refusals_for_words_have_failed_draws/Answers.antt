use Rattle.hrana_hub.proofs.NoTokens.{few_refusals}
use Rattle.hrana_hub.proofs.laws.refusals_for_words_have_failed_draws.Goals as goal

pub returns : goal.returns
returns c = few_refusals
