use Rattle.pipeline_body.proofs.ExchangeLemmas.{each_has}
use Rattle.pipeline_body.proofs.exchange.each_request_has_its_result.Goals as goal

pub returns : goal.returns
returns c = each_has
