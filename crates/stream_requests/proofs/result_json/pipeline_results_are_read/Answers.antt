use Rattle.stream_requests.proofs.ResultLemmas.{ResultTree-none}
use Rattle.stream_requests.proofs.result_json.pipeline_results_are_read.Goals as goal

pub returns : goal.returns
returns c = ResultTree-none c.replies_are_read.ensures
