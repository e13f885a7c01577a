use Rattle.stream_requests.proofs.ResultLemmas.{ResultTree-one}
use Rattle.stream_requests.proofs.result_json.no_tree_is_two_pipeline_results.Goals as goal

pub returns : goal.returns
returns c = ResultTree-one c.no_members_are_two_replies.ensures
