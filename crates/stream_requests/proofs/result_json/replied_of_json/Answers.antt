use Rattle.serde_json.specs.View.{view}
use Rattle.stream_requests.proofs.ResultLemmas.{result_read}
use Rattle.stream_requests.proofs.result_json.replied_of_json.Goals as goal

pub returns : goal.returns
returns c = result_read (view c.args.json.now) (view c.member_or_null.result.now) c.response_of_json.result c.member_or_null.ensures c.requires c.response_of_json.ensures
