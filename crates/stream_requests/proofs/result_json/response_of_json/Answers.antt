use Rattle.serde_json.specs.View.{view}
use Rattle.stream_requests.proofs.ResultLemmas.{response_read}
use Rattle.stream_requests.proofs.result_json.response_of_json.Goals as goal

pub returns-in-Some : goal.returns-in-Some
returns-in-Some c = response_read c.in-Some.kind (view c.args.json.now) c.reply_of_json.result c.in-Some.ensures c.reply_of_json.ensures
