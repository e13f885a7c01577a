use Rattle.serde_json.specs.View.{view}
use Rattle.stream_requests.proofs.AskLemmas.{stored_read}
use Rattle.stream_requests.proofs.ask_json.stored_of_json.Goals as goal

pub returns : goal.returns
returns c = stored_read (view c.args.json.now) (view c.member_or_null-id.result.now) (view c.member_or_null.result.now) c.stored_of_parts.result c.member_or_null-id.ensures c.member_or_null.ensures c.stored_of_parts.ensures
