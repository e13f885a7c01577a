use Rattle.stream_requests.proofs.ReplyLemmas.{ReplyMembers-none}
use Rattle.stream_requests.proofs.reply_json.replies_are_read.Goals as goal

pub returns : goal.returns
returns c = ReplyMembers-none c.batch_results_are_read.ensures
