use Rattle.stream_requests.proofs.ReplyLemmas.{ReplyMembers-one}
use Rattle.stream_requests.proofs.reply_json.no_members_are_two_replies.Goals as goal

pub returns : goal.returns
returns c = ReplyMembers-one c.no_tree_is_two_batch_results.ensures
