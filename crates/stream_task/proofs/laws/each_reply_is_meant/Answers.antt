use Rattle.stream_task.proofs.RequestLemmas.{ask_means}
use Rattle.stream_task.proofs.laws.each_reply_is_meant.Goals as goal

pub returns : goal.returns
returns c = ask_means
