use Rattle.stream_task.proofs.RequestLemmas.{poll_means}
use Rattle.stream_task.proofs.laws.each_poll_leaves_the_meaning.Goals as goal

pub returns : goal.returns
returns c = poll_means
