use Rattle.stream_task.proofs.CloseLemmas.{closes_alone}
use Rattle.stream_task.proofs.laws.streams_are_closed_by_closes.Goals as goal

pub returns : goal.returns
returns c = closes_alone
