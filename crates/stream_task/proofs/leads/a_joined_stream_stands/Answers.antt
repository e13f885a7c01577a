use Rattle.stream_task.proofs.LeadsLaws.{joins_standing}
use Rattle.stream_task.proofs.leads.a_joined_stream_stands.Goals as goal

pub returns : goal.returns
returns g c = joins_standing _ _
