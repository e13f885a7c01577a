use Rattle.stream_task.proofs.LeadsLaws.{version_stands}
use Rattle.stream_task.proofs.leads.version_alone_stands.Goals as goal

pub returns : goal.returns
returns g c = version_stands _ _
