use Rattle.hrana_hub.proofs.Beginning.{taken_agrees}
use Rattle.hrana_hub.proofs.agreement.taken_entries_leave_agreement.Goals as goal

pub returns : goal.returns
returns g c = taken_agrees _ _ _
