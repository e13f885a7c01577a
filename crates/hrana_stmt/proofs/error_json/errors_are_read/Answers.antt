use Rattle.hrana_stmt.proofs.ResultReadings.{WireErrorTree-none}
use Rattle.hrana_stmt.proofs.error_json.errors_are_read.Goals as goal

pub returns : goal.returns
returns c = WireErrorTree-none
