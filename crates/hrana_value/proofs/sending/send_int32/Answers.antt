use Rattle.hrana_value.proofs.SendingLemmas.{whole_int32}
use Rattle.hrana_value.proofs.sending.send_int32.Goals as goal

pub returns-in-Ok-clause-whole : goal.returns-in-Ok-clause-whole
returns-in-Ok-clause-whole g c = whole_int32 c.args.number c.ranges.number

pub returns-in-Err-clause-whole : goal.returns-in-Err-clause-whole
returns-in-Err-clause-whole g c = whole_int32 c.args.number c.ranges.number
