use Rattle.hrana_value.proofs.SendingLemmas.{whole_unsigned}
use Rattle.hrana_value.proofs.sending.send_uint64.Goals as goal

pub returns-clause-whole : goal.returns-clause-whole
returns-clause-whole g c = whole_unsigned c.args.number c.ranges.number.fits
