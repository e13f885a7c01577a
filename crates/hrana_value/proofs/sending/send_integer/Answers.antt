use Rattle.hrana_value.proofs.WrittenLemmas.{integer_back}
use Rattle.hrana_value.proofs.sending.send_integer.Goals as goal

pub returns-clause-back : goal.returns-clause-back
returns-clause-back g c = integer_back c.args.number c.ranges.number
