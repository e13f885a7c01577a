use Rattle.hrana_stmt.proofs.WrittenLemmas.{int64_back}
use Rattle.hrana_stmt.proofs.sending.send_digits.Goals as goal

pub returns-clause-back : goal.returns-clause-back
returns-clause-back g c = int64_back c.args.number c.ranges.number
