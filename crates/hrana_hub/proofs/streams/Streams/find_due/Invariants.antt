use Rattle.std.proofs.Common.{◌≡◌}
use Rattle.hrana_hub.specs.Moments.{is_due, first_due}
use Rattle.hrana_hub.proofs.CallLemmas.{first_in}
use Rattle.hrana_hub.proofs.streams.Streams.find_due.Given as goal

-- the streams that were passed aren't due
abbrev pub invariant-loop-number : goal.invariant-loop-number
invariant-loop-number l = first_in (is_due l.moment) l.number-iterator ≡ first_due l.moment l.from l.self
