use Rattle.hrana_hub.proofs.Summing.{Passed}
use Rattle.hrana_hub.proofs.streams.Streams.calm_until.Given as goal

-- the streams that were passed aren't due before that moment
abbrev pub invariant-loop-slot : goal.invariant-loop-slot
invariant-loop-slot l = Passed l.calm_until l.self l.slot-iterator
