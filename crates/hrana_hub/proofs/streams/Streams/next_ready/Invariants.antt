use Rattle.std.proofs.Common.{◌≡◌}
use Rattle.hrana_hub.specs.Calls.{is_ready, first_ready}
use Rattle.hrana_hub.proofs.CallLemmas.{first_in}
use Rattle.hrana_hub.proofs.streams.Streams.next_ready.Given as goal

-- the streams that were passed aren't ready
abbrev pub invariant-loop-number : goal.invariant-loop-number
invariant-loop-number l = first_in (is_ready l.conns) l.number-iterator ≡ first_ready l.after l.conns l.self
