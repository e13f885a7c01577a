use Rattle.std.proofs.Common.{ℕ}
use Rattle.hrana_hub.proofs.MapLemmas.{rises_nil}
use Rattle.hrana_hub.proofs.exchanges.Exchanges.new.Goals as goal

pub invariant_of-result : goal.invariant_of-result
invariant_of-result c = record { rising = rw c.in_ok-with_capacity.ensures.items (rises_nil ℕ); room = c.in_ok-with_capacity.ensures.capacity }
