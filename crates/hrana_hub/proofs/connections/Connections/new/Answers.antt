use Rattle.hrana_hub.specs.State.{Conn}
use Rattle.hrana_hub.proofs.MapLemmas.{rises_nil}
use Rattle.hrana_hub.proofs.connections.Connections.new.Goals as goal

pub invariant_of-result : goal.invariant_of-result
invariant_of-result c = record { rising = rw c.in_ok-with_capacity.ensures.items (rises_nil Conn); room = c.in_ok-with_capacity.ensures.capacity }
