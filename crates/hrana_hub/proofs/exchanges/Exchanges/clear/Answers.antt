use Rattle.std.proofs.Common.{ℕ, arith}
use Rattle.hrana_hub.proofs.MapLemmas.{rises_nil}
use Rattle.hrana_hub.proofs.exchanges.Exchanges.clear.Goals as goal

pub invariant_of-self : goal.invariant_of-self
invariant_of-self c = record { rising = rw c.clear.ensures.items (rises_nil ℕ); room = omega (arith, c.self.invariant.room) }
