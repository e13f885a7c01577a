-- A connection or a stream that is lent to be changed.
use Rattle.std.specs.Prelude.{ℕ, Option}
use Rattle.std.specs.Borrow.{Lends, LendsIf, MutBor, Fml}
use Rattle.hrana_hub.specs.Maps.{Numbered, put}
use Rattle.hrana_hub.specs.State.{Conn, Stream}
use Rattle.hrana_hub.specs.contracts.connection.Connection.{the_row as connection}
use Rattle.hrana_hub.specs.contracts.connections.Connections.{the_row as connections}
use Rattle.hrana_hub.specs.contracts.slot.Slot.{the_row as slot}
use Rattle.hrana_hub.specs.contracts.streams.Streams.{the_row as streams}

abbrev pub LendsKnown : MutBor (Numbered Conn) → ℕ → MutBor Conn → Fml
LendsKnown conns c known = Lends connections connection conns known (λ k. put c k conns.now)

abbrev pub LendsConnection : MutBor (Numbered Conn) → ℕ → Option (MutBor Conn) → Fml
LendsConnection conns c known = LendsIf connections connection conns known (λ k. put c k conns.now) conns.now

abbrev pub LendsStream : MutBor (Numbered Stream) → ℕ → Option (MutBor Stream) → Fml
LendsStream all n stream = LendsIf streams slot all stream (λ x. put n x all.now) all.now
