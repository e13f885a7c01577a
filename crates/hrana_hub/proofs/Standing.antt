-- What holds of connections and streams after every step: numbers rise, limits hold, and streams and connections name each other.
use Rattle.std.proofs.Common.{◌≡◌, ◌≤◌, ◌<◌, ◌+◌, ℕ, true, false, length, None, Some, Contains}
use Rattle.hrana_hub.specs.declared.limits.TheConstants.{MAX_CONNECTIONS, MAX_SESSIONS}
use Rattle.hrana_hub.specs.Maps.{Numbered, at}
use Rattle.hrana_hub.specs.State.{Conn, Stream, State, of_exchanges}
use Rattle.hrana_hub.specs.Exchanges.{sessions_in}
use Rattle.hrana_hub.specs.Laws.{IsWithin}
use Rattle.hrana_hub.proofs.MapLemmas.{Rises}

-- the stream of this number is one of the connection, and none of exchanges
pub record Owned (streams : Numbered Stream) (c n : ℕ) : Type 0 where
  pub x : Stream
  pub known : at n streams ≡ Some x
  pub conn : x.conn ≡ c
  pub own : of_exchanges x ≡ false

-- each number that a connection lists is that of a stream of it
pub record ConnKept (streams : Numbered Stream) (c : ℕ) (k : Conn) : Type 0 where
  pub within : IsWithin k
  pub owned : (n : ℕ) → Contains k.streams n → Owned streams c n

-- a stream of a connection, which lists it
pub record StreamKept (conns : Numbered Conn) (n : ℕ) (x : Stream) : Type 0 where
  pub k : Conn
  pub known : at x.conn conns ≡ Some k
  pub lists : Contains k.streams n

-- the number was given out, and a stream of it is one of exchanges
pub record OfSession (opened : ℕ) (streams : Numbered Stream) (n : ℕ) : Type 0 where
  pub given : n ≤ opened
  pub session : (x : Stream) → at n streams ≡ Some x → of_exchanges x ≡ true

pub record Kept (s : State) : Type 0 where
  pub conns_rise : Rises s.conns
  pub streams_rise : Rises s.streams
  pub exchanges_rise : Rises s.exchanges
  pub above : (n : ℕ) → s.opened < n → at n s.streams ≡ None
  pub few : length s.conns + length s.exchanges ≤ MAX_CONNECTIONS
  pub sessions : sessions_in s.streams ≤ MAX_SESSIONS
  pub conn : (c : ℕ) (k : Conn) → at c s.conns ≡ Some k → ConnKept s.streams c k
  pub stream : (n : ℕ) (x : Stream) → at n s.streams ≡ Some x → of_exchanges x ≡ false → StreamKept s.conns n x
  pub exchange : (c n : ℕ) → at c s.exchanges ≡ Some n → OfSession s.opened s.streams n
