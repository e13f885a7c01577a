-- What is known of all streams at once, but for one that may have changed since.
use Rattle.std.specs.Prelude.{◌≡◌, ◌≢◌, ◌+◌, ◌<◌, ℕ, false, cond, Option, None, Some}
use Rattle.hrana_hub.specs.declared.streams.Summary.{Summary}
use Rattle.hrana_hub.specs.Maps.{Numbered, at}
use Rattle.hrana_hub.specs.State.{Stream, of_exchanges}
use Rattle.hrana_hub.specs.Exchanges.{sessions_in}
use Rattle.hrana_hub.specs.Moments.{is_due}

-- 1 for a stream of exchanges
abbrev pub session_of : Option Stream → ℕ
session_of None = 0
session_of (Some x) = cond (of_exchanges x) 1 0

-- the stream that is left out
abbrev pub left_out : Option ℕ → Numbered Stream → Option Stream
left_out None streams = None
left_out (Some n) streams = at n streams

-- it isn't due before this moment
abbrev pub IsCalm : ℕ → Stream → Type 0
IsCalm until x = (now : ℕ) → now < until → is_due now x ≡ false

-- The others are counted, and none of them is due before the moment.
pub record Sums (known : Summary) (streams : Numbered Stream) : Type 0 where
  pub sessions : known.sessions + session_of (left_out known.but streams) ≡ sessions_in streams
  pub calm : (n : ℕ) (x : Stream) → at n streams ≡ Some x → known.but ≢ Some n → IsCalm known.calm_until x
