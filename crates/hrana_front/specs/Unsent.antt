-- The bytes that wait for a peer.
use Rattle.std.specs.Prelude.{◌≡◌, ℕ, ◌++◌, ◌≤◌, ◌<◌, List, length, Result, Ok, Err}
use Rattle.hrana_value.specs.declared.failures.NoMemory.{NoMemory}
use Rattle.hrana_front.specs.declared.socket_limits.TheConstants.{MAX_UNSENT_BYTES}
use Rattle.hrana_front.specs.declared.unsent.Room.{Room}
use Rattle.hrana_front.specs.declared.unsent.Room.TheVariants as room

-- bytes are added exactly where no more than `MAX_UNSENT_BYTES` wait, unless there is no memory; else nothing changes
abbrev pub Takes : List ℕ → List ℕ → Result Room NoMemory → List ℕ → Type 0
Takes old bytes (Ok room.Taken) new = (length old ≤ MAX_UNSENT_BYTES) × (new ≡ old ++ bytes)
Takes old bytes (Ok room.Full) new = (MAX_UNSENT_BYTES < length old) × (new ≡ old)
Takes old bytes (Err none) new = new ≡ old
