-- When a front over sockets waits.
use Rattle.std.specs.Prelude.{◌≡◌, ℕ, ◌+◌, min, nat_lt, List, [], ◌∷◌, Bool, true, false, not, ◌||◌, if◌then◌else◌}
use Rattle.hrana_front.specs.declared.socket_limits.TheConstants.{BUSY_TURNS, WAIT_MICROSECONDS, SHORT_WAIT_MICROSECONDS}
use Rattle.hrana_front.specs.declared.pace.Pace.{Pace}
use Rattle.hrana_front.specs.declared.pace.Wait.{Wait}
use Rattle.hrana_front.specs.declared.pace.Wait.TheVariants as wait

abbrev pub microseconds_of : Wait → ℕ
microseconds_of wait.AtOnce = 0
microseconds_of wait.Short = SHORT_WAIT_MICROSECONDS
microseconds_of wait.Long = WAIT_MICROSECONDS

-- before any call: no turn was without something
abbrev pub pace_at_first : Pace
pace_at_first = record { last = 0; brought = true; idle = 0 }

-- a turn begins. The one before it is one more in a row that brought nothing, or ends the row.
abbrev pub turn_begun : Pace → Pace
turn_begun p = record { last = 0; brought = false; idle = if p.brought then 0 else (if nat_lt p.idle BUSY_TURNS then p.idle + 1 else BUSY_TURNS) }

-- long where nothing is unanswered and nothing has come, else not at all, or shortly after so many turns that brought nothing
abbrev pub wait_of : Pace → Bool → Bool → Wait
wait_of p unanswered ready =
    if not (unanswered || ready) then wait.Long
    else (if nat_lt p.idle BUSY_TURNS then wait.AtOnce else wait.Short)

-- how many of the last turns, in a row, brought nothing, where the list says of each turn whether it brought something, the
-- last one first
unfoldable pub quiet_turns : List Bool → ℕ
quiet_turns [] = 0
quiet_turns (true ∷ turns) = 0
quiet_turns (false ∷ turns) = quiet_turns turns + 1

-- the count is that of the turns so far
abbrev pub Counts : Pace → List Bool → Type 0
Counts p turns = p.idle ≡ min (quiet_turns turns) BUSY_TURNS
