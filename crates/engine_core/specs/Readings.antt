-- The readings of a clock.
use Rattle.std.specs.Prelude.{◌≡◌, ℕ, ◌+◌, ◌-◌, ◌^◌, ◌<◌, min, List, [], ◌∷◌, ◌++◌, map, length, slice_index, Option, Some}
use Rattle.std.specs.List.{range_with_len}
use Rattle.engine_core.specs.declared.step_clock.StepClock.{StepClock}

-- A call told its reading, where those before it were told. A clock may stop telling after 2 ^ 63 readings.
abbrev pub TellsReading : Option (List ℕ) → Option (List ℕ) → ℕ → Type 0
TellsReading old new result = (readings : List ℕ) → old ≡ Some readings → length readings < 2 ^ 63 → new ≡ Some (readings ++ result ∷ [])

-- ---- a clock in memory

-- the readings that are listed, and how many were given
pub record Stepped : Type 0 where
  pub listed : List ℕ
  pub given : ℕ

abbrev pub clock_steps : StepClock → Stepped
clock_steps c = record { listed = c.listed.items; given = c.given }

-- the reading that comes after so many: the next that is listed, and the last again and again
abbrev pub reading_after : List ℕ → ℕ → ℕ
reading_after listed given = slice_index listed (min given (length listed - 1))

-- the readings so far
abbrev pub readings_of : Stepped → List ℕ
readings_of s = map (reading_after s.listed) (range_with_len 0 s.given)

abbrev pub clock_readings : StepClock → List ℕ
clock_readings c = readings_of (clock_steps c)

-- one more reading was given. The count stays at its last value once it is there.
abbrev pub step_after : Stepped → Stepped
step_after s = record { listed = s.listed; given = min (s.given + 1) (2 ^ 64 - 1) }
