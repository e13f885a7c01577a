-- The entries that wait, the places that are ready for more, and the number of the next unit.
use Rattle.std.specs.Prelude.{◌≡◌, ◌+◌, ◌-◌, ◌^◌, ◌<◌, ℕ, List}
use Rattle.engine_core.specs.declared.entries.Entry.{Entry}
use Rattle.engine_core.specs.declared.entries.Entry.TheVariants.{Began}

pub record Noted : Type 0 where
  pub list : List Entry
  pub spare : ℕ
  pub next : ℕ

-- the number of the next unit, after one more entry
abbrev pub next_after : ℕ → Entry → ℕ
next_after next (Began unit stream) = next + 1
next_after next entry = next

-- a unit that begins has the next number, and there is one after it
abbrev pub IsNumbered : ℕ → Entry → Type 0
IsNumbered next (Began unit stream) = (unit ≡ next) × (next < 2 ^ 64 - 1)
IsNumbered next entry = Unit {0}
