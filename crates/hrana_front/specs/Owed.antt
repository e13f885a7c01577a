-- How many answers a connection waits for.
use Rattle.std.specs.Prelude.{ℕ, ◌+◌, ◌-◌, ◌^◌, nat_lt, Bool, true, false, ◌&&◌, if◌then◌else◌}
use Rattle.hrana_front.specs.declared.front.Took.{Took}
use Rattle.hrana_front.specs.declared.front.Took.TheVariants as took

-- an out answers what came in
abbrev pub awaits_answer : Took → Bool
awaits_answer (took.Text text) = true
awaits_answer took.Binary = true
awaits_answer (took.Exchange ask) = true
awaits_answer (took.Refused fail) = true
awaits_answer other = false

abbrev pub owed_after_take : ℕ → Took → ℕ
owed_after_take owed came = if awaits_answer came && nat_lt owed (2 ^ 32 - 1) then owed + 1 else owed
