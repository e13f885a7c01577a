-- How much a source gave in a call.
use Rattle.std.specs.Prelude.{ℕ, ◌-◌, List, Option, Some, None, length}

-- how many bytes are left
abbrev pub left_count : Option (List ℕ) → ℕ
left_count None = 0
left_count (Some bytes) = length bytes

-- how many bytes a source that tells its bytes has given
abbrev pub given_count : Option (List ℕ) → Option (List ℕ) → ℕ
given_count old new = left_count old - left_count new
