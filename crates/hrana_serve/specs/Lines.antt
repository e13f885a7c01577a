-- The lines that are left of a script.
use Rattle.std.specs.Prelude.{ℕ, ◌+◌, List, [], Option, None, Some, length}
use Rattle.std.specs.Borrow.{Bor}
use Rattle.engine_core.specs.Bytes.{lines_of}

-- nothing is left after the last line
abbrev pub lines_left : Option (Bor (List ℕ)) → List (List ℕ)
lines_left None = []
lines_left (Some bytes) = lines_of bytes.now

-- a number that falls with each line
abbrev pub left_measure : Option (Bor (List ℕ)) → ℕ
left_measure None = 0
left_measure (Some bytes) = length bytes.now + 1
