use Rattle.std.proofs.Common.{◌≡◌, ◌-◌, length, drop}
use Rattle.sql_text.specs.Pieces.{comment_end}
use Rattle.sql_text.proofs.pieces.comment_end.Given as goal

abbrev pub invariant-loop-at : goal.invariant-loop-at
invariant-loop-at l = comment_end l.at (drop l.at l.bytes) ≡ comment_end l.from (drop l.from l.bytes)

abbrev pub decreases-loop-at : goal.decreases-loop-at
decreases-loop-at l = length l.bytes - l.at
