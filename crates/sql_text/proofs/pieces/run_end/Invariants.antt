use Rattle.std.proofs.Common.{◌≡◌, ◌-◌, length, drop}
use Rattle.sql_text.specs.Pieces.{run_end}
use Rattle.sql_text.proofs.pieces.run_end.Given as goal

abbrev pub invariant-loop-at : goal.invariant-loop-at
invariant-loop-at l = run_end l.run l.at (drop l.at l.bytes) ≡ run_end l.run l.from (drop l.from l.bytes)

abbrev pub decreases-loop-at : goal.decreases-loop-at
decreases-loop-at l = length l.bytes - l.at
