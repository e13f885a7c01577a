use Rattle.std.proofs.Common.{ℕ, ◌<◌}
use Rattle.hrana_value.specs.Names.{IsRow}
use Rattle.hrana_value.proofs.names.index_of.Given as goal

abbrev pub invariant-loop-i : goal.invariant-loop-i
invariant-loop-i l = (j : ℕ) → j < l.i → IsRow l.rows j l.text → ⊥
