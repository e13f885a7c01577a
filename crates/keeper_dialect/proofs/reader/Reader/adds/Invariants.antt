use Rattle.std.proofs.Common.{◌≡◌, length}
use Rattle.keeper_dialect.specs.Reading.{repeated}
use Rattle.keeper_dialect.specs.Terms.{add_at, adds_at}
use Rattle.keeper_dialect.proofs.reader.Reader.adds.Given as goal

abbrev pub invariant-loop-minus : goal.invariant-loop-minus
invariant-loop-minus l = repeated add_at (length l.self) l.adds l.self ≡ adds_at l.fn.self

abbrev pub decreases-loop-minus : goal.decreases-loop-minus
decreases-loop-minus l = length l.self
