use Rattle.std.proofs.Common.{subst}
use Rattle.keeper_rows.specs.Keys.{Indexes}
use Rattle.keeper_rows.proofs.rows.TableRows.span_of.Goals as goal

pub span_of-requires : goal.span_of-requires
span_of-requires c = rw c.as_slice.ensures.value ((subst (λ index. Indexes index c.self.inside.items.items) c.in-Some.is c.self.invariant).0)
