use Rattle.std.proofs.Common.{◌≡◌, Ok, take}
use Rattle.keeper_formulas.specs.Each.{each}
use Rattle.keeper_formulas.proofs.resolve.resolve_each.Given as goal

abbrev pub invariant-loop-source : goal.invariant-loop-source
invariant-loop-source g l = each (g.T.Resolve.meant l.columns l.bound) (take l.source-index l.sources) ≡ Ok l.resolved
