use Rattle.std.proofs.Common.{◌≡◌, ◌∷◌, [], take, map}
use Rattle.engine_core.proofs.plain_keeper.rows_of.Given as goal

abbrev pub invariant-loop-value : goal.invariant-loop-value
invariant-loop-value l = l.rows ≡ map (λ value. value ∷ []) (take l.value-index l.column)
