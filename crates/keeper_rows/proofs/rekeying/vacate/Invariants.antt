use Rattle.std.proofs.Common.{◌≡◌, ℕ, ◌+◌}
use Rattle.hrana_value.specs.declared.value.Value.{Value}
use Rattle.keeper_rows.specs.Keys.{HasKeys, Moves, stay, changed_up_to}
use Rattle.keeper_rows.proofs.rekeying.vacate.Given as goal

abbrev pub invariant-loop-number : goal.invariant-loop-number
invariant-loop-number l = record {
  vacated : (from : ℕ) (old new : ℕ → Value) → Moves l.initial.index.column from l.olds l.news old new → HasKeys l.initial.index old → HasKeys l.index (changed_up_to (from + l.number) old (λ q. stay (old q) (new q)));
  column : l.index.column ≡ l.initial.index.column;
}
