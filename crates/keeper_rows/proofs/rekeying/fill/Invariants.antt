use Rattle.std.proofs.Common.{◌≡◌, ◌<◌, ℕ, ◌+◌, false}
use Rattle.hrana_value.specs.declared.value.Value.{Value}
use Rattle.keeper_formulas.specs.Values.{is_null}
use Rattle.keeper_rows.specs.Keys.{HasKeys, Moves, stay, changed_up_to}
use Rattle.keeper_rows.proofs.rekeying.fill.Given as goal

abbrev pub invariant-loop-number : goal.invariant-loop-number
invariant-loop-number l = record {
  filled : (from : ℕ) (old new : ℕ → Value) → Moves l.initial.index.column from l.olds l.news old new → HasKeys l.initial.index (λ q. stay (old q) (new q)) → HasKeys l.index (changed_up_to (from + l.number) (λ q. stay (old q) (new q)) new);
  sound : (from : ℕ) (old new : ℕ → Value) → Moves l.initial.index.column from l.olds l.news old new → (i : ℕ) → i < l.number → is_null (new (from + i)) ≡ false;
  column : l.index.column ≡ l.initial.index.column;
}
