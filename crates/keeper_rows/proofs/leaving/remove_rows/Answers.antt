use Rattle.std.proofs.Common.{◌≡◌, ◌∙◌, ℕ, ◌+◌, ◌&&◌, cond, not, None, refl, subst, arith}
use Rattle.hrana_value.specs.declared.value.Value.{Value}
use Rattle.keeper_formulas.specs.Values.{value_at, is_equal}
use Rattle.keeper_rows.specs.Chosen.{stays}
use Rattle.keeper_rows.specs.Keys.{rowid_of_key, HasKeys, changed_up_to}
use Rattle.keeper_rows.proofs.LeavingLemmas.{leaves_start, leaves_one, leaves_end}
use Rattle.keeper_rows.proofs.leaving.remove_rows.Goals as goal

pub loop-row-init : goal.loop-row-init
loop-row-init c = record {
  removed = λ from old left leaves has. leaves_start c.args.index.now c.args.condition.now c.args.index.now.column from c.args.rows.now old left leaves has;
  column = refl;
}

pub loop-row-preserved : goal.loop-row-preserved
loop-row-preserved c =
    let index = c.loop-row.index in
    let next = c.remove_row.new.index in
    let condition = c.args.condition.now in
    let i = c.loop-row.row-index in
    let row = c.row-item.result in
    let column = c.args.index.now.column in
    let takes = subst (λ (k : ℕ). (key : Value) → rowid_of_key next key ≡ cond (not (stays condition row) && is_equal (value_at row.values k) key) None (rowid_of_key index key)) c.loop-row.invariant.column c.remove_row.ensures.removes in
    record {
      removed = λ from old left leaves has.
          let e : (from + i) + 1 ≡ from + (i + 1) = omega arith in
          subst (λ n. HasKeys next (changed_up_to n old left)) e
          (leaves_one index next old left (from + i) (stays condition row) (value_at row.values column) (leaves.was i row (omega arith) c.row-item.is) (leaves.is i row (omega arith) c.row-item.is) takes (c.loop-row.invariant.removed from old left leaves has));
      column = c.remove_row.ensures.column ∙ c.loop-row.invariant.column;
    }

pub returns-clause-removes : goal.returns-clause-removes
returns-clause-removes c = λ from old left leaves has.
    leaves_end c.loop-row.index c.args.condition.now c.args.index.now.column from c.loop-row.row-index c.args.rows.now old left leaves (omega (arith, c.loop-row-test.false)) (c.loop-row.invariant.removed from old left leaves has)
