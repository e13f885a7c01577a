use Rattle.std.proofs.Common.{sym, subst, ◌∙◌, ◌≡◌, true, Some, [], ◌++◌}
use Rattle.keeper_rows.specs.Keys.{Indexes, HasKeys, keys_at}
use Rattle.keeper_rows.specs.Constraint.{keeps_key}
use Rattle.keeper_rows.proofs.KeyLemmas.{keeps_key_both}
use Rattle.keeper_rows.proofs.rows.grown_index.Goals as goal

pub returns-in-Ok-true : goal.returns-in-Ok-true
returns-in-Ok-true c = λ before indexes.
    let column = c.in-Some.index.column in
    let rows = before ++ c.args.rows.now in
    let known = subst (λ index. Indexes index before) c.in-Some.is indexes in
    subst (λ p. HasKeys c.add_rows.new.self (keys_at p rows) × (keeps_key (Some p) [] rows ≡ true)) (sym c.in-Ok-true.ensures.column) (
      c.in-Ok-true.ensures.keys c.in-Ok-true.field-0-test before known.0,
      keeps_key_both (Some column) before c.args.rows.now known.1 (sym (c.in-Ok-true.ensures.kept before known.0) ∙ c.in-Ok-true.field-0-test),
    )
