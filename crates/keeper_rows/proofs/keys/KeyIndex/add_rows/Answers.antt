use Rattle.std.proofs.Common.{◌≡◌, sym, ap, subst, ◌∙◌, arith, ◌&&◌, ◌+◌, ◌++◌, take, drop, Some}
use Rattle.std.proofs.lemmas.List.{take_all}
use Rattle.std.specs.Option.{option_copied}
use Rattle.keeper_rows.proofs.IndexLemmas.{keeps_key_more, keys_more}
use Rattle.keeper_rows.specs.Keys.{HasKeys, keys_at}
use Rattle.keeper_rows.specs.Constraint.{keeps_key}
use Rattle.keeper_formulas.specs.Values.{value_at, value_or_null}
use Rattle.keeper_rows.proofs.keys.KeyIndex.add_rows.Goals as goal

pub returns-then-not-branch-clause-kept : goal.returns-then-not-branch-clause-kept
returns-then-not-branch-clause-kept c = λ before has.
    let index = c.loop-row.self in
    let column = c.args.self.now.column in
    let rows = c.args.rows.now in
    let i = c.loop-row.row-index in
    let row = c.row-item.result in
    let key = value_or_null (option_copied c.value_at-key.result) in
    let key_is : key ≡ value_at row.values column = c.value_at-key.ensures ∙ ap (λ values. value_at values index.column) c.as_slice.ensures ∙ ap (value_at row.values) c.loop-row.invariant.column in
    ap (λ b. b && keeps_key (Some column) (before ++ take (i + 1) rows) (drop (i + 1) rows)) (sym c.if-not-branch.true)
    ∙ sym (keeps_key_more index column before rows i row key c.in_ok-add.field-0 (omega arith) c.row-item.is key_is (c.loop-row.invariant.keys before has) c.in_ok-add.ensures.added)
    ∙ c.loop-row.invariant.kept before has

pub loop-row-preserved : goal.loop-row-preserved
loop-row-preserved c =
    let index = c.loop-row.self in
    let new = c.add.new.self in
    let column = c.args.self.now.column in
    let rows = c.args.rows.now in
    let i = c.loop-row.row-index in
    let row = c.row-item.result in
    let key = value_or_null (option_copied c.value_at-key.result) in
    let key_is : key ≡ value_at row.values column = c.value_at-key.ensures ∙ ap (λ values. value_at values index.column) c.as_slice.ensures ∙ ap (value_at row.values) c.loop-row.invariant.column in
    record {
      kept = λ before has.
          ap (λ b. b && keeps_key (Some column) (before ++ take (i + 1) rows) (drop (i + 1) rows)) (sym c.if-not-branch.false)
          ∙ sym (keeps_key_more index column before rows i row key c.in_ok-add.field-0 (omega arith) c.row-item.is key_is (c.loop-row.invariant.keys before has) c.in_ok-add.ensures.added)
          ∙ c.loop-row.invariant.kept before has;
      keys = λ before has.
          keys_more index new column before rows i row key row.rowid (omega arith) c.row-item.is key_is (sym c.if-not-branch.false ∙ c.in_ok-add.ensures.added) (c.in_ok-add.ensures.puts c.if-not-branch.false) (c.loop-row.invariant.keys before has);
      column = c.in_ok-add.ensures.column ∙ c.loop-row.invariant.column;
    }

pub returns-clause-keys : goal.returns-clause-keys
returns-clause-keys c = λ ok before has.
    subst (λ rows. HasKeys c.loop-row.self (keys_at c.args.self.now.column (before ++ rows))) (take_all c.loop-row.row-index c.args.rows.now (omega (arith, c.loop-row-test.false))) (c.loop-row.invariant.keys before has)
