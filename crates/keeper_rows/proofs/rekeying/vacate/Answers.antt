use Rattle.std.proofs.Common.{◌≡◌, ◌∙◌, ℕ, ◌+◌, ◌&&◌, cond, not, None, refl, subst, arith}
use Rattle.hrana_value.specs.declared.value.Value.{Value}
use Rattle.keeper_formulas.specs.Values.{value_at, is_equal}
use Rattle.keeper_rows.specs.Keys.{rowid_of_key, HasKeys, stay, changed_up_to}
use Rattle.keeper_rows.proofs.RekeyLemmas.{vacates_start, vacates_one, vacates_end}
use Rattle.keeper_rows.proofs.rekeying.vacate.Goals as goal

pub loop-number-init : goal.loop-number-init
loop-number-init c = record {
  vacated = λ from old new moves has. vacates_start c.args.index.now c.args.index.now.column from c.args.olds.now c.args.news.now old new moves has;
  column = refl;
}

pub loop-number-preserved : goal.loop-number-preserved
loop-number-preserved c =
    let index = c.loop-number.index in
    let next = c.vacate_row.new.index in
    let i = c.loop-number.number in
    let was = c.index-olds-number.result in
    let is = c.index-news-number.result in
    let column = c.args.index.now.column in
    let takes = subst (λ (k : ℕ). (key : Value) → rowid_of_key next key ≡ cond (not (is_equal (value_at is.values k) (value_at was.values k)) && is_equal (value_at was.values k) key) None (rowid_of_key index key)) c.loop-number.invariant.column c.vacate_row.ensures.vacates in
    record {
      vacated = λ from old new moves has.
          let e : (from + i) + 1 ≡ from + (i + 1) = omega arith in
          subst (λ n. HasKeys next (changed_up_to n old (λ q. stay (old q) (new q)))) e
          (vacates_one index next old new (from + i) (value_at was.values column) (value_at is.values column) (moves.was i was (omega arith) c.index-olds-number.is) (moves.is i is (omega arith) c.index-news-number.is) takes (c.loop-number.invariant.vacated from old new moves has));
      column = c.vacate_row.ensures.column ∙ c.loop-number.invariant.column;
    }

pub returns-clause-vacates : goal.returns-clause-vacates
returns-clause-vacates c = λ from old new moves has.
    vacates_end c.loop-number.index c.args.index.now.column from c.loop-number.number c.args.olds.now c.args.news.now old new moves (omega (arith, c.loop-number-test.false)) (c.loop-number.invariant.vacated from old new moves has)
