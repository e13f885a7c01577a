use Rattle.std.proofs.Common.{◌≡◌, ◌++◌, List, sym, ap, subst, ◌∙◌, take, drop}
use Rattle.keeper_rows.specs.declared.row.Row.{Row}
use Rattle.keeper_rows.specs.Chosen.{shown_rows, chosen_count}
use Rattle.keeper_rows.proofs.NarrowLemmas.{shown_narrowed, count_narrowed}
use Rattle.keeper_rows.proofs.rows.TableRows.candidates.Goals as goal

pub returns-clause-shown : goal.returns-clause-shown
returns-clause-shown c = λ picture.
    let condition = c.args.condition.now in
    let all = c.args.self.now in
    let span = c.span_of.result in
    let some = c.rows_at.result.now in
    let is : c.as_slice.result.now ≡ all = cc in
    let whole = subst (λ (rows : List Row). rows ≡ take span.from rows ++ some ++ drop span.to rows) is c.rows_at.ensures.between in
    sym (ap (shown_rows picture condition) whole
    ∙ shown_narrowed condition (take span.from all) some (drop span.to all) c.span_of.ensures.before c.span_of.ensures.behind picture)

pub returns-clause-count : goal.returns-clause-count
returns-clause-count c =
    let condition = c.args.condition.now in
    let all = c.args.self.now in
    let span = c.span_of.result in
    let some = c.rows_at.result.now in
    let is : c.as_slice.result.now ≡ all = cc in
    let whole = subst (λ (rows : List Row). rows ≡ take span.from rows ++ some ++ drop span.to rows) is c.rows_at.ensures.between in
    sym (ap (chosen_count condition) whole
    ∙ count_narrowed condition (take span.from all) some (drop span.to all) c.span_of.ensures.before c.span_of.ensures.behind)
