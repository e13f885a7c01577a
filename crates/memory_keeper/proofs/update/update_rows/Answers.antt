use Rattle.std.proofs.Common.{◌≡◌, ◌++◌, List, Ok, Err, cond, sym, ap, subst, ◌∙◌, take, drop}
use Rattle.keeper_formulas.specs.declared.fail.Refusal.TheVariants.{Constraint}
use Rattle.keeper_rows.specs.declared.row.Row.{Row}
use Rattle.memory_keeper.specs.Tables.{all_updated}
use Rattle.keeper_formulas.proofs.EachLemmas.{changes_refused}
use Rattle.memory_keeper.proofs.UpdateLemmas.{updated_narrowed, refuses_updated}
use Rattle.memory_keeper.proofs.update.update_rows.Goals as goal

pub returns-in_err-new : goal.returns-in_err-new
returns-in_err-new c =
    let condition = c.args.condition.now in
    let sets = c.args.sets.now in
    let rows = c.args.rows.now in
    let span = c.span_of-span.result in
    let some = c.rows_at.result.now in
    let whole = subst (λ (l : List Row). l ≡ take span.from l ++ some ++ drop span.to l) c.as_slice.ensures c.rows_at.ensures.between in
    changes_refused (all_updated c.args.key condition sets rows) rows _ _ c.from_residual.ensures.1
    (refuses_updated c.args.key condition sets rows (take span.from rows) some (drop span.to rows) _ whole c.span_of-span.ensures.before c.in_err-new.ensures.err)

pub returns-then-branch : goal.returns-then-branch
returns-then-branch c =
    let condition = c.args.condition.now in
    let sets = c.args.sets.now in
    let rows = c.args.rows.now in
    let span = c.span_of-span.result in
    let some = c.rows_at.result.now in
    let made = c.in_ok-new.new.rows.items in
    let n = c.in_ok-new.new.count in
    let whole = subst (λ (l : List Row). l ≡ take span.from l ++ some ++ drop span.to l) c.as_slice.ensures c.rows_at.ensures.between in
    ap (all_updated c.args.key condition sets) whole
    ∙ updated_narrowed c.args.key condition sets (take span.from rows) some (drop span.to rows) made n c.in_ok-replace.field-0 c.span_of-span.ensures.before c.span_of-span.ensures.behind c.in_ok-new.ensures.ok c.in_ok-replace.ensures.kept
    ∙ ap (λ b. cond b (Ok (take span.from rows ++ made ++ drop span.to rows, n)) (Err Constraint)) c.if-branch.true
    ∙ ap (λ l. Ok (l, n)) (sym (c.in_ok-replace.ensures.put c.if-branch.true))

pub returns-else-branch : goal.returns-else-branch
returns-else-branch c =
    let condition = c.args.condition.now in
    let sets = c.args.sets.now in
    let rows = c.args.rows.now in
    let span = c.span_of-span.result in
    let some = c.rows_at.result.now in
    let made = c.in_ok-new.new.rows.items in
    let n = c.in_ok-new.new.count in
    let whole = subst (λ (l : List Row). l ≡ take span.from l ++ some ++ drop span.to l) c.as_slice.ensures c.rows_at.ensures.between in (
      ap (all_updated c.args.key condition sets) whole
          ∙ updated_narrowed c.args.key condition sets (take span.from rows) some (drop span.to rows) made n c.in_ok-replace.field-0 c.span_of-span.ensures.before c.span_of-span.ensures.behind c.in_ok-new.ensures.ok c.in_ok-replace.ensures.kept
          ∙ ap (λ b. cond b (Ok (take span.from rows ++ made ++ drop span.to rows, n)) (Err Constraint)) c.if-branch.false,
      c.in_ok-replace.ensures.left c.if-branch.false,
    )
