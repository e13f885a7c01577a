use Rattle.std.proofs.Common.{List, Some, not, refl, sym, ap, subst, ◌∙◌}
use Rattle.keeper_rows.specs.declared.row.Row.{Row}
use Rattle.keeper_rows.specs.Keys.{Indexes}
use Rattle.keeper_rows.proofs.NarrowLemmas.{all_removed, is_none_from}
use Rattle.keeper_rows.proofs.LeavingLemmas.{leaves_rows, index_left}
use Rattle.keeper_rows.proofs.leaving.without_chosen.Goals as goal

pub returns : goal.returns
returns c =
    let index = c.in-Some.index in
    let rows = c.args.rows.now in
    let condition = c.args.condition.now in
    let known = subst (λ index. Indexes index rows) c.in-Some.is c.requires.indexes in
    let leaves = leaves_rows condition index.column rows c.rows_at.result.now c.args.span c.requires.spans c.rows_at.ensures.between c.rows_at.ensures.many in
    index_left index c.remove_rows.new.index condition rows c.remove_rows.ensures.column known.1 (c.remove_rows.ensures.removes c.args.span.from _ _ leaves known.0)

pub returns-then-is_none : goal.returns-then-is_none
returns-then-is_none c =
    let none = is_none_from c.args.condition.now (c.is_none.ensures ∙ ap not c.if-is_none.true) in
    subst (λ (l : List Row). Indexes (Some c.clear.new.self) l) (sym (all_removed c.args.condition.now c.args.rows.now none)) (c.clear.ensures.keys, refl)
