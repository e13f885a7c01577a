use Rattle.std.proofs.Common.{◌≡◌, is_some, ap, subst, ◌∙◌}
use Rattle.keeper_rows.specs.Constraint.{has_key}
use Rattle.keeper_rows.specs.Keys.{Indexes}
use Rattle.keeper_rows.proofs.IndexLemmas.{has_rows}
use Rattle.keeper_rows.proofs.rows.TableRows.has_key.Goals as goal

pub returns-then-index-column : goal.returns-then-index-column
returns-then-index-column c =
    let rows = c.self.inside.items.items in
    let index = c.in-Some.index in
    let known = subst (λ index. Indexes index rows) c.in-Some.is c.self.invariant in
    let whole : rows ≡ c.args.self.now = cc in
    c.is_some.ensures
    ∙ ap is_some c.get.ensures
    ∙ has_rows index index.column rows known.0 c.args.key.now
    ∙ ap (λ column. has_key column rows c.args.key.now) c.if-index-column.true
    ∙ ap (λ l. has_key c.args.column l c.args.key.now) whole
