use Rattle.std.proofs.Common.{◌∷◌, ◌++◌, cond, take, drop, sym, ap, ◌+◌, ◌∙◌, arith}
use Rattle.std.proofs.lemmas.List.{take-append-drop, drop_more}
use Rattle.keeper_rows.proofs.NarrowLemmas.{only_removed}
use Rattle.keeper_rows.proofs.rows.remove_only.Goals as goal

pub returns-then-not-stays : goal.returns-then-not-stays
returns-then-not-stays c =
    let rows = c.args.rows.now.items in
    let from = c.args.span.from in
    let row = c.index.result.now in
    c.remove.ensures.by_index.2
    ∙ sym (only_removed c.args.condition.now rows c.args.span row c.requires.spans c.requires.one c.index.ensures
    ∙ ap (λ b. take from rows ++ cond b (row ∷ drop (from + 1) rows) (drop (from + 1) rows)) (sym c.stays.ensures ∙ c.if-not-stays.true))

pub returns-else-not-stays : goal.returns-else-not-stays
returns-else-not-stays c =
    let rows = c.args.rows.now.items in
    let from = c.args.span.from in
    let row = c.index.result.now in
    let one = c.requires.one in
    let within = c.requires.spans.within in
    sym (only_removed c.args.condition.now rows c.args.span row c.requires.spans c.requires.one c.index.ensures
    ∙ ap (λ b. take from rows ++ cond b (row ∷ drop (from + 1) rows) (drop (from + 1) rows)) (sym c.stays.ensures ∙ c.if-not-stays.false)
    ∙ ap (λ l. take from rows ++ l) (sym (drop_more rows from row (omega (arith, one, within)) ∙ ap (λ r. r ∷ drop (from + 1) rows) (sym c.index.ensures)))
    ∙ take-append-drop from rows)
