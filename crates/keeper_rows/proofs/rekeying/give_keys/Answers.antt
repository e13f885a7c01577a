use Rattle.std.proofs.Common.{◌≡◌, ◌+◌, ◌<◌, ℕ, length, take, Some, IfSome, [], refl, sym, ap, subst, ◌∙◌, arith}
use Rattle.keeper_rows.specs.Constraint.{keeps_key}
use Rattle.keeper_rows.specs.Keys.{Moves, keys_at, stay, changed_up_to}
use Rattle.keeper_rows.specs.Spans.{replaced}
use Rattle.keeper_rows.proofs.RekeyLemmas.{moves_replaced, replaced_long, fills_end, kept_when_filled, broken_when_stopped, moves_undone, moves_back, undone, indexes_by}
use Rattle.keeper_rows.proofs.rekeying.give_keys.Goals as goal

pub returns-then-count-news-clause-indexes : goal.returns-then-count-news-clause-indexes
returns-then-count-news-clause-indexes c =
    let column = c.args.index.column in
    let from = c.args.span.from in
    let count = c.in_ok-count.count in
    let rows = c.args.rows.now in
    let olds = c.rows_at-olds.result.now in
    let news = c.args.news.now in
    let others = replaced rows c.args.span news in
    let old = keys_at column rows in
    let new = keys_at column others in
    let moves = moves_replaced column rows olds news c.args.span c.rows_at-olds.ensures.between c.rows_at-olds.ensures.many c.requires.as_many c.requires.within in
    let moves_then = subst (λ (k : ℕ). Moves k from olds news old new) (sym c.vacate.ensures.column) moves in
    let all : count ≡ length olds = let many = c.rows_at-olds.ensures.many in let as_many = c.requires.as_many in let is = c.if-count-news.true in omega (arith, many, as_many, is) in
    let has = fills_end c.fill.new.index column from count olds news old new moves (omega (arith, all)) (c.in_ok-count.ensures.fills from old new moves_then (c.vacate.ensures.vacates from old new moves c.requires.indexes.0)) in
    kept_when_filled c.fill.new.index column from olds news rows others (c.in_ok-count.ensures.column ∙ c.vacate.ensures.column) moves (replaced_long rows news c.args.span c.requires.as_many c.requires.within) c.requires.indexes.1
    (λ i less. c.in_ok-count.ensures.sound from old new moves_then i (omega (arith, less, all))) has

pub returns-then-count-news-clause-kept : goal.returns-then-count-news-clause-kept
returns-then-count-news-clause-kept c =
    let others = replaced c.args.rows.now c.args.span c.args.news.now in
    let whole = returns-then-count-news-clause-indexes c in
    sym (ap (λ k. keeps_key (Some k) [] others) (sym (c.in_ok-count.ensures.column ∙ c.vacate.ensures.column)) ∙ whole.1)

pub returns-clause-kept : goal.returns-clause-kept
returns-clause-kept c =
    let column = c.args.index.column in
    let from = c.args.span.from in
    let count = c.in_ok-count.count in
    let rows = c.args.rows.now in
    let olds = c.rows_at-olds.result.now in
    let news = c.args.news.now in
    let others = replaced rows c.args.span news in
    let old = keys_at column rows in
    let new = keys_at column others in
    let many = c.rows_at-olds.ensures.many in
    let as_many = c.requires.as_many in
    let within = c.requires.within in
    let moves = moves_replaced column rows olds news c.args.span c.rows_at-olds.ensures.between many as_many within in
    let moves_then = subst (λ (k : ℕ). Moves k from olds news old new) (sym c.vacate.ensures.column) moves in
    let most = c.in_ok-count.ensures.within in
    let differs = c.if-count-news.false in
    let less : count < length olds = omega (arith, most, differs, many, as_many) in
    let stops = c.in_ok-count.ensures.stops less from old new moves_then in
    let long = replaced_long rows news c.args.span as_many within in
    sym (broken_when_stopped c.fill.new.index column (from + count) others old (omega (arith, less, many, within, long)) stops.0 stops.1 (c.in_ok-count.ensures.fills from old new moves_then (c.vacate.ensures.vacates from old new moves c.requires.indexes.0)))

pub returns-clause-indexes : goal.returns-clause-indexes
returns-clause-indexes c =
    let column = c.args.index.column in
    let from = c.args.span.from in
    let count = c.in_ok-count.count in
    let rows = c.args.rows.now in
    let olds = c.rows_at-olds.result.now in
    let news = c.args.news.now in
    let others = replaced rows c.args.span news in
    let old = keys_at column rows in
    let new = keys_at column others in
    let many = c.rows_at-olds.ensures.many in
    let as_many = c.requires.as_many in
    let same : length news ≡ length olds = omega (arith, many, as_many) in
    let moves = moves_replaced column rows olds news c.args.span c.rows_at-olds.ensures.between many as_many c.requires.within in
    let moves_then = subst (λ (k : ℕ). Moves k from olds news old new) (sym c.vacate.ensures.column) moves in
    let has = c.in_ok-count.ensures.fills from old new moves_then (c.vacate.ensures.vacates from old new moves c.requires.indexes.0) in
    let by_fill = c.in_ok-count.ensures.column ∙ c.vacate.ensures.column in
    let by_vacate = c.vacate-2.ensures.column ∙ by_fill in
    let some = take count news in
    let back = take count olds in
    let undoes = subst (λ (k : ℕ). Moves k from some back (changed_up_to (from + count) (λ q. stay (old q) (new q)) new) (changed_up_to (from + count) (λ q. stay (old q) (new q)) old)) (sym by_fill)
    (moves_undone column from count olds news some back old new moves c.in_ok-count.ensures.within same refl refl) in
    let empty = undone c.vacate-2.new.index from count old new (c.vacate-2.ensures.vacates from _ _ undoes has) in
    let moves_last = subst (λ (k : ℕ). Moves k from news olds new old) (sym by_vacate) (moves_back column from olds news old new same moves) in
    indexes_by c.filled.result column rows c.requires.indexes.1
    (subst (λ k. IfSome c.filled.result (λ filled. filled.column ≡ k)) by_vacate c.filled.ensures.column)
    (c.filled.ensures.fills from new old moves_last empty)
