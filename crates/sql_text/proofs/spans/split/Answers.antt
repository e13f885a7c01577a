use Rattle.std.proofs.Common.{◌≡◌, ◌∙◌, ◌++◌, sym, ap, subst, length}
use Rattle.sql_text.specs.Spans.{spans_of, spans_from, unclosed_at, first_unclosed, AreInOrder, StandsBetween}
use Rattle.std.specs.Prelude.{All}
use Rattle.sql_text.proofs.BoundarySpans.{spans_of-between}
use Rattle.sql_text.proofs.SpanLemmas.{spans_of-start, unclosed_at-start, spans_of-in_order, spans-end, from_place-end}
use Rattle.sql_text.proofs.spans.split.Goals as goal
use Rattle.sql_text.proofs.spans.split.Goals.{In_ok-close}

pub loop-at-init : goal.loop-at-init
loop-at-init c = record {
  spans = let none = c.new-spans.ensures.items in rw none (spans_of-start c.as_bytes-text.result.now);
  unclosed = unclosed_at-start c.as_bytes-text.result.now;
}

pub returns-clause-closed : goal.returns-clause-closed
returns-clause-closed c =
    let same = c.as_bytes-text.ensures.value in
    ap unclosed_at (sym same) ∙ c.loop-at.invariant.unclosed ∙ ap first_unclosed (from_place-end c.as_bytes-text.result.now c.loop-at.at c.loop-at-test.false)

whole : (c : In_ok-close) → c.close-2.new.spans.items ≡ spans_of c.args.sql.now
whole c =
    let same = c.as_bytes-text.ensures.value in
    c.in_ok-close.ensures.ok ∙ sym (ap spans_of (sym same) ∙ c.loop-at.invariant.spans ∙ ap (λ spans. c.loop-at.spans.items ++ spans) (ap (spans_from c.loop-at.current) (from_place-end c.as_bytes-text.result.now c.loop-at.at c.loop-at-test.false) ∙ spans-end c.loop-at.current))

pub returns-clause-spans : goal.returns-clause-spans
returns-clause-spans c = whole c

pub returns-clause-in_order : goal.returns-clause-in_order
returns-clause-in_order c = subst (AreInOrder 0 (length c.args.sql.now)) (sym (whole c)) (spans_of-in_order c.args.sql.now)

pub returns-clause-between : goal.returns-clause-between
returns-clause-between c = subst (All (StandsBetween c.args.sql.now)) (sym (whole c)) (spans_of-between c.args.sql.now c.utf8.sql)
