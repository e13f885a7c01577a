use Rattle.std.proofs.Common.{◌≡◌, ◌-◌, ◌++◌, length}
use Rattle.sql_text.specs.Spans.{spans_of, spans_from, unclosed_at, first_unclosed}
use Rattle.sql_text.proofs.SpanLemmas.{from_place}
use Rattle.sql_text.proofs.spans.split.Given as goal

abbrev pub invariant-loop-at : goal.invariant-loop-at
invariant-loop-at l = record {
  spans : spans_of l.text ≡ l.spans.items ++ spans_from l.current (from_place l.text l.at);
  unclosed : unclosed_at l.text ≡ first_unclosed (from_place l.text l.at);
}

abbrev pub decreases-loop-at : goal.decreases-loop-at
decreases-loop-at l = length l.text - l.at
