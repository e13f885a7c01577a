use Rattle.std.proofs.Common.{◌≡◌, ◌-◌, length}
use Rattle.sql_text.specs.Class.{class_of_text}
use Rattle.sql_text.specs.Spans.{spans_of, unclosed_at, first_unclosed}
use Rattle.sql_text.specs.Found.{Gives}
use Rattle.sql_text.proofs.SpanLemmas.{from_place}
use Rattle.sql_text.proofs.BindLemmas.{SoFar, texts_from}
use Rattle.sql_text.proofs.scan.scan_pieces.Given as goal

abbrev pub invariant-loop-at : goal.invariant-loop-at
invariant-loop-at l = record {
  unclosed : unclosed_at l.text ≡ first_unclosed (from_place l.text l.at);
  found : Gives l.found (spans_of l.text) (class_of_text l.text) (from_place l.text l.at);
  so_far : SoFar l.fit l.parameters l.text (texts_from l.text l.at);
}

abbrev pub decreases-loop-at : goal.decreases-loop-at
decreases-loop-at l = length l.text - l.at
