use Rattle.std.proofs.Common.{◌-◌, length}
use Rattle.sql_text.specs.Class.{class_of_text}
use Rattle.sql_text.specs.Spans.{spans_of}
use Rattle.sql_text.specs.Found.{Gives}
use Rattle.sql_text.proofs.SpanLemmas.{from_place}
use Rattle.sql_text.proofs.scan.class_of.Given as goal

abbrev pub invariant-loop-at : goal.invariant-loop-at
invariant-loop-at l = Gives l.found (spans_of l.text) (class_of_text l.text) (from_place l.text l.at)

abbrev pub decreases-loop-at : goal.decreases-loop-at
decreases-loop-at l = length l.text - l.at
