use Rattle.std.proofs.Common.{◌∙◌, sym, ap}
use Rattle.sql_text.specs.Class.{class_of_text}
use Rattle.sql_text.specs.Spans.{spans_of}
use Rattle.sql_text.proofs.FoundLemmas.{gives_start, gives_end}
use Rattle.sql_text.proofs.scan.class_of.Goals as goal

pub loop-at-init : goal.loop-at-init
loop-at-init c = gives_start c.as_bytes-text.result.now

pub returns : goal.returns
returns c =
    let text = c.as_bytes-text.result.now in
    sym (c.class_at_end.ensures (spans_of text) (class_of_text text) (gives_end text c.loop-at.found c.loop-at.at c.loop-at-test.false c.loop-at.invariant)) ∙ ap class_of_text c.as_bytes-text.ensures.value
