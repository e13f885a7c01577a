use Rattle.std.proofs.Common.{◌∙◌, ap}
use Rattle.sql_text.specs.Spans.{first_unclosed}
use Rattle.sql_text.proofs.SpanLemmas.{unclosed_at-start, from_place-end}
use Rattle.sql_text.proofs.FoundLemmas.{gives_start, gives_end}
use Rattle.sql_text.proofs.BindLemmas.{so_far_start, so_far_end, texts_from, texts_from-end}
use Rattle.sql_text.proofs.scan.scan_pieces.Goals as goal

pub loop-at-init : goal.loop-at-init
loop-at-init c = record {
  unclosed = unclosed_at-start c.args.text.now;
  found = gives_start c.args.text.now;
  so_far = so_far_start c.args.parameters.now c.args.text.now c.requires.empty;
}

pub returns-clause-ok : goal.returns-clause-ok
returns-clause-ok c =
    let whole = so_far_end c.loop-at.fit c.loop-at.parameters c.args.text.now (texts_from c.args.text.now c.loop-at.at) (texts_from-end c.args.text.now c.loop-at.at c.loop-at-test.false) c.loop-at.invariant.so_far in
    record {
      closed = c.loop-at.invariant.unclosed ∙ ap first_unclosed (from_place-end c.args.text.now c.loop-at.at c.loop-at-test.false);
      found = gives_end c.args.text.now c.loop-at.found c.loop-at.at c.loop-at-test.false c.loop-at.invariant.found;
      fit = whole.0;
      all = whole.1;
    }
