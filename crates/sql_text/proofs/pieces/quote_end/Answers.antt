use Rattle.sql_text.proofs.PieceLemmas.{quote_end_other, quote_end_doubled}
use Rattle.std.proofs.Common.{sym, ◌∙◌}
use Rattle.sql_text.proofs.pieces.quote_end.Goals as goal

pub loop-at-preserved-then-bytes-at : goal.loop-at-preserved-then-bytes-at
loop-at-preserved-then-bytes-at c = sym (quote_end_other c.args.quote c.loop-at.at c.args.bytes.now c.loop-at-test.true c.if-bytes-at.true) ∙ c.loop-at.invariant

pub loop-at-preserved : goal.loop-at-preserved
loop-at-preserved c = sym (quote_end_doubled c.args.quote c.loop-at.at c.args.bytes.now c.requires c.if-bytes-at.false (sym c.byte_at.ensures ∙ c.if-byte_at-quote.true)) ∙ c.loop-at.invariant
