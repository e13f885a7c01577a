use Rattle.keeper_rows.proofs.KeyLemmas.{rows_between}
use Rattle.keeper_rows.proofs.spans.rows_at.Goals as goal

pub returns-clause-between : goal.returns-clause-between
returns-clause-between c = rows_between c.args.rows.now c.args.span.from c.args.span.to c.requires.ordered c.requires.within
