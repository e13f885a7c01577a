use Rattle.keeper_rows.proofs.RekeyLemmas.{fills_end}
use Rattle.keeper_rows.proofs.rekeying.filled.Goals as goal

pub returns-clause-fills : goal.returns-clause-fills
returns-clause-fills c = λ from old new moves has.
    fills_end c.fill.new.index c.args.index.column from c.in-Ok.count c.args.olds.now c.args.news.now old new moves c.if-count-olds.false (c.in-Ok.ensures.fills from old new moves has)
