use Rattle.engine_core.proofs.ToldLemmas.{told_failed, told_words}
use Rattle.engine_core.proofs.count_tokens.CountTokensTokens.words.Goals as goal

pub returns-then-fails-clause-draw : goal.returns-then-fails-clause-draw
returns-then-fails-clause-draw c = told_failed _ _ c.fails.result c.fails.ensures.calls c.if-fails.true

pub returns-clause-draw : goal.returns-clause-draw
returns-clause-draw c = told_words _ _ c.fails.result c.fails.ensures.calls c.if-fails.false
