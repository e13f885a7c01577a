use Rattle.std.proofs.Common.{refl, sym, ap, Result, List, ℕ}
use Rattle.engine_core.specs.Draws.{draw_of}
use Rattle.engine_core.specs.declared.outside.Failed.{Failed}
use Rattle.hrana_hub.specs.ExchangeArrived.{answer_by}
use Rattle.hrana_hub.proofs.Entering.{draws_one}
use Rattle.hrana_hub.proofs.exchange_arrivals.by_draw.Goals as goal

pub returns-in-Ok-clause-drawn : goal.returns-in-Ok-clause-drawn
returns-in-Ok-clause-drawn g c =
    draws_one _ _ _ _ _ c.words.result c.words.ensures.draw c.words.ensures.cause (draw_of c.words.result, refl, sym (ap (λ (r : Result (List ℕ) Failed). answer_by (draw_of r) c.args.drawn c.args.failed) c.in-Ok.is))

pub returns-in-Err-clause-drawn : goal.returns-in-Err-clause-drawn
returns-in-Err-clause-drawn g c =
    draws_one _ _ _ _ _ c.words.result c.words.ensures.draw c.words.ensures.cause (draw_of c.words.result, refl, sym (ap (λ (r : Result (List ℕ) Failed). answer_by (draw_of r) c.args.drawn c.args.failed) c.in-Err.is))
