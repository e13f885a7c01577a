use Rattle.std.proofs.Common.{arith, refl, ◌≤◌, map}
use Rattle.hrana_batch.specs.Conditions.{depth_of, greatest}
use Rattle.hrana_batch.proofs.CondLemmas.{greatest_item, greatest_more}
use Rattle.hrana_batch.proofs.condition_json.+depth.Goals as goal

pub are_within-returns-then-not-is_within : goal.are_within-returns-then-not-is_within
are_within-returns-then-not-is_within t c =
    let within : depth_of c.cond-item.result ≤ greatest (map depth_of c.args.conds.now) = greatest_item c.args.conds.now c.loop-cond.cond-index c.cond-item.result c.loop-cond-test.true c.cond-item.is in
    (λ h. cc h, λ h. c.if-not-is_within.ensures.1 (omega arith))

pub are_within-loop-cond-preserved : goal.are_within-loop-cond-preserved
are_within-loop-cond-preserved t c =
    greatest_more c.args.conds.now c.loop-cond.cond-index c.cond-item.result c.args.limit c.loop-cond-test.true c.cond-item.is c.loop-cond.invariant (c.if-not-is_within.ensures.0 refl)
