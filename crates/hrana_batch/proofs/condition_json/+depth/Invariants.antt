use Rattle.std.proofs.Common.{◌≤◌, map, take}
use Rattle.hrana_batch.specs.Conditions.{depth_of, greatest}
use Rattle.hrana_batch.proofs.condition_json.+depth.Given as goal

abbrev pub invariant-are_within-loop-cond : goal.invariant-are_within-loop-cond
invariant-are_within-loop-cond l = greatest (map depth_of (take l.cond-index l.conds)) ≤ l.limit
