use Rattle.std.proofs.Common.{◌≡◌, true, false, map, take}
use Rattle.std.specs.List.{list_all, list_any}
use Rattle.hrana_batch.specs.Conditions.{holds_on}
use Rattle.hrana_batch.proofs.holding.+holds.Given as goal

abbrev pub invariant-all_hold-loop-part : goal.invariant-all_hold-loop-part
invariant-all_hold-loop-part l = list_all (λ b. b) (map (holds_on l.outcomes l.auto') (take l.part-index l.parts)) ≡ true

abbrev pub invariant-any_holds-loop-part : goal.invariant-any_holds-loop-part
invariant-any_holds-loop-part l = list_any (λ b. b) (map (holds_on l.outcomes l.auto') (take l.part-index l.parts)) ≡ false
