use Rattle.std.proofs.Common.{take}
use Rattle.hrana_value.specs.Declines.{items_of_reading}
use Rattle.hrana_batch.proofs.OutcomeReadings.{PlacesRead}
use Rattle.hrana_batch.proofs.result_json.outcomes_of_items.Given as goal

abbrev pub invariant-loop-i : goal.invariant-loop-i
invariant-loop-i l = PlacesRead (take l.i l.results) (take l.i l.errors) (items_of_reading l.outcomes)
